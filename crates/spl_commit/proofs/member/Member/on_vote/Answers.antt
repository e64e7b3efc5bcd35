use Rattle.std.{specs.Prelude.{Some, None}, proofs.Common.{◌≡◌, ◌∙◌, sym}}
use Rattle.spl_coord.specs.Positions.{positions}
use Rattle.spl_agree.specs.Rows.{on_vote, counted_vote}
use Rattle.spl_commit.{specs.Views.group_by, proofs.RowSteps.{as_given, vote-none, vote-away, vote-other, vote-here}}
use Rattle.spl_commit.proofs.member.Member.on_vote.Goals as goal

pub returns : goal.returns
returns g c =
    let m = c.args.self.now in
    let group = group_by (g.M.Agreed.rules c.args.self.now.content) c.args.self.now in
    let opened : c.args.self.now.state.opened ≡ Some (c.in-Some.open, positions c.in-Some.missing) = rw (← c.self.view_is, c.in-Some.is) in
    let here : c.args.self.now.here ≡ c.args.self.now.coordinator = rw (← c.self.view_is) c.if-self.false in
    as_given c.counted_vote.result (counted_vote group m.here m.state c.args.sender c.args.round (positions c.in-Some.missing) c.args.yes)
    (on_vote group m.here m.state m.state.opened c.args.sender c.args.round c.args.yes) c.counted_vote.ensures
    (sym (vote-here group m.here m.state m.state.opened c.args.sender c.args.round c.args.yes
    (c.in-Some.open, positions c.in-Some.missing) opened here c.if-ne.ensures))

pub returns-then-ne : goal.returns-then-ne
returns-then-ne g c =
    let m = c.args.self.now in
    let group = group_by (g.M.Agreed.rules c.args.self.now.content) c.args.self.now in
    let opened : c.args.self.now.state.opened ≡ Some (c.in-Some.open, positions c.in-Some.missing) = rw (← c.self.view_is, c.in-Some.is) in
    let here : c.args.self.now.here ≡ c.args.self.now.coordinator = rw (← c.self.view_is) c.if-self.false in
    c.nothing-then-ne.ensures
    ∙ sym (vote-other group m.here m.state m.state.opened c.args.sender c.args.round c.args.yes
    (c.in-Some.open, positions c.in-Some.missing) opened here c.if-ne.ensures)

pub returns-then-self : goal.returns-then-self
returns-then-self g c =
    let m = c.args.self.now in
    let group = group_by (g.M.Agreed.rules c.args.self.now.content) c.args.self.now in
    let opened : c.args.self.now.state.opened ≡ Some (c.in-Some.open, positions c.in-Some.missing) = rw (← c.self.view_is, c.in-Some.is) in
    let away : c.args.self.now.here ≡ c.args.self.now.coordinator → ⊥ = rw (← c.self.view_is) c.if-self.true in
    c.nothing-then-self.ensures
    ∙ sym (vote-away group m.here m.state m.state.opened c.args.sender c.args.round c.args.yes (c.in-Some.open, positions c.in-Some.missing) opened away)

pub returns-in_default : goal.returns-in_default
returns-in_default g c =
    let m = c.args.self.now in
    let group = group_by (g.M.Agreed.rules c.args.self.now.content) c.args.self.now in
    let opened : c.args.self.now.state.opened ≡ None = rw (← c.self.view_is, c.in_default.is) in
    c.nothing.ensures ∙ sym (vote-none group m.here m.state m.state.opened c.args.sender c.args.round c.args.yes opened)

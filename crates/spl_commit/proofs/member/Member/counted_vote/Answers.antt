use Rattle.std.proofs.Common.{sym, ◌∙◌, subst}
use Rattle.spl_coord.specs.Positions.{positions}
use Rattle.spl_agree.specs.Rows.{commit_open, abort_open, counted_vote}
use Rattle.spl_commit.{specs.Views.group_by, proofs.RowSteps.{VoteGives, vote-gives, none-voted, as_given}}
use Rattle.spl_commit.proofs.member.Member.counted_vote.Goals as goal

pub returns-in-Ignored : goal.returns-in-Ignored
returns-in-Ignored g c =
    let group = group_by (g.M.Agreed.rules c.args.self.now.content) c.args.self.now in
    c.nothing-in-Ignored.ensures ∙
    subst (VoteGives group c.args.self.now.here c.args.self.now.state c.args.sender c.args.round (positions c.args.missing) c.args.yes) c.in-Ignored.is
    (vote-gives group c.args.self.now.here c.args.self.now.state c.args.sender c.args.round
    (positions c.args.missing) c.args.yes c.ballot.result c.on_vote.result c.ballot.ensures c.on_vote.ensures
    (sym c.is_other.ensures.other ∙ c.if-not-is_other.false))

pub returns-in-Counted : goal.returns-in-Counted
returns-in-Counted g c =
    let group = group_by (g.M.Agreed.rules c.args.self.now.content) c.args.self.now in
    subst (VoteGives group c.args.self.now.here c.args.self.now.state c.args.sender c.args.round (positions c.args.missing) c.args.yes) c.in-Counted.is
    (vote-gives group c.args.self.now.here c.args.self.now.state c.args.sender c.args.round
    (positions c.args.missing) c.args.yes c.ballot.result c.on_vote.result c.ballot.ensures c.on_vote.ensures
    (sym c.is_other.ensures.other ∙ c.if-not-is_other.false))
    c.new.result c.new-in-Counted.result c.new.ensures c.new-in-Counted.ensures

pub returns-in-Committed : goal.returns-in-Committed
returns-in-Committed g c =
    let group = group_by (g.M.Agreed.rules c.args.self.now.content) c.args.self.now in
    as_given c.commit_open.result (commit_open group c.args.self.now.here c.in-Committed.round c.args.self.now.state.pending)
    (counted_vote group c.args.self.now.here c.args.self.now.state c.args.sender c.args.round (positions c.args.missing) c.args.yes) c.commit_open.ensures
    (subst (VoteGives group c.args.self.now.here c.args.self.now.state c.args.sender c.args.round (positions c.args.missing) c.args.yes) c.in-Committed.is
    (vote-gives group c.args.self.now.here c.args.self.now.state c.args.sender c.args.round
    (positions c.args.missing) c.args.yes c.ballot.result c.on_vote.result c.ballot.ensures c.on_vote.ensures
    (sym c.is_other.ensures.other ∙ c.if-not-is_other.false)))

pub returns-in-Aborted : goal.returns-in-Aborted
returns-in-Aborted g c =
    let group = group_by (g.M.Agreed.rules c.args.self.now.content) c.args.self.now in
    as_given c.abort_open.result (abort_open group c.args.self.now.here c.in-Aborted.round c.args.self.now.state.pending)
    (counted_vote group c.args.self.now.here c.args.self.now.state c.args.sender c.args.round (positions c.args.missing) c.args.yes) c.abort_open.ensures
    (subst (VoteGives group c.args.self.now.here c.args.self.now.state c.args.sender c.args.round (positions c.args.missing) c.args.yes) c.in-Aborted.is
    (vote-gives group c.args.self.now.here c.args.self.now.state c.args.sender c.args.round
    (positions c.args.missing) c.args.yes c.ballot.result c.on_vote.result c.ballot.ensures c.on_vote.ensures
    (sym c.is_other.ensures.other ∙ c.if-not-is_other.false)))

pub returns-then-not-is_other : goal.returns-then-not-is_other
returns-then-not-is_other g c =
    let group = group_by (g.M.Agreed.rules c.args.self.now.content) c.args.self.now in
    c.nothing.ensures ∙ none-voted group c.args.self.now.here c.args.self.now.state c.args.sender c.args.round (positions c.args.missing) c.args.yes
    (sym c.is_other.ensures.other ∙ c.if-not-is_other.true)

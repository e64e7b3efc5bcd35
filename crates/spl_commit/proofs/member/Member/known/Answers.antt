use Rattle.std.proofs.Common.{refl, sym, ap, ◌∙◌}
use Rattle.spl_agree.specs.Member.{found, values}
use Rattle.spl_commit.proofs.Keyed.{waits-by_status, known-waiting, told_of}
use Rattle.spl_commit.proofs.member.Member.known.Goals as goal

pub returns-in-Pending : goal.returns-in-Pending
returns-in-Pending g c =
    let w = waits-by_status g.M.Key.PartialEq.eq g.M.Agreed.key_of c.args.key.now
    (λ v. g.M.Key.PartialEq.eq c.args.key.now
    (g.M.Agreed.key_of v)) c.self.inside.queue c.args.self.now.state.pending c.args.self.now.state.refused c.status.result
    (λ v. refl) c.self.invariant.pending_keys c.self.invariant.refused_keys (ap (λ m. m.state.pending) c.self.view_is)
    (ap (λ m. m.state.refused) c.self.view_is) c.status.ensures in
    let h = ap (λ m. found (λ v. g.M.Key.PartialEq.eq c.args.key.now (g.M.Agreed.key_of v)) (values m.state.history)) (sym c.self.view_is)
    ∙ sym c.in-None.ensures in
    ap told_of (sym c.in-Pending.is)
    ∙ known-waiting (found (λ v. g.M.Key.PartialEq.eq c.args.key.now (g.M.Agreed.key_of v))
    (values c.args.self.now.state.history)) _ _ c.status.result h w

pub returns-in-Refused : goal.returns-in-Refused
returns-in-Refused g c =
    let w = waits-by_status g.M.Key.PartialEq.eq g.M.Agreed.key_of c.args.key.now
    (λ v. g.M.Key.PartialEq.eq c.args.key.now
    (g.M.Agreed.key_of v)) c.self.inside.queue c.args.self.now.state.pending c.args.self.now.state.refused c.status.result
    (λ v. refl) c.self.invariant.pending_keys c.self.invariant.refused_keys (ap (λ m. m.state.pending) c.self.view_is)
    (ap (λ m. m.state.refused) c.self.view_is) c.status.ensures in
    let h = ap (λ m. found (λ v. g.M.Key.PartialEq.eq c.args.key.now (g.M.Agreed.key_of v)) (values m.state.history)) (sym c.self.view_is)
    ∙ sym c.in-None.ensures in
    ap told_of (sym c.in-Refused.is)
    ∙ known-waiting (found (λ v. g.M.Key.PartialEq.eq c.args.key.now (g.M.Agreed.key_of v))
    (values c.args.self.now.state.history)) _ _ c.status.result h w

pub returns-in-No : goal.returns-in-No
returns-in-No g c =
    let w = waits-by_status g.M.Key.PartialEq.eq g.M.Agreed.key_of c.args.key.now
    (λ v. g.M.Key.PartialEq.eq c.args.key.now
    (g.M.Agreed.key_of v)) c.self.inside.queue c.args.self.now.state.pending c.args.self.now.state.refused c.status.result
    (λ v. refl) c.self.invariant.pending_keys c.self.invariant.refused_keys (ap (λ m. m.state.pending) c.self.view_is)
    (ap (λ m. m.state.refused) c.self.view_is) c.status.ensures in
    let h = ap (λ m. found (λ v. g.M.Key.PartialEq.eq c.args.key.now (g.M.Agreed.key_of v)) (values m.state.history)) (sym c.self.view_is)
    ∙ sym c.in-None.ensures in
    ap told_of (sym c.in-No.is)
    ∙ known-waiting (found (λ v. g.M.Key.PartialEq.eq c.args.key.now (g.M.Agreed.key_of v))
    (values c.args.self.now.state.history)) _ _ c.status.result h w

use Rattle.std.proofs.Common.{sym, ap}
use Rattle.spl_agree.specs.{Pack.kept_each, declared.reason.Reason.Reason}
use Rattle.spl_agree.specs.declared.event.GroupChange.TheVariants as change
use Rattle.spl_commit.proofs.Packs.{kept_next, step_one, all_done, second-at, second-length}
use Rattle.spl_commit.proofs.member.Member.with_refused.Goals as goal

pub loop-i-preserved : goal.loop-i-preserved
loop-i-preserved g c =
    let u : g.row.M-Value.Denot × Reason = (c.unwrap.result.0.now, c.unwrap.result.1) in
    let at = second-at c.self.inside.queue.refused c.args.self.now.state.refused c.loop-i.i u (ap (λ m. m.state.refused) c.self.view_is)
    (sym (rw c.unwrap.ensures at c.refused_at.ensures)) in
    step_one kept_each (λ u. change.Kept u.0 u.1) kept_next c.args.first c.loop-i.all c.push.new.self c.args.self.now.state.refused c.loop-i.i u
    (change.Kept c.in_ok-copy.field-0 c.unwrap.result.1) at
    (ap (λ v. change.Kept v c.unwrap.result.1) c.in_ok-copy.ensures) c.loop-i.invariant c.in_ok-push.ensures.ok

pub returns : goal.returns
returns g c =
    all_done kept_each (λ u. change.Kept u.0 u.1) kept_next c.args.first c.loop-i.all c.args.self.now.state.refused c.loop-i.i
    (second-length c.self.inside.queue.refused c.args.self.now.state.refused c.refused_len-i-end.result c.loop-i.i
    (ap (λ m. m.state.refused) c.self.view_is) c.refused_len-i-end.ensures c.loop-i-test.false)
    c.loop-i.invariant

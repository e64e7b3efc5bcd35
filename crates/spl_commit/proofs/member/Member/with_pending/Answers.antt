use Rattle.std.proofs.Common.{sym, ap}
use Rattle.spl_agree.specs.Pack.{queued_each}
use Rattle.spl_agree.specs.declared.event.GroupChange.TheVariants as change
use Rattle.spl_commit.proofs.Packs.{queued_next, step_one, all_done, second-at, second-length}
use Rattle.spl_commit.proofs.member.Member.with_pending.Goals as goal

pub loop-i-preserved : goal.loop-i-preserved
loop-i-preserved g c =
    let v = c.unwrap-value.result.now in
    let at = second-at c.self.inside.queue.pending c.args.self.now.state.pending c.loop-i.i v (ap (λ m. m.state.pending) c.self.view_is)
    (sym (rw c.unwrap-value.ensures at c.pending_at.ensures)) in
    step_one queued_each (λ u. change.Queue u) queued_next c.args.first c.loop-i.all c.push.new.self c.args.self.now.state.pending c.loop-i.i v
    (change.Queue c.in_ok-copy.field-0) at (ap (λ u. change.Queue u) c.in_ok-copy.ensures) c.loop-i.invariant c.in_ok-push.ensures.ok

pub returns : goal.returns
returns g c =
    all_done queued_each (λ u. change.Queue u) queued_next c.args.first c.loop-i.all c.args.self.now.state.pending c.loop-i.i
    (second-length c.self.inside.queue.pending c.args.self.now.state.pending c.len-i-end.result c.loop-i.i
    (ap (λ m. m.state.pending) c.self.view_is) c.len-i-end.ensures c.loop-i-test.false)
    c.loop-i.invariant

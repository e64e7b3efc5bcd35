use Rattle.std.proofs.Common.{[]}
use Rattle.spl_state.proofs.Drafts.{without_next}
use Rattle.spl_state.proofs.draft.Draft.finish.Goals as goal

pub loop-address-preserved : goal.loop-address-preserved
loop-address-preserved c =
    without_next c.self.inside.state c.loop-address.state c.delete.new.self c.deref-address-items.result.now c.loop-address.address-index (record { 0 = [] })
    c.loop-address-test.true c.delete.ensures.deleted c.loop-address.invariant

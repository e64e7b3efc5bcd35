use Rattle.std.proofs.Common.{refl}
use Rattle.spl_state.specs.Runs.{raised}
use Rattle.spl_state.proofs.run_cache.Run.new.Goals as goal

-- no digit leads to the node itself
pub invariant_of-result : goal.invariant_of-result
unfolding raised
invariant_of-result c = record { right = refl }

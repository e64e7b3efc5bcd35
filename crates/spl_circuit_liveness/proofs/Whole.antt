-- The calm bound after all lines.
use Rattle.std.proofs.Common.{◌≡◌, ℕ, ◌≤◌, true, List, [], ◌∷◌, ◌++◌, length, sym, subst}
use Rattle.spl_circuit.specs.{Nodes.{NodeId, CircuitId}, Rules.{admin, service}, Same.node_same, declared.{act.Act.Act, definition.Definition.Definition}}
use Rattle.spl_command.specs.declared.batch.Batch.{Batch}
use Rattle.spl_sched.specs.declared.line.Line.TheVariants as line
use Rattle.spl_circuit_world.specs.{Worlds.{blank, World, empty_world, world_after}, Calm.calm, Projection.{Ran, plainly, lines_fit}, Whole.whole_world}
use Rattle.spl_circuit_world.{specs.{Whole.whole_happened, Apart.moves-own}, proofs.Happens.{whole-run, plain-whole}}
use Rattle.spl_circuit_liveness.{specs.Settled.{acts_kept, batches_kept, IsWhole, IsRunningAll, IsValueSettled}, proofs.After.{settle-acts, settle-batches}}

ran : (ns : List NodeId) (c : CircuitId) (rs : List Ran) → whole_world (blank ns) c rs ≡ world_after ns (whole_happened (blank ns) c rs)
ran ns c rs = whole-run c (empty_world ns) rs

next-calm : (ns : List NodeId) (c : CircuitId) (k : ℕ) (rs : List Ran)
    → whole_world (blank ns) c (rs ++ plainly (line.Calm c k) ∷ []) ≡ (calm c (whole_world (blank ns) c rs) k).world
next-calm ns c k rs = moves-own (blank ns) rs (plainly (line.Calm c k)) c (node_same c)

pub lines-acts : (ns : List NodeId) (rs : List Ran) (c : CircuitId) (k : ℕ) (d : Definition) (v : Act) (rest : List Act) → lines_fit rs ≡ true
    → length (whole_happened (blank ns) c rs) ≤ 32768 → 6 ≤ k → IsWhole (whole_world (blank ns) c rs) d
    → (acts_kept (whole_world (blank ns) c rs) (admin d)).pending ≡ v ∷ rest
    → IsValueSettled d (admin d) v (acts_kept (whole_world (blank ns) c (rs ++ plainly (line.Calm c k) ∷ [])))
lines-acts ns rs c k d v rest h few six whole first = subst (λ (w : World). IsValueSettled d (admin d) v (acts_kept w)) (sym (next-calm ns c k rs))
    (subst (λ (w : World). IsWhole w d → (acts_kept w (admin d)).pending ≡ v ∷ rest → IsValueSettled d (admin d) v (acts_kept (calm c w k).world))
    (sym (ran ns c rs)) (settle-acts ns (whole_happened (blank ns) c rs) c k d v rest (plain-whole c (empty_world ns) rs h) few six) whole first)

pub lines-batches : (ns : List NodeId) (rs : List Ran) (c : CircuitId) (k : ℕ) (d : Definition) (v : Batch) (rest : List Batch) → lines_fit rs ≡ true
    → length (whole_happened (blank ns) c rs) ≤ 32768 → 6 ≤ k → IsWhole (whole_world (blank ns) c rs) d → IsRunningAll (whole_world (blank ns) c rs) d
    → (batches_kept (whole_world (blank ns) c rs) (service d)).pending ≡ v ∷ rest
    → IsValueSettled d (service d) v (batches_kept (whole_world (blank ns) c (rs ++ plainly (line.Calm c k) ∷ [])))
lines-batches ns rs c k d v rest h few six whole running first =
    subst (λ (w : World). IsValueSettled d (service d) v (batches_kept w)) (sym (next-calm ns c k rs))
    (subst (λ (w : World). IsWhole w d → IsRunningAll w d → (batches_kept w (service d)).pending ≡ v ∷ rest
    → IsValueSettled d (service d) v (batches_kept (calm c w k).world)) (sym (ran ns c rs))
    (settle-batches ns (whole_happened (blank ns) c rs) c k d v rest (plain-whole c (empty_world ns) rs h) few six) whole running first)

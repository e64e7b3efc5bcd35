-- The calm bound after anything that happened.
use Rattle.std.{specs.Prelude.None, proofs.Common.{◌≡◌, ℕ, ◌+◌, ◌≤◌, ◌⊎◌, true, List, [], ◌∷◌, length, inl, inr, arith}}
use Rattle.spl_circuit.specs.{Nodes.{NodeId, CircuitId}, Rules.{admin, service, is_member}, declared.{act.Act.Act, definition.Definition.Definition}}
use Rattle.spl_command.specs.declared.batch.Batch.{Batch}
use Rattle.spl_circuit_world.specs.{Worlds.{Occurrence, world_after}, Calm.calm, Projection.AllPlain}
use Rattle.spl_circuit_liveness.specs.Settled.{acts_kept, batches_kept, AtMembers, IsWhole, RunsAtAll, IsRunningAll, IsValueSettled}
use Rattle.spl_circuit_liveness.proofs.{Circuits.{some-member, after, calm-acts}, Quiet.quiet-batches}

pub whole-after : (ns : List NodeId) (es : List Occurrence) (c : CircuitId) (k : ℕ) (d : Definition) → AllPlain es → IsWhole (world_after ns es) d
    → IsWhole (calm c (world_after ns es) k).world d
whole-after ns es c k d plain whole = go (some-member d)
  where
    go : ((n : NodeId) × (is_member d n ≡ true)) ⊎ ((n : NodeId) → is_member d n ≡ true → ⊥) → IsWhole (calm c (world_after ns es) k).world d
    go (inl n) = (calm-acts c k (0 + length es) (world_after ns es) d n.0 (after ns es plain).0 (after ns es plain).1 whole n.1).whole
    go (inr none) = record { registered = λ n h. absurd (none n h); up = λ n h. absurd (none n h); open_cells = λ n h. absurd (none n h) }

pub runs-after : (ns : List NodeId) (es : List Occurrence) (c : CircuitId) (k : ℕ) (d : Definition) → AllPlain es → IsWhole (world_after ns es) d
    → IsRunningAll (world_after ns es) d → RunsAtAll (calm c (world_after ns es) k).world d
runs-after ns es c k d plain whole running n h =
    (quiet-batches c k (0 + length es) (world_after ns es) d n (after ns es plain).0 (after ns es plain).1 whole running h).runs n h

pub idle-after : (ns : List NodeId) (es : List Occurrence) (c : CircuitId) (k : ℕ) (d : Definition) (n : NodeId) → AllPlain es → is_member d n ≡ true
    → IsWhole (world_after ns es) d → AtMembers d (λ j. (acts_kept (world_after ns es) j).pending ≡ [])
    → (acts_kept (world_after ns es) (admin d)).opened ≡ None
    → (acts_kept (calm c (world_after ns es) k).world (admin d)).history ≡ (acts_kept (world_after ns es) (admin d)).history
idle-after ns es c k d n plain member whole empty shut =
    (calm-acts c k (0 + length es) (world_after ns es) d n (after ns es plain).0 (after ns es plain).1 whole member).idles empty shut

pub settle-acts : (ns : List NodeId) (es : List Occurrence) (c : CircuitId) (k : ℕ) (d : Definition) (v : Act) (rest : List Act) → AllPlain es
    → length es ≤ 32768 → 6 ≤ k → IsWhole (world_after ns es) d → (acts_kept (world_after ns es) (admin d)).pending ≡ v ∷ rest
    → IsValueSettled d (admin d) v (acts_kept (calm c (world_after ns es) k).world)
settle-acts ns es c k d v rest plain few six whole first = go (some-member d)
  where
    go : ((n : NodeId) × (is_member d n ≡ true)) ⊎ ((n : NodeId) → is_member d n ≡ true → ⊥)
        → IsValueSettled d (admin d) v (acts_kept (calm c (world_after ns es) k).world)
    go (inl n) =
        (calm-acts c k (0 + length es) (world_after ns es) d n.0 (after ns es plain).0 (after ns es plain).1 whole n.1).settles v rest
        (omega (arith, few)) six first
    go (inr none) = inl (λ n h. absurd (none n h))

pub settle-batches : (ns : List NodeId) (es : List Occurrence) (c : CircuitId) (k : ℕ) (d : Definition) (v : Batch) (rest : List Batch) → AllPlain es
    → length es ≤ 32768 → 6 ≤ k → IsWhole (world_after ns es) d → IsRunningAll (world_after ns es) d
    → (batches_kept (world_after ns es) (service d)).pending ≡ v ∷ rest → IsValueSettled d (service d) v (batches_kept (calm c (world_after ns es) k).world)
settle-batches ns es c k d v rest plain few six whole running first = go (some-member d)
  where
    go : ((n : NodeId) × (is_member d n ≡ true)) ⊎ ((n : NodeId) → is_member d n ≡ true → ⊥)
        → IsValueSettled d (service d) v (batches_kept (calm c (world_after ns es) k).world)
    go (inl n) =
        (quiet-batches c k (0 + length es) (world_after ns es) d n.0 (after ns es plain).0 (after ns es plain).1 whole running n.1).settles v rest
        (omega (arith, few)) six first
    go (inr none) = inl (λ n h. absurd (none n h))

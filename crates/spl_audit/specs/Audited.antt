-- What nodes agree on that don't clash (docs/RULES.md, Audit).
use Rattle.std.specs.Prelude.{◌≡◌, ◌≢◌, ℕ, ◌≤◌, List, [], length, slice_get, Some}
use Rattle.spl_agree.specs.{Member.values, World.IsPrefixOf}
use Rattle.spl_circuit.specs.Nodes.{CircuitId}
use Rattle.spl_cell_rules.specs.{Cells.Bound, Valid.IsKept}
use Rattle.spl_circuit_safety.specs.Agreement.{AllDiffer}
use Rattle.spl_audit.specs.Clashes.{Keeper, ShareMember, IsBoundAt}

-- two nodes that are bound to one circuit: the shorter history begins the longer one
pub record BeginsWith (h k : Bound) : Type 0 where
  pub acts : length (values h.acts.history) ≤ length (values k.acts.history) → IsPrefixOf (values h.acts.history) (values k.acts.history)
  pub batches : length (values h.batches.history) ≤ length (values k.batches.history) → IsPrefixOf (values h.batches.history) (values k.batches.history)

-- what nodes keep, as the rules of cells leave it
abbrev pub AreCellsKept : List Keeper → Type 0
AreCellsKept ns = (position : ℕ) (n : Keeper) (c : CircuitId) → slice_get ns position ≡ Some n → IsKept (record { here = n.here; circuit = c }) (n.at c)

-- of each circuit one list of acts and one of batches, whose ids differ; and two definitions of one generation that share a
-- member don't both have acts
pub record AreOne (ns : List Keeper) (c : CircuitId) : Type 0 where
  pub begins : (generation i j : ℕ) (h k : Bound) → IsBoundAt ns c generation i h → IsBoundAt ns c generation j k → h.definition ≡ k.definition → BeginsWith h k
  pub differ : (generation i : ℕ) (h : Bound) → IsBoundAt ns c generation i h → AllDiffer (values h.batches.history)
  pub apart :
      (generation i j : ℕ) (h k : Bound) →
      IsBoundAt ns c generation i h → IsBoundAt ns c generation j k → ShareMember h.definition k.definition →
      h.acts.history ≢ [] → k.acts.history ≢ [] →
      h.definition ≡ k.definition

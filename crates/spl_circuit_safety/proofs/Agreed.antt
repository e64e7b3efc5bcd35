-- The agreement of a circuit after what happened, and in lines.
use Rattle.std.proofs.Common.{◌≡◌, true, List, sym, ◌∙◌}
use Rattle.spl_circuit.specs.{Nodes.NodeId, declared.definition.Definition.Definition}
use Rattle.spl_circuit_world.specs.{Worlds.{blank, Occurrence, empty_world, world_after}, Projection.{Ran, own, lines_fit, AllPlain}}
use Rattle.spl_cell_rules.specs.Cells.{site_at}
use Rattle.spl_circuit_safety.{specs.Agreement.{act_list, batch_list, IsAgreed, Agree}, proofs.Occurrences.{begins-acts, begins-batches, stays-after}}
use Rattle.spl_circuit_safety.proofs.{IdsDiffer.{ids-differ, share-nothing}, KnownStays.keeps-run, OwnLines.{lines-run, plain-moment}, Tells.tells-lists}
use Rattle.spl_circuit_safety.proofs.{QueuedIsKnown.knows-queued, PendingActsAreFew.few-after}

-- each part of the agreement
pub agreed-after : (ns : List NodeId) (es : List Occurrence) (d : Definition) → AllPlain es → IsAgreed ns es d
agreed-after ns es d h = record {
  acts = begins-acts ns es d h;
  batches = begins-batches ns es d h;
  differ = ids-differ ns d es h;
  told = λ c n b is same. tells-lists (world_after ns es) (site_at n c) b (act_list ns d es) (batch_list ns d es) is (begins-acts ns es d h n b is same)
      (begins-batches ns es d h n b is same);
  queued = λ before s e. knows-queued (world_after ns before) s;
  apart = λ e. share-nothing ns d e es h;
  keeps = λ fs k n b is same later is2 same2. keeps-run (world_after ns es) fs n b later k is is2 (same2 ∙ sym same);
  past = λ fs k. stays-after ns es fs d h k;
  few = few-after ns es d h;
}

-- at each moment of each circuit's world
pub lines-agree : (ns : List NodeId) (rs : List Ran) → lines_fit rs ≡ true → Agree ns rs
lines-agree ns rs h = record {
  happened = λ c. lines-run (empty_world ns) (own (blank ns) c rs);
  agreed = λ c d es fs e. agreed-after ns es d (plain-moment ns c rs es fs h e);
}

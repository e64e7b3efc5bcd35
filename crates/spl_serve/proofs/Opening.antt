-- The cells that a journal makes are those of the node that read it.
use Rattle.std.{specs.{Prelude.ℕ, Result.IsOkAnd}, proofs.Common.{◌≡◌, List, Option, Some, None, Result, Ok, Err, sym, ◌∙◌, ap}}
use Rattle.spl_circuit.specs.Nodes.{NodeId, CircuitId}
use Rattle.spl_edge.specs.Devices.{Image}
use Rattle.spl_snapshot.specs.Counting.{IfBoth, pair_records}
use Rattle.spl_node.specs.{Stands.{IsMade, IsRead, circuit_cell, here_of}, Records.{is_record, recorded_cell}, Stopping.HaveCells, declared.node.Node.Node}

pub have_read : (n : Node) (here : NodeId) (o p : Option Image) → here_of n ≡ here → IfBoth o p (λ i j. IsRead n.cells i.bytes j.bytes)
    → IfBoth o p (λ i j. HaveCells here (circuit_cell n) i.bytes j.bytes)
have_read n here None p same h = tt
have_read n here (Some i) None same h = tt
have_read n here (Some i) (Some j) same h = by (pair_records is_record i.bytes j.bytes) h
  where
    by : (r : Result (List (List ℕ)) ℕ) → IsOkAnd r (IsMade n.cells) → IsOkAnd r (λ rs. (c : CircuitId) → recorded_cell here c rs ≡ circuit_cell n c)
    by (Ok rs) make = λ c. ap (λ (m : NodeId). recorded_cell m c rs) (sym same) ∙ sym (make c)
    by (Err at) k = k

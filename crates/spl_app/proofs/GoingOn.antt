-- What a run leaves is left by what happened before and in the run, as one.
use Rattle.std.proofs.Common.{◌≡◌, List, [], ◌∷◌, ◌++◌, map, sym, ap, ◌∙◌}
use Rattle.spl_circuit_safety.{specs.Agreement.{gone_on, occurrence_on, restarts, AllHappenedAt}, proofs.{GoesOn.{plain-on, run-on}, Restarts.restarts-leave}}
use Rattle.spl_circuit.specs.Nodes.{CircuitId, Node}
use Rattle.spl_circuit_world.specs.{Projection.AllPlain, Worlds.{Occurrence, Origin, SentMessage, World, first_world, occur, world_after}}
use Rattle.spl_circuit_world.proofs.LinesAsOccurrences.{plain-append}
use Rattle.spl_cell_rules.specs.{Cells.Cell, Changes.stopped_cell}
use Rattle.spl_app.{specs.Left.{HasLeftCells, history_on}, proofs.Places.{at-append, on-at, restarts-at}}

-- stops and starts name no message
pub plain-restarts : (ns : List Node) → AllPlain (restarts ns)
plain-restarts [] = tt
plain-restarts (n ∷ ns) = (tt, (tt, plain-restarts ns))

module _ (o : Origin) (before : CircuitId → List Occurrence) (left : HasLeftCells o before) where
  abbrev stopped_before : CircuitId → List Occurrence
  stopped_before c = before c ++ restarts o.nodes

  abbrev sent_so_far : CircuitId → List SentMessage
  sent_so_far c = (world_after o.nodes (stopped_before c)).sent

  -- the cells of the run are those of both as one
  pub same-cells : (c : CircuitId) (es : List Occurrence) (n : Node)
      → (world_after o.nodes (gone_on o.nodes (before c ++ restarts o.nodes) es)).at n ≡ (occur (first_world o c) es).at n
  same-cells c es n = ap (λ (w : World). w.at n) (run-on o c (stopped_before c) es (restarts-leave o c (before c) (left.own c) (left.cells c)))

  module _ (happened : CircuitId → List Occurrence) (plain : (c : CircuitId) → AllPlain (happened c))
      (own : (c : CircuitId) → AllHappenedAt o.nodes (happened c)) where
    -- where the nodes of a further run keep those cells, once each stops, they are left by both
    pub left-on : (kept : CircuitId → Node → Cell) (circuits : List CircuitId)
        → ((c : CircuitId) (n : Node) → kept c n ≡ stopped_cell ((occur (first_world o c) (happened c)).at n))
        → HasLeftCells (record { nodes = o.nodes; kept = kept; circuits = circuits }) (history_on o.nodes before happened)
    left-on kept circuits cells = record {
      plain = λ c. plain-append (stopped_before c) (map (occurrence_on (sent_so_far c)) (happened c))
          (plain-append (before c) (restarts o.nodes) (left.plain c) (plain-restarts o.nodes)) (plain-on (sent_so_far c) (happened c) (plain c));
      own = λ c. at-append o.nodes (stopped_before c) (map (occurrence_on (sent_so_far c)) (happened c))
          (at-append o.nodes (before c) (restarts o.nodes) (left.own c) (restarts-at o.nodes)) (on-at o.nodes (sent_so_far c) (happened c) (own c));
      cells = λ c n. cells c n ∙ sym (ap stopped_cell (same-cells c (happened c) n));
    }

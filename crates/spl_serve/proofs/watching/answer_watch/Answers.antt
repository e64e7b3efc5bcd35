-- What a line of a watcher is told, by what the cell shows.
use Rattle.std.proofs.Common.{◌≡◌, sym, ◌∙◌, ap}
use Rattle.spl_cell.specs.Reading.{bound_definition, running_batches}
use Rattle.spl_circuit.specs.Nodes.{CircuitId}
use Rattle.spl_delta.specs.{Kept.watchers_of, Watches.{watch_circuit, watchers_after}, declared.line.WatchLine.WatchLine}
use Rattle.spl_node.specs.{Stands.circuit_cell, declared.node.Node.Node}
use Rattle.spl_cell_rules.specs.Cells.{Cell}
use Rattle.spl_serve.proofs.Told.{is_running, told_none, told_off}
use Rattle.spl_serve.proofs.watching.answer_watch.Goals as goal
use Rattle.spl_edge.proofs.Results.{when_ok}

-- the cell of the line's circuit
cell_is : (n : Node) (l : WatchLine) {circuit : CircuitId} {k : Cell} → circuit ≡ watch_circuit l → k ≡ circuit_cell n circuit
    → k ≡ circuit_cell n (watch_circuit l)
cell_is n l is kept = kept ∙ ap (circuit_cell n) is

pub returns-in_default-clause-answer : goal.returns-in_default-clause-answer
returns-in_default-clause-answer c =
    let l = c.args.line.now in
    let n = c.args.turn.now.node in
    told_none (circuit_cell n (watch_circuit l)) (watchers_of c.args.watchers.now (watch_circuit l)) l
    (sym (ap bound_definition (cell_is n l c.circuit-circuit.ensures c.in_default.ensures)))

pub returns-in_default-definition-clause-answer : goal.returns-in_default-definition-clause-answer
returns-in_default-definition-clause-answer c =
    let l = c.args.line.now in
    let n = c.args.turn.now.node in
    told_none (circuit_cell n (watch_circuit l)) (watchers_of c.args.watchers.now (watch_circuit l)) l
    (sym (ap bound_definition (cell_is n l c.circuit-circuit.ensures c.in-Some.ensures)) ∙ sym c.in_default-definition.ensures)

pub returns-in_default-service-clause-answer : goal.returns-in_default-service-clause-answer
returns-in_default-service-clause-answer c =
    let l = c.args.line.now in
    let n = c.args.turn.now.node in
    let k = cell_is n l c.circuit-circuit.ensures c.in-Some.ensures in
    told_off (circuit_cell n (watch_circuit l)) c.in-Some-definition.definition.now (watchers_of c.args.watchers.now (watch_circuit l)) l
    (sym (ap bound_definition k) ∙ sym c.in-Some-definition.ensures) (sym (ap running_batches k) ∙ sym c.in_default-service.ensures)

pub returns-clause-answer : goal.returns-clause-answer
returns-clause-answer c =
    let l = c.args.line.now in
    let n = c.args.turn.now.node in
    let k = cell_is n l c.circuit-circuit.ensures c.in-Some.ensures in
    let r = is_running (circuit_cell n (watch_circuit l)) _ _ (sym (ap bound_definition k) ∙ sym c.in-Some-definition.ensures)
    (sym (ap running_batches k) ∙ sym c.in-Some-service.ensures) in
    when_ok c.answer.result (λ a told. told ∙ r.told (watchers_of c.args.watchers.now (watch_circuit l)) l) (c.answer.ensures.answer r.bound r.here)

pub returns-clause-after : goal.returns-clause-after
returns-clause-after c =
    let l = c.args.line.now in
    let n = c.args.turn.now.node in
    let k = cell_is n l c.circuit-circuit.ensures c.in-Some.ensures in
    let r = is_running (circuit_cell n (watch_circuit l)) _ _ (sym (ap bound_definition k) ∙ sym c.in-Some-definition.ensures)
    (sym (ap running_batches k) ∙ sym c.in-Some-service.ensures) in
    when_ok c.answer.result (λ a after. after ∙ ap (λ (x : Cell). watchers_after x (watchers_of c.args.watchers.now (watch_circuit l)) l a) (sym r.held))
    (c.answer.ensures.after r.bound r.here)

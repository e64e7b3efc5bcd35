use Rattle.std.proofs.Common.{rules, ◌≡◌, ◌∙◌, Bool, true, ap, sym, subst}
use Rattle.spl_cell.specs.Reading.{bound_definition, running_batches}
use Rattle.spl_circuit.specs.Nodes.{CircuitId, Node}
use Rattle.spl_delta.specs.{Kept.watchers_of, Watches.{watch_circuit, watch_node, watchers_after}, declared.line.WatchLine.WatchLine}
use Rattle.spl_delta.proofs.Shown.{told_down, told_here, told_none, told_off}
use Rattle.spl_circuit_world.specs.Worlds.{World as CircuitWorld}
use Rattle.spl_cell_rules.specs.Cells.{Cell}
use Rattle.spl_world.{proofs.Cells.{runs_here, off_here, unbound}, specs.Views.{HoldsWorld, Nodes}}
use Rattle.spl_runs.proofs.watch.tell.Goals as goal
use Rattle.spl_edge.proofs.Results.{when_ok}

-- whether the node is up
up_is : (m : CircuitWorld) (l : WatchLine) {node : Node} {up : Bool} → node ≡ watch_node l → up ≡ m.up node → m.up (watch_node l) ≡ up
up_is m l node_is is = sym (is ∙ ap m.up node_is)

-- and what it keeps of the circuit
cell_is : (m : CircuitWorld) (l : WatchLine) {node : Node} {circuit : CircuitId} {k : Cell} {xs : Nodes} → node ≡ watch_node l → circuit ≡ watch_circuit l
    → m.up (watch_node l) ≡ true → HoldsWorld (watch_circuit l) m xs → ((n : CircuitWorld) → HoldsWorld circuit n xs → n.up node ≡ true → k ≡ n.at node)
    → k ≡ m.at (watch_node l)
cell_is m l {xs = xs} node_is circuit_is up h kept =
    kept m (subst (λ (c : CircuitId). HoldsWorld c m xs) (sym circuit_is) h) (ap m.up node_is ∙ up) ∙ ap m.at node_is

pub returns-then-not-has_up-clause-answer : goal.returns-then-not-has_up-clause-answer
returns-then-not-has_up-clause-answer c = λ is m h.
    let l = c.args.line.now in
    told_down m (watchers_of c.args.watchers.now (watch_circuit l)) l
    (up_is m l c.node-node.ensures (c.has_up.ensures is (watch_circuit l) m h) ∙ (search rules))

pub returns-in_default-clause-answer : goal.returns-in_default-clause-answer
returns-in_default-clause-answer c = λ is m h.
    let l = c.args.line.now in
    let up : m.up (watch_node l) ≡ true = up_is m l c.node-node.ensures (c.has_up.ensures is (watch_circuit l) m h) ∙ (search rules) in
    told_none m (watchers_of c.args.watchers.now (watch_circuit l)) l up
    (unbound (m.at (watch_node l)) (sym (ap bound_definition (cell_is m l c.node-node.ensures c.circuit-circuit.ensures up h (c.in_default.ensures is)))))

pub returns-in_default-definition-clause-answer : goal.returns-in_default-definition-clause-answer
returns-in_default-definition-clause-answer c = λ is m h.
    let l = c.args.line.now in
    let up : m.up (watch_node l) ≡ true = up_is m l c.node-node.ensures (c.has_up.ensures is (watch_circuit l) m h) ∙ (search rules) in
    told_none m (watchers_of c.args.watchers.now (watch_circuit l)) l up
    (unbound (m.at (watch_node l))
    (sym (ap bound_definition (cell_is m l c.node-node.ensures c.circuit-circuit.ensures up h (c.in-Some.ensures is)))
    ∙ sym c.in_default-definition.ensures))

pub returns-in_default-service-clause-answer : goal.returns-in_default-service-clause-answer
returns-in_default-service-clause-answer c = λ is m h.
    let l = c.args.line.now in
    let up : m.up (watch_node l) ≡ true = up_is m l c.node-node.ensures (c.has_up.ensures is (watch_circuit l) m h) ∙ (search rules) in
    let k = cell_is m l c.node-node.ensures c.circuit-circuit.ensures up h (c.in-Some.ensures is) in
    let b = off_here (m.at (watch_node l)) c.in-Some-definition.definition.now (sym (ap bound_definition k) ∙ sym c.in-Some-definition.ensures)
    (sym (ap running_batches k) ∙ sym c.in_default-service.ensures) in
    told_off m (watchers_of c.args.watchers.now (watch_circuit l)) l up b.0 b.1 b.2

pub returns-clause-answer : goal.returns-clause-answer
returns-clause-answer c = λ is m h.
    let l = c.args.line.now in
    let up : m.up (watch_node l) ≡ true = up_is m l c.node-node.ensures (c.has_up.ensures is (watch_circuit l) m h) ∙ (search rules) in
    let k = cell_is m l c.node-node.ensures c.circuit-circuit.ensures up h (c.in-Some.ensures is) in
    let r = runs_here (m.at (watch_node l)) _ _ (sym (ap bound_definition k) ∙ sym c.in-Some-definition.ensures)
    (sym (ap running_batches k) ∙ sym c.in-Some-service.ensures) in
    when_ok c.answer.result (λ a told. told ∙ told_here m (watchers_of c.args.watchers.now (watch_circuit l)) l up r.bound r.held r.running)
    (c.answer.ensures.answer r.bound (record { definition_is = r.definition; batches_are = r.batches }))

pub returns-clause-after : goal.returns-clause-after
returns-clause-after c = λ is m h.
    let l = c.args.line.now in
    let up : m.up (watch_node l) ≡ true = up_is m l c.node-node.ensures (c.has_up.ensures is (watch_circuit l) m h) ∙ (search rules) in
    let k = cell_is m l c.node-node.ensures c.circuit-circuit.ensures up h (c.in-Some.ensures is) in
    let r = runs_here (m.at (watch_node l)) _ _ (sym (ap bound_definition k) ∙ sym c.in-Some-definition.ensures)
    (sym (ap running_batches k) ∙ sym c.in-Some-service.ensures) in
    when_ok c.answer.result (λ a after. after ∙ ap (λ (k : Cell). watchers_after k (watchers_of c.args.watchers.now (watch_circuit l)) l a) (sym r.held))
    (c.answer.ensures.after r.bound (record { definition_is = r.definition; batches_are = r.batches }))

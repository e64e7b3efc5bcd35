use Rattle.std.{specs.BTreeMap.BTreeMap, proofs.Common.{sym, ◌∙◌, ap, subst}}
use Rattle.spl_cell.specs.Views.{CellView}
use Rattle.spl_circuit.specs.Nodes.{CircuitId}
use Rattle.spl_cell_rules.specs.{Cells.{Cell, Site, site_at}, Changes.after_plan, Plans.plan_of, Valid.IsFor}
use Rattle.spl_node.{specs.Kept.cell_at, proofs.Changing.{written_cells, written_own, missing_state, given_found, refused_cells, given_refused, own_after}}
use Rattle.spl_node.proofs.Maps.{found_own}
use Rattle.spl_node.proofs.cells.Cells.handle.Goals as goal
use Rattle.spl_edge.proofs.Results.{at_ok, when_ok}

-- ---- at a cell that is kept

pub handled-requires-clause-sound : goal.handled-requires-clause-sound
handled-requires-clause-sound c =
    (found_own c.self.inside.here c.args.circuit c.self.inside.map.entries c.in-Some.cell.now c.self.invariant (sym c.in-Some.ensures.value)).sound

pub handled-requires-clause-own : goal.handled-requires-clause-own
handled-requires-clause-own c =
    subst (λ (s : Site). IsFor s c.args.event.now)
    (sym (found_own c.self.inside.here c.args.circuit c.self.inside.map.entries c.in-Some.cell.now c.self.invariant (sym c.in-Some.ensures.value)).site_is)
    (rw (← c.self.view_is) at c.requires)

pub invariant_of-self : goal.invariant_of-self
invariant_of-self c =
    written_own c.self.inside.here c.args.circuit c.self.inside.map.entries
    (c.get_mut.follows.lender c.handled.new.cell).entries c.in-Some.cell.now c.handled.new.cell c.self.invariant (sym c.in-Some.ensures.value)
    (c.get_mut.follows.holds c.handled.new.cell).0 c.handled.ensures.fixed c.handled.ensures.sound

pub returns-in-Some-clause-cells : goal.returns-in-Some-clause-cells
returns-in-Some-clause-cells c =
    at_ok c.handled.result (λ state. rw (← c.self.view_is)
    (written_cells c.args.circuit c.self.inside.map.entries (c.get_mut.follows.lender c.handled.new.cell).entries c.in-Some.cell.now c.handled.new.cell
    (λ (k : Cell). after_plan c.self.inside.here k (plan_of (site_at c.self.inside.here c.args.circuit) k c.args.event.now)) (sym c.in-Some.ensures.value)
    (c.get_mut.follows.holds c.handled.new.cell).0
    (state ∙ own_after c.self.inside.here c.args.circuit c.in-Some.cell.now c.in-Some.cell.now.state c.args.event.now
    (found_own c.self.inside.here c.args.circuit c.self.inside.map.entries c.in-Some.cell.now c.self.invariant
    (sym c.in-Some.ensures.value))))) c.handled.ensures.state

pub returns-in-Some-clause-given : goal.returns-in-Some-clause-given
returns-in-Some-clause-given c =
    when_ok c.handled.result
    (λ done given. rw (← c.self.view_is)
    (given_found c.self.inside.here c.args.circuit c.self.inside.map.entries c.in-Some.cell.now c.args.event.now done
    (found_own c.self.inside.here c.args.circuit c.self.inside.map.entries c.in-Some.cell.now c.self.invariant (sym c.in-Some.ensures.value))
    (sym c.in-Some.ensures.value) given)) c.handled.ensures.given

-- ---- where none is kept

pub returns-then-needs_circuit-clause-cells : goal.returns-then-needs_circuit-clause-cells
returns-then-needs_circuit-clause-cells c =
    rw (← c.self.view_is) (refused_cells c.self.inside.here c.args.circuit c.self.inside.map.entries c.get_mut.follows.lender-at-none.entries
    c.args.event.now (missing_state c.args.circuit c.self.inside.map.entries (sym c.in_default.ensures.value))
    (ap (λ (m : BTreeMap CircuitId CellView). m.entries) c.get_mut.follows.holds-at-none)
    (c.needs_circuit.ensures c.if-needs_circuit.true (site_at c.self.inside.here c.args.circuit)))

pub returns-then-needs_circuit-clause-given : goal.returns-then-needs_circuit-clause-given
returns-then-needs_circuit-clause-given c =
    rw (← c.self.view_is) (given_refused c.self.inside.here c.args.circuit c.self.inside.map.entries c.args.event.now c.no_circuit.result
    (missing_state c.args.circuit c.self.inside.map.entries (sym c.in_default.ensures.value))
    (c.needs_circuit.ensures c.if-needs_circuit.true (site_at c.self.inside.here c.args.circuit))
    (c.no_circuit.ensures (site_at c.self.inside.here c.args.circuit)))

pub handle_first-requires-clause-empty : goal.handle_first-requires-clause-empty
handle_first-requires-clause-empty c =
    ap (λ (m : BTreeMap CircuitId CellView). cell_at m.entries c.args.circuit) c.get_mut.follows.holds-at-none
    ∙ missing_state c.args.circuit c.self.inside.map.entries (sym c.in_default.ensures.value)

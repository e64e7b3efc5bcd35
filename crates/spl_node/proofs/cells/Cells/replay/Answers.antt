use Rattle.std.{specs.BTreeMap.{BTreeMap, insert_entry}, proofs.Common.{refl, sym, ◌∙◌, ap, subst}}
use Rattle.spl_cell.specs.{Views.CellView, States.IsStill}
use Rattle.spl_circuit.specs.Nodes.{CircuitId}
use Rattle.spl_cell_rules.specs.{Cells.{Cell, site_at}, Changes.applied}
use Rattle.spl_node.{specs.Kept.{CellsView, Entries, cell_at}, proofs.Changing.{found_state, missing_state, written_cells, written_own, own_applied}}
use Rattle.spl_node.proofs.{Changing.{own_like, still_where, empty_is, empty_cells, joined_cells, kept_or_same, state_of_fresh}, Maps.order}
use Rattle.spl_node.proofs.Maps.{found_own}
use Rattle.spl_node.proofs.cells.Cells.replay.Goals as goal
use Rattle.spl_edge.proofs.Results.{at_ok, at_err}

-- ---- at a cell that is kept

pub replayed-requires-clause-sound : goal.replayed-requires-clause-sound
replayed-requires-clause-sound c =
    (found_own c.self.inside.here c.args.found.circuit c.self.inside.map.entries c.in-Some.cell.now c.self.invariant (sym c.in-Some.ensures.value)).sound

pub replayed-requires-clause-still : goal.replayed-requires-clause-still
replayed-requires-clause-still c =
    subst IsStill (found_state c.args.found.circuit c.self.inside.map.entries c.in-Some.cell.now (sym c.in-Some.ensures.value))
    ((subst (λ (x : CellsView). (d : CircuitId) → IsStill (cell_at x.entries d)) (sym c.self.view_is) c.requires.still) c.args.found.circuit)

pub invariant_of-self : goal.invariant_of-self
invariant_of-self c =
    written_own c.self.inside.here c.args.found.circuit c.self.inside.map.entries
    (c.get_mut.follows.lender c.replayed.new.cell).entries c.in-Some.cell.now c.replayed.new.cell c.self.invariant (sym c.in-Some.ensures.value)
    (c.get_mut.follows.holds c.replayed.new.cell).0 c.replayed.ensures.fixed c.replayed.ensures.sound

pub returns-in-Some-clause-cells : goal.returns-in-Some-clause-cells
returns-in-Some-clause-cells c =
    at_ok c.replayed.result (λ state. rw (← c.self.view_is)
    (written_cells c.args.found.circuit c.self.inside.map.entries
    (c.get_mut.follows.lender c.replayed.new.cell).entries c.in-Some.cell.now c.replayed.new.cell
    (λ (k : Cell). applied (site_at c.self.inside.here c.args.found.circuit) k c.args.found.changes) (sym c.in-Some.ensures.value)
    (c.get_mut.follows.holds c.replayed.new.cell).0
    (state ∙ own_applied c.self.inside.here c.args.found.circuit c.in-Some.cell.now c.in-Some.cell.now.state c.args.found.changes
    (found_own c.self.inside.here c.args.found.circuit c.self.inside.map.entries c.in-Some.cell.now c.self.invariant
    (sym c.in-Some.ensures.value))))) c.replayed.ensures.state

pub returns-in-Some-clause-still : goal.returns-in-Some-clause-still
returns-in-Some-clause-still c =
    at_ok c.replayed.result (λ state. still_where c.args.found.circuit c.self.inside.map.entries
    (c.get_mut.follows.lender c.replayed.new.cell).entries c.replayed.new.cell.state c.replayed.ensures.still
    (subst (λ (x : CellsView). (d : CircuitId) → IsStill (cell_at x.entries d)) (sym c.self.view_is) c.requires.still)
    (written_cells c.args.found.circuit c.self.inside.map.entries
    (c.get_mut.follows.lender c.replayed.new.cell).entries c.in-Some.cell.now c.replayed.new.cell (λ (k : Cell). c.replayed.new.cell.state)
    (sym c.in-Some.ensures.value) (c.get_mut.follows.holds c.replayed.new.cell).0 refl)) c.replayed.ensures.state

-- ---- at a fresh one

pub returns-then-is_empty-clause-cells : goal.returns-then-is_empty-clause-cells
returns-then-is_empty-clause-cells c =
    rw (← c.self.view_is) (empty_cells c.args.found.circuit c.self.inside.map.entries c.get_mut.follows.lender-at-none.entries
    (λ (k : Cell). applied (site_at c.self.inside.here c.args.found.circuit) k c.args.found.changes)
    (missing_state c.args.found.circuit c.self.inside.map.entries (sym c.in_default.ensures.value))
    (ap (λ (m : BTreeMap CircuitId CellView). m.entries) c.get_mut.follows.holds-at-none)
    (sym (state_of_fresh c.self.inside.here c.args.found.circuit c.fresh-cell.result c.args.found.changes c.replayed-2.new.cell c.fresh-cell.ensures.own
    c.fresh-cell.ensures.empty c.in_ok-replayed.ensures.state) ∙ empty_is c.replayed-2.new.cell.state (sym c.is_empty.ensures ∙ c.if-is_empty.true)))

pub returns-then-is_empty-clause-still : goal.returns-then-is_empty-clause-still
returns-then-is_empty-clause-still c =
    subst (λ (es : Entries). (d : CircuitId) → IsStill (cell_at es d))
    (sym (ap (λ (m : BTreeMap CircuitId CellView). m.entries) c.get_mut.follows.holds-at-none))
    (subst (λ (x : CellsView). (d : CircuitId) → IsStill (cell_at x.entries d)) (sym c.self.view_is) c.requires.still)

pub invariant_of-self-2 : goal.invariant_of-self-2
invariant_of-self-2 c =
    kept_or_same c.keep.result c.self.inside.here c.args.found.circuit c.self.inside.map.entries c.keep.new.map.entries c.replayed-2.new.cell
    c.self.invariant (at_ok c.keep.result
    (λ kept. kept ∙ ap (λ (es : Entries). insert_entry order es c.args.found.circuit c.replayed-2.new.cell)
    (ap (λ (m : BTreeMap CircuitId CellView). m.entries) c.get_mut.follows.holds-at-none)) c.keep.ensures.kept)
    (at_err c.keep.result (λ is. is ∙ (ap (λ (m : BTreeMap CircuitId CellView). m.entries) c.get_mut.follows.holds-at-none)) c.keep.ensures.err)
    (own_like c.self.inside.here c.args.found.circuit c.fresh-cell.result c.replayed-2.new.cell c.fresh-cell.ensures.own c.replayed-2.ensures.fixed
    c.replayed-2.ensures.sound)

pub returns-clause-cells : goal.returns-clause-cells
returns-clause-cells c =
    at_ok c.keep.result (λ kept. rw (← c.self.view_is)
    (joined_cells c.args.found.circuit c.self.inside.map.entries c.keep.new.map.entries c.replayed-2.new.cell
    (λ (k : Cell). applied (site_at c.self.inside.here c.args.found.circuit) k c.args.found.changes)
    (missing_state c.args.found.circuit c.self.inside.map.entries (sym c.in_default.ensures.value))
    (kept ∙ ap (λ (es : Entries). insert_entry order es c.args.found.circuit c.replayed-2.new.cell)
    (ap (λ (m : BTreeMap CircuitId CellView). m.entries) c.get_mut.follows.holds-at-none))
    (state_of_fresh c.self.inside.here c.args.found.circuit c.fresh-cell.result c.args.found.changes c.replayed-2.new.cell c.fresh-cell.ensures.own
    c.fresh-cell.ensures.empty c.in_ok-replayed.ensures.state))) c.keep.ensures.kept

pub returns-clause-still : goal.returns-clause-still
returns-clause-still c =
    at_ok c.keep.result (λ kept. still_where c.args.found.circuit c.self.inside.map.entries c.keep.new.map.entries c.replayed-2.new.cell.state
    c.replayed-2.ensures.still (subst (λ (x : CellsView). (d : CircuitId) → IsStill (cell_at x.entries d)) (sym c.self.view_is) c.requires.still)
    (joined_cells c.args.found.circuit c.self.inside.map.entries c.keep.new.map.entries c.replayed-2.new.cell (λ (k : Cell). c.replayed-2.new.cell.state)
    (missing_state c.args.found.circuit c.self.inside.map.entries (sym c.in_default.ensures.value))
    (kept ∙ ap (λ (es : Entries). insert_entry order es c.args.found.circuit c.replayed-2.new.cell)
    (ap (λ (m : BTreeMap CircuitId CellView). m.entries) c.get_mut.follows.holds-at-none)) refl)) c.keep.ensures.kept

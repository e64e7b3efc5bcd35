-- What a node keeps in memory, and the records into which it packs.
use Rattle.std.specs.{Prelude.{◌≡◌, ℕ, false, IsTrue, List, [], ◌∷◌, ◌++◌, Option, Some, None, if◌then◌else◌}, List.list_all, Ordering.nat_cmp}
use Rattle.std.specs.{Cmp.Lexicographic.slice_cmp, BTreeMap.is_at, Map.{lookup, values_of}, Str.bytes_eq}
use Rattle.spl_circuit.specs.{Forms.circuit_id, Nodes.{NodeId, CircuitId}}
use Rattle.spl_wire.specs.{Changes.change_form, Grouping.{grouped, grouped_records, spelled}, declared.{change.Change.Change, event.Event.Event}}
use Rattle.spl_cell_rules.specs.{Cells.{Cell, Empty, is_bound, site_at}, Changes.{applied, stopped_cell, after_plan}, Pack.packed, Plans.plan_of}
use Rattle.spl_cell.specs.Views.{CellView}

-- cells by their circuits, in the order of the ids
abbrev pub Entries : Type 0
Entries = List (CircuitId × CellView)

-- the id of the node, and its cells
pub record CellsView : Type 0 where
  pub here : NodeId
  pub entries : Entries

abbrev pub state_or_empty : Option CellView → Cell
state_or_empty None = Empty
state_or_empty (Some v) = v.state

-- the cell of a circuit
abbrev pub cell_at : Entries → CircuitId → Cell
cell_at es c = state_or_empty (lookup (is_at (slice_cmp nat_cmp c)) es)

-- the cells after an event at a circuit: its plan is carried out there, and the others stay
abbrev pub cells_after : NodeId → (CircuitId → Cell) → CircuitId → Event → CircuitId → Cell
cells_after here cells c e id = if bytes_eq c id then after_plan here (cells c) (plan_of (site_at here c) (cells c) e) else cells id

-- the cells after changes of a circuit that were read
abbrev pub cells_with : NodeId → (CircuitId → Cell) → CircuitId → List Change → CircuitId → Cell
cells_with here cells c xs id = if bytes_eq c id then applied (site_at here c) (cells c) xs else cells id

-- ---- packed cells

-- the records of a packed cell
abbrev pub packed_cell : CellView → List (List ℕ)
packed_cell v = spelled (grouped_records v.site.circuit (grouped v.site.circuit (packed v.state)))

-- and those of cells, one after the other
abbrev pub packed_cells : List CellView → List (List ℕ)
packed_cells [] = []
packed_cells (v ∷ vs) = packed_cell v ++ packed_cells vs

-- and those of a node, in the order of the ids
abbrev pub packed_node : Entries → List (List ℕ)
packed_node es = packed_cells (values_of es)

-- a cell goes on; its packed form can be written, and makes it again except its open rounds
pub record IsCellSound (v : CellView) : Type 0 where
  pub running : v.halted ≡ false
  pub named : IsTrue (circuit_id.fits v.site.circuit)
  pub written : IsTrue (list_all change_form.fits (packed v.state))
  pub again : applied v.site Empty (packed v.state) ≡ stopped_cell v.state

-- a sound cell that stands at its node and circuit
pub record IsOwn (here : NodeId) (c : CircuitId) (v : CellView) : Type 0 where
  pub site_is : v.site ≡ site_at here c
  pub sound : IsCellSound v

abbrev pub AreOwn : NodeId → Entries → Type 0
AreOwn here [] = Unit {0}
AreOwn here (e ∷ es) = IsOwn here e.0 e.1 × AreOwn here es

abbrev pub AreSound : List CellView → Type 0
AreSound [] = Unit {0}
AreSound (v ∷ vs) = IsCellSound v × AreSound vs

-- ---- the roll

-- the ids of the bound cells, in order
abbrev pub bound_ids : Entries → List CircuitId
bound_ids [] = []
bound_ids (e ∷ es) = if is_bound e.1.state then e.0 ∷ bound_ids es else bound_ids es

-- A cell, and a bound one, as callers see them.
use Rattle.std.specs.Prelude.{◌≡◌, ℕ, Bool, true, List, Option, Some, None}
use Rattle.spl_agree.specs.Member.{Group}
use Rattle.spl_circuit.specs.{Nodes.{NodeId, position}, Rules.is_member, declared.{act.Act.Act, definition.Definition.Definition}}
use Rattle.spl_command.specs.declared.batch.Batch.{Batch}
use Rattle.spl_admin.specs.Kept.{LedgerView}
use Rattle.spl_commit.specs.Views.{MemberView}
use Rattle.spl_cell_rules.specs.{Cells.{Bound, Cell, Held, Site, admin_group, service_group}, Valid.IsSettledCell}

-- the cell of a circuit at a node, and whether a change of it was lost because memory ran out
pub record CellView : Type 0 where
  pub site : Site
  pub state : Cell
  pub halted : Bool

-- a bound cell: where it is, and what it keeps
pub record HeldView : Type 0 where
  pub site : Site
  pub bound : Bound

-- what a cell keeps of its circuit, where it is bound
abbrev pub bound_in : Cell → Option Bound
bound_in (Held h) = Some h
bound_in k = None

-- a member of a group at a position
pub record IsSeated {C V : Type 0} (g : Group V) (at : ℕ) (m : MemberView C V) : Type 0 where
  pub generation : m.generation ≡ g.generation
  pub members : m.members ≡ g.members
  pub coordinator : m.coordinator ≡ g.coordinator
  pub here : m.here ≡ at

-- the node is a member of the definition, and at its position in both groups
pub record IsPlaced (n : NodeId) (d : Definition) (a : MemberView LedgerView Act) (b : MemberView (List Batch) Batch) : Type 0 where
  pub member : is_member d n ≡ true
  pub acts : IsSeated (admin_group d) (position d.members n) a
  pub batches : IsSeated (service_group d) (position d.members n) b

-- in each group no round is open, or one is as it has to be
abbrev pub IsSettledHeld : HeldView → Type 0
IsSettledHeld h = IsSettledCell h.site.here (Held h.bound)

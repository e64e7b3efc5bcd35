-- Where what some nodes keep doesn't go together (docs/RULES.md, Audit).
use Rattle.std.specs.Prelude.{◌≡◌, ◌≢◌, ℕ, ◌<◌, ◌==◌, nat_lt, Bool, true, ◌&&◌, ◌||◌, List, [], ◌∷◌, slice_get, Option, Some, None, if◌then◌else◌}
use Rattle.std.specs.Str.{bytes_eq}
use Rattle.spl_agree.specs.Member.{values}
use Rattle.spl_circuit.specs.{Nodes.{NodeId, CircuitId, has_node, is_below}, declared.definition.Definition.Definition}
use Rattle.spl_cell_rules.specs.Cells.{Bound, Cell, Held}
use Rattle.spl_audit.specs.declared.clash.{Clash.Clash, Kind.Kind}
use Rattle.spl_audit.specs.declared.clash.Kind.TheVariants as kind

-- a node, what it keeps of each circuit, and the circuits to which it is bound
pub record Keeper : Type 0 where
  pub here : NodeId
  pub at : CircuitId → Cell
  pub bound : List CircuitId

-- ---- two cells

-- two lists have different values at a place
pub record DifferAt {A : Type 0} (xs ys : List A) (place : ℕ) : Type 0 where
  pub one : A
  pub other : A
  pub first : slice_get xs place ≡ Some one
  pub second : slice_get ys place ≡ Some other
  pub differ : one ≢ other

-- a node is a member in both
pub record ShareMember (d e : Definition) : Type 0 where
  pub node : NodeId
  pub first : has_node d.members node ≡ true
  pub second : has_node e.members node ≡ true

-- two bound cells clash at a place: their definitions differ and share a member, and both have acts; or they are bound to one
-- circuit, and their acts differ there, or their batches
abbrev pub ClashAt : Kind → Bound → Bound → ℕ → Type 0
ClashAt kind.Definitions h k place =
    (place ≡ 0) × ((h.definition ≢ k.definition) × (ShareMember h.definition k.definition × ((h.acts.history ≢ []) × (k.acts.history ≢ []))))
ClashAt kind.Acts h k place = (h.definition ≡ k.definition) × DifferAt (values h.acts.history) (values k.acts.history) place
ClashAt kind.Batches h k place = (h.definition ≡ k.definition) × DifferAt (values h.batches.history) (values k.batches.history) place

-- ---- among some nodes

-- a node at a position is bound there to a definition of this generation
pub record IsBoundAt (ns : List Keeper) (c : CircuitId) (g position : ℕ) (h : Bound) : Type 0 where
  pub node : Keeper
  pub there : slice_get ns position ≡ Some node
  pub bound : node.at c ≡ Held h
  pub generation : h.definition.generation ≡ g

pub record IsBoundClash (ns : List Keeper) (s : Clash) : Type 0 where
  pub one : Bound
  pub other : Bound
  pub first : IsBoundAt ns s.circuit s.generation s.first one
  pub second : IsBoundAt ns s.circuit s.generation s.second other
  pub ordered : s.first < s.second
  pub clash : ClashAt s.kind one other s.place

abbrev pub NoClash : List Keeper → Type 0
NoClash ns = (s : Clash) → IsBoundClash ns s → ⊥

-- ---- the least clash

abbrev pub kind_number : Kind → ℕ
kind_number kind.Definitions = 1
kind_number kind.Acts = 2
kind_number kind.Batches = 3

-- by generation, kind, positions and place
abbrev pub clash_numbers : Clash → List ℕ
clash_numbers s = s.generation ∷ kind_number s.kind ∷ s.first ∷ s.second ∷ s.place ∷ []

abbrev pub are_at_most : List ℕ → List ℕ → Bool
are_at_most [] ns = true
are_at_most ms [] = true
are_at_most (m ∷ ms) (n ∷ ns) = nat_lt m n || (m == n && are_at_most ms ns)

-- first by the bytes of their ids
abbrev pub is_at_most : Clash → Clash → Bool
is_at_most s t = is_below s.circuit t.circuit || (bytes_eq s.circuit t.circuit && are_at_most (clash_numbers s) (clash_numbers t))

-- the least of what has P, if anything has
abbrev pub IsLeast : (Clash → Type 0) → Option Clash → Type 0
IsLeast P None = (t : Clash) → P t → ⊥
IsLeast P (Some s) = P s × ((t : Clash) → P t → is_at_most s t ≡ true)

-- the lower of two
abbrev pub lesser : Option Clash → Option Clash → Option Clash
lesser None other = other
lesser (Some s) None = Some s
lesser (Some s) (Some t) = if is_at_most s t then Some s else Some t

-- what an audit reports of nodes that clash
pub record IsLeastClash (ns : List Keeper) (s : Clash) : Type 0 where
  pub clash : IsBoundClash ns s
  pub least : (t : Clash) → IsBoundClash ns t → is_at_most s t ≡ true

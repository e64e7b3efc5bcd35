-- Clashes of some cells among all (docs/RULES.md, Audit).
use Rattle.std.specs.{Prelude.{◌≡◌, ◌<◌, ◌≤◌, ◌⊎◌, ℕ, true, List, Option, Some, None}, List.list_any, Str.bytes_eq}
use Rattle.spl_circuit.specs.Nodes.{CircuitId}
use Rattle.spl_cell_rules.specs.Cells.{Bound, Held}
use Rattle.spl_audit.specs.{Clashes.{ClashAt, DifferAt, IsBoundClash, Keeper, kind_number}, declared.clash.{Clash.Clash, Kind.Kind}}

-- the first place at which two lists have different values, if there is one
abbrev pub IsFirstDifference : {A : Type 0} → List A → List A → Option ℕ → Type 0
IsFirstDifference xs ys None = (place : ℕ) → DifferAt xs ys place → ⊥
IsFirstDifference xs ys (Some n) = DifferAt xs ys n × ((place : ℕ) → DifferAt xs ys place → n ≤ place)

-- the first kind and place at which two cells clash, if they do
abbrev pub IsFirstClash : Bound → Bound → Option (Kind × ℕ) → Type 0
IsFirstClash h k None = (kind : Kind) (place : ℕ) → ClashAt kind h k place → ⊥
IsFirstClash h k (Some x) =
    ClashAt x.0 h k x.1
    × ((kind : Kind) (place : ℕ) → ClashAt kind h k place → (kind_number x.0 < kind_number kind) ⊎ ((x.0 ≡ kind) × (x.1 ≤ place)))

-- a clash of two cells of a circuit at nodes of these positions
pub record IsCellClash (c : CircuitId) (i j : ℕ) (h k : Bound) (s : Clash) : Type 0 where
  pub circuit : s.circuit ≡ c
  pub first : s.first ≡ i
  pub second : s.second ≡ j
  pub generation : h.definition.generation ≡ s.generation
  pub other_generation : k.definition.generation ≡ s.generation
  pub clash : ClashAt s.kind h k s.place

-- a clash of two nodes in a circuit
pub record IsClashIn (c : CircuitId) (i j : ℕ) (n m : Keeper) (s : Clash) : Type 0 where
  pub one : Bound
  pub other : Bound
  pub first : n.at c ≡ Held one
  pub second : m.at c ≡ Held other
  pub cell : IsCellClash c i j one other s

-- a clash of two nodes in one of these circuits
pub record IsPairClash (cs : List CircuitId) (i j : ℕ) (n m : Keeper) (s : Clash) : Type 0 where
  pub clash : IsClashIn s.circuit i j n m s
  pub among : list_any (bytes_eq s.circuit) cs ≡ true

-- a clash of the node at this position with one below a position
pub record IsClashOf (ns : List Keeper) (i below : ℕ) (s : Clash) : Type 0 where
  pub clash : IsBoundClash ns s
  pub first : s.first ≡ i
  pub second : s.second < below

-- a clash whose first node is below a position
pub record IsClashBelow (ns : List Keeper) (below : ℕ) (s : Clash) : Type 0 where
  pub clash : IsBoundClash ns s
  pub first : s.first < below

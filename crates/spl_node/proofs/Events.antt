-- What was handed over for an event.
use Rattle.std.{specs.{Prelude.IsErrOf, Map.keys_of, List.Sorted.IsStrictlySortedBy}, proofs.Common.{◌≡◌, ℕ, Bool, true, false, List, [], ◌∷◌, ◌++◌, ◌||◌}}
use Rattle.std.proofs.Common.{Option, Some, None, IfSome, Ok, Err, refl, sym, ◌∙◌, ap, subst}
use Rattle.spl_circuit.specs.Nodes.{NodeId, CircuitId}
use Rattle.spl_wire.specs.{Grouping.record_of, declared.{change.Change.Change, event.Event.Event}}
use Rattle.spl_cell_rules.specs.{Cells.{Cell, site_at}, Changes.stopped_cell, Plans.plan_of}
use Rattle.spl_edge.specs.Devices.{Image}
use Rattle.spl_journal.specs.declared.form.JournalFault.{JournalFault, TheVariants.{Disk, NoMemory}}
use Rattle.spl_snapshot.{proofs.Keeps.both_if, specs.{Counting.IfBoth, Pairs.PairStands}}
use Rattle.spl_node.specs.{Done.{IsGiven, record_of_changes}, Kept.{CellsView, AreOwn, cell_at, cells_after, packed_node}, Records.{is_record, record_in}}
use Rattle.spl_node.specs.{Records.{record_bytes, recorded_cell}, Stands.{Make, StandFor, NodeStands, here_of, circuit_cell}, Stopping.has_changes}
use Rattle.spl_node.{proofs.{Maps.order, Packs.made_again, Standing.{more_made, stand_same}}, specs.declared.{done.Done.Done, node.Node.Node}}

-- neither
pub or_neither : (a b y : Bool) → (a || b) ≡ false → y ≡ false → (a || y) ≡ false
or_neither true b y h is = cc
or_neither false b y h is = is

-- the error of a call, handed on by another
pub same_error : {A B E : Type 0} {x y : E} → IsErrOf {T = A} (Err x) y → IsErrOf {T = B} (Err x) y
same_error {x = x} {y = y} h = let is : x ≡ y = cc in ap Err is

pub no_error : {A E : Type 0} {x : A} {y : E} → IsErrOf (Ok x) y → ⊥
no_error h = cc

pub disk_only : {A : Type 0} (f : JournalFault) → f ≡ Disk → IsErrOf {T = A} (Err f) NoMemory → ⊥
disk_only f is none = cc

-- ---- what an event gave

none_in : (c : CircuitId) (xs : List Change) → None ≡ record_of_changes c xs → xs ≡ []
none_in c [] h = refl
none_in c (x ∷ xs) h = cc

some_in : (c : CircuitId) (xs : List Change) (bytes : List ℕ) → Some bytes ≡ record_of_changes c xs → bytes ≡ record_bytes (record_of c xs)
some_in c [] bytes h = cc
some_in c (x ∷ xs) bytes h = cc

some_changes : (c : CircuitId) (xs : List Change) (bytes : List ℕ) → Some bytes ≡ record_of_changes c xs → true ≡ has_changes xs
some_changes c [] bytes h = cc
some_changes c (x ∷ xs) bytes h = refl

module _ (here : NodeId) (c : CircuitId) (before : CircuitId → Cell) (e : Event) (d : Done)
    (given : IsGiven (site_at here c) (before c) (plan_of (site_at here c) (before c) e) d) where
  pub none_changed : d.bytes ≡ None → (plan_of (site_at here c) (before c) e).changes ≡ []
  none_changed none = none_in c (plan_of (site_at here c) (before c) e).changes (sym none ∙ given.bytes_is)

  pub bytes_are_of : (bytes : List ℕ) → d.bytes ≡ Some bytes → bytes ≡ record_bytes (record_of c (plan_of (site_at here c) (before c) e).changes)
  bytes_are_of bytes some = some_in c (plan_of (site_at here c) (before c) e).changes bytes (sym some ∙ given.bytes_is)

  pub has_none : d.bytes ≡ None → false ≡ has_changes (plan_of (site_at here c) (before c) e).changes
  has_none none = sym (ap has_changes (none_changed none))

  pub has_some : (bytes : List ℕ) → d.bytes ≡ Some bytes → true ≡ has_changes (plan_of (site_at here c) (before c) e).changes
  has_some bytes some = some_changes c (plan_of (site_at here c) (before c) e).changes bytes (sym some ∙ given.bytes_is)

  pub more_kept : (bytes : List ℕ) → d.bytes ≡ Some bytes → (rs : List (List ℕ)) → Make here before rs
      → Make here (cells_after here before c e) (rs ++ bytes ∷ [])
  more_kept bytes some =
      more_made here c before e bytes
      (subst (λ (o : Option (List ℕ)). IfSome o
      (λ b. record_in b ≡ Some (record_of c (plan_of (site_at here c) (before c) e).changes))) some given.read) given.fits

-- the cells after an event pack into records that make them
pub again_made : (here : NodeId) (after : CircuitId → Cell) (v : CellsView) → v.here ≡ here → ((c : CircuitId) → cell_at v.entries c ≡ after c)
    → IsStrictlySortedBy order (keys_of v.entries) → AreOwn v.here v.entries → Make here after (packed_node v.entries)
again_made here after v same cells ordered own c =
    subst (λ (n : NodeId). recorded_cell n c (packed_node v.entries) ≡ stopped_cell (cell_at v.entries c)) same (made_again v.here c v.entries ordered own)
    ∙ ap stopped_cell (cells c)

-- ---- the node after it

-- the same cells, reported otherwise
pub stand_like : (here other : NodeId) (cells like : CircuitId → Cell) (c d : List ℕ) → other ≡ here → ((i : CircuitId) → like i ≡ cells i)
    → StandFor here cells c d → StandFor other like c d
stand_like here other cells like c d same all stands =
    subst (λ (n : NodeId). StandFor n like c d) (sym same) (stand_same here cells like c d (λ i. ap stopped_cell (sym (all i))) stands)

pub node_stands : (m : Node) (here : NodeId) (before after : CircuitId → Cell) (o p x y : Option Image) → here_of m ≡ here
    → ((c : CircuitId) → circuit_cell m c ≡ after c) → PairStands is_record m.pairing x y
    → IfBoth o p (λ i j. StandFor here before i.bytes j.bytes → IfBoth x y (λ k l. StandFor here after k.bytes l.bytes))
    → IfBoth o p (λ i j. StandFor here before i.bytes j.bytes → NodeStands m x y)
node_stands m here before after o p x y same cells pair left =
    both_if o p (λ i j. StandFor here before i.bytes j.bytes → IfBoth x y (λ k l. StandFor here after k.bytes l.bytes))
    (λ i j. StandFor here before i.bytes j.bytes → NodeStands m x y) left
    (λ i j h stands. record {
      pair = pair;
      cells = both_if x y (λ k l. StandFor here after k.bytes l.bytes) (λ k l. StandFor (here_of m) (circuit_cell m) k.bytes l.bytes) (h stands)
          (λ k l. stand_like here (here_of m) after (circuit_cell m) k.bytes l.bytes same cells);
    })

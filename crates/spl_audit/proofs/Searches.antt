-- The least clash of more and more circuits and nodes.
use Rattle.std.{specs.{Prelude.{slice_get, nat_lt}, List.list_any, Option.option_map, Str.bytes_eq}, proofs.Common.{◌≡◌, ℕ, ◌+◌, ◌<◌, ◌≤◌, ◌⊎◌, inl, inr}}
use Rattle.std.proofs.Common.{⊎_elim, Bool, true, false, ◌||◌, List, [], ◌∷◌, ◌++◌, Option, Some, None, length, take, get_or, refl, sym, ap, subst, ◌∙◌}
use Rattle.std.proofs.{Common.arith, lemmas.{Bool.{or_left, or_right}, List.{take_more, length-map, Folds.list_any-append}, Option.slice_get-map}}
use Rattle.std.proofs.lemmas.Option.{slice_get_within}
use Rattle.spl_agree.proofs.Tests.{bool_cases, or_cases, ltb_is, ltb_not}
use Rattle.spl_circuit.specs.{Nodes.CircuitId, Same.{node_is, node_same}}
use Rattle.spl_cell_rules.specs.Cells.{Bound, Cell, Empty, Held, Purged, is_bound}
use Rattle.spl_cell.specs.Views.{bound_in}
use Rattle.spl_node.specs.Kept.{CellsView, cell_at}
use Rattle.spl_audit.specs.{Clashes.{IsBoundAt, IsBoundClash, IsLeast, Keeper, lesser}, Keepers.{keeper_of, keepers}, Searching.{IsCellClash, IsClashBelow}}
use Rattle.spl_audit.{specs.{Searching.{IsClashIn, IsClashOf, IsPairClash}, declared.clash.Clash.Clash}, proofs.Least.{least_both, least_same}}

below_or_last : (a b : ℕ) → a < b + 1 → (a < b) ⊎ (a ≡ b)
below_or_last a b e = go (bool_cases (nat_lt a b))
  where
    go : (nat_lt a b ≡ true) ⊎ (nat_lt a b ≡ false) → (a < b) ⊎ (a ≡ b)
    go (inl h) = inl (ltb_is a b h)
    go (inr h) = let above = ltb_not a b h in inr (omega (arith, e, above))

-- ---- one circuit at two nodes

pub bound_is : (k : Cell) (h : Bound) → bound_in k ≡ Some h → k ≡ Held h
bound_is Empty h e = absurd cc
bound_is (Held g) h e = let same : g ≡ h = cc in ap Held same
bound_is (Purged old) h e = absurd cc

pub unbound : (k : Cell) (h : Bound) → bound_in k ≡ None → k ≡ Held h → ⊥
unbound k h none e = let some : bound_in k ≡ Some h = ap bound_in e in cc

same_bound : (k : Cell) (g h : Bound) → k ≡ Held g → k ≡ Held h → g ≡ h
same_bound k g h a b = let e : Held g ≡ Held h = sym a ∙ b in cc

pub in_cells : (c : CircuitId) (i j : ℕ) (n m : Keeper) (h k : Bound) (r : Option Clash) → n.at c ≡ Held h → m.at c ≡ Held k
    → IsLeast (IsCellClash c i j h k) r → IsLeast (IsClashIn c i j n m) r
in_cells c i j n m h k r one other least = least_same r to from least
  where
    to : (s : Clash) → IsCellClash c i j h k s → IsClashIn c i j n m s
    to s x = record { one = h; other = k; first = one; second = other; cell = x }

    from : (s : Clash) → IsClashIn c i j n m s → IsCellClash c i j h k s
    from s x =
        subst (λ (g : Bound). IsCellClash c i j g k s) (same_bound (n.at c) x.one h x.first one)
        (subst (λ (g : Bound). IsCellClash c i j x.one g s) (same_bound (m.at c) x.other k x.second other) x.cell)

-- ---- two nodes

pub none_yet : (i j : ℕ) (n m : Keeper) → IsLeast (IsPairClash [] i j n m) None
none_yet i j n m = λ t x. no x.among
  where
    no : false ≡ true → ⊥
    no e = cc

pub took : (xs : List CircuitId) (i : ℕ) (x : CircuitId) → i < length xs → x ≡ get_or xs i x → take (i + 1) xs ≡ take i xs ++ x ∷ []
took xs i x h e = take_more xs i x h ∙ ap (λ (y : CircuitId). take i xs ++ y ∷ []) (sym e)

pub with_circuit : (cs : List CircuitId) (c : CircuitId) (i j : ℕ) (n m : Keeper) (p q : Option Clash) → IsLeast (IsPairClash cs i j n m) p
    → IsLeast (IsClashIn c i j n m) q → IsLeast (IsPairClash (cs ++ c ∷ []) i j n m) (lesser p q)
with_circuit cs c i j n m p q h k = least_both p q parts one other h k
  where
    split : (x : CircuitId) → list_any (bytes_eq x) (cs ++ c ∷ []) ≡ (list_any (bytes_eq x) cs || (bytes_eq x c || false))
    split x = list_any-append (bytes_eq x) cs (c ∷ [])

    only : (b : Bool) → (b || false) ≡ true → b ≡ true
    only true e = refl
    only false e = e

    parts : (s : Clash) → IsPairClash (cs ++ c ∷ []) i j n m s → IsPairClash cs i j n m s ⊎ IsClashIn c i j n m s
    parts s x = ⊎_elim (λ (e : list_any (bytes_eq s.circuit) cs ≡ true). inl (record { clash = x.clash; among = e }))
        (λ (e : (bytes_eq s.circuit c || false) ≡ true). inr
        (subst (λ (d : CircuitId). IsClashIn d i j n m s) (node_is s.circuit c (only (bytes_eq s.circuit c) e)) x.clash))
        (or_cases (list_any (bytes_eq s.circuit) cs) (bytes_eq s.circuit c || false) (sym (split s.circuit) ∙ x.among))

    one : (s : Clash) → IsPairClash cs i j n m s → IsPairClash (cs ++ c ∷ []) i j n m s
    one s x = record { clash = x.clash; among = split s.circuit ∙ or_left (list_any (bytes_eq s.circuit) cs) (bytes_eq s.circuit c || false) x.among }

    other : (s : Clash) → IsClashIn c i j n m s → IsPairClash (cs ++ c ∷ []) i j n m s
    other s x = record {
      clash = subst (λ (d : CircuitId). IsClashIn d i j n m s) (sym x.cell.circuit) x;
      among = split s.circuit ∙ or_right (list_any (bytes_eq s.circuit) cs) (bytes_eq s.circuit c || false)
          (or_left (bytes_eq s.circuit c) false (ap (bytes_eq s.circuit) (sym x.cell.circuit) ∙ node_same s.circuit));
    }

-- ---- a node and those after it

keeper_at : (vs : List CellsView) (i : ℕ) (v : CellsView) → slice_get vs i ≡ Some v → slice_get (keepers vs) i ≡ Some (keeper_of v)
keeper_at vs i v e = slice_get-map keeper_of vs i ∙ ap (option_map keeper_of) e

same_node : (ns : List Keeper) (i j : ℕ) (n m : Keeper) → slice_get ns i ≡ Some n → slice_get ns j ≡ Some m → i ≡ j → n ≡ m
same_node ns i j n m a b e = let same : Some n ≡ Some m = sym a ∙ (ap (slice_get ns) e ∙ b) in cc

bound_there : (ns : List Keeper) (c : CircuitId) (g i j : ℕ) (h : Bound) (m : Keeper) → IsBoundAt ns c g i h → i ≡ j → slice_get ns j ≡ Some m → m.at c ≡ Held h
bound_there ns c g i j h m b e at = ap (λ (n : Keeper). n.at c) (sym (same_node ns i j b.node m b.there at e)) ∙ b.bound

pub second_within : (vs : List CellsView) (s : Clash) → IsBoundClash (keepers vs) s → s.second < length vs
second_within vs s x = subst (λ (n : ℕ). s.second < n) (length-map vs keeper_of) (slice_get_within (keepers vs) s.second x.second.node x.second.there)

pub first_within : (vs : List CellsView) (s : Clash) → IsBoundClash (keepers vs) s → s.first < length vs
first_within vs s x = subst (λ (n : ℕ). s.first < n) (length-map vs keeper_of) (slice_get_within (keepers vs) s.first x.first.node x.first.there)

pub none_after : (ns : List Keeper) (i : ℕ) → IsLeast (IsClashOf ns i (i + 1)) None
none_after ns i = λ t x. never t.first t.second i x.first x.second x.clash.ordered
  where
    never : (a b i : ℕ) → a ≡ i → b < i + 1 → a < b → ⊥
    never a b i e f g = absurd (omega (arith, e, f, g))

module _ (vs : List CellsView) (cs : List CircuitId) (i j : ℕ) (v w : CellsView) (at : slice_get vs i ≡ Some v) (there : slice_get vs j ≡ Some w)
    (ordered : i < j) (bound : (c : CircuitId) → list_any (bytes_eq c) cs ≡ is_bound (cell_at v.entries c)) where
  to_pair : (s : Clash) → IsBoundClash (keepers vs) s → s.first ≡ i → s.second ≡ j → IsPairClash cs i j (keeper_of v) (keeper_of w) s
  to_pair s x a b =
      let one : cell_at v.entries s.circuit ≡ Held x.one =
      bound_there (keepers vs) s.circuit s.generation s.first i x.one (keeper_of v) x.first a (keeper_at vs i v at) in
      let other : cell_at w.entries s.circuit ≡ Held x.other =
      bound_there (keepers vs) s.circuit s.generation s.second j x.other (keeper_of w) x.second b (keeper_at vs j w there) in
      record {
        clash = record {
          one = x.one;
          other = x.other;
          first = one;
          second = other;
          cell = record { circuit = refl; first = a; second = b; generation = x.first.generation; other_generation = x.second.generation; clash = x.clash };
        };
        among = bound s.circuit ∙ ap is_bound one;
      }

  from_pair : (s : Clash) → IsPairClash cs i j (keeper_of v) (keeper_of w) s → IsClashOf (keepers vs) i (j + 1) s
  from_pair s x =
      let cell = x.clash.cell in
      let second : s.second ≡ j = cell.second in
      let first : s.first ≡ i = cell.first in
      record {
        clash = record {
          one = x.clash.one;
          other = x.clash.other;
          first = record {
            node =
                keeper_of v;
            there = ap (slice_get (keepers vs)) first ∙ keeper_at vs i v at;
            bound = x.clash.first;
            generation = cell.generation;
          };
          second = record {
            node =
                keeper_of w;
            there = ap (slice_get (keepers vs)) second ∙ keeper_at vs j w there;
            bound = x.clash.second;
            generation = cell.other_generation;
          };
          ordered = omega (arith, first, second, ordered);
          clash = cell.clash;
        };
        first = first;
        second = omega (arith, second);
      }

  pub with_node : (p q : Option Clash) → IsLeast (IsClashOf (keepers vs) i j) p → IsLeast (IsPairClash cs i j (keeper_of v) (keeper_of w)) q
      → IsLeast (IsClashOf (keepers vs) i (j + 1)) (lesser p q)
  with_node p q h k = least_both p q parts one from_pair h k
    where
      parts : (s : Clash) → IsClashOf (keepers vs) i (j + 1) s → IsClashOf (keepers vs) i j s ⊎ IsPairClash cs i j (keeper_of v) (keeper_of w) s
      parts s x =
          ⊎_elim (λ (e : s.second < j). inl (record { clash = x.clash; first = x.first; second = e }))
          (λ (e : s.second ≡ j). inr (to_pair s x.clash x.first e)) (below_or_last s.second j x.second)

      one : (s : Clash) → IsClashOf (keepers vs) i j s → IsClashOf (keepers vs) i (j + 1) s
      one s x = let second = x.second in record { clash = x.clash; first = x.first; second = omega (arith, second) }

pub to_the_end : (vs : List CellsView) (i n : ℕ) (p : Option Clash) → length vs ≤ n → IsLeast (IsClashOf (keepers vs) i n) p
    → IsLeast (IsClashOf (keepers vs) i (length vs)) p
to_the_end vs i n p past =
    least_same p (λ s x. record { clash = x.clash; first = x.first; second = second_within vs s x.clash })
    (λ s x. let second = x.second in record { clash = x.clash; first = x.first; second = omega (arith, second, past) })

-- ---- all nodes

pub none_below : (ns : List Keeper) → IsLeast (IsClashBelow ns 0) None
none_below ns = λ t x. let first = x.first in absurd (omega (arith, first))

pub with_first : (vs : List CellsView) (i : ℕ) (p q : Option Clash) → IsLeast (IsClashBelow (keepers vs) i) p
    → IsLeast (IsClashOf (keepers vs) i (length vs)) q → IsLeast (IsClashBelow (keepers vs) (i + 1)) (lesser p q)
with_first vs i p q h k = least_both p q parts one other h k
  where
    parts : (s : Clash) → IsClashBelow (keepers vs) (i + 1) s → IsClashBelow (keepers vs) i s ⊎ IsClashOf (keepers vs) i (length vs) s
    parts s x =
        ⊎_elim (λ (e : s.first < i). inl (record { clash = x.clash; first = e }))
        (λ (e : s.first ≡ i). inr (record { clash = x.clash; first = e; second = second_within vs s x.clash })) (below_or_last s.first i x.first)

    one : (s : Clash) → IsClashBelow (keepers vs) i s → IsClashBelow (keepers vs) (i + 1) s
    one s x = let first = x.first in record { clash = x.clash; first = omega (arith, first) }

    other : (s : Clash) → IsClashOf (keepers vs) i (length vs) s → IsClashBelow (keepers vs) (i + 1) s
    other s x = let first = x.first in record { clash = x.clash; first = omega (arith, first) }

pub all_of_them : (vs : List CellsView) (n : ℕ) (p : Option Clash) → length vs ≤ n → IsLeast (IsClashBelow (keepers vs) n) p
    → IsLeast (IsBoundClash (keepers vs)) p
all_of_them vs n p past = least_same p (λ s x. x.clash) (λ s x. let within = first_within vs s x in record { clash = x; first = omega (arith, within, past) })

-- Entries of a state by their addresses.
use Rattle.std.specs.{Prelude.{Some, filter, map, nat_eq}, Map.lookup, BTreeMap.is_at, List.starts_with, Ordering.{is_lt, is_eq, ordering_reverse}}
use Rattle.std.specs.{Cmp.tied_itself, FinMap.Entries.{below_all, is_sorted}, declared.cmp.Ordering.{Ordering, TheVariants.{Less, Equal, Greater}}}
use Rattle.std.proofs.Common.{◌≡◌, ◌⊎◌, ℕ, suc, ◌+◌, ◌<◌, true, false, IsTrue, List, [], ◌∷◌, ◌++◌, length, take, get_or, refl, sym, ap, ◌∙◌, inl, inr, zero}
use Rattle.std.proofs.{Common.{add-one, arith}, lemmas.Cmp.nat_list_cmp_total}
use Rattle.spl_agree.proofs.Tests.{bool_cases, and_left, and_right}
use Rattle.spl_state.specs.{Entries.{Entry, address_cmp, covered}, declared.address.Address.Address}
use Rattle.spl_cell_rules.specs.Batches.{entry_told, has_prefix}
use Rattle.spl_cell.specs.Asks.{told_at}

-- each of these entries is found at its address
abbrev AreFound : List Entry → List Entry → Type 0
AreFound es [] = Unit {0}
AreFound es (f ∷ fs) = (lookup (is_at (address_cmp f.0)) es ≡ Some f.1) × AreFound es fs

at_itself : (a : Address) → is_at (address_cmp a) a ≡ true
at_itself a = ap is_eq (tied_itself nat_list_cmp_total a.0)

apart : (r : Ordering) → is_lt r ≡ true → is_eq (ordering_reverse r) ≡ false
apart Less h = refl
apart Equal h = absurd cc
apart Greater h = absurd cc

at_another : (a b : Address) → is_lt (address_cmp a b) ≡ true → is_at (address_cmp b) a ≡ false
at_another a b h = ap is_eq (nat_list_cmp_total.antisymm b.0 a.0) ∙ apart (address_cmp a b) h

found_after : (e : Entry) (es fs : List Entry) → below_all address_cmp e.0 fs ≡ true → AreFound es fs → AreFound (e ∷ es) fs
found_after e es [] h a = tt
found_after e es (f ∷ fs) h a = (
  rw (at_another e.0 f.0 (and_left (is_lt (address_cmp e.0 f.0)) (below_all address_cmp e.0 fs) h)) a.0,
  found_after e es fs (and_right (is_lt (address_cmp e.0 f.0)) (below_all address_cmp e.0 fs) h) a.1,
)

all_found : (es : List Entry) → is_sorted address_cmp es ≡ true → AreFound es es
all_found [] h = tt
all_found (e ∷ es) h = (
  rw (at_itself e.0) refl,
  found_after e es es (and_left (below_all address_cmp e.0 es) (is_sorted address_cmp es) h)
      (all_found es (and_right (below_all address_cmp e.0 es) (is_sorted address_cmp es) h)),
)

listed_among : (p : List ℕ) (es fs : List Entry) → AreFound es fs → map (told_at es) (covered p fs) ≡ map entry_told (filter (has_prefix p) fs)
listed_among p es [] a = refl
listed_among p es (f ∷ fs) a = go (bool_cases (starts_with nat_eq f.0.0 p)) (listed_among p es fs a.1)
  where
    go : (starts_with nat_eq f.0.0 p ≡ true) ⊎ (starts_with nat_eq f.0.0 p ≡ false)
        → map (told_at es) (covered p fs) ≡ map entry_told (filter (has_prefix p) fs)
        → map (told_at es) (covered p (f ∷ fs)) ≡ map entry_told (filter (has_prefix p) (f ∷ fs))
    go (inl e) h = rw (e, a.0) (ap (λ ts. entry_told f ∷ ts) h)
    go (inr e) h = rw e h

-- the entries at the addresses under a prefix are those under it
pub listed_by_address : (p : List ℕ) (es : List Entry) → IsTrue (is_sorted address_cmp es)
    → map (told_at es) (covered p es) ≡ map entry_told (filter (has_prefix p) es)
listed_by_address p es h = listed_among p es es (all_found es h)

one_more : {X Y : Type 0} (f : X → Y) (xs : List X) (i : ℕ) (x : X) → i < length xs → x ≡ get_or xs i x
    → map f (take (suc i) xs) ≡ map f (take i xs) ++ f x ∷ []
one_more f [] i x l e = absurd (omega (arith, l))
one_more f (y ∷ ys) zero x l e = ap (λ z. f z ∷ []) (sym e)
one_more f (y ∷ ys) (suc i) x l e = ap (λ zs. f y ∷ zs) (one_more f ys i x (omega (arith, l)) e)

-- one address more
pub told_more : (es : List Entry) (xs : List Address) (i : ℕ) (x : Address) → i < length xs → x ≡ get_or xs i x
    → map (told_at es) (take (i + 1) xs) ≡ map (told_at es) (take i xs) ++ told_at es x ∷ []
told_more es xs i x l e = rw add-one (one_more (told_at es) xs i x l e)

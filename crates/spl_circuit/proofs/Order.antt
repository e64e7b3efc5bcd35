-- The order of ids by their bytes.
use Rattle.std.specs.{Ordering.{nat_cmp, is_lt, is_eq, ordering_reverse}, Cmp.{Lexicographic.slice_cmp, tied_itself}, declared.cmp.Ordering.Ordering}
use Rattle.std.{specs.declared.cmp.Ordering.TheVariants.{Less, Equal, Greater}, proofs.Common.{◌≡◌, ℕ, Bool, true, false, true≢false, List, refl, sym, ap}}
use Rattle.std.proofs.{Common.◌∙◌, lemmas.{Cmp.nat_list_cmp_total, Map.Text.is_eq-slice_cmp, Slice.Eq.bytes_eq-Decides}}
use Rattle.spl_circuit.specs.Nodes.{is_below}

less : (r : Ordering) → is_lt r ≡ true → r ≡ Less
less Less e = refl
less Equal e = absurd (true≢false (sym e))
less Greater e = absurd (true≢false (sym e))

turned : (r : Ordering) → is_lt r ≡ true → is_lt (ordering_reverse r) ≡ false
turned Less e = refl
turned Equal e = absurd (true≢false (sym e))
turned Greater e = absurd (true≢false (sym e))

equal : (r : Ordering) → is_lt r ≡ false → is_lt (ordering_reverse r) ≡ false → r ≡ Equal
equal Less e f = absurd (true≢false e)
equal Equal e f = refl
equal Greater e f = absurd (true≢false f)

pub below_trans : (x y z : List ℕ) → is_below x y ≡ true → is_below y z ≡ true → is_below x z ≡ true
below_trans x y z p q = ap is_lt (nat_list_cmp_total.trans x y z (less (slice_cmp nat_cmp x y) p) (less (slice_cmp nat_cmp y z) q))

pub below_turned : (x y : List ℕ) → is_below x y ≡ true → is_below y x ≡ false
below_turned x y p = ap is_lt (nat_list_cmp_total.antisymm y x) ∙ turned (slice_cmp nat_cmp x y) p

tie : (x y : List ℕ) → is_below x y ≡ false → is_below y x ≡ false → slice_cmp nat_cmp x y ≡ Equal
tie x y p q = equal (slice_cmp nat_cmp x y) p (ap is_lt (sym (nat_list_cmp_total.antisymm y x)) ∙ q)

-- what is on neither side is the same
pub same_from_ties : (x y : List ℕ) → is_below x y ≡ false → is_below y x ≡ false → x ≡ y
same_from_ties x y p q = (bytes_eq-Decides x y).0 (sym (is_eq-slice_cmp x y) ∙ ap is_eq (tie x y p q))

first_or_tie : (x y z : List ℕ) (b : Bool) → is_below y z ≡ b → is_below z y ≡ false → is_below z x ≡ true → is_below y x ≡ true
first_or_tie x y z true e p q = below_trans y z x e q
first_or_tie x y z false e p q = ap is_lt (nat_list_cmp_total.congr y z x (tie y z e p) ∙ less (slice_cmp nat_cmp z x) q)

-- y is no higher than z, which is below x
pub below_from_not : (x y z : List ℕ) → is_below z y ≡ false → is_below z x ≡ true → is_below y x ≡ true
below_from_not x y z = first_or_tie x y z (is_below y z) refl

pub not_below_itself : (x : List ℕ) → is_below x x ≡ false
not_below_itself x = ap is_lt (tied_itself nat_list_cmp_total x)

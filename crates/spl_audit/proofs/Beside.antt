-- Two lists side by side, and nodes that stand in both.
use Rattle.std.{specs.{Prelude.{Some, slice_get}, Str.bytes_eq}, proofs.Common.{◌≡◌, ◌↔◌, ℕ, zero, suc, ◌<◌, ◌≤◌, min, Bool, true, false, List, [], ◌∷◌}}
use Rattle.std.proofs.{Common.{length, get_or, refl, sym, ◌∙◌, ap, ◌⊎◌, inl, inr, arith}, lemmas.Option.{slice_get_read, slice_get_within}}
use Rattle.std.proofs.lemmas.{Option.get_or_from_slice_get, Bool.{or_left, or_right}}
use Rattle.spl_agree.proofs.Tests.{or_cases}
use Rattle.spl_circuit.specs.{Nodes.{NodeId, has_node}, Same.{node_is, node_same}}
use Rattle.spl_audit.specs.Clashes.{DifferAt}

-- ---- values at a place

pub no_difference : {A : Type 0} (xs ys : List A) (k : ℕ) (x y : A) → k < length xs → k < length ys → x ≡ get_or xs k x → y ≡ get_or ys k y → x ≡ y
    → DifferAt xs ys k → ⊥
no_difference xs ys k x y m n p q e d =
    let a : Some d.one ≡ Some x = sym d.first ∙ slice_get_read xs (length xs) k x refl m p in
    let b : Some d.other ≡ Some y = sym d.second ∙ slice_get_read ys (length ys) k y refl n q in
    let one : d.one ≡ x = cc in
    let other : d.other ≡ y = cc in
    d.differ (one ∙ (e ∙ sym other))

pub a_difference : {A : Type 0} (xs ys : List A) (k : ℕ) (x y : A) → k < length xs → k < length ys → x ≡ get_or xs k x → y ≡ get_or ys k y → (x ≡ y → ⊥)
    → DifferAt xs ys k
a_difference xs ys k x y m n p q differ = record {
  one = x;
  other = y;
  first = slice_get_read xs (length xs) k x refl m p;
  second = slice_get_read ys (length ys) k y refl n q;
  differ = differ;
}

pub difference_within : {A : Type 0} (xs ys : List A) (k : ℕ) → DifferAt xs ys k → k < min (length xs) (length ys)
difference_within xs ys k d =
    let m = slice_get_within xs k d.one d.first in
    let n = slice_get_within ys k d.other d.second in
    omega (arith, m, n)

pub not_before : (n k : ℕ) → (k < n → ⊥) → n ≤ k
not_before n k h = omega (arith, h)

-- ---- nodes

has_here : (ns : List NodeId) (i : ℕ) (n : NodeId) → slice_get ns i ≡ Some n → has_node ns n ≡ true
has_here [] i n at = absurd cc
has_here (m ∷ ms) zero n at = let same : m ≡ n = cc in or_left (bytes_eq m n) (has_node ms n) (ap (λ (x : NodeId). bytes_eq x n) same ∙ node_same n)
has_here (m ∷ ms) (suc i) n at = or_right (bytes_eq m n) (has_node ms n) (has_here ms i n at)

pub has_at : (ns : List NodeId) (i : ℕ) (n : NodeId) → i < length ns → n ≡ get_or ns i n → has_node ns n ≡ true
has_at ns i n h e = has_here ns i n (slice_get_read ns (length ns) i n refl h e)

pub lacks_at : (items ms : List NodeId) (i : ℕ) (n : NodeId) → i < length items → n ≡ get_or items i n → has_node ms n ≡ false
    → has_node ms (get_or items i []) ≡ false
lacks_at items ms i n h e lacks = ap (has_node ms) (get_or_from_slice_get items i n [] (slice_get_read items (length items) i n refl h e)) ∙ lacks

pub none_shared : (xs ys : List NodeId) (n : NodeId) → ((k : ℕ) → k < length xs → has_node ys (get_or xs k []) ≡ false) → has_node xs n ≡ true
    → has_node ys n ≡ true → ⊥
none_shared [] ys n never a b = cc
none_shared (x ∷ xs) ys n never a b = go (or_cases (bytes_eq x n) (has_node xs n) a) (λ q. none_shared xs ys n (λ k h. never (suc k) (omega (arith, h))) q b)
  where
    go : (bytes_eq x n ≡ true) ⊎ (has_node xs n ≡ true) → (has_node xs n ≡ true → ⊥) → ⊥
    go (inl q) later = let e = ap (has_node ys) (node_is x n q) in let no : has_node ys x ≡ false = never 0 (omega arith) in cc
    go (inr q) later = later q

-- ---- tests

pub same_test : {P : Type 0} (b c : Bool) → (b ≡ true) ↔ P → (c ≡ true) ↔ P → b ≡ c
same_test true c h k = sym (k.1 (h.0 refl))
same_test false true h k = h.1 (k.0 refl)
same_test false false h k = refl

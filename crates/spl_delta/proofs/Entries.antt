-- What a map by ids has, after something was written to it.
use Rattle.std.specs.{Prelude.{IfOk, OnErr}, Ordering.nat_cmp, Cmp.Lexicographic.slice_cmp, BTreeMap.{BTreeMap, UpdatesBy, is_at, get}, Map.set_value}
use Rattle.std.{specs.Str.bytes_eq, proofs.{Common.{◌≡◌, ℕ, false, List, Option, Result, Ok, Err, Some, sym, ◌∙◌}, lemmas.Map.Steps.set_value_same}}
use Rattle.std.proofs.lemmas.Map.Text.{is_eq-slice_cmp}

-- another key has what it had
pub others_stay : {X : Type 0} (m n : BTreeMap (List ℕ) X) (k : List ℕ) (w : Option X) → UpdatesBy (slice_cmp nat_cmp) (slice_cmp nat_cmp k) m n w
    → (c : List ℕ) → bytes_eq k c ≡ false → get (slice_cmp nat_cmp) n c ≡ get (slice_cmp nat_cmp) m c
others_stay m n k w u c h = u.2 c (is_eq-slice_cmp k c ∙ h)

-- what was there is written back
pub written_back : {X : Type 0} (m n : BTreeMap (List ℕ) X) (k : List ℕ) (w : X) → Some w ≡ get (slice_cmp nat_cmp) m k
    → n.entries ≡ set_value (is_at (slice_cmp nat_cmp k)) m.entries w → n.entries ≡ m.entries
written_back m n k w found e = e ∙ set_value_same (is_at (slice_cmp nat_cmp k)) m.entries w (sym found)

-- ---- results

pub when_ok : {A E : Type 0} {P Q : A → Type 0} (r : Result A E) → ((a : A) → P a → Q a) → IfOk r P → IfOk r Q
when_ok (Ok a) f p = f a p
when_ok (Err e) f p = p

pub at_err : {A E : Type 0} {P Q : Type 0} (r : Result A E) → (P → Q) → OnErr r P → OnErr r Q
at_err (Ok a) f p = p
at_err (Err e) f p = f p

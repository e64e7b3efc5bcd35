-- The order of clashes, and the least of those of two kinds.
use Rattle.std.{specs.{Prelude.nat_lt, Str.bytes_eq}, proofs.Common.{◌≡◌, ℕ, ◌<◌, ◌⊎◌, inl, inr, ⊎_elim, Bool, true, false, ◌&&◌, ◌||◌, ◌==◌, List, [], ◌∷◌}}
use Rattle.std.proofs.{Common.{Option, Some, None, length, refl, sym, ap, subst, ◌∙◌, eq-eqb, arith}, lemmas.Bool.{or_left, or_right}}
use Rattle.spl_agree.proofs.Tests.{bool_cases, or_cases, and_left, and_right, if_holds, eqb_is, ltb_is, ltb_not, lt_is}
use Rattle.spl_circuit.{specs.{Nodes.is_below, Same.{node_is, node_same}}, proofs.Order.{below_trans, same_from_ties}}
use Rattle.spl_audit.specs.{Clashes.{IsLeast, are_at_most, is_at_most, lesser, clash_numbers}, declared.clash.Clash.Clash}

-- ---- numbers

later : (m n : ℕ) (r : Bool) → m ≡ n → r ≡ true → (nat_lt m n || (m == n && r)) ≡ true
later m n r e h = or_right (nat_lt m n) (m == n && r) (both (m == n) r (eq-eqb m n e) h)
  where
    both : (a b : Bool) → a ≡ true → b ≡ true → (a && b) ≡ true
    both a b p q = cc

-- a number is below another, or the same and this holds
lower_cases : (m n : ℕ) (r : Bool) → (nat_lt m n || (m == n && r)) ≡ true → (m < n) ⊎ ((m ≡ n) × (r ≡ true))
lower_cases m n r h =
    ⊎_elim (λ (p : nat_lt m n ≡ true). inl (ltb_is m n p)) (λ (p : (m == n && r) ≡ true). inr (eqb_is m n (and_left (m == n) r p), and_right (m == n) r p))
    (or_cases (nat_lt m n) (m == n && r) h)

numbers_turned : (ms ns : List ℕ) → are_at_most ms ns ≡ false → are_at_most ns ms ≡ true
numbers_turned [] ns h = cc
numbers_turned (m ∷ ms) [] h = refl
numbers_turned (m ∷ ms) (n ∷ ns) h = go (bool_cases (nat_lt n m)) (numbers_turned ms ns)
  where
    or_no : (a b : Bool) → (a || b) ≡ false → (a ≡ false) × (b ≡ false)
    or_no true b q = cc
    or_no false b q = (refl, q)

    go : (nat_lt n m ≡ true) ⊎ (nat_lt n m ≡ false) → (are_at_most ms ns ≡ false → are_at_most ns ms ≡ true)
        → (nat_lt n m || (n == m && are_at_most ns ms)) ≡ true
    go (inl p) rest = or_left (nat_lt n m) (n == m && are_at_most ns ms) p
    go (inr p) rest =
        let parts = or_no (nat_lt m n) (m == n && are_at_most ms ns) h in
        let above = ltb_not m n parts.0 in
        let under = ltb_not n m p in
        let same : n ≡ m = omega (arith, above, under) in
        let no : are_at_most ms ns ≡ false = ap (λ (b : Bool). b && are_at_most ms ns) (sym (eq-eqb m n (sym same))) ∙ parts.1 in
        later n m (are_at_most ns ms) same (rest no)

numbers_joined : (ls ms ns : List ℕ) → length ls ≡ length ms → length ms ≡ length ns → are_at_most ls ms ≡ true → are_at_most ms ns ≡ true
    → are_at_most ls ns ≡ true
numbers_joined [] ms ns e f p q = refl
numbers_joined (l ∷ ls) [] ns e f p q = cc
numbers_joined (l ∷ ls) (m ∷ ms) [] e f p q = cc
numbers_joined (l ∷ ls) (m ∷ ms) (n ∷ ns) e f p q =
    go (lower_cases l m (are_at_most ls ms) p) (lower_cases m n (are_at_most ms ns) q) (numbers_joined ls ms ns (omega (arith, e)) (omega (arith, f)))
  where
    go : (l < m) ⊎ ((l ≡ m) × (are_at_most ls ms ≡ true)) → (m < n) ⊎ ((m ≡ n) × (are_at_most ms ns ≡ true))
        → (are_at_most ls ms ≡ true → are_at_most ms ns ≡ true → are_at_most ls ns ≡ true) → (nat_lt l n || (l == n && are_at_most ls ns)) ≡ true
    go (inl a) (inl b) rest = or_left (nat_lt l n) (l == n && are_at_most ls ns) (lt_is l n (omega (arith, a, b)))
    go (inl a) (inr b) rest = let s = b.0 in or_left (nat_lt l n) (l == n && are_at_most ls ns) (lt_is l n (omega (arith, a, s)))
    go (inr a) (inl b) rest = let s = a.0 in or_left (nat_lt l n) (l == n && are_at_most ls ns) (lt_is l n (omega (arith, s, b)))
    go (inr a) (inr b) rest = later l n (are_at_most ls ns) (a.0 ∙ b.0) (rest a.1 b.1)

-- ---- clashes

clash_cases : (s t : Clash) → is_at_most s t ≡ true
    → (is_below s.circuit t.circuit ≡ true) ⊎ ((s.circuit ≡ t.circuit) × (are_at_most (clash_numbers s) (clash_numbers t) ≡ true))
clash_cases s t h = ⊎_elim (λ (p : is_below s.circuit t.circuit ≡ true). inl p)
    (λ (p : (bytes_eq s.circuit t.circuit && are_at_most (clash_numbers s) (clash_numbers t)) ≡ true). inr (
      node_is s.circuit t.circuit (and_left (bytes_eq s.circuit t.circuit) (are_at_most (clash_numbers s) (clash_numbers t)) p),
      and_right (bytes_eq s.circuit t.circuit) (are_at_most (clash_numbers s) (clash_numbers t)) p,
    ))
    (or_cases (is_below s.circuit t.circuit) (bytes_eq s.circuit t.circuit && are_at_most (clash_numbers s) (clash_numbers t)) h)

pub at_most_here : (s t : Clash) → s.circuit ≡ t.circuit → are_at_most (clash_numbers s) (clash_numbers t) ≡ true → is_at_most s t ≡ true
at_most_here s t e h =
    or_right (is_below s.circuit t.circuit) (bytes_eq s.circuit t.circuit && are_at_most (clash_numbers s) (clash_numbers t))
    (both (bytes_eq s.circuit t.circuit) (are_at_most (clash_numbers s) (clash_numbers t)) (ap (bytes_eq s.circuit) (sym e) ∙ node_same s.circuit) h)
  where
    both : (a b : Bool) → a ≡ true → b ≡ true → (a && b) ≡ true
    both a b p q = cc

at_most_below : (s t : Clash) → is_below s.circuit t.circuit ≡ true → is_at_most s t ≡ true
at_most_below s t h = or_left (is_below s.circuit t.circuit) (bytes_eq s.circuit t.circuit && are_at_most (clash_numbers s) (clash_numbers t)) h

pub at_most_turned : (s t : Clash) → is_at_most s t ≡ false → is_at_most t s ≡ true
at_most_turned s t h = go (bool_cases (is_below s.circuit t.circuit)) (bool_cases (is_below t.circuit s.circuit))
  where
    no : {b : Bool} → b ≡ true → b ≡ false → ⊥
    no p q = cc

    go : (is_below s.circuit t.circuit ≡ true) ⊎ (is_below s.circuit t.circuit ≡ false)
        → (is_below t.circuit s.circuit ≡ true) ⊎ (is_below t.circuit s.circuit ≡ false) → is_at_most t s ≡ true
    go (inl p) q = absurd (no (at_most_below s t p) h)
    go (inr p) (inl q) = at_most_below t s q
    go (inr p) (inr q) =
        let same = same_from_ties s.circuit t.circuit p q in
        at_most_here t s (sym same)
        (numbers_turned (clash_numbers s) (clash_numbers t) (lacking (bool_cases (are_at_most (clash_numbers s) (clash_numbers t))) same))
      where
        lacking : (are_at_most (clash_numbers s) (clash_numbers t) ≡ true) ⊎ (are_at_most (clash_numbers s) (clash_numbers t) ≡ false)
            → s.circuit ≡ t.circuit → are_at_most (clash_numbers s) (clash_numbers t) ≡ false
        lacking (inl r) e = absurd (no (at_most_here s t e r) h)
        lacking (inr r) e = r

pub at_most_joined : (s t u : Clash) → is_at_most s t ≡ true → is_at_most t u ≡ true → is_at_most s u ≡ true
at_most_joined s t u p q = go (clash_cases s t p) (clash_cases t u q)
  where
    go : (is_below s.circuit t.circuit ≡ true) ⊎ ((s.circuit ≡ t.circuit) × (are_at_most (clash_numbers s) (clash_numbers t) ≡ true))
        → (is_below t.circuit u.circuit ≡ true) ⊎ ((t.circuit ≡ u.circuit) × (are_at_most (clash_numbers t) (clash_numbers u) ≡ true)) → is_at_most s u ≡ true
    go (inl a) (inl b) = at_most_below s u (below_trans s.circuit t.circuit u.circuit a b)
    go (inl a) (inr b) = at_most_below s u (subst (λ (x : List ℕ). is_below s.circuit x ≡ true) b.0 a)
    go (inr a) (inl b) = at_most_below s u (subst (λ (x : List ℕ). is_below x u.circuit ≡ true) (sym a.0) b)
    go (inr a) (inr b) = at_most_here s u (a.0 ∙ b.0) (numbers_joined (clash_numbers s) (clash_numbers t) (clash_numbers u) refl refl a.1 b.1)

-- ---- the least

pub least_both : {P Q R : Clash → Type 0} (p q : Option Clash) → ((s : Clash) → R s → P s ⊎ Q s) → ((s : Clash) → P s → R s) → ((s : Clash) → Q s → R s)
    → IsLeast P p → IsLeast Q q → IsLeast R (lesser p q)
least_both None None parts one other h k = λ t r. ⊎_elim (h t) (k t) (parts t r)
least_both None (Some b) parts one other h k = (other b k.0, λ t r. ⊎_elim (λ x. absurd (h t x)) (k.1 t) (parts t r))
least_both (Some a) None parts one other h k = (one a h.0, λ t r. ⊎_elim (h.1 t) (λ x. absurd (k t x)) (parts t r))
least_both {P} {Q} {R} (Some a) (Some b) parts one other h k = if_holds (λ (o : Option Clash). IsLeast R o) (is_at_most a b) (Some a) (Some b)
    (λ e. (one a h.0, λ t r. ⊎_elim (h.1 t) (λ x. at_most_joined a b t e (k.1 t x)) (parts t r)))
    (λ e. (other b k.0, λ t r. ⊎_elim (λ x. at_most_joined b a t (at_most_turned a b e) (h.1 t x)) (k.1 t) (parts t r)))

pub least_same : {P Q : Clash → Type 0} (p : Option Clash) → ((s : Clash) → P s → Q s) → ((s : Clash) → Q s → P s) → IsLeast P p → IsLeast Q p
least_same None to from h = λ t q. h t (from t q)
least_same (Some a) to from h = (to a h.0, λ t q. h.1 t (from t q))

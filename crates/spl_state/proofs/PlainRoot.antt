-- The plain root is the one over filtered lists.
use Rattle.std.proofs.Common.{◌≡◌, ℕ, zero, suc, ◌+◌, ◌==◌, ◌&&◌, Bool, true, false, cond, List, [], ◌∷◌, ◌++◌, length, filter, replicate, refl, sym, ap, ◌∙◌}
use Rattle.std.proofs.{Common.{arith, zero-add, add-zero, length-append}, Math.Bool.{and-true, and_assoc}}
use Rattle.sha2.specs.Sha256.{sha256}
use Rattle.spl_state.specs.{Entries.Entry, Root.{digit_of, agrees, under, by_count, joined, node_at}, Levels.{branch, children, node_of}}

agrees_last : (k : ℕ) (p : List ℕ) (d : ℕ) (a : List ℕ) → agrees k (p ++ d ∷ []) a ≡ (agrees k p a && (digit_of a (k + length p) == d))
agrees_last k [] d a = and-true _ ∙ ap (λ i. digit_of a i == d) (sym (add-zero k))
agrees_last k (e ∷ p) d a =
    let at : k + 1 + length p ≡ k + length (e ∷ p) = omega arith in
    ap (λ b. (digit_of a k == e) && b) (agrees_last (k + 1) p d a ∙ ap (λ i. agrees (k + 1) p a && (digit_of a i == d)) at)
    ∙ sym (and_assoc (digit_of a k == e) (agrees (k + 1) p a) (digit_of a (k + length (e ∷ p)) == d))

filter_step : (a b : Bool) (e : Entry) (xs ys : List Entry) (g : Entry → Bool) → g e ≡ b → xs ≡ filter g ys
    → cond (a && b) (e ∷ xs) xs ≡ filter g (cond a (e ∷ ys) ys)
filter_step true b e xs ys g ge h = ap (λ c. cond c (e ∷ xs) xs) (sym ge) ∙ ap (λ r. cond (g e) (e ∷ r) r) h
filter_step false b e xs ys g ge h = h

pub filter_both : (f g : Entry → Bool) (es : List Entry) → filter (λ e. f e && g e) es ≡ filter g (filter f es)
filter_both f g [] = refl
filter_both f g (e ∷ es) = filter_step (f e) (g e) e _ _ g refl (filter_both f g es)

pub filter_same : (f g : Entry → Bool) → ((e : Entry) → f e ≡ g e) → (es : List Entry) → filter f es ≡ filter g es
filter_same f g same [] = refl
filter_same f g same (e ∷ es) = ap (λ b. cond b (e ∷ filter f es) (filter f es)) (same e) ∙ ap (λ r. cond (g e) (e ∷ r) r) (filter_same f g same es)

under_last : (p : List ℕ) (d : ℕ) (es : List Entry) → under (p ++ d ∷ []) es ≡ branch (length p) d (under p es)
under_last p d es =
    filter_same _ (λ e. agrees 0 p e.0.0 && (digit_of e.0.0 (length p) == d))
    (λ e. agrees_last 0 p d e.0.0 ∙ ap (λ i. agrees 0 p e.0.0 && (digit_of e.0.0 i == d)) (zero-add (length p))) es
    ∙ filter_both (λ e. agrees 0 p e.0.0) (λ e. digit_of e.0.0 (length p) == d) es

under_none : (es : List Entry) → under [] es ≡ es
under_none [] = refl
under_none (e ∷ es) = ap (λ r. e ∷ r) (under_none es)

pub joined_children : (part : ℕ → List ℕ) (node : List Entry → List ℕ) (k : ℕ) (es : List Entry) → ((d : ℕ) → part d ≡ node (branch k d es)) → (m : ℕ)
    → joined part m ≡ children node k es m
unfolding joined children
joined_children part node k es same zero = refl
joined_children part node k es same (suc m) = ap (λ r. r ++ part m) (joined_children part node k es same m) ∙ ap (λ r. children node k es m ++ r) (same m)

by_count_zero : (k : ℕ) (es : List Entry) → by_count es (replicate 32 0) ≡ node_of 0 k es
unfolding node_of
by_count_zero k [] = refl
by_count_zero k (e ∷ []) = refl
by_count_zero k (e ∷ f ∷ es) = refl

by_count_more : (n k : ℕ) (es : List Entry) → by_count es (sha256 (1 ∷ children (node_of n (k + 1)) k es 16)) ≡ node_of (suc n) k es
unfolding node_of
by_count_more n k [] = refl
by_count_more n k (e ∷ []) = refl
by_count_more n k (e ∷ f ∷ es) = refl

pub node_at_is : (n : ℕ) (p : List ℕ) (es : List Entry) → node_at n p es ≡ node_of n (length p) (under p es)
unfolding node_at
node_at_is zero p es = by_count_zero (length p) (under p es)
node_at_is (suc n) p es =
    let part = λ (d : ℕ). node_at_is n (p ++ d ∷ []) es
    ∙ ap (λ k. node_of n k (under (p ++ d ∷ []) es)) (length-append p (d ∷ []))
    ∙ ap (node_of n (length p + 1)) (under_last p d es) in
    ap (λ r. by_count (under p es) (sha256 (1 ∷ r)))
    (joined_children (λ d. node_at n (p ++ d ∷ []) es) (node_of n (length p + 1)) (length p) (under p es) part 16)
    ∙ by_count_more n (length p) (under p es)

pub root_at_is : (es : List Entry) → node_at 70 [] es ≡ node_of 70 0 es
root_at_is es = node_at_is 70 [] es ∙ ap (node_of 70 0) (under_none es)

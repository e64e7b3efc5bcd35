-- One position more is one message more.
use Rattle.std.{specs.{Prelude.{◌==◌, if◌then◌else◌, Some}, List.filter, Int.bit_at}, proofs.Common.{◌≡◌, ◌⊎◌, ℕ, zero, suc, ◌+◌, ◌<◌, ◌≤◌, Bool, true}}
use Rattle.std.proofs.Common.{false, not, cond, eqb, List, [], ◌∷◌, ◌++◌, refl, sym, ap, ◌∙◌, inl, inr, add-one, append-nil, append_assoc, arith}
use Rattle.spl_agree.specs.{Member.{below_but, has, but, none_left}, Rows.{to_each, abort_each}, Fits.misses_more, declared.message.CommitMsg.CommitMsg}
use Rattle.spl_agree.{specs.declared.reason.Reason.Reason, proofs.Tests.{bool_cases, eqb_is, eqb_not, eqb_other, has-below_but, has-below_but-other}}
use Rattle.spl_agree.proofs.Tests.{and_left, and_right, not_true}
use Rattle.spl_agree.specs.declared.message.CommitMsg.TheVariants as msg
use Rattle.spl_coord.{specs.Positions.positions, proofs.Bits.{has-positions, has-filter}}

-- those of a set that are below a number
unfoldable pub prefix : ℕ → ℕ → List ℕ
prefix bits n = filter (λ i. bit_at bits i == 1) (below_but n 8)

pub filter-append : (p : ℕ → Bool) (xs ys : List ℕ) → filter p (xs ++ ys) ≡ filter p xs ++ filter p ys
filter-append p [] ys = refl
filter-append p (x ∷ xs) ys = go (p x) (filter-append p xs ys)
  where
    go : (b : Bool) → filter p (xs ++ ys) ≡ filter p xs ++ filter p ys
        → cond b (x ∷ filter p (xs ++ ys)) (filter p (xs ++ ys)) ≡ cond b (x ∷ filter p xs) (filter p xs) ++ filter p ys
    go true h = ap (λ zs. x ∷ zs) h
    go false h = h

abbrev pub one_if : Bool → ℕ → List ℕ
one_if true n = n ∷ []
one_if false n = []

pub prefix-more : (bits n : ℕ) → n < 8 → prefix bits (n + 1) ≡ prefix bits n ++ one_if (has n (positions bits)) n
unfolding prefix
prefix-more bits n l =
    rw add-one (rw (eqb_other n 8 (omega arith))
    (filter-append (λ i. bit_at bits i == 1) (below_but n 8) (n ∷ [])
    ∙ ap (λ zs. prefix bits n ++ zs) (rw (has-positions bits n l) (last (bit_at bits n == 1)))))
  where
    last : (b : Bool) → cond b (n ∷ []) [] ≡ one_if b n
    last true = refl
    last false = refl

pub prefix-all : (bits : ℕ) → prefix bits 8 ≡ positions bits
unfolding prefix
prefix-all bits = refl

pub prefix-none : (bits : ℕ) → prefix bits 0 ≡ []
unfolding prefix
prefix-none bits = refl

pub to_each-append : {V : Type 0} (m : CommitMsg V) (xs ys : List ℕ) → to_each m (xs ++ ys) ≡ to_each m xs ++ to_each m ys
to_each-append m [] ys = refl
to_each-append m (x ∷ xs) ys = ap (λ s. (x, m) ∷ s) (to_each-append m xs ys)

pub abort_each-append : {V : Type 0} (gen r : ℕ) (v : V) (reason : Reason) (xs ys : List ℕ)
    → abort_each gen r v reason (xs ++ ys) ≡ abort_each gen r v reason xs ++ abort_each gen r v reason ys
abort_each-append gen r v reason [] ys = refl
abort_each-append gen r v reason (x ∷ xs) ys =
    ap (λ s. (x, msg.Decision gen r false) ∷ (x, msg.Refused gen v reason) ∷ s) (abort_each-append gen r v reason xs ys)

-- the first part only shows a tactic the call
pub each_more : {V : Type 0} (m : CommitMsg V) (bits n : ℕ)
    → (to_each m (prefix bits (n + 1)) ≡ to_each m (prefix bits (n + 1)))
    × ((n < 8 → has n (positions bits) ≡ true → to_each m (prefix bits (n + 1)) ≡ to_each m (prefix bits n) ++ (n, m) ∷ [])
    × (n < 8 → has n (positions bits) ≡ false → to_each m (prefix bits (n + 1)) ≡ to_each m (prefix bits n)))
each_more m bits n = (
  refl,
  (
    λ l h. ap (to_each m) (prefix-more bits n l) ∙ rw h (to_each-append m (prefix bits n) (n ∷ [])),
    λ l h. ap (to_each m) (prefix-more bits n l)
        ∙ rw h (ap (to_each m) (append-nil (prefix bits n))),
  ),
)

pub abort_more : {V : Type 0} (gen r : ℕ) (v : V) (reason : Reason) (bits n : ℕ)
    → (abort_each gen r v reason (prefix bits (n + 1)) ≡ abort_each gen r v reason (prefix bits (n + 1)))
    × ((n < 8 → has n (positions bits) ≡ true
    → abort_each gen r v reason (prefix bits (n + 1))
    ≡ (abort_each gen r v reason (prefix bits n) ++ (n, msg.Decision gen r false) ∷ []) ++ (n, msg.Refused gen v reason) ∷ [])
    × (n < 8 → has n (positions bits) ≡ false → abort_each gen r v reason (prefix bits (n + 1)) ≡ abort_each gen r v reason (prefix bits n)))
abort_more gen r v reason bits n = (
  refl,
  (
    λ l h. ap (abort_each gen r v reason) (prefix-more bits n l)
        ∙ rw h (abort_each-append gen r v reason (prefix bits n) (n ∷ [])
        ∙ sym (append_assoc (abort_each gen r v reason (prefix bits n)) ((n, msg.Decision gen r false) ∷ []) ((n, msg.Refused gen v reason) ∷ []))),
    λ l h. ap (abort_each gen r v reason) (prefix-more bits n l) ∙ rw h (ap (abort_each gen r v reason) (append-nil (prefix bits n))),
  ),
)

pub ruleset each_facts = (each_more, prefix-all, prefix-none)

pub ruleset abort_facts = (abort_more, prefix-all, prefix-none)

-- all but one
pub but-append : (i : ℕ) (xs ys : List ℕ) → but i (xs ++ ys) ≡ but i xs ++ but i ys
but-append i [] ys = refl
but-append i (x ∷ xs) ys = go (eqb x i) (but-append i xs ys)
  where
    go : (b : Bool) → but i (xs ++ ys) ≡ but i xs ++ but i ys → cond b (but i (xs ++ ys)) (x ∷ but i (xs ++ ys)) ≡ cond b (but i xs) (x ∷ but i xs) ++ but i ys
    go true h = h
    go false h = ap (λ zs. x ∷ zs) h

pub but-below : (n i : ℕ) → n ≤ 8 → but i (below_but n 8) ≡ below_but n i
but-below zero i l = refl
but-below (suc n) i l =
    rw (eqb_other n 8 (omega arith))
    (but-append i (below_but n 8) (n ∷ []) ∙ rw (but-below n i (omega arith)) (ap (λ zs. below_but n i ++ zs) (last (eqb n i))))
  where
    last : (b : Bool) → cond b [] (n ∷ []) ≡ (if b then [] else n ∷ [])
    last true = refl
    last false = refl

-- who is among the others
pub has-below_less : (n here i : ℕ) → i < n → has i (below_but n here) ≡ not (eqb i here)
has-below_less n here i l = go (bool_cases (eqb i here)) (bool_cases (has i (below_but n here)))
  where
    go : (eqb i here ≡ true) ⊎ (eqb i here ≡ false) → (has i (below_but n here) ≡ true) ⊎ (has i (below_but n here) ≡ false)
        → has i (below_but n here) ≡ not (eqb i here)
    go (inl b) (inl c) = absurd ((has-below_but-other n here i c).1 (eqb_is i here b))
    go (inl b) (inr c) = rw (b, c)
    go (inr b) c = rw b (has-below_but n here i l (eqb_not i here b))

pub has-below_more : (n here i : ℕ) → n ≤ i → has i (below_but n here) ≡ false
has-below_more n here i l = go (bool_cases (has i (below_but n here)))
  where
    go : (has i (below_but n here) ≡ true) ⊎ (has i (below_but n here) ≡ false) → has i (below_but n here) ≡ false
    go (inl c) = absurd (let k : i < n = (has-below_but-other n here i c).0 in omega arith)
    go (inr c) = c

pub below-has : (n here i : ℕ) → has i (below_but n here) ≡ true → i < n
below-has n here i h = (has-below_but-other n here i h).0

pub ruleset others_facts = (has-below_less, has-below_more, below-has)

-- of two members and more, one is another
pub others-some : (n here : ℕ) → 2 ≤ n → none_left (below_but n here) ≡ false
others-some n here l = go (bool_cases (none_left (below_but n here))) (bool_cases (eqb 0 here))
  where
    gone : (xs : List ℕ) (i : ℕ) → none_left xs ≡ true → has i xs ≡ true → ⊥
    gone [] i h k = cc
    gone (x ∷ xs) i h k = cc

    go : (none_left (below_but n here) ≡ true) ⊎ (none_left (below_but n here) ≡ false) → (eqb 0 here ≡ true) ⊎ (eqb 0 here ≡ false)
        → none_left (below_but n here) ≡ false
    go (inr h) e = h
    go (inl h) (inl e) = absurd (gone (below_but n here) 1 h (has-below_but n here 1 (omega arith) (let k : 0 ≡ here = eqb_is 0 here e in omega arith)))
    go (inl h) (inr e) = absurd (gone (below_but n here) 0 h (has-below_but n here 0 (omega arith) (eqb_not 0 here e)))

pub ruleset but_facts = (but-below)

-- what is in a set of positions is below eight
pub position_small : (bits i : ℕ) → has i (positions bits) ≡ true → i < 8
position_small bits i h =
    (has-below_but-other 8 8 i (and_right (bit_at bits i == 1) (has i (below_but 8 8)) (sym (has-filter (λ j. bit_at bits j == 1) i (below_but 8 8)) ∙ h))).0

pub misses-there : (r i : ℕ) (xs : List ℕ) → misses_more i (Some (r, xs)) ≡ true → has i xs ≡ true
misses-there r i xs h = and_left (has i xs) (not (none_left (but i xs))) h

pub misses-others : (r i : ℕ) (xs : List ℕ) → misses_more i (Some (r, xs)) ≡ true → none_left (but i xs) ≡ false
misses-others r i xs h = not_true (none_left (but i xs)) (and_right (has i xs) (not (none_left (but i xs))) h)

pub ruleset miss_facts = (misses-there, misses-others, others-some)

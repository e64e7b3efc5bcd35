-- Lists of acts: what is among them, what differs pairwise, and what is left without one.
use Rattle.std.{specs.{Prelude.{Some, None}, List.filter}, proofs.Common.{◌≡◌, ◌≤◌, ◌⊎◌, Bool, true, false, List, [], ◌∷◌, ◌++◌, length, refl, sym, subst}}
use Rattle.std.proofs.Common.{◌∙◌, inl, inr, arith}
use Rattle.spl_agree.{specs.{Member.{without, found, found_refused}, declared.reason.Reason.Reason}, proofs.Tests.bool_cases}
use Rattle.spl_circuit.specs.{Nodes.NodeId, Equality.same_act_key, Same.{key_parts, key_from}, declared.act.Act.Act}

-- it is one of these
abbrev pub Among : {A : Type 0} → A → List A → Type 0
Among x [] = ⊥
Among x (y ∷ ys) = (x ≡ y) ⊎ Among x ys

-- each two of these are related, the first one first
abbrev pub Pairs : {A : Type 0} → (A → A → Type 0) → List A → Type 0
Pairs R [] = Unit {0}
Pairs {A} R (x ∷ xs) = ((y : A) → Among y xs → R x y) × Pairs R xs

-- nothing is both
pub both-not : (b : Bool) → b ≡ true → b ≡ false → ⊥
both-not b p q = cc

-- what is there with one more
pub among-split : {A : Type 0} (x z : A) (ys : List A) → Among x (ys ++ z ∷ []) → Among x ys ⊎ (x ≡ z)
among-split x z [] (inl e) = inr e
among-split x z [] (inr h) = absurd h
among-split x z (y ∷ ys) (inl e) = inl (inl e)
among-split {A} x z (y ∷ ys) (inr h) = go (among-split x z ys h)
  where
    go : Among x ys ⊎ (x ≡ z) → Among x (y ∷ ys) ⊎ (x ≡ z)
    go (inl k) = inl (inr k)
    go (inr k) = inr k

pub among-more : {A : Type 0} (x z : A) (ys : List A) → Among x ys → Among x (ys ++ z ∷ [])
among-more x z [] h = absurd h
among-more x z (y ∷ ys) (inl e) = inl e
among-more x z (y ∷ ys) (inr h) = inr (among-more x z ys h)

pub among-last : {A : Type 0} (z : A) (ys : List A) → Among z (ys ++ z ∷ [])
among-last z [] = inl refl
among-last z (y ∷ ys) = inr (among-last z ys)

-- one more that is related to all
pub pairs-last : {A : Type 0} (R : A → A → Type 0) (z : A) (xs : List A) → ((x : A) → Among x xs → R x z) → Pairs R xs → Pairs R (xs ++ z ∷ [])
pairs-last R z [] h p = ((λ y k. absurd k), tt)
pairs-last {A} R z (x ∷ xs) h p = ((λ y k. go y (among-split y z xs k)), pairs-last R z xs (λ y k. h y (inr k)) p.1)
  where
    go : (y : A) → Among y xs ⊎ (y ≡ z) → R x y
    go y (inl k) = p.0 y k
    go y (inr e) = subst (λ (u : A). R x u) (sym e) (h x (inl refl))

-- another relation
pub pairs-map : {A : Type 0} (R S : A → A → Type 0) (xs : List A) → ((x y : A) → Among x xs → Among y xs → R x y → S x y) → Pairs R xs → Pairs S xs
pairs-map R S [] h p = tt
pairs-map R S (x ∷ xs) h p = ((λ y k. h x y (inl refl) (inr k) (p.0 y k)), pairs-map R S xs (λ a b i j r. h a b (inr i) (inr j) r) p.1)

-- what is left without one was there
pub among-without : {A : Type 0} (p : A → Bool) (x : A) (ys : List A) → Among x (without p ys) → Among x ys
among-without p x [] h = h
among-without {A} p x (y ∷ ys) h = go (bool_cases (p y)) (among-without p x ys)
  where
    kept : (Among x (without p ys) → Among x ys) → Among x (y ∷ without p ys) → Among x (y ∷ ys)
    kept hyp (inl e) = inl e
    kept hyp (inr k) = inr (hyp k)

    go : (p y ≡ true) ⊎ (p y ≡ false) → (Among x (without p ys) → Among x ys) → Among x (y ∷ ys)
    go (inl q) hyp = inr (rw q at h)
    go (inr q) hyp = kept hyp (rw q at h)

pub pairs-without : {A : Type 0} (R : A → A → Type 0) (p : A → Bool) (xs : List A) → Pairs R xs → Pairs R (without p xs)
pairs-without R p [] h = tt
pairs-without {A} R p (x ∷ xs) h = go (bool_cases (p x)) (pairs-without R p xs h.1)
  where
    go : (p x ≡ true) ⊎ (p x ≡ false) → Pairs R (without p xs) → Pairs R (without p (x ∷ xs))
    go (inl q) k = rw q h.1
    go (inr q) k = rw q ((λ y z. h.0 y (among-without p y xs z)), k)

-- what was there is left, or met the test
pub without-keeps : {A : Type 0} (p : A → Bool) (x : A) (ys : List A) → Among x ys → Among x (without p ys) ⊎ (p x ≡ true)
without-keeps p x [] h = absurd h
without-keeps {A} p x (y ∷ ys) h = go (bool_cases (p y)) h (without-keeps p x ys)
  where
    deeper : p y ≡ false → Among x (without p ys) ⊎ (p x ≡ true) → Among x (without p (y ∷ ys)) ⊎ (p x ≡ true)
    deeper q (inl z) = inl (rw q (inr z))
    deeper q (inr z) = inr z

    go : (p y ≡ true) ⊎ (p y ≡ false) → (x ≡ y) ⊎ Among x ys → (Among x ys → Among x (without p ys) ⊎ (p x ≡ true))
        → Among x (without p (y ∷ ys)) ⊎ (p x ≡ true)
    go (inl q) (inl e) hyp = inr (subst (λ (z : A). p z ≡ true) (sym e) q)
    go (inl q) (inr k) hyp = inl (rw q k)
    go (inr q) (inl e) hyp = inl (rw q (inl e))
    go (inr q) (inr k) hyp = deeper q (hyp k)

-- what is found is there and meets the test
pub found-among : {A : Type 0} (p : A → Bool) (x : A) (ys : List A) → found p ys ≡ Some x → Among x ys × (p x ≡ true)
found-among p x [] h = cc
found-among {A} p x (y ∷ ys) h = go (bool_cases (p y)) (found-among p x ys)
  where
    first : p y ≡ true → Some y ≡ Some x → Among x (y ∷ ys) × (p x ≡ true)
    first q e = let same : y ≡ x = cc in (inl (sym same), subst (λ (z : A). p z ≡ true) same q)

    go : (p y ≡ true) ⊎ (p y ≡ false) → (found p ys ≡ Some x → Among x ys × (p x ≡ true)) → Among x (y ∷ ys) × (p x ≡ true)
    go (inl q) hyp = first q (rw q at h)
    go (inr q) hyp = let k : Among x ys × (p x ≡ true) = hyp (rw q at h) in (inr k.0, k.1)

some_not : {A : Type 0} (y : A) → Some y ≡ None → ⊥
some_not y e = cc

-- what is not found is not there
pub found-none : {A : Type 0} (p : A → Bool) (x : A) (ys : List A) → found p ys ≡ None → Among x ys → p x ≡ false
found-none p x [] h k = absurd k
found-none {A} p x (y ∷ ys) h k = go (bool_cases (p y)) k (found-none p x ys)
  where
    go : (p y ≡ true) ⊎ (p y ≡ false) → (x ≡ y) ⊎ Among x ys → (found p ys ≡ None → Among x ys → p x ≡ false) → p x ≡ false
    go (inl q) z hyp = absurd (some_not y (rw q at h))
    go (inr q) (inl e) hyp = subst (λ (z : A). p z ≡ false) (sym e) q
    go (inr q) (inr z) hyp = hyp (rw q at h) z

-- one more that doesn't meet the test is not found
pub found-none_more : {A : Type 0} (p : A → Bool) (z : A) (ys : List A) → found p ys ≡ None → p z ≡ false → found p (ys ++ z ∷ []) ≡ None
found-none_more p z [] h q = rw q
found-none_more {A} p z (y ∷ ys) h q = go (bool_cases (p y)) (found-none_more p z ys)
  where
    go : (p y ≡ true) ⊎ (p y ≡ false) → (found p ys ≡ None → p z ≡ false → found p (ys ++ z ∷ []) ≡ None) → found p ((y ∷ ys) ++ z ∷ []) ≡ None
    go (inl r) hyp = absurd (some_not y (rw r at h))
    go (inr r) hyp = rw r (hyp (rw r at h) q)

pub refused-none_more : (p : Act → Bool) (z : Act × Reason) (ys : List (Act × Reason)) → found_refused p ys ≡ None → p z.0 ≡ false
    → found_refused p (ys ++ z ∷ []) ≡ None
refused-none_more p z [] h q = rw q
refused-none_more p z (y ∷ ys) h q = go (bool_cases (p y.0)) (refused-none_more p z ys)
  where
    go : (p y.0 ≡ true) ⊎ (p y.0 ≡ false) → (found_refused p ys ≡ None → p z.0 ≡ false → found_refused p (ys ++ z ∷ []) ≡ None)
        → found_refused p ((y ∷ ys) ++ z ∷ []) ≡ None
    go (inl r) hyp = absurd (some_not y (rw r at h))
    go (inr r) hyp = rw r (hyp (rw r at h) q)

-- keys
pub key-same : (u : Act) → same_act_key u u ≡ true
key-same u = key_from u u refl refl

pub key-back : (u v : Act) → same_act_key u v ≡ true → same_act_key v u ≡ true
key-back u v h = let k : (u.node ≡ v.node) × (u.turn ≡ v.turn) = key_parts u v h in key_from v u (sym k.0) (sym k.1)

pub key-over : (u v x : Act) → same_act_key u v ≡ true → same_act_key v x ≡ true → same_act_key u x ≡ true
key-over u v x p q =
    let k : (u.node ≡ v.node) × (u.turn ≡ v.turn) = key_parts u v p in let l : (v.node ≡ x.node) × (v.turn ≡ x.turn) = key_parts v x q in
    key_from u x (k.0 ∙ l.0) (k.1 ∙ l.1)

-- two acts have two keys
abbrev pub OtherKey : Act → Act → Type 0
OtherKey x y = same_act_key y x ≡ false

-- what is left without a key hasn't the key
pub keys-without : (v x : Act) (ys : List Act) → Pairs OtherKey ys → Among x (without (same_act_key v) ys) → same_act_key v x ≡ false
keys-without v x [] p h = absurd h
keys-without v x (y ∷ ys) p h = go (bool_cases (same_act_key v y)) (keys-without v x ys p.1)
  where
    other : same_act_key v y ≡ true → Among x ys → (same_act_key v x ≡ true) ⊎ (same_act_key v x ≡ false) → same_act_key v x ≡ false
    other q k (inr r) = r
    other q k (inl r) = absurd (both-not (same_act_key x y) (key-over x v y (key-back v x r) q) (p.0 x k))

    kept : same_act_key v y ≡ false → (Among x (without (same_act_key v) ys) → same_act_key v x ≡ false) → Among x (y ∷ without (same_act_key v) ys)
        → same_act_key v x ≡ false
    kept q hyp (inl e) = subst (λ (z : Act). same_act_key v z ≡ false) (sym e) q
    kept q hyp (inr k) = hyp k

    go : (same_act_key v y ≡ true) ⊎ (same_act_key v y ≡ false) → (Among x (without (same_act_key v) ys) → same_act_key v x ≡ false) → same_act_key v x ≡ false
    go (inl q) hyp = other q (rw q at h) (bool_cases (same_act_key v x))
    go (inr q) hyp = kept q hyp (rw q at h)

-- two of one key are one
pub keys-one : (x y : Act) (zs : List Act) → Pairs OtherKey zs → Among x zs → Among y zs → same_act_key x y ≡ true → x ≡ y
keys-one x y [] p h k e = absurd h
keys-one x y (z ∷ zs) p (inl a) (inl b) e = a ∙ sym b
keys-one x y (z ∷ zs) p (inl a) (inr b) e =
    absurd (both-not (same_act_key y x) (key-back x y e) (subst (λ (u : Act). same_act_key y u ≡ false) (sym a) (p.0 y b)))
keys-one x y (z ∷ zs) p (inr a) (inl b) e = absurd (both-not (same_act_key x y) e (subst (λ (u : Act). same_act_key x u ≡ false) (sym b) (p.0 x a)))
keys-one x y (z ∷ zs) p (inr a) (inr b) e = keys-one x y zs p.1 a b e

-- not both are of the node
abbrev pub NotBoth : NodeId → Act → Act → Type 0
NotBoth n x y = x.node ≡ n → y.node ≡ n → ⊥

-- two of the node are one
pub single-one : (n : NodeId) (x y : Act) (zs : List Act) → Pairs (NotBoth n) zs → Among x zs → Among y zs → x.node ≡ n → y.node ≡ n → x ≡ y
single-one n x y [] p h k i j = absurd h
single-one n x y (z ∷ zs) p (inl a) (inl b) i j = a ∙ sym b
single-one n x y (z ∷ zs) p (inl a) (inr b) i j = absurd (p.0 y b (subst (λ (u : Act). u.node ≡ n) a i) j)
single-one n x y (z ∷ zs) p (inr a) (inl b) i j = absurd (p.0 x a (subst (λ (u : Act). u.node ≡ n) b j) i)
single-one n x y (z ∷ zs) p (inr a) (inr b) i j = single-one n x y zs p.1 a b i j

-- where no two meet a test, at most one does
pub filter-none : {A : Type 0} (p : A → Bool) (xs : List A) → ((x : A) → Among x xs → p x ≡ false) → filter p xs ≡ []
filter-none p [] h = refl
filter-none p (x ∷ xs) h = rw (h x (inl refl)) (filter-none p xs (λ y k. h y (inr k)))

pub filter-few : {A : Type 0} (p : A → Bool) (xs : List A) → Pairs (λ x y. p x ≡ true → p y ≡ true → ⊥) xs → length (filter p xs) ≤ 1
filter-few p [] h = omega arith
filter-few {A} p (x ∷ xs) h = go (bool_cases (p x)) (filter-few p xs h.1)
  where
    one : length (x ∷ []) ≤ 1
    one = omega arith

    others : p x ≡ true → (y : A) → Among y xs → (p y ≡ true) ⊎ (p y ≡ false) → p y ≡ false
    others q y k (inl r) = absurd (h.0 y k q r)
    others q y k (inr r) = r

    go : (p x ≡ true) ⊎ (p x ≡ false) → length (filter p xs) ≤ 1 → length (filter p (x ∷ xs)) ≤ 1
    go (inl q) k = rw (q, filter-none p xs (λ y z. others q y z (bool_cases (p y)))) one
    go (inr q) k = rw q k

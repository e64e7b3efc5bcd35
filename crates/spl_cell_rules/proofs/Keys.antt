-- Lists of values by their keys: what is in none of them, and what differs.
use Rattle.std.{specs.Prelude.{Option, Some, None}, proofs.Common.{◌≡◌, ◌⊎◌, Bool, true, false, List, [], ◌∷◌, ◌++◌, append_assoc, append-nil, refl, inl}}
use Rattle.std.proofs.Common.{inr}
use Rattle.spl_agree.specs.{Member.{Rules, found, found_refused, without, or_else, value_of}, Fits.KeysDiffer, declared.reason.Reason.Reason}
use Rattle.spl_agree.proofs.Tests.{bool_cases}

-- ---- each of a list

abbrev pub Each : {A : Type 0} → (A → Type 0) → List A → Type 0
Each P [] = Unit {0}
Each P (x ∷ xs) = P x × Each P xs

pub each-more : {A : Type 0} (P : A → Type 0) (xs : List A) (x : A) → Each P xs → P x → Each P (xs ++ x ∷ [])
each-more P [] x h p = (p, tt)
each-more P (y ∷ ys) x h p = (h.0, each-more P ys x h.1 p)

pub each-map : {A : Type 0} (P Q : A → Type 0) (xs : List A) → ((x : A) → P x → Q x) → Each P xs → Each Q xs
each-map P Q [] f h = tt
each-map P Q (x ∷ xs) f h = (f x h.0, each-map P Q xs f h.1)

pub each-both : {A : Type 0} (P Q R : A → Type 0) (xs : List A) → ((x : A) → P x → Q x → R x) → Each P xs → Each Q xs → Each R xs
each-both P Q R [] f h k = tt
each-both P Q R (x ∷ xs) f h k = (f x h.0 k.0, each-both P Q R xs f h.1 k.1)

pub each-without : {A : Type 0} (P : A → Type 0) (p : A → Bool) (xs : List A) → Each P xs → Each P (without p xs)
each-without P p [] h = tt
each-without {A} P p (x ∷ xs) h = go (bool_cases (p x)) (each-without P p xs h.1)
  where
    go : (p x ≡ true) ⊎ (p x ≡ false) → Each P (without p xs) → Each P (without p (x ∷ xs))
    go (inl q) k = rw q h.1
    go (inr q) k = rw q (h.0, k)

-- ---- what is not found

pub found-left : {V : Type 0} (p : V → Bool) (xs ys : List V) → found p (xs ++ ys) ≡ None → found p xs ≡ None
found-left p [] ys h = refl
found-left p (x ∷ xs) ys h = go (bool_cases (p x)) (found-left p xs ys)
  where
    go : (p x ≡ true) ⊎ (p x ≡ false) → (found p (xs ++ ys) ≡ None → found p xs ≡ None) → found p (x ∷ xs) ≡ None
    go (inl q) k = absurd (let z : Some x ≡ None = rw q at h in cc)
    go (inr q) k = rw q (k (rw q at h))

pub found-both : {V : Type 0} (p : V → Bool) (xs ys : List V) → found p xs ≡ None → found p ys ≡ None → found p (xs ++ ys) ≡ None
found-both p [] ys h k = k
found-both p (x ∷ xs) ys h k = go (bool_cases (p x)) (found-both p xs ys)
  where
    go : (p x ≡ true) ⊎ (p x ≡ false) → (found p xs ≡ None → found p ys ≡ None → found p (xs ++ ys) ≡ None) → found p ((x ∷ xs) ++ ys) ≡ None
    go (inl q) f = absurd (let z : Some x ≡ None = rw q at h in cc)
    go (inr q) f = rw q (f (rw q at h) k)

pub found-last : {V : Type 0} (p : V → Bool) (xs : List V) (y : V) → found p (xs ++ y ∷ []) ≡ None → p y ≡ false
found-last p [] y h = go (bool_cases (p y))
  where
    go : (p y ≡ true) ⊎ (p y ≡ false) → p y ≡ false
    go (inl q) = absurd (let z : Some y ≡ None = rw q at h in cc)
    go (inr q) = q
found-last p (x ∷ xs) y h = go (bool_cases (p x)) (found-last p xs y)
  where
    go : (p x ≡ true) ⊎ (p x ≡ false) → (found p (xs ++ y ∷ []) ≡ None → p y ≡ false) → p y ≡ false
    go (inl q) f = absurd (let z : Some x ≡ None = rw q at h in cc)
    go (inr q) f = f (rw q at h)

pub refused-more : {V : Type 0} (p : V → Bool) (us : List (V × Reason)) (u : V × Reason) → found_refused p us ≡ None → p u.0 ≡ false
    → found_refused p (us ++ u ∷ []) ≡ None
refused-more p [] u h k = rw k
refused-more p (x ∷ xs) u h k = go (bool_cases (p x.0)) (refused-more p xs u)
  where
    go : (p x.0 ≡ true) ⊎ (p x.0 ≡ false) → (found_refused p xs ≡ None → p u.0 ≡ false → found_refused p (xs ++ u ∷ []) ≡ None)
        → found_refused p ((x ∷ xs) ++ u ∷ []) ≡ None
    go (inl q) f = absurd (let z : Some x ≡ None = rw q at h in cc)
    go (inr q) f = rw q (f (rw q at h) k)

-- what is known nowhere is in none of the lists
pub nowhere : {V : Type 0} (x y : Option V) (z : Option (V × Reason)) → or_else x (or_else y (value_of z)) ≡ None → (x ≡ None) × (y ≡ None) × (z ≡ None)
nowhere None None None h = (refl, refl, refl)
nowhere None None (Some z) h = cc
nowhere None (Some y) z h = cc
nowhere (Some x) y z h = cc

-- ---- keys

-- values of one key are related by it, and equal values have one key
pub record HasKeys {V : Type 0} (rules : Rules V) : Type 0 where
  pub back : (u v : V) → rules.same_key u v ≡ true → rules.same_key v u ≡ true
  pub along : (u v w : V) → rules.same_key u v ≡ true → rules.same_key v w ≡ true → rules.same_key u w ≡ true
  pub same : (u v : V) → rules.same u v ≡ true → rules.same_key u v ≡ true

module _ {V : Type 0} (rules : Rules V) where
  -- no refused value has the key of one before it
  abbrev pub RefusedDiffer : List (V × Reason) → List (V × Reason) → Type 0
  RefusedDiffer before [] = Unit {0}
  RefusedDiffer before (u ∷ us) = (found_refused (rules.same_key u.0) before ≡ None) × RefusedDiffer (before ++ u ∷ []) us

  pub refused-differ-more : (before us : List (V × Reason)) (u : V × Reason) → RefusedDiffer before us
      → found_refused (rules.same_key u.0) (before ++ us) ≡ None → RefusedDiffer before (us ++ u ∷ [])
  refused-differ-more before [] u k h = (rw append-nil at h, tt)
  refused-differ-more before (x ∷ xs) u k h = (k.0, refused-differ-more (before ++ x ∷ []) xs u k.1 (rw (append_assoc before (x ∷ []) xs) h))

  pub differ-more : (before us : List V) (v : V) → KeysDiffer rules before us → found (rules.same_key v) (before ++ us) ≡ None
      → KeysDiffer rules before (us ++ v ∷ [])
  differ-more before [] v k h = (rw append-nil at h, tt)
  differ-more before (u ∷ us) v k h = (k.0, differ-more (before ++ u ∷ []) us v k.1 (rw (append_assoc before (u ∷ []) us) h))

  -- it hangs on what is found before alone
  pub differ-fewer : (before less us : List V) → ((p : V → Bool) → found p before ≡ None → found p less ≡ None) → KeysDiffer rules before us
      → KeysDiffer rules less us
  differ-fewer before less [] f k = tt
  differ-fewer before less (u ∷ us) f k = (f (rules.same_key u) k.0, differ-fewer (before ++ u ∷ []) (less ++ u ∷ []) us more k.1)
    where
      more : (p : V → Bool) → found p (before ++ u ∷ []) ≡ None → found p (less ++ u ∷ []) ≡ None
      more p h = found-both p less (u ∷ []) (f p (found-left p before (u ∷ []) h)) (rw (found-last p before u h))

  pub differ-without : (p : V → Bool) (before us : List V) → KeysDiffer rules before us → KeysDiffer rules before (without p us)
  differ-without p before [] k = tt
  differ-without p before (u ∷ us) k = go (bool_cases (p u)) (differ-without p (before ++ u ∷ []) us k.1)
    where
      go : (p u ≡ true) ⊎ (p u ≡ false) → KeysDiffer rules (before ++ u ∷ []) (without p us) → KeysDiffer rules before (without p (u ∷ us))
      go (inl q) h = rw q (differ-fewer (before ++ u ∷ []) before us (λ r z. found-left r before (u ∷ []) z) k.1)
      go (inr q) h = rw q (k.0, h)

  module _ (keys : HasKeys rules) where
    pub apart-back : (u v : V) → rules.same_key u v ≡ false → rules.same_key v u ≡ false
    apart-back u v h = go (bool_cases (rules.same_key v u))
      where
        go : (rules.same_key v u ≡ true) ⊎ (rules.same_key v u ≡ false) → rules.same_key v u ≡ false
        go (inl q) = absurd (let z : rules.same_key u v ≡ true = keys.back v u q in cc)
        go (inr q) = q

    -- what has another key than u has another one than v, where those are the same
    pub apart-along : (w u v : V) → rules.same_key w u ≡ false → rules.same_key v u ≡ true → rules.same_key w v ≡ false
    apart-along w u v h k = go (bool_cases (rules.same_key w v))
      where
        go : (rules.same_key w v ≡ true) ⊎ (rules.same_key w v ≡ false) → rules.same_key w v ≡ false
        go (inl q) = absurd (let z : rules.same_key w u ≡ true = keys.along w v u q k in cc)
        go (inr q) = q

    -- the rest differs from what stands before it
    after : (u : V) (before us : List V) → ((p : V → Bool) → found p before ≡ None → p u ≡ false) → KeysDiffer rules before us
        → Each (λ w. rules.same_key w u ≡ false) us
    after u before [] f k = tt
    after u before (x ∷ xs) f k = (f (rules.same_key x) k.0, after u (before ++ x ∷ []) xs (λ p h. f p (found-left p before (x ∷ []) h)) k.1)

    -- without the value of a key, no value has that key
    pub without-apart : (v : V) (before us : List V) → KeysDiffer rules before us → Each (λ w. rules.same_key w v ≡ false) (without (rules.same_key v) us)
    without-apart v before [] k = tt
    without-apart v before (u ∷ us) k = go (bool_cases (rules.same_key v u)) (without-apart v (before ++ u ∷ []) us k.1)
      where
        go : (rules.same_key v u ≡ true) ⊎ (rules.same_key v u ≡ false) → Each (λ w. rules.same_key w v ≡ false) (without (rules.same_key v) us)
            → Each (λ w. rules.same_key w v ≡ false) (without (rules.same_key v) (u ∷ us))
        go (inl q) h =
            rw q (each-map (λ w. rules.same_key w u ≡ false) (λ w. rules.same_key w v ≡ false) us (λ w z. apart-along w u v z q)
            (after u (before ++ u ∷ []) us (λ p z. found-last p before u z) k.1))
        go (inr q) h = rw q (apart-back v u q, h)

    -- a value of the same key is refused nowhere either
    pub refused-key : (u v : V) (us : List (V × Reason)) → rules.same_key u v ≡ true → found_refused (rules.same_key u) us ≡ None
        → found_refused (rules.same_key v) us ≡ None
    refused-key u v [] k h = refl
    refused-key u v (x ∷ xs) k h = go (bool_cases (rules.same_key v x.0)) (bool_cases (rules.same_key u x.0)) (refused-key u v xs k)
      where
        go : (rules.same_key v x.0 ≡ true) ⊎ (rules.same_key v x.0 ≡ false) → (rules.same_key u x.0 ≡ true) ⊎ (rules.same_key u x.0 ≡ false)
            → (found_refused (rules.same_key u) xs ≡ None → found_refused (rules.same_key v) xs ≡ None) → found_refused (rules.same_key v) (x ∷ xs) ≡ None
        go q (inl r) f = absurd (let z : Some x ≡ None = rw r at h in cc)
        go (inl q) (inr r) f = absurd (let z : rules.same_key u x.0 ≡ true = keys.along u v x.0 k q in cc)
        go (inr q) (inr r) f = rw q (f (rw r at h))

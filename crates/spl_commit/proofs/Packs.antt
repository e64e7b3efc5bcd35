-- The packed form of a member, change by change.
use Rattle.std.{specs.{Prelude.{Some, None, slice_get}, Option.option_map}, proofs.Common.{◌≡◌, ℕ, zero, suc, ◌+◌, ◌<◌, ◌≤◌, List, [], ◌∷◌, ◌++◌}}
use Rattle.std.proofs.{Common.{append_assoc, length, take, refl, sym, ap, ◌∙◌, arith}, lemmas.List.take_all}
use Rattle.spl_agree.specs.{Pack.{kept_each, committed_each, queued_each}, declared.{event.GroupChange.GroupChange, reason.Reason.Reason}}
use Rattle.spl_agree.specs.declared.event.GroupChange.TheVariants as change
use Rattle.spl_commit.{specs.Views.seconds, proofs.Keyed.{first-second, length-seconds}}

take-suc : {A : Type 0} (xs : List A) (i : ℕ) (x : A) → slice_get xs i ≡ Some x → take (suc i) xs ≡ take i xs ++ x ∷ []
take-suc [] i x h = cc
take-suc (y ∷ ys) zero x h = let same : y ≡ x = cc in ap (λ z. z ∷ []) same
take-suc (y ∷ ys) (suc i) x h = ap (λ zs. y ∷ zs) (take-suc ys i x h)

take-next : {A : Type 0} (xs : List A) (i : ℕ) (x : A) → slice_get xs i ≡ Some x → take (i + 1) xs ≡ take i xs ++ x ∷ []
take-next xs i x h = let e : i + 1 ≡ suc i = omega arith in ap (λ n. take n xs) e ∙ take-suc xs i x h

-- what is done to each of a list
module _ {A B : Type 0} (of : List A → List B) (one : A → B) (none : of [] ≡ []) (some : (x : A) (xs : List A) → of (x ∷ xs) ≡ one x ∷ of xs) where
  last-more : (xs : List A) (x : A) → of (xs ++ x ∷ []) ≡ of xs ++ one x ∷ []
  last-more [] x = some x [] ∙ (ap (λ zs. one x ∷ zs) none ∙ ap (λ zs. zs ++ one x ∷ []) (sym none))
  last-more (y ∷ ys) x = some y (ys ++ x ∷ []) ∙ (ap (λ zs. one y ∷ zs) (last-more ys x) ∙ ap (λ zs. zs ++ one x ∷ []) (sym (some y ys)))

  next : (first : List B) (xs : List A) (i : ℕ) (x : A) → slice_get xs i ≡ Some x → first ++ of (take (i + 1) xs) ≡ (first ++ of (take i xs)) ++ one x ∷ []
  next first xs i x h =
      ap (λ zs. first ++ of zs) (take-next xs i x h)
      ∙ (ap (λ zs. first ++ zs) (last-more (take i xs) x) ∙ sym (append_assoc first (of (take i xs)) (one x ∷ [])))

module _ {V : Type 0} where
  pub kept_next : (first : List (GroupChange V)) (us : List (V × Reason)) (i : ℕ) (u : V × Reason) → slice_get us i ≡ Some u
      → first ++ kept_each (take (i + 1) us) ≡ (first ++ kept_each (take i us)) ++ change.Kept u.0 u.1 ∷ []
  kept_next = next kept_each (λ u. change.Kept u.0 u.1) refl (λ u us. refl)

  pub committed_next : (first : List (GroupChange V)) (es : List (ℕ × V)) (i : ℕ) (e : ℕ × V) → slice_get es i ≡ Some e
      → first ++ committed_each (take (i + 1) es) ≡ (first ++ committed_each (take i es)) ++ change.Commit e.0 e.1 ∷ []
  committed_next = next committed_each (λ e. change.Commit e.0 e.1) refl (λ e es. refl)

  pub queued_next : (first : List (GroupChange V)) (vs : List V) (i : ℕ) (v : V) → slice_get vs i ≡ Some v
      → first ++ queued_each (take (i + 1) vs) ≡ (first ++ queued_each (take i vs)) ++ change.Queue v ∷ []
  queued_next = next queued_each (λ v. change.Queue v) refl (λ v vs. refl)

-- one step, and the end, of what is done to each value of a list that may stand after keys
module _ {A B : Type 0} (of : List A → List B) (one : A → B)
    (one-more : (first : List B) (xs : List A) (i : ℕ) (x : A) → slice_get xs i ≡ Some x
    → first ++ of (take (i + 1) xs) ≡ (first ++ of (take i xs)) ++ one x ∷ []) where
  pub step_one : (first all new : List B) (xs : List A) (i : ℕ) (x : A) (y : B) → slice_get xs i ≡ Some x → y ≡ one x → all ≡ first ++ of (take i xs)
      → new ≡ all ++ y ∷ [] → new ≡ first ++ of (take (i + 1) xs)
  step_one first all new xs i x y at is so e =
      e ∙ (ap (λ zs. zs ++ y ∷ []) so ∙ (ap (λ z. (first ++ of (take i xs)) ++ z ∷ []) is ∙ sym (one-more first xs i x at)))

  pub all_done : (first all : List B) (xs : List A) (i : ℕ) → length xs ≤ i → all ≡ first ++ of (take i xs) → all ≡ first ++ of xs
  all_done first all xs i l so = so ∙ ap (λ zs. first ++ of zs) (take_all i xs l)

pub second-at : {K X : Type 0} (es : List (K × X)) (xs : List X) (i : ℕ) (x : X) → seconds es ≡ xs
    → option_map (λ (e : K × X). e.1) (slice_get es i) ≡ Some x → slice_get xs i ≡ Some x
second-at es xs i x e h = ap (λ zs. slice_get zs i) (sym e) ∙ (sym (first-second es i) ∙ h)

pub second-length : {K X : Type 0} (es : List (K × X)) (xs : List X) (n i : ℕ) → seconds es ≡ xs → n ≡ length es → n ≤ i → length xs ≤ i
second-length es xs n i e h l = let k : length (seconds es) ≡ length xs = ap (λ zs. length zs) e in omega (arith, length-seconds es, h, k, l)

-- there is a value below the length
pub some-below : {A : Type 0} (xs : List A) (i : ℕ) → i < length xs → slice_get xs i ≡ None → ⊥
some-below [] i l h = omega (arith, l)
some-below (x ∷ xs) zero l h = cc
some-below (x ∷ xs) (suc i) l h = some-below xs i (omega (arith, l)) h

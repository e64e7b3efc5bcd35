-- Lists of messages, and values at one place.
use Rattle.std.{specs.Prelude.{Some, slice_get}, proofs.Common.{◌≡◌, ◌≢◌, ℕ, zero, suc, ◌≤◌, ◌⊎◌, Bool, true, false, eqb, List, [], ◌∷◌, ◌++◌, inl, inr}}
use Rattle.std.proofs.Common.{refl, sym, subst, arith}
use Rattle.spl_agree.{specs.World.put, proofs.Tests.{eqb_is, eqb_not, put-same, put-other, bool_cases, or_cases, and_left, and_right}}
use Rattle.spl_acceptor.specs.{Quorums.{IsWithin, all_within}, Rows.any_of}
use Rattle.spl_paxos_safety.proofs.Round.{Accept, Accepted, IsAmong}

-- what holds of the new value at its place, and of the old ones at theirs
pub put_holds : {A : Type 0} (P : ℕ → A → Type 0) (f : ℕ → A) (h : ℕ) (m : A) (i : ℕ) → P h m → (i ≢ h → P i (f i)) → P i (put f h m i)
put_holds {A} P f h m i p q = go (bool_cases (eqb i h))
  where
    go : (eqb i h ≡ true) ⊎ (eqb i h ≡ false) → P i (put f h m i)
    go (inl e) = subst (λ (j : ℕ). P j (put f h m j)) (sym (eqb_is i h e)) (subst (λ (x : A). P h x) (sym (put-same f h m)) p)
    go (inr e) = subst (λ (x : A). P i x) (sym (put-other f h m i (eqb_not i h e))) (q (eqb_not i h e))

pub was-split : {A : Type 0} (x : A) (s t : List A) → IsAmong x (s ++ t) → IsAmong x s ⊎ IsAmong x t
was-split x [] t w = inr w
was-split x (y ∷ s) t (inl e) = inl (inl e)
was-split {A} x (y ∷ s) t (inr w) = go (was-split x s t w)
  where
    go : IsAmong x s ⊎ IsAmong x t → IsAmong x (y ∷ s) ⊎ IsAmong x t
    go (inl v) = inl (inr v)
    go (inr v) = inr v

pub was-prefix : {A : Type 0} (x : A) (s t : List A) → IsAmong x s → IsAmong x (s ++ t)
was-prefix x [] t w = absurd w
was-prefix x (y ∷ s) t (inl e) = inl e
was-prefix x (y ∷ s) t (inr w) = inr (was-prefix x s t w)

pub was-after : {A : Type 0} (x : A) (s t : List A) → IsAmong x t → IsAmong x (s ++ t)
was-after x [] t w = w
was-after x (y ∷ s) t w = inr (was-after x s t w)

pub was-slice_get : {A : Type 0} (xs : List A) (k : ℕ) (s : A) → slice_get xs k ≡ Some s → IsAmong s xs
was-slice_get [] k s e = cc
was-slice_get (x ∷ xs) zero s e = inl (let q : x ≡ s = cc in sym q)
was-slice_get (x ∷ xs) (suc k) s e = inr (was-slice_get xs k s e)

pub any-was : {A : Type 0} (test : A → Bool) (xs : List A) → any_of test xs ≡ true → (x : A) × IsAmong x xs × (test x ≡ true)
any-was test [] e = cc
any-was {A} test (x ∷ xs) e = go (or_cases (test x) (any_of test xs) e) (any-was test xs)
  where
    go : (test x ≡ true) ⊎ (any_of test xs ≡ true) → (any_of test xs ≡ true → (y : A) × IsAmong y xs × (test y ≡ true))
        → (y : A) × IsAmong y (x ∷ xs) × (test y ≡ true)
    go (inl q) ih = (x, inl refl, q)
    go (inr q) ih = ((ih q).0, inr (ih q).1, (ih q).2)

pub all-within : (n : ℕ) (test : ℕ → Bool) (i : ℕ) → all_within n test ≡ true → IsWithin n i → test i ≡ true
all-within zero test i e l = let j : 1 ≤ i = l.above in let k : i ≤ 0 = l.most in absurd (omega arith)
all-within (suc n) test i e l = go (bool_cases (eqb i (suc n))) (all-within n test i (and_left (all_within n test) (test (suc n)) e))
  where
    go : (eqb i (suc n) ≡ true) ⊎ (eqb i (suc n) ≡ false) → (IsWithin n i → test i ≡ true) → test i ≡ true
    go (inl q) ih = subst (λ (j : ℕ). test j ≡ true) (sym (eqb_is i (suc n) q)) (and_right (all_within n test) (test (suc n)) e)
    go (inr q) ih = ih (record { above = l.above; most = let d : i ≢ suc n = eqb_not i (suc n) q in let k : i ≤ suc n = l.most in grind (arith) })

pub accept-same : (i b j c : ℕ) (p q : Bool) → Accept i b p ≡ Accept j c q → (i ≡ j) × (b ≡ c) × (p ≡ q)
accept-same i b j c p q e = (cc, cc, cc)

pub accepted-same : (a i b d j c : ℕ) (p q : Bool) → Accepted a i b p ≡ Accepted d j c q → (a ≡ d) × (i ≡ j) × (b ≡ c) × (p ≡ q)
accepted-same a i b d j c p q e = (cc, cc, cc, cc)

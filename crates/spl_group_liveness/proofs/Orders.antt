-- The order by position is full.
use Rattle.std.proofs.Common.{◌≡◌, ◌≢◌, ℕ, zero, suc, ◌<◌, ◌≤◌, ◌⊎◌, true, false, ◌||◌, eqb, List, [], ◌∷◌, ◌++◌, refl, sym, subst, inl, inr, arith}
use Rattle.spl_agree.{specs.Member.{has, below_but}, proofs.Tests.{eqb_is, eqb_not, eqb_same, bool_cases, or_true, has-append, has-below_but}}
use Rattle.spl_agree.proofs.Tests.{has-below_but-other}
use Rattle.spl_group_liveness.specs.Calm.{below, pairs_to, pairs_of, by_position, as_often, AllBelow, AllPairs, HasPair, IsFull, AllFull}

-- the order by position is full
pub pairs-more : (n : ℕ) (xs ys : List (ℕ × ℕ)) → AllPairs n xs → AllPairs n ys → AllPairs n (xs ++ ys)
pairs-more n [] ys p q = q
pairs-more n (x ∷ xs) ys p q = (p.0, pairs-more n xs ys p.1 q)

pub below-append : (n : ℕ) (xs ys : List ℕ) → AllBelow n xs → AllBelow n ys → AllBelow n (xs ++ ys)
below-append n [] ys p q = q
below-append n (x ∷ xs) ys p q = (p.0, below-append n xs ys p.1 q)

pub all_below : (n m : ℕ) → m ≤ n → AllBelow n (below m)
all_below n zero l = tt
all_below n (suc m) l = below-append n (below m) (m ∷ []) (all_below n m (omega arith)) (omega arith, tt)

pub has-below : (n i : ℕ) → i < n → has i (below n) ≡ true
has-below zero i l = absurd (omega arith)
has-below (suc n) i l = rw (has-append i (below n) (n ∷ [])) (go (bool_cases (eqb n i)) (λ q. has-below n i q))
  where
    go : (eqb n i ≡ true) ⊎ (eqb n i ≡ false) → (i < n → has i (below n) ≡ true) → (has i (below n) || (eqb n i || false)) ≡ true
    go (inl q) ih = rw (q, or_true _)
    go (inr q) ih = let ne : n ≢ i = eqb_not n i q in let lt : i < n = omega arith in rw (ih lt)

pub pairs_to-among : (n a : ℕ) → a < n → (bs : List ℕ) → ((b : ℕ) → has b bs ≡ true → (b < n) × (b ≢ a)) → AllPairs n (pairs_to a bs)
pairs_to-among n a l [] f = tt
pairs_to-among n a l (b ∷ bs) f =
    ((l, (f b (rw (eqb_same b))).0, λ e. (f b (rw (eqb_same b))).1 (sym e)), pairs_to-among n a l bs (λ j h. f j (rw h (or_true _))))

pub pairs_of-among : (n : ℕ) (is : List ℕ) → AllBelow n is → AllPairs n (pairs_of n is)
pairs_of-among n [] l = tt
pairs_of-among n (a ∷ rest) l =
    pairs-more n (pairs_to a (below_but n a)) (pairs_of n rest) (pairs_to-among n a l.0 (below_but n a) (λ b h. has-below_but-other n a b h))
    (pairs_of-among n rest l.1)

pub pair-left : (a b : ℕ) (xs ys : List (ℕ × ℕ)) → HasPair a b xs → HasPair a b (xs ++ ys)
pair-left a b [] ys h = absurd h
pair-left a b (x ∷ xs) ys (inl h) = inl h
pair-left a b (x ∷ xs) ys (inr h) = inr (pair-left a b xs ys h)

pub pair-right : (a b : ℕ) (xs ys : List (ℕ × ℕ)) → HasPair a b ys → HasPair a b (xs ++ ys)
pair-right a b [] ys h = h
pair-right a b (x ∷ xs) ys h = inr (pair-right a b xs ys h)

pub pairs_to-has : (a b : ℕ) (bs : List ℕ) → has b bs ≡ true → HasPair a b (pairs_to a bs)
pairs_to-has a b [] h = cc
pairs_to-has a b (x ∷ xs) h = go (bool_cases (eqb x b)) (λ q. pairs_to-has a b xs q)
  where
    go : (eqb x b ≡ true) ⊎ (eqb x b ≡ false) → (has b xs ≡ true → HasPair a b (pairs_to a xs)) → HasPair a b ((a, x) ∷ pairs_to a xs)
    go (inl q) ih = inl (refl, eqb_is x b q)
    go (inr q) ih = inr (ih (rw q at h))

pub pairs_of-has : (n a b : ℕ) → b < n → a ≢ b → (is : List ℕ) → has a is ≡ true → HasPair a b (pairs_of n is)
pairs_of-has n a b l d [] h = cc
pairs_of-has n a b l d (x ∷ xs) h = go (bool_cases (eqb x a)) (λ q. pairs_of-has n a b l d xs q)
  where
    mine : (y : ℕ) → y ≡ a → HasPair a b (pairs_to y (below_but n y))
    mine y e = subst (λ (j : ℕ). HasPair a b (pairs_to j (below_but n j))) (sym e) (pairs_to-has a b (below_but n a) (has-below_but n a b l (λ t. d (sym t))))

    go : (eqb x a ≡ true) ⊎ (eqb x a ≡ false) → (has a xs ≡ true → HasPair a b (pairs_of n xs)) → HasPair a b (pairs_to x (below_but n x) ++ pairs_of n xs)
    go (inl q) ih = pair-left a b (pairs_to x (below_but n x)) (pairs_of n xs) (mine x (eqb_is x a q))
    go (inr q) ih = pair-right a b (pairs_to x (below_but n x)) (pairs_of n xs) (ih (rw q at h))

pub by_position-full : (n : ℕ) → IsFull n (by_position n)
by_position-full n = record {
  members = all_below n n (omega arith);
  each = has-below n;
  among = pairs_of-among n (below n) (all_below n n (omega arith));
  every = λ a b la lb d. pairs_of-has n a b lb d (below n) (has-below n a la);
}

pub all_full : (m n : ℕ) → AllFull n (as_often m (by_position n))
all_full zero n = tt
all_full (suc m) n = (by_position-full n, all_full m n)

-- Two quorums share an acceptor.
use Rattle.std.{specs.Prelude.if◌then◌else◌, proofs.Common.{◌≡◌, ℕ, zero, suc, ◌+◌, ◌<◌, ◌≤◌, Bool, true, false, refl, arith}}
use Rattle.spl_acceptor.specs.Quorums.{IsWithin, count, acceptors}

abbrev pub IsQuorum : ℕ → (ℕ → Bool) → Type 0
IsQuorum faults test = suc faults ≤ count (acceptors faults) test

pub within-more : (n a : ℕ) → IsWithin n a → IsWithin (suc n) a
within-more n a w = record { above = w.above; most = let k : a ≤ n = w.most in omega arith }

pub within-last : (n : ℕ) → IsWithin (suc n) (suc n)
within-last n = record { above = omega arith; most = omega arith }

-- tests that together pass more than n of the numbers from 1 to n share one
pub share : (n : ℕ) (f h : ℕ → Bool) → n < count n f + count n h → (a : ℕ) × IsWithin n a × (f a ≡ true) × (h a ≡ true)
share zero f h l = absurd (omega arith)
share (suc n) f h l = go (f (suc n)) (h (suc n)) refl refl l (λ k. up (share n f h k))
  where
    up : ((a : ℕ) × IsWithin n a × (f a ≡ true) × (h a ≡ true)) → (a : ℕ) × IsWithin (suc n) a × (f a ≡ true) × (h a ≡ true)
    up m = (m.0, within-more n m.0 m.1, m.2, m.3)

    go : (x y : Bool) → f (suc n) ≡ x → h (suc n) ≡ y → suc n < (if x then suc (count n f) else count n f) + (if y then suc (count n h) else count n h)
        → (n < count n f + count n h → (a : ℕ) × IsWithin (suc n) a × (f a ≡ true) × (h a ≡ true))
        → (a : ℕ) × IsWithin (suc n) a × (f a ≡ true) × (h a ≡ true)
    go true true p q k ih = (suc n, within-last n, p, q)
    go true false p q k ih = ih (omega arith)
    go false true p q k ih = ih (omega arith)
    go false false p q k ih = ih (omega arith)

pub quorums-meet : (faults : ℕ) (f h : ℕ → Bool) → IsQuorum faults f → IsQuorum faults h → (a : ℕ) × IsWithin (acceptors faults) a × (f a ≡ true) × (h a ≡ true)
quorums-meet faults f h p q = share (acceptors faults) f h (omega arith)

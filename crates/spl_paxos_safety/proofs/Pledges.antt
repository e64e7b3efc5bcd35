-- The pairs of a promise are those that its acceptor accepted.
use Rattle.std.{specs.Prelude.{List, [], ◌∷◌, ◌++◌, Option, Some, None, if◌then◌else◌, ◌==◌}, proofs.Common.{◌≡◌, ◌≢◌, ℕ, zero, suc, ◌<◌, ◌≤◌, ◌⊎◌, Bool}}
use Rattle.std.proofs.Common.{true, false, inl, inr, refl, sym, subst, ◌∙◌, arith}
use Rattle.spl_agree.proofs.Tests.{if_true, if_false, eqb_same, eqb_other}
use Rattle.spl_acceptor.specs.{Quorums.IsWithin, Processes.{Pair, Pairs}, Rows.{pledge_of, pledges, pair_among}, declared.message.Pledge.Pledge}
use Rattle.spl_paxos_safety.proofs.AcceptorRows.{same_number}

-- a pair among pledges is the same with others after
append-some : (xs ys : List Pledge) (i : ℕ) (z : Pair) → pair_among xs i ≡ Some z → pair_among (xs ++ ys) i ≡ Some z
append-some [] ys i z e = cc
append-some (x ∷ xs) ys i z e = go (x.member == i) (append-some xs ys i z) e
  where
    go : (c : Bool) → (pair_among xs i ≡ Some z → pair_among (xs ++ ys) i ≡ Some z) → (if c then Some (x.ballot, x.prepared) else pair_among xs i) ≡ Some z
        → (if c then Some (x.ballot, x.prepared) else pair_among (xs ++ ys) i) ≡ Some z
    go true ih e = e
    go false ih e = ih e

-- and where there is none it is the one after
append-none : (xs ys : List Pledge) (i : ℕ) → pair_among xs i ≡ None → pair_among (xs ++ ys) i ≡ pair_among ys i
append-none [] ys i e = refl
append-none (x ∷ xs) ys i e = go (x.member == i) (append-none xs ys i) e
  where
    go : (c : Bool) → (pair_among xs i ≡ None → pair_among (xs ++ ys) i ≡ pair_among ys i)
        → (if c then Some (x.ballot, x.prepared) else pair_among xs i) ≡ None
        → (if c then Some (x.ballot, x.prepared) else pair_among (xs ++ ys) i) ≡ pair_among ys i
    go true ih e = cc
    go false ih e = ih e

one-same : (i : ℕ) (o : Option Pair) → pair_among (pledge_of i o) i ≡ o
one-same i None = refl
one-same i (Some x) = if_true (λ (z : Option Pair). z ≡ Some x) (i == i) (Some (x.0, x.1)) None (eqb_same i) refl

one-other : (j i : ℕ) (o : Option Pair) → j ≢ i → pair_among (pledge_of j o) i ≡ None
one-other j i None n = refl
one-other j i (Some x) n = if_false (λ (z : Option Pair). z ≡ None) (j == i) (Some (x.0, x.1)) None (eqb_other j i n) refl

-- none of a member above n
pledges-above : (n : ℕ) (pairs : Pairs) (i : ℕ) → n < i → pair_among (pledges n pairs) i ≡ None
pledges-above zero pairs i l = refl
pledges-above (suc n) pairs i l =
    append-none (pledges n pairs) (pledge_of (suc n) (pairs (suc n))) i (pledges-above n pairs i (omega arith))
    ∙ one-other (suc n) i (pairs (suc n)) (λ e. omega arith)

-- those of the members from 1 to n
pub pledges-within : (n : ℕ) (pairs : Pairs) (i : ℕ) → IsWithin n i → pair_among (pledges n pairs) i ≡ pairs i
pledges-within zero pairs i w = let j : 1 ≤ i = w.above in let k : i ≤ 0 = w.most in absurd (omega arith)
pledges-within (suc n) pairs i w = go (same_number i (suc n)) (λ l. pledges-within n pairs i l)
  where
    last : i ≡ suc n → pair_among (pledges (suc n) pairs) (suc n) ≡ pairs (suc n)
    last e = append-none (pledges n pairs) (pledge_of (suc n) (pairs (suc n))) (suc n) (pledges-above n pairs (suc n) (omega arith))
        ∙ one-same (suc n) (pairs (suc n))

    before : i ≢ suc n → (o : Option Pair) → pairs i ≡ o → pair_among (pledges n pairs) i ≡ pairs i → pair_among (pledges (suc n) pairs) i ≡ pairs i
    before d None e ih =
        append-none (pledges n pairs) (pledge_of (suc n) (pairs (suc n))) i (ih ∙ e) ∙ one-other (suc n) i (pairs (suc n)) (λ k. d (sym k)) ∙ sym e
    before d (Some z) e ih = append-some (pledges n pairs) (pledge_of (suc n) (pairs (suc n))) i z (ih ∙ e) ∙ sym e

    go : (i ≡ suc n) ⊎ (i ≢ suc n) → (IsWithin n i → pair_among (pledges n pairs) i ≡ pairs i) → pair_among (pledges (suc n) pairs) i ≡ pairs i
    go (inl e) ih = subst (λ (j : ℕ). pair_among (pledges (suc n) pairs) j ≡ pairs j) (sym e) (last e)
    go (inr d) ih = before d (pairs i) refl (ih (record { above = w.above; most = let k : i ≤ suc n = w.most in omega arith }))

-- and no others
pub pledges-from : (n : ℕ) (pairs : Pairs) (i : ℕ) (z : Pair) → pair_among (pledges n pairs) i ≡ Some z → pairs i ≡ Some z
pledges-from zero pairs i z e = cc
pledges-from (suc n) pairs i z e = go (pair_among (pledges n pairs) i) refl (pledges-from n pairs i z) (same_number (suc n) i)
  where
    other : pair_among (pledges n pairs) i ≡ None → pair_among (pledge_of (suc n) (pairs (suc n))) i ≡ Some z
    other q = sym (append-none (pledges n pairs) (pledge_of (suc n) (pairs (suc n))) i q) ∙ e

    go : (o : Option Pair) → pair_among (pledges n pairs) i ≡ o → (pair_among (pledges n pairs) i ≡ Some z → pairs i ≡ Some z) → (suc n ≡ i) ⊎ (suc n ≢ i)
        → pairs i ≡ Some z
    go (Some y) q ih k = ih (q ∙ sym (append-some (pledges n pairs) (pledge_of (suc n) (pairs (suc n))) i y q) ∙ e)
    go None q ih (inl k) =
        subst (λ (j : ℕ). pairs j ≡ Some z) k
        (sym (one-same (suc n) (pairs (suc n))) ∙ subst (λ (j : ℕ). pair_among (pledge_of (suc n) (pairs (suc n))) j ≡ Some z) (sym k) (other q))
    go None q ih (inr k) = let f : None ≡ Some z = sym (one-other (suc n) i (pairs (suc n)) k) ∙ other q in cc

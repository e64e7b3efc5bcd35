-- The greatest ballot among the promises of a quorum, and why its choice is safe.
use Rattle.std.{specs.Prelude.{Option, Some, None, nat_lt, is_some}, proofs.Common.{◌≡◌, ◌≢◌, ℕ, zero, suc, ◌<◌, ◌≤◌, ◌⊎◌, Bool, true, false, eqb, inl, inr}}
use Rattle.std.proofs.Common.{refl, sym, subst, ◌∙◌, ap, arith}
use Rattle.spl_agree.proofs.Tests.{if_holds, ltb_is, ltb_not, eqb_is, eqb_not, bool_cases}
use Rattle.spl_acceptor.specs.{Quorums.{IsWithin, acceptors}, Processes.{Pair, Pairs}, Rows.{greater, pair_in, greatest, prepared_of, choice}}
use Rattle.spl_acceptor.specs.{Worlds.message_heard, declared.group.Group.Group}
use Rattle.spl_paxos_safety.proofs.{Round.{Accept, Promise, Round, IsAmong}, Quorums.IsQuorum, Soundness.{Accepts, Blocked, Covers, Promised, Sound}}
use Rattle.spl_paxos_safety.proofs.Choice.{before_or_not}

-- the greater pair is one of both
pub greater-from : (x y : Option Pair) (z : Pair) → greater x y ≡ Some z → (x ≡ Some z) ⊎ (y ≡ Some z)
greater-from None y z e = inr e
greater-from (Some x) None z e = inl e
greater-from (Some x) (Some y) z e =
    if_holds (λ (o : Option Pair). o ≡ Some z → (Some x ≡ Some z) ⊎ (Some y ≡ Some z)) (nat_lt x.0 y.0) _ _ (λ q e. inr e) (λ q e. inl e) e

-- it covers the ballots of both
pub greater-left : (x y : Option Pair) (b : ℕ) → Covers x b → Covers (greater x y) b
greater-left None y b c = let e : None ≡ Some c.0 = c.1 in cc
greater-left (Some x) None b c = c
greater-left (Some x) (Some y) b c = if_holds (λ (o : Option Pair). Covers o b) (nat_lt x.0 y.0) _ _
    (λ q. (
      y,
      refl,
      (let e : x ≡ c.0 = (let f : Some x ≡ Some c.0 = c.1 in cc) in let k : b ≤ x.0 = subst (λ (z : Pair). b ≤ z.0) (sym e) c.2 in
          let l : x.0 < y.0 = ltb_is x.0 y.0 q in omega arith),
    ))
    (λ q. c)

pub greater-right : (x y : Option Pair) (b : ℕ) → Covers y b → Covers (greater x y) b
greater-right None y b c = c
greater-right (Some x) None b c = let e : None ≡ Some c.0 = c.1 in cc
greater-right (Some x) (Some y) b c = if_holds (λ (o : Option Pair). Covers o b) (nat_lt x.0 y.0) _ _
    (λ q. c)
    (λ q. (
      x,
      refl,
      (let e : y ≡ c.0 = (let f : Some y ≡ Some c.0 = c.1 in cc) in let k : b ≤ y.0 = subst (λ (z : Pair). b ≤ z.0) (sym e) c.2 in
          let l : y.0 ≤ x.0 = ltb_not x.0 y.0 q in omega arith),
    ))

-- the greatest pair stands in a promise
pub greatest-from : (n : ℕ) (heard : ℕ → Option Pairs) (i : ℕ) (z : Pair) → greatest n heard i ≡ Some z
    → (a : ℕ) × (pairs : Pairs) × (heard a ≡ Some pairs) × (pairs i ≡ Some z)
greatest-from zero heard i z e = cc
greatest-from (suc n) heard i z e = go (heard (suc n)) refl (greater-from (greatest n heard i) (pair_in (heard (suc n)) i) z e) (greatest-from n heard i z)
  where
    go : (o : Option Pairs) → heard (suc n) ≡ o → (greatest n heard i ≡ Some z) ⊎ (pair_in (heard (suc n)) i ≡ Some z)
        → (greatest n heard i ≡ Some z → (a : ℕ) × (pairs : Pairs) × (heard a ≡ Some pairs) × (pairs i ≡ Some z))
        → (a : ℕ) × (pairs : Pairs) × (heard a ≡ Some pairs) × (pairs i ≡ Some z)
    go o q (inl x) ih = ih x
    go None q (inr x) ih = let y : pair_in None i ≡ Some z = subst (λ (o : Option Pairs). pair_in o i ≡ Some z) q x in cc
    go (Some pairs) q (inr x) ih = (suc n, pairs, q, subst (λ (o : Option Pairs). pair_in o i ≡ Some z) q x)

-- and covers each promise of the acceptors below n
pub greatest-covers : (n : ℕ) (heard : ℕ → Option Pairs) (i a : ℕ) (b : ℕ) → IsWithin n a → Covers (pair_in (heard a) i) b → Covers (greatest n heard i) b
greatest-covers zero heard i a b l c = let j : 1 ≤ a = l.above in let k : a ≤ 0 = l.most in absurd (omega arith)
greatest-covers (suc n) heard i a b l c = go (bool_cases (eqb a (suc n))) (λ k. greatest-covers n heard i a b k c)
  where
    go : (eqb a (suc n) ≡ true) ⊎ (eqb a (suc n) ≡ false) → (IsWithin n a → Covers (greatest n heard i) b) → Covers (greatest (suc n) heard i) b
    go (inl q) ih = greater-right (greatest n heard i) (pair_in (heard (suc n)) i) b (subst (λ (j : ℕ). Covers (pair_in (heard j) i) b) (eqb_is a (suc n) q) c)
    go (inr q) ih =
        greater-left (greatest n heard i) (pair_in (heard (suc n)) i) b
        (ih (record { above = l.above; most = let d : a ≢ suc n = eqb_not a (suc n) q in let k : a ≤ suc n = l.most in grind (arith) }))

pub some_is : {A : Type 0} (o : Option A) → is_some o ≡ true → (x : A) × (o ≡ Some x)
some_is None e = cc
some_is (Some x) e = (x, refl)

-- the promises that were heard for a ballot
abbrev pub Heard : Round → ℕ → (ℕ → Option Pairs) → Type 0
Heard w b heard = (a : ℕ) (pairs : Pairs) → heard a ≡ Some pairs → IsAmong (Promise a b pairs) w.sent

-- what the promises of a quorum show not to have been accepted is blocked
pub blocked-by : (g : Group) (w : Round) (b i c : ℕ) (q : Bool) (heard : ℕ → Option Pairs) → Sound g w → Heard w b heard
    → IsQuorum g.faults (λ a. is_some (heard a)) → c < b → (Covers (greatest (acceptors g.faults) heard i) c → (a : ℕ) → Accepts w.sent a i c q → ⊥)
    → Blocked g w i c q
blocked-by g w b i c q heard s h quorum l never = ((λ a. is_some (heard a)), quorum, λ a j t. go a j (some_is (heard a) t))
  where
    go : (a : ℕ) → IsWithin (acceptors g.faults) a → (pairs : Pairs) × (heard a ≡ Some pairs) → (c < (w.acceptor a).promised) × (Accepts w.sent a i c q → ⊥)
    go a j m =
        let p : Promised w a b m.0 = s.promised a b m.0 (h a m.0 m.1) in (
          (let k : b ≤ (w.acceptor a).promised = p.below in omega arith),
          λ y. never (greatest-covers (acceptors g.faults) heard i a c j
              (subst (λ (o : Option Pairs). Covers (pair_in o i) c) (sym m.1) (p.all_pairs i c q y l))) a y,
        )

-- the pair of the greatest ballot was accepted, so it was asked for
pub greatest-asked : (g : Group) (w : Round) (b i : ℕ) (z : Pair) (heard : ℕ → Option Pairs) → Sound g w → Heard w b heard
    → greatest (acceptors g.faults) heard i ≡ Some z → IsAmong (Accept i z.0 z.1) w.sent
greatest-asked g w b i z heard s h e =
    let m : (a : ℕ) × (pairs : Pairs) × (heard a ≡ Some pairs) × (pairs i ≡ Some z) = greatest-from (acceptors g.faults) heard i z e in
    (s.given m.0 i z.0 z.1 ((s.promised m.0 b m.1 (h m.0 m.1 m.2)).true_pairs i z m.3).1).asked

pub choice-safe : (g : Group) (w : Round) (b i c : ℕ) (q : Bool) (heard : ℕ → Option Pairs) → Sound g w → Heard w b heard
    → IsQuorum g.faults (λ a. is_some (heard a)) → c < b → q ≢ choice g heard i → Blocked g w i c q
choice-safe g w b i c q heard s h quorum l n = go (greatest (acceptors g.faults) heard i) refl
  where
    G : Option Pair
    G = greatest (acceptors g.faults) heard i

    none : G ≡ None → Blocked g w i c q
    none e = blocked-by g w b i c q heard s h quorum l (λ y a u. (let k : None ≡ Some y.0 = sym e ∙ y.1 in cc))

    some : (z : Pair) → G ≡ Some z → (c < z.0) ⊎ ((c ≡ z.0) ⊎ (z.0 < c)) → Blocked g w i c q
    some z e (inl k) = (s.ordered i z.0 z.1 (greatest-asked g w b i z heard s h e)).safe c q k (λ d. n (d ∙ ap prepared_of (sym e)))
    some z e (inr (inl k)) = blocked-by g w b i c q heard s h quorum l (λ y a u.
        n (sym ((s.ordered i z.0 z.1 (greatest-asked g w b i z heard s h e)).single q
        (subst (λ (d : ℕ). IsAmong (Accept i d q) w.sent) k (s.given a i c q u).asked)) ∙ ap prepared_of (sym e)))
    some z e (inr (inr k)) = blocked-by g w b i c q heard s h quorum l (λ y a u.
        (let f : Some z ≡ Some y.0 = sym e ∙ y.1 in let d : z ≡ y.0 = cc in let m : c ≤ z.0 = subst (λ (x : Pair). c ≤ x.0) (sym d) y.2 in omega arith))

    go : (o : Option Pair) → G ≡ o → Blocked g w i c q
    go None e = none e
    go (Some z) e = some z e (before_or_not c z.0)

-- yes is chosen only where the member voted yes
pub choice-yes : (g : Group) (w : Round) (b i : ℕ) (heard : ℕ → Option Pairs) → Sound g w → Heard w b heard → choice g heard i ≡ true
    → (w.member i).vote ≡ Some true
choice-yes g w b i heard s h t = go (greatest (acceptors g.faults) heard i) refl
  where
    go : (o : Option Pair) → greatest (acceptors g.faults) heard i ≡ o → (w.member i).vote ≡ Some true
    go None e = let k : prepared_of None ≡ true = sym (ap prepared_of e) ∙ t in cc
    go (Some z) e = (s.ordered i z.0 z.1 (greatest-asked g w b i z heard s h e)).yes (sym (ap prepared_of e) ∙ t)

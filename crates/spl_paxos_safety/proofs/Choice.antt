-- A member's instance has one outcome.
use Rattle.std.proofs.Common.{◌≡◌, ◌≢◌, ℕ, ◌<◌, ◌⊎◌, Bool, true, false, inl, inr, refl, sym, subst, arith}
use Rattle.spl_acceptor.specs.{Quorums.{IsWithin, acceptors}, declared.group.Group.Group}
use Rattle.spl_paxos_safety.proofs.{Round.{Accept, Round, IsAmong}, Quorums.quorums-meet, Soundness.{Chosen, Blocked, Reason, Sound}}

-- what is blocked isn't chosen
pub blocked-chosen : (g : Group) (w : Round) (i b : ℕ) (p : Bool) → Blocked g w i b p → Chosen g w.sent i b p → ⊥
blocked-chosen g w i b p x y =
    let m : (a : ℕ) × (IsWithin (acceptors g.faults) a) × (x.0 a ≡ true) × (y.0 a ≡ true) = quorums-meet g.faults x.0 y.0 x.1 y.1 in
    (x.2 m.0 m.1 m.2).1 (y.2 m.0 m.1 m.3)

-- what is chosen was asked for
pub chosen-asked : (g : Group) (w : Round) (i b : ℕ) (p : Bool) → Sound g w → Chosen g w.sent i b p → IsAmong (Accept i b p) w.sent
chosen-asked g w i b p s y =
    let m : (a : ℕ) × (IsWithin (acceptors g.faults) a) × (y.0 a ≡ true) × (y.0 a ≡ true) = quorums-meet g.faults y.0 y.0 y.1 y.1 in
    (s.given m.0 i b p (y.2 m.0 m.1 m.2)).asked

pub same_or_not : (p q : Bool) → (p ≡ q) ⊎ (p ≢ q)
same_or_not true true = inl refl
same_or_not true false = inr (λ e. cc)
same_or_not false true = inr (λ e. cc)
same_or_not false false = inl refl

pub before_or_not : (b c : ℕ) → (b < c) ⊎ ((b ≡ c) ⊎ (c < b))
before_or_not b c = grind (arith)

-- an earlier and a later ballot choose alike
pub chosen-later : (g : Group) (w : Round) (i b c : ℕ) (p q : Bool) → Sound g w → b < c → Chosen g w.sent i b p → Chosen g w.sent i c q → p ≡ q
chosen-later g w i b c p q s l x y = go (same_or_not p q)
  where
    go : (p ≡ q) ⊎ (p ≢ q) → p ≡ q
    go (inl e) = e
    go (inr n) = absurd (blocked-chosen g w i b p ((s.ordered i c q (chosen-asked g w i c q s y)).safe b p l n) x)

pub chosen-same : (g : Group) (w : Round) (i b c : ℕ) (p q : Bool) → Sound g w → Chosen g w.sent i b p → Chosen g w.sent i c q → p ≡ q
chosen-same g w i b c p q s x y = go (before_or_not b c)
  where
    go : (b < c) ⊎ ((b ≡ c) ⊎ (c < b)) → p ≡ q
    go (inl l) = chosen-later g w i b c p q s l x y
    go (inr (inl e)) =
        (s.ordered i b p (chosen-asked g w i b p s x)).single q (subst (λ (d : ℕ). IsAmong (Accept i d q) w.sent) (sym e) (chosen-asked g w i c q s y))
    go (inr (inr l)) = sym (chosen-later g w i c b q p s l y x)

-- commit and abort don't both have a reason
pub reasons-meet : (g : Group) (w : Round) → Sound g w → Reason g w true → Reason g w false → ⊥
reasons-meet g w s x y =
    let a : IsAmong (Accept y.0 y.1 false) w.sent = chosen-asked g w y.0 y.1 false s y.2 in
    let c : (b : ℕ) × Chosen g w.sent y.0 b true = x y.0 (s.ordered y.0 y.1 false a).member in
    let e : true ≡ false = chosen-same g w y.0 c.0 y.1 true false s c.1 y.2 in
    cc

pub reasons-same : (g : Group) (w : Round) (p q : Bool) → Sound g w → Reason g w p → Reason g w q → p ≡ q
reasons-same g w true true s x y = refl
reasons-same g w true false s x y = absurd (reasons-meet g w s x y)
reasons-same g w false true s x y = absurd (reasons-meet g w s y x)
reasons-same g w false false s x y = refl

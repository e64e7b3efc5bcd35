-- One milestone a pass, until the value is settled.
use Rattle.std.{specs.Prelude.{Option, Some, None}, proofs.Common.{◌≡◌, ◌≢◌, ℕ, suc, ◌-◌, ◌^◌, ◌<◌, ◌≤◌, ◌⊎◌, true, false, ◌||◌, eqb, List, ◌∷◌, length}}
use Rattle.std.proofs.Common.{refl, sym, subst, inl, inr, arith}
use Rattle.spl_agree.{specs.{Member.{Group, has_round, found, is_spent}, World.World}, proofs.Tests.{eqb_is, eqb_not, eqb_other, bool_cases}}
use Rattle.spl_agree.specs.declared.message.CommitMsg.TheVariants as msg
use Rattle.spl_group_liveness.specs.{Bound.{InHistory, IsPending, Settles, IsKeyed, Once, IsFit}, Calm.{Calm, Order, group_ticks, group_pass, group_passes}}
use Rattle.spl_group_liveness.{specs.Calm.{calm_beginning, calm_by, IsFull, AllFull}, proofs.Kept.{Base, Holds, IsRefusal, IsOver, kept-got, kept-gone}}
use Rattle.spl_group_liveness.proofs.{Kept.{kept-over, kept-holds, kept-base, kept-beside, gives-commit, gives-refused}, Early.{Early, HasBegun, kept-begun}}
use Rattle.spl_group_liveness.proofs.{Early.{kept-early, early-tick}, Moves.{IsKept, kept-turns, kept-pass, kept-passes}, Awaits.{awaits-pass, ticks-pass}}
use Rattle.spl_group_liveness.proofs.{Live.{Live, IsDone}, Freed.{pass-answer, pass-free}, Voted.{pass-vote, pass-count, kept-live, all-counted}}

-- Sixth pass: the decision arrives
abbrev pub IsSettled : {V : Type 0} → Group V → V → Calm V → Type 0
IsSettled g v k =
    ((i : ℕ) → i < g.members → InHistory v (k.world.at i))
    ⊎ (IsOver v (k.world.at g.coordinator) × ((i : ℕ) → i < g.members → i ≢ g.coordinator → IsPending v (k.world.at i) → ⊥))

pub kept-settled : {V : Type 0} (g : Group V) → IsKeyed g.rules → (v : V) → IsKept g (IsSettled g v)
kept-settled g keyed v k here e d ready (inl x) = inl (λ i l. kept-got g v i k here e d ready (x i l))
kept-settled g keyed v k here e d ready (inr x) = inr (kept-over g keyed v k here e d ready x.0, λ i l n. kept-gone g v i n k here e d ready (x.1 i l n))

pub pass-settles : {V : Type 0} (g : Group V) (o : Order) → IsFull g.members o → IsKeyed g.rules → (v : V) → g.coordinator < g.members → (k : Calm V)
    → IsDone g v k → IsSettled g v (group_pass g o k)
pass-settles {V} g o full keyed v lc k (inl x) = inl (λ i l. go i l (bool_cases (eqb i g.coordinator)))
  where
    mine : InHistory v ((group_pass g o k).world.at g.coordinator)
    mine = kept-pass g o full (λ c. InHistory v (c.world.at g.coordinator)) (kept-got g v g.coordinator) k x.1.mine

    go : (i : ℕ) → i < g.members → (eqb i g.coordinator ≡ true) ⊎ (eqb i g.coordinator ≡ false) → InHistory v ((group_pass g o k).world.at i)
    go i l (inl q) = subst (λ (j : ℕ). InHistory v ((group_pass g o k).world.at j)) (sym (eqb_is i g.coordinator q)) mine
    go i l (inr q) = let n : i ≢ g.coordinator = eqb_not i g.coordinator q in
        awaits-pass g o full g.coordinator i (Holds g v x.0 i) (λ m. m ≡ msg.Decision g.generation x.0 true) (λ c. InHistory v (c.world.at i))
        (kept-holds g v x.0 i n) (kept-got g v i) (gives-commit g v x.0 i) lc l (λ e. n (sym e)) k (x.1.theirs i l n)
pass-settles {V} g o full keyed v lc k (inr x) = inr (
  kept-pass g o full (λ c. IsOver v (c.world.at g.coordinator)) (kept-over g keyed v) k x.mine,
  λ i l n. awaits-pass g o full g.coordinator i (Base g v) (IsRefusal g.generation v) (λ c. IsPending v (c.world.at i) → ⊥)
      (kept-beside g (Base g v) (λ c. IsPending v (c.world.at i) → ⊥) (kept-base g v) (kept-gone g v i n)) (kept-gone g v i n)
      (gives-refused g keyed v i n) lc l (λ e. n (sym e)) k (x.theirs i l n),
)

-- First pass: the round is open
pub pass-begins : {V : Type 0} (g : Group V) (o : Order) → IsFull g.members o → IsKeyed g.rules → 2 ≤ g.members → g.coordinator < g.members
    → (v : V) (k : Calm V) → Early g v k ⊎ HasBegun g v k → HasBegun g v (group_pass g o k)
pass-begins g o full keyed two lc v k h = kept-turns g (HasBegun g v) (kept-begun g keyed v) o.pairs full.among (group_ticks g o.ticks k)
    (ticks-pass g o full g.coordinator (Early g v) (HasBegun g v) (kept-early g keyed two v) (kept-begun g keyed v)
    (λ t x. early-tick g keyed two lc v t x) lc k h)

-- the start of a calm
pub fit-starts : {V : Type 0} (g : Group V) (w : World V) (v : V) (rest : List V) → IsFit g w → (w.at g.coordinator).pending ≡ v ∷ rest
    → Early g v (calm_beginning w) ⊎ HasBegun g v (calm_beginning w)
fit-starts {V} g w v rest fit first = go (w.at g.coordinator).opened refl
  where
    base : Base g v (calm_beginning w)
    base = record { agrees = fit.agrees; was = λ a b m h. absurd h; once = λ i l n. fit.once i l v }

    once : found (g.rules.same_key v) rest ≡ None
    once = let z : Once g.rules v (v ∷ rest) = subst (λ (us : List V). Once g.rules v us) first (fit.once g.coordinator fit.leads v) in z.0 (fit.keyed.self v)

    free : is_spent (w.at g.coordinator) ≡ false
    free = spent (w.at g.coordinator).next (length (w.at g.coordinator).history) fit.rounds fit.places
      where
        spent : (a b : ℕ) → a < 2 ^ 64 - 1 → b < 2 ^ 32 - 1 → (eqb a (2 ^ 64 - 1) || eqb b (2 ^ 32 - 1)) ≡ false
        spent a b p q = rw (eqb_other a (2 ^ 64 - 1) (omega (arith, p)), eqb_other b (2 ^ 32 - 1) (omega (arith, q)))

    go : (o : Option (ℕ × List ℕ)) → (w.at g.coordinator).opened ≡ o → Early g v (calm_beginning w) ⊎ HasBegun g v (calm_beginning w)
    go None e = inl (record { base = base; heard = fit.heard; asks = λ r i h. h; shut = e; rest = rest; first = first; once = once; free = free })
    go (Some o) e =
        let last : (suc o.0 ≡ (w.at g.coordinator).next)
        × (has_round o.0 (w.at g.coordinator).history ≡ false) = fit.agrees.led.latest (record { round = o.0; value = v; missing = o.1 }) (rw (e, first)) in
        inr (inl (
          o.0,
          record {
            base = base;
            heard = λ i l n. let y : (w.at i).seen < (w.at g.coordinator).next = fit.heard i l n in let z : suc o.0 ≡ (w.at g.coordinator).next = last.0 in
                omega (arith, y, z);
            asks = λ i h. h;
            missing = o.1;
            opened = e;
            manned = fit.manned o e;
            rest = rest;
            first = first;
            once = once;
          },
        ))

-- six passes settle it
pub six-settle : {V : Type 0} (g : Group V) → IsKeyed g.rules → 2 ≤ g.members → g.coordinator < g.members
    → (v : V) (k : Calm V) (o1 o2 o3 o4 o5 o6 : Order) → IsFull g.members o1 → IsFull g.members o2 → IsFull g.members o3 → IsFull g.members o4
    → IsFull g.members o5 → IsFull g.members o6 → Early g v k ⊎ HasBegun g v k
    → IsSettled g v (group_pass g o6 (group_pass g o5 (group_pass g o4 (group_pass g o3 (group_pass g o2 (group_pass g o1 k))))))
six-settle {V} g keyed two lc v k o1 o2 o3 o4 o5 o6 f1 f2 f3 f4 f5 f6 h = go (pass-begins g o1 f1 keyed two lc v k h)
  where
    k1 : Calm V
    k1 = group_pass g o1 k

    k2 : Calm V
    k2 = group_pass g o2 k1

    k3 : Calm V
    k3 = group_pass g o3 k2

    k4 : Calm V
    k4 = group_pass g o4 k3

    k5 : Calm V
    k5 = group_pass g o5 k4

    more : (o : Order) → IsFull g.members o → (r : ℕ) (t : Calm V) → Live g v r t ⊎ IsDone g v t → Live g v r (group_pass g o t) ⊎ IsDone g v (group_pass g o t)
    more o f r t y = kept-pass g o f (λ c. Live g v r c ⊎ IsDone g v c) (kept-live g keyed v r) t y

    live : (r : ℕ) → Live g v r k1 ⊎ IsDone g v k1 → IsSettled g v (group_pass g o6 k5)
    live r x = pass-settles g o6 f6 keyed v lc k5 (all-counted g v r k5
        (λ i l n. pass-count g o5 f5 keyed v r i lc l n k4
        (pass-vote g o4 f4 keyed v r i lc l n k3 (pass-free g o3 f3 keyed v r i lc l n k2 (pass-answer g o2 f2 keyed v r i lc l n k1 x))))
        (more o5 f5 r k4 (more o4 f4 r k3 (more o3 f3 r k2 (more o2 f2 r k1 x)))))

    go : HasBegun g v k1 → IsSettled g v (group_pass g o6 k5)
    go (inl x) = live x.0 (inl x.1)
    go (inr x) = live 0 (inr x)

pub settled-is : {V : Type 0} (g : Group V) (v : V) (k : Calm V) → IsSettled g v k → Settles g v k.world
settled-is g v k (inl x) = inl x
settled-is {V} g v k (inr x) = inr (x.0.refused, λ i l. go i l (bool_cases (eqb i g.coordinator)))
  where
    go : (i : ℕ) → i < g.members → (eqb i g.coordinator ≡ true) ⊎ (eqb i g.coordinator ≡ false) → IsPending v (k.world.at i) → ⊥
    go i l (inl q) = subst (λ (j : ℕ). IsPending v (k.world.at j) → ⊥) (sym (eqb_is i g.coordinator q)) x.0.gone
    go i l (inr q) = x.1 i l (eqb_not i g.coordinator q)

-- a calm of six passes or more, in any orders, settles the first pending value of the coordinator
pub orders-settle : {V : Type 0} (g : Group V) (w : World V) (v : V) (rest : List V) (os : List Order) → AllFull g.members os → 6 ≤ length os → IsFit g w
    → (w.at g.coordinator).pending ≡ v ∷ rest → Settles g v (calm_by g os w)
orders-settle g w v rest (o1 ∷ o2 ∷ o3 ∷ o4 ∷ o5 ∷ o6 ∷ os) f l fit first =
    settled-is g v (group_passes g (o1 ∷ o2 ∷ o3 ∷ o4 ∷ o5 ∷ o6 ∷ os) (calm_beginning w))
    (kept-passes g (IsSettled g v) (kept-settled g fit.keyed v) os f.1.1.1.1.1.1
    (group_pass g o6 (group_pass g o5 (group_pass g o4 (group_pass g o3 (group_pass g o2 (group_pass g o1 (calm_beginning w)))))))
    (six-settle g fit.keyed fit.two fit.leads v (calm_beginning w) o1 o2 o3 o4 o5 o6 f.0 f.1.0 f.1.1.0 f.1.1.1.0 f.1.1.1.1.0 f.1.1.1.1.1.0
    (fit-starts g w v rest fit first)))
orders-settle g w v rest _ f l fit first = absurd (omega (arith, l))

-- A member that has promised another round comes to be free.
use Rattle.std.{specs.Prelude.{Option, Some, None}, proofs.Common.{◌≡◌, ◌≢◌, ℕ, suc, ◌<◌, ◌⊎◌, true, false, eqb, List, [], ◌∷◌, ◌++◌, refl, sym, ap, subst}}
use Rattle.std.proofs.Common.{◌∙◌, inl, inr}
use Rattle.spl_agree.specs.{Member.{Group, Member, has_round}, Rows.row, World.after, declared.{event.GroupEvent.GroupEvent, message.CommitMsg.CommitMsg}}
use Rattle.spl_agree.{specs.declared.plan.GroupPlan.GroupPlan, proofs.Tests.{eqb_is, eqb_not, bool_cases, has_round-more, has-below_but, put-same}}
use Rattle.spl_agree.specs.declared.message.CommitMsg.TheVariants as msg
use Rattle.spl_agree.specs.declared.event.GroupEvent.TheVariants as event
use Rattle.spl_group_liveness.{specs.{Bound.{AnyOf, IsKeyed}, Calm.{Calm, Order, mail, move, ticked, group_ticks, group_pass, IsFull}}, proofs.Does.SeatDoes}
use Rattle.spl_group_liveness.proofs.{Does.{Rests, Sees, Promises, Commits, Aborts, Refuses}, Rounds.{IsAsking, IsAnswer, FreeOf, tick-asks, lead-tells}}
use Rattle.spl_group_liveness.proofs.{Rounds.decided-free, Moves.{any-right, Ready, IsKept, mailed-here, kept-pass}, Awaits.{Awaits, Gives, awaits-kept}}
use Rattle.spl_group_liveness.proofs.{Awaits.{awaits-turns, awaits-pass, ticks-pass}, Live.{Counted, Live, IsDone, kept-done, LiveOr, seat-at, came-asked}}
use Rattle.spl_group_liveness.proofs.Leading.{live-move}

-- what a move sends stands on the pair
pub sent-due : {V : Type 0} (g : Group V) (P : CommitMsg V → Type 0) (k : Calm V) (here : ℕ) (e : GroupEvent V) (d : ℕ → ℕ → List (CommitMsg V)) (to : ℕ)
    → AnyOf P (mail to (row g here (k.world.at here) e).sends) → AnyOf P ((move g k here e d).due here to)
sent-due {V} g P k here e d to h =
    subst (λ (x : List (CommitMsg V)). AnyOf P x) (sym (mailed-here d here (row g here (k.world.at here) e).sends to))
    (any-right P (d here to) (mail to (row g here (k.world.at here) e).sends) h)

-- a tick, and then the turns
pub ticked-pass : {V : Type 0} (g : Group V) (o : Order) → IsFull g.members o
    → (here a b : ℕ) (R : Calm V → Type 0) (W : CommitMsg V → Type 0) (Q : Calm V → Type 0) → IsKept g (λ k. R k ⊎ Q k) → IsKept g Q → Gives g a b R W Q
    → ((k : Calm V) → R k → Awaits a b R W Q (ticked g here k)) → here < g.members → a < g.members → b < g.members → a ≢ b → (k : Calm V) → R k ⊎ Q k
    → Q (group_pass g o k)
ticked-pass {V} g o full here a b R W Q until kept gives asks lh la lb n k h =
    awaits-turns g a b R W Q until kept gives la lb n o.pairs full.among (full.every a b la lb n) (group_ticks g o.ticks k)
    (ticks-pass g o full here R (Awaits a b R W Q) both (awaits-kept g a b R W Q until kept gives) asks lh k (start h))
  where
    start : R k ⊎ Q k → R k ⊎ Awaits a b R W Q k
    start (inl x) = inl x
    start (inr x) = inr (inr x)

    next : (l : Calm V) → R l ⊎ Q l → R l ⊎ Awaits a b R W Q l
    next l (inl x) = inl x
    next l (inr x) = inr (inr x)

    both : IsKept g (λ l. R l ⊎ Awaits a b R W Q l)
    both l i e d ready (inl x) = next (move g l i e d) (until l i e d ready (inl x))
    both l i e d ready (inr x) = inr (awaits-kept g a b R W Q until kept gives l i e d ready x)

-- until it is done: a member is free; a member owes an answer; its vote is counted
abbrev pub IsFree : {V : Type 0} → Group V → V → ℕ → ℕ → Calm V → Type 0
IsFree g v r i k = (Live g v r k × FreeOf r (k.world.at i)) ⊎ IsDone g v k

abbrev pub Owes : {V : Type 0} → Group V → V → ℕ → ℕ → ℕ → V → Calm V → Type 0
Owes g v r i q u k = Live g v r k × ((k.world.at i).promise ≡ Some (q, u))

abbrev pub IsCounted : {V : Type 0} → Group V → V → ℕ → ℕ → Calm V → Type 0
IsCounted g v r i k = (Live g v r k × Counted g i k) ⊎ IsDone g v k

pub free-seat : {V : Type 0} (g : Group V) (r here : ℕ) (m : Member V) (e : GroupEvent V) (p : GroupPlan V)
    → ((gen q place : ℕ) (u : V) → e ≡ event.From g.coordinator (msg.VoteRequest gen q place u) → q ≡ r) → SeatDoes g here m e p → FreeOf r m
    → FreeOf r (after g here m p)
free-seat {V} g r here m e p asked (Rests q) h = subst (λ (x : Member V). FreeOf r x) (sym q) h
free-seat {V} g r here m e p asked (Sees gen a place u n s q) h = subst (λ (x : Member V). FreeOf r x) (sym q) (inl n)
free-seat {V} g r here m e p asked (Promises gen a place u n s q) h =
    subst (λ (x : Member V). FreeOf r x) (sym q) (inr (u, ap (λ (j : ℕ). Some (j, u)) (asked gen a place u s)))
free-seat {V} g r here m e p asked (Commits gen a u n s q) h = subst (λ (x : Member V). FreeOf r x) (sym q) (inl refl)
free-seat {V} g r here m e p asked (Aborts gen a u n s q) h = subst (λ (x : Member V). FreeOf r x) (sym q) (inl refl)
free-seat {V} g r here m e p asked (Refuses u reason q) h = subst (λ (x : Member V). FreeOf r x) (sym q) h

pub owes-seat : {V : Type 0} (g : Group V) (q : ℕ) (u : V) (here : ℕ) (m : Member V) (e : GroupEvent V) (p : GroupPlan V) → SeatDoes g here m e p
    → m.promise ≡ Some (q, u) → ((after g here m p).promise ≡ Some (q, u)) ⊎ ((after g here m p).promise ≡ None)
owes-seat {V} g q u here m e p (Rests t) h = inl (ap (λ (x : Member V). x.promise) t ∙ h)
owes-seat {V} g q u here m e p (Sees gen a place w n s t) h = inl (ap (λ (x : Member V). x.promise) t ∙ h)
owes-seat {V} g q u here m e p (Promises gen a place w n s t) h = absurd (let z : ◌≡◌ {A = Option (ℕ × V)} None (Some (q, u)) = sym n ∙ h in cc)
owes-seat {V} g q u here m e p (Commits gen a w n s t) h = inr (ap (λ (x : Member V). x.promise) t)
owes-seat {V} g q u here m e p (Aborts gen a w n s t) h = inr (ap (λ (x : Member V). x.promise) t)
owes-seat {V} g q u here m e p (Refuses w reason t) h = inl (ap (λ (x : Member V). x.promise) t ∙ h)

pub kept-free : {V : Type 0} (g : Group V) → IsKeyed g.rules → (v : V) (r i : ℕ) → i ≢ g.coordinator → IsKept g (IsFree g v r i)
kept-free {V} g keyed v r i n k here e d ready (inr x) = inr (kept-done g keyed v k here e d ready x)
kept-free {V} g keyed v r i n k here e d ready (inl x) = go (live-move g keyed v r k here e d ready x.0)
  where
    go : LiveOr g v r k (move g k here e d) → IsFree g v r i (move g k here e d)
    go (inl y) =
        inl (
          y.0,
          seat-at g (λ a b. FreeOf r a → FreeOf r b) k here e d ready (λ m h. h)
              (λ c does h. free-seat g r here (k.world.at here) e (row g here (k.world.at here) e) (came-asked g r k here e d ready x.0.asks) does h) i n x.1,
        )
    go (inr y) = inr y

pub kept-owes : {V : Type 0} (g : Group V) → IsKeyed g.rules → (v : V) (r i q : ℕ) (u : V) → i ≢ g.coordinator
    → IsKept g (λ k. Owes g v r i q u k ⊎ IsFree g v r i k)
kept-owes {V} g keyed v r i q u n k here e d ready (inr x) = inr (kept-free g keyed v r i n k here e d ready x)
kept-owes {V} g keyed v r i q u n k here e d ready (inl x) =
    go (live-move g keyed v r k here e d ready x.0)
    (seat-at g (λ a b. a.promise ≡ Some (q, u) → (b.promise ≡ Some (q, u)) ⊎ (b.promise ≡ None)) k here e d ready (λ m h. inl h)
    (λ c does h. owes-seat g q u here (k.world.at here) e (row g here (k.world.at here) e) does h) i n x.1)
  where
    go : LiveOr g v r k (move g k here e d) → (((move g k here e d).world.at i).promise ≡ Some (q, u)) ⊎ (((move g k here e d).world.at i).promise ≡ None)
        → Owes g v r i q u (move g k here e d) ⊎ IsFree g v r i (move g k here e d)
    go (inl y) (inl z) = inl (y.0, z)
    go (inl y) (inr z) = inr (inl (y.0, inl z))
    go (inr y) z = inr (inr y)

pub kept-counted : {V : Type 0} (g : Group V) → IsKeyed g.rules → (v : V) (r i : ℕ) → IsKept g (IsCounted g v r i)
kept-counted {V} g keyed v r i k here e d ready (inr x) = inr (kept-done g keyed v k here e d ready x)
kept-counted {V} g keyed v r i k here e d ready (inl x) = go (live-move g keyed v r k here e d ready x.0)
  where
    go : LiveOr g v r k (move g k here e d) → IsCounted g v r i (move g k here e d)
    go (inl y) = inl (y.0, y.1 i x.1)
    go (inr y) = inr y

-- the open round is in no history
pub round-new : {V : Type 0} (g : Group V) (v : V) (r : ℕ) (k : Calm V) → Live g v r k
    → (suc r ≡ (k.world.at g.coordinator).next) × (has_round r (k.world.at g.coordinator).history ≡ false)
round-new {V} g v r k live = live.base.agrees.led.latest (record { round = r; value = v; missing = live.missing }) (rw (live.opened, live.first))

pub round-elsewhere : {V : Type 0} (g : Group V) (v : V) (r i : ℕ) (k : Calm V) → Live g v r k → i < g.members → i ≢ g.coordinator
    → has_round r (k.world.at i).history ≡ false
round-elsewhere {V} g v r i k live l n = go (k.world.at i).promise (live.base.agrees.follows i l n).trails (bool_cases (has_round r (k.world.at i).history))
  where
    new : has_round r (k.world.at g.coordinator).history ≡ false
    new = (round-new g v r k live).1

    go : (o : Option (ℕ × V))
        → ((k.world.at i).history ≡ (k.world.at g.coordinator).history)
        ⊎ ((e : ℕ × V) × (o ≡ Some e) × ((k.world.at g.coordinator).history ≡ (k.world.at i).history ++ e ∷ []))
        → (has_round r (k.world.at i).history ≡ true) ⊎ (has_round r (k.world.at i).history ≡ false) → has_round r (k.world.at i).history ≡ false
    go o h (inr x) = x
    go o (inl h) (inl x) = subst (λ (y : List (ℕ × V)). has_round r y ≡ false) (sym h) new
    go o (inr h) (inl x) =
        absurd (let z : has_round r (k.world.at g.coordinator).history
        ≡ true = subst (λ (y : List (ℕ × V)). has_round r y ≡ true) (sym h.2) (has_round-more r (k.world.at i).history h.0 x) in
        let y : has_round r (k.world.at g.coordinator).history ≡ false = new in cc)

-- each message, once it is delivered
pub gives-free : {V : Type 0} (g : Group V) → IsKeyed g.rules → (v : V) (r i q : ℕ) (u : V)
    → Gives g g.coordinator i (Owes g v r i q u) (IsAnswer g.generation q) (IsFree g v r i)
gives-free {V} g keyed v r i q u k m d ready x w = subst (λ (y : CommitMsg V). IsFree g v r i (move g k i (event.From g.coordinator y) d)) (sym w.1)
    (subst (λ (y : CommitMsg V). Ready g k i (event.From g.coordinator y) d
    → IsFree g v r i (move g k i (event.From g.coordinator (msg.Decision g.generation q w.0)) d)) (sym w.1)
    (λ z. at (subst (λ (y : CommitMsg V). Ready g k i (event.From g.coordinator y) d) w.1 ready)) ready)
  where
    at : Ready g k i (event.From g.coordinator (msg.Decision g.generation q w.0)) d
        → IsFree g v r i (move g k i (event.From g.coordinator (msg.Decision g.generation q w.0)) d)
    at z = go (live-move g keyed v r k i (event.From g.coordinator (msg.Decision g.generation q w.0)) d z x.0)
      where
        go : LiveOr g v r k (move g k i (event.From g.coordinator (msg.Decision g.generation q w.0)) d)
            → IsFree g v r i (move g k i (event.From g.coordinator (msg.Decision g.generation q w.0)) d)
        go (inl y) =
            inl (
              y.0,
              inl (ap (λ (t : Member V). t.promise)
                  (put-same k.world.at i (after g i (k.world.at i) (row g i (k.world.at i) (event.From g.coordinator (msg.Decision g.generation q w.0)))))
                  ∙ decided-free g i (k.world.at i) q u w.0 x.1),
            )
        go (inr y) = inr y

-- a message of such a kind is one
pub by_kind : {V : Type 0} (g : Group V) (a b : ℕ) (Q : Calm V → Type 0) (k : Calm V) (m n : CommitMsg V) (d : ℕ → ℕ → List (CommitMsg V)) → m ≡ n
    → Ready g k b (event.From a m) d → (Ready g k b (event.From a n) d → Q (move g k b (event.From a n) d)) → Q (move g k b (event.From a m) d)
by_kind {V} g a b Q k m n d e ready f = subst (λ (x : CommitMsg V). Ready g k b (event.From a x) d → Q (move g k b (event.From a x) d)) (sym e) f ready

abbrev pub AwaitsAnswer : {V : Type 0} → Group V → V → ℕ → ℕ → ℕ → V → Calm V → Type 0
AwaitsAnswer g v r i q u k = Awaits g.coordinator i (Owes g v r i q u) (IsAnswer g.generation q) (IsFree g v r i) k

pub kept-answer : {V : Type 0} (g : Group V) → IsKeyed g.rules → (v : V) (r i q : ℕ) (u : V) → i ≢ g.coordinator → IsKept g (AwaitsAnswer g v r i q u)
kept-answer g keyed v r i q u n =
    awaits-kept g g.coordinator i (Owes g v r i q u) (IsAnswer g.generation q) (IsFree g v r i) (kept-owes g keyed v r i q u n) (kept-free g keyed v r i n)
    (gives-free g keyed v r i q u)

-- owes, or awaits the answer
pub until-answer : {V : Type 0} (g : Group V) → IsKeyed g.rules → (v : V) (r i q : ℕ) (u : V) → i ≢ g.coordinator
    → IsKept g (λ k. Owes g v r i q u k ⊎ AwaitsAnswer g v r i q u k)
until-answer {V} g keyed v r i q u n k here e d ready (inr x) = inr (kept-answer g keyed v r i q u n k here e d ready x)
until-answer {V} g keyed v r i q u n k here e d ready (inl x) = go (kept-owes g keyed v r i q u n k here e d ready (inl x))
  where
    go : Owes g v r i q u (move g k here e d) ⊎ IsFree g v r i (move g k here e d)
        → Owes g v r i q u (move g k here e d) ⊎ AwaitsAnswer g v r i q u (move g k here e d)
    go (inl y) = inl y
    go (inr y) = inr (inr y)

pub gives-answer : {V : Type 0} (g : Group V) → IsKeyed g.rules → (v : V) (r i q : ℕ) (u : V) → i < g.members → i ≢ g.coordinator → q ≢ r
    → Gives g i g.coordinator (Owes g v r i q u) (IsAsking g.generation q) (AwaitsAnswer g v r i q u)
gives-answer {V} g keyed v r i q u l n other k m d ready x w =
    by_kind g i g.coordinator (AwaitsAnswer g v r i q u) k m (msg.DecisionRequest g.generation q) d w ready
    (λ z. go (kept-owes g keyed v r i q u n k g.coordinator (event.From i (msg.DecisionRequest g.generation q)) d z (inl x)))
  where
    begun : q < (k.world.at g.coordinator).next
    begun = ((x.0.base.agrees.follows i l n).held (q, u) x.1).begun

    go : Owes g v r i q u (move g k g.coordinator (event.From i (msg.DecisionRequest g.generation q)) d)
        ⊎ IsFree g v r i (move g k g.coordinator (event.From i (msg.DecisionRequest g.generation q)) d)
        → AwaitsAnswer g v r i q u (move g k g.coordinator (event.From i (msg.DecisionRequest g.generation q)) d)
    go (inl y) =
        inl (
          y,
          sent-due g (IsAnswer g.generation q) k g.coordinator (event.From i (msg.DecisionRequest g.generation q)) d i
              (lead-tells g (k.world.at g.coordinator) i q r x.0.missing x.0.opened other begun (has-below_but g.members g.coordinator i l n)),
        )
    go (inr y) = inr y

-- Second and third pass: a member that had promised another round is free
pub pass-answer : {V : Type 0} (g : Group V) (o : Order) → IsFull g.members o → IsKeyed g.rules → (v : V) (r i : ℕ) → g.coordinator < g.members
    → i < g.members → i ≢ g.coordinator → (k : Calm V) → Live g v r k ⊎ IsDone g v k
    → ((q : ℕ) × (u : V) × AwaitsAnswer g v r i q u (group_pass g o k)) ⊎ IsFree g v r i (group_pass g o k)
pass-answer {V} g o full keyed v r i lc l n k (inr x) = inr (kept-pass g o full (IsFree g v r i) (kept-free g keyed v r i n) k (inr x))
pass-answer {V} g o full keyed v r i lc l n k (inl live) = go (k.world.at i).promise refl
  where
    free : FreeOf r (k.world.at i) → IsFree g v r i (group_pass g o k)
    free f = kept-pass g o full (IsFree g v r i) (kept-free g keyed v r i n) k (inl (live, f))

    asks : (q : ℕ) (u : V) → (t : Calm V) → Owes g v r i q u t
        → Awaits i g.coordinator (Owes g v r i q u) (IsAsking g.generation q) (AwaitsAnswer g v r i q u) (ticked g i t)
    asks q u t x = after_tick (until-answer g keyed v r i q u n t i event.Tick t.due (record { member = l; may = refl }) (inl x))
      where
        after_tick : Owes g v r i q u (ticked g i t) ⊎ AwaitsAnswer g v r i q u (ticked g i t)
            → Awaits i g.coordinator (Owes g v r i q u) (IsAsking g.generation q) (AwaitsAnswer g v r i q u) (ticked g i t)
        after_tick (inl y) = inl (y, sent-due g (IsAsking g.generation q) t i event.Tick t.due g.coordinator (tick-asks g i (t.world.at i) q u n x.1))
        after_tick (inr y) = inr y

    owes : (q : ℕ) (u : V) → (k.world.at i).promise ≡ Some (q, u) → (eqb q r ≡ true) ⊎ (eqb q r ≡ false)
        → ((q : ℕ) × (u : V) × AwaitsAnswer g v r i q u (group_pass g o k)) ⊎ IsFree g v r i (group_pass g o k)
    owes q u e (inl t) = inr (free (inr (u, e ∙ ap (λ (j : ℕ). Some (j, u)) (eqb_is q r t))))
    owes q u e (inr t) =
        inl (
          q,
          u,
          ticked-pass g o full i i g.coordinator (Owes g v r i q u) (IsAsking g.generation q) (AwaitsAnswer g v r i q u)
              (until-answer g keyed v r i q u n) (kept-answer g keyed v r i q u n) (gives-answer g keyed v r i q u l n (eqb_not q r t)) (asks q u) l l lc n k
              (inl (live, e)),
        )

    go : (x : Option (ℕ × V)) → (k.world.at i).promise ≡ x
        → ((q : ℕ) × (u : V) × AwaitsAnswer g v r i q u (group_pass g o k)) ⊎ IsFree g v r i (group_pass g o k)
    go None e = inr (free (inl e))
    go (Some p) e = owes p.0 p.1 e (bool_cases (eqb p.0 r))

pub pass-free : {V : Type 0} (g : Group V) (o : Order) → IsFull g.members o → IsKeyed g.rules → (v : V) (r i : ℕ) → g.coordinator < g.members
    → i < g.members → i ≢ g.coordinator → (k : Calm V) → ((q : ℕ) × (u : V) × AwaitsAnswer g v r i q u k) ⊎ IsFree g v r i k
    → IsFree g v r i (group_pass g o k)
pass-free g o full keyed v r i lc l n k (inl x) =
    awaits-pass g o full g.coordinator i (Owes g v r i x.0 x.1) (IsAnswer g.generation x.0) (IsFree g v r i) (kept-owes g keyed v r i x.0 x.1 n)
    (kept-free g keyed v r i n) (gives-free g keyed v r i x.0 x.1) lc l (λ e. n (sym e)) k x.2
pass-free g o full keyed v r i lc l n k (inr x) = kept-pass g o full (IsFree g v r i) (kept-free g keyed v r i n) k x

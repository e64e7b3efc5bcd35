-- Each member votes, and each vote is counted.
use Rattle.std.proofs.Common.{◌≡◌, ◌≢◌, ℕ, ◌<◌, ◌⊎◌, true, false, List, [], ◌∷◌, refl, sym, subst, inl, inr}
use Rattle.spl_agree.{specs.{Member.{Group, Member, has, none_left}, Rows.row, World.after}, proofs.Tests.{eqb_same, bool_cases, has-below_but, put-same}}
use Rattle.spl_agree.specs.declared.message.CommitMsg.TheVariants as msg
use Rattle.spl_agree.specs.declared.event.GroupEvent.TheVariants as event
use Rattle.spl_group_liveness.{specs.{Bound.IsKeyed, Calm.{Calm, Order, move, ticked, group_pass, IsFull}}, proofs.Rounds.{IsRequest, IsVote, FreeOf}}
use Rattle.spl_group_liveness.proofs.{Rounds.{tick-requests, member-votes, vote-counts}, Moves.IsKept, Awaits.{Awaits, Gives, awaits-kept, awaits-pass}}
use Rattle.spl_group_liveness.proofs.{Live.{missing_of, Live, IsDone, kept-done, LiveOr}, Leading.live-move, Freed.{sent-due, ticked-pass, IsFree, IsCounted}}
use Rattle.spl_group_liveness.proofs.Freed.{kept-free, kept-counted, round-elsewhere, by_kind}

-- Fourth pass: each that has not voted yes is asked, and votes
abbrev pub AwaitsVote : {V : Type 0} → Group V → V → ℕ → ℕ → Calm V → Type 0
AwaitsVote g v r i k = Awaits i g.coordinator (Live g v r) (IsVote g.generation r) (IsCounted g v r i) k

abbrev pub LiveFree : {V : Type 0} → Group V → V → ℕ → ℕ → Calm V → Type 0
LiveFree g v r i k = Live g v r k × FreeOf r (k.world.at i)

pub gives-counted : {V : Type 0} (g : Group V) → IsKeyed g.rules → (v : V) (r i : ℕ) → i < g.members → i ≢ g.coordinator
    → Gives g i g.coordinator (Live g v r) (IsVote g.generation r) (IsCounted g v r i)
gives-counted {V} g keyed v r i l n k m d ready live w = by_kind g i g.coordinator (IsCounted g v r i) k m (msg.Vote g.generation r w.0) d w.1 ready
    (λ z. go (live-move g keyed v r k g.coordinator (event.From i (msg.Vote g.generation r w.0)) d z live))
  where
    go : LiveOr g v r k (move g k g.coordinator (event.From i (msg.Vote g.generation r w.0)) d)
        → IsCounted g v r i (move g k g.coordinator (event.From i (msg.Vote g.generation r w.0)) d)
    go (inl y) =
        inl (
          y.0,
          subst (λ (x : Member V). has i (missing_of x.opened) ≡ false)
              (sym (put-same k.world.at g.coordinator
              (after g g.coordinator (k.world.at g.coordinator) (row g g.coordinator (k.world.at g.coordinator) (event.From i (msg.Vote g.generation r w.0))))))
              (vote-counts g (k.world.at g.coordinator) i r live.missing v live.rest w.0 live.opened live.first (has-below_but g.members g.coordinator i l n)),
        )
    go (inr y) = inr y

pub until-counted : {V : Type 0} (g : Group V) → IsKeyed g.rules → (v : V) (r i : ℕ) → IsKept g (λ k. Live g v r k ⊎ IsCounted g v r i k)
until-counted {V} g keyed v r i k here e d ready (inr x) = inr (kept-counted g keyed v r i k here e d ready x)
until-counted {V} g keyed v r i k here e d ready (inl x) = go (live-move g keyed v r k here e d ready x)
  where
    go : LiveOr g v r k (move g k here e d) → Live g v r (move g k here e d) ⊎ IsCounted g v r i (move g k here e d)
    go (inl y) = inl y.0
    go (inr y) = inr (inr y)

pub kept-vote : {V : Type 0} (g : Group V) → IsKeyed g.rules → (v : V) (r i : ℕ) → i < g.members → i ≢ g.coordinator → IsKept g (AwaitsVote g v r i)
kept-vote g keyed v r i l n =
    awaits-kept g i g.coordinator (Live g v r) (IsVote g.generation r) (IsCounted g v r i) (until-counted g keyed v r i) (kept-counted g keyed v r i)
    (gives-counted g keyed v r i l n)

pub until-vote : {V : Type 0} (g : Group V) → IsKeyed g.rules → (v : V) (r i : ℕ) → i < g.members → i ≢ g.coordinator
    → IsKept g (λ k. LiveFree g v r i k ⊎ AwaitsVote g v r i k)
until-vote {V} g keyed v r i l n k here e d ready (inr x) = inr (kept-vote g keyed v r i l n k here e d ready x)
until-vote {V} g keyed v r i l n k here e d ready (inl x) = go (kept-free g keyed v r i n k here e d ready (inl x))
  where
    go : IsFree g v r i (move g k here e d) → LiveFree g v r i (move g k here e d) ⊎ AwaitsVote g v r i (move g k here e d)
    go (inl y) = inl y
    go (inr y) = inr (inr (inr y))

pub gives-vote : {V : Type 0} (g : Group V) → IsKeyed g.rules → (v : V) (r i : ℕ) → i < g.members → i ≢ g.coordinator
    → Gives g g.coordinator i (LiveFree g v r i) (IsRequest g.generation r) (AwaitsVote g v r i)
gives-vote {V} g keyed v r i l n k m d ready x w = by_kind g g.coordinator i (AwaitsVote g v r i) k m (msg.VoteRequest g.generation r w.0 w.1) d w.2 ready
    (λ z. go (live-move g keyed v r k i (event.From g.coordinator (msg.VoteRequest g.generation r w.0 w.1)) d z x.0))
  where
    go : LiveOr g v r k (move g k i (event.From g.coordinator (msg.VoteRequest g.generation r w.0 w.1)) d)
        → AwaitsVote g v r i (move g k i (event.From g.coordinator (msg.VoteRequest g.generation r w.0 w.1)) d)
    go (inl y) =
        inl (
          y.0,
          sent-due g (IsVote g.generation r) k i (event.From g.coordinator (msg.VoteRequest g.generation r w.0 w.1)) d g.coordinator
              (member-votes g i (k.world.at i) r w.0 w.1 x.1 (x.0.heard i l n) (round-elsewhere g v r i k x.0 l n)),
        )
    go (inr y) = inr (inr y)

pub pass-vote : {V : Type 0} (g : Group V) (o : Order) → IsFull g.members o → IsKeyed g.rules → (v : V) (r i : ℕ) → g.coordinator < g.members
    → i < g.members → i ≢ g.coordinator → (k : Calm V) → IsFree g v r i k → AwaitsVote g v r i (group_pass g o k)
pass-vote {V} g o full keyed v r i lc l n k h =
    ticked-pass g o full g.coordinator g.coordinator i (LiveFree g v r i) (IsRequest g.generation r) (AwaitsVote g v r i) (until-vote g keyed v r i l n)
    (kept-vote g keyed v r i l n) (gives-vote g keyed v r i l n) asks lc lc l (λ e. n (sym e)) k (start h)
  where
    start : IsFree g v r i k → LiveFree g v r i k ⊎ AwaitsVote g v r i k
    start (inl x) = inl x
    start (inr x) = inr (inr (inr x))

    asks : (t : Calm V) → LiveFree g v r i t
        → Awaits g.coordinator i (LiveFree g v r i) (IsRequest g.generation r) (AwaitsVote g v r i) (ticked g g.coordinator t)
    asks t x =
        after_tick (bool_cases (has i x.0.missing))
        (until-vote g keyed v r i l n t g.coordinator event.Tick t.due (record { member = lc; may = refl }) (inl x))
      where
        after_tick : (has i x.0.missing ≡ true) ⊎ (has i x.0.missing ≡ false)
            → LiveFree g v r i (ticked g g.coordinator t) ⊎ AwaitsVote g v r i (ticked g g.coordinator t)
            → Awaits g.coordinator i (LiveFree g v r i) (IsRequest g.generation r) (AwaitsVote g v r i) (ticked g g.coordinator t)
        after_tick (inl q) (inl y) =
            inl (
              y,
              sent-due g (IsRequest g.generation r) t g.coordinator event.Tick t.due i
                  (tick-requests g (t.world.at g.coordinator) i r x.0.missing v x.0.rest x.0.opened x.0.first q),
            )
        after_tick (inr q) (inl y) =
            inr (inr (kept-counted g keyed v r i t g.coordinator event.Tick t.due (record { member = lc; may = refl }) (inl (x.0, rw x.0.opened q))))
        after_tick q (inr y) = inr y

-- Fifth pass: each vote is counted, so it is done
pub pass-count : {V : Type 0} (g : Group V) (o : Order) → IsFull g.members o → IsKeyed g.rules → (v : V) (r i : ℕ) → g.coordinator < g.members
    → i < g.members → i ≢ g.coordinator → (k : Calm V) → AwaitsVote g v r i k → IsCounted g v r i (group_pass g o k)
pass-count g o full keyed v r i lc l n k h =
    awaits-pass g o full i g.coordinator (Live g v r) (IsVote g.generation r) (IsCounted g v r i) (until-counted g keyed v r i)
    (kept-counted g keyed v r i) (gives-counted g keyed v r i l n) l lc n k h

pub kept-live : {V : Type 0} (g : Group V) → IsKeyed g.rules → (v : V) (r : ℕ) → IsKept g (λ k. Live g v r k ⊎ IsDone g v k)
kept-live {V} g keyed v r k here e d ready (inr x) = inr (kept-done g keyed v k here e d ready x)
kept-live {V} g keyed v r k here e d ready (inl x) = go (live-move g keyed v r k here e d ready x)
  where
    go : LiveOr g v r k (move g k here e d) → Live g v r (move g k here e d) ⊎ IsDone g v (move g k here e d)
    go (inl y) = inl y.0
    go (inr y) = inr y

-- where each is counted, no round is open
pub all-counted : {V : Type 0} (g : Group V) (v : V) (r : ℕ) (k : Calm V) → ((i : ℕ) → i < g.members → i ≢ g.coordinator → IsCounted g v r i k)
    → Live g v r k ⊎ IsDone g v k → IsDone g v k
all-counted {V} g v r k all (inr x) = x
all-counted {V} g v r k all (inl live) = go live.missing refl
  where
    first : (j : ℕ) → has j live.missing ≡ true → IsCounted g v r j k → IsDone g v k
    first j h (inr x) = x
    first j h (inl x) = absurd (let z : has j live.missing ≡ false = rw live.opened at x.1 in cc)

    at : (j : ℕ) → has j live.missing ≡ true → IsDone g v k
    at j h = first j h (all j (live.manned.among j h).0 (live.manned.among j h).1)

    go : (xs : List ℕ) → live.missing ≡ xs → IsDone g v k
    go [] e = absurd (let z : none_left live.missing ≡ false =
        live.manned.some in let y : none_left [] ≡ false = subst (λ (t : List ℕ). none_left t ≡ false) e z in cc)
    go (j ∷ js) e = at j (rw e (rw (eqb_same j)))

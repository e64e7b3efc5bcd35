-- While the round of the first pending value is open.
use Rattle.std.{specs.Prelude.{Option, Some, None}, proofs.Common.{◌≡◌, ◌≢◌, ℕ, ◌<◌, ◌≤◌, ◌⊎◌, true, false, eqb, List, [], ◌∷◌, sym, ap, subst, ◌∙◌, inl}}
use Rattle.std.proofs.Common.{inr, arith}
use Rattle.spl_agree.specs.{Member.{Group, Member, has, found}, Rows.row, World.after, declared.{event.GroupEvent.GroupEvent, message.CommitMsg.CommitMsg}}
use Rattle.spl_agree.{specs.declared.plan.GroupPlan.GroupPlan, proofs.Tests.{eqb_is, eqb_not, bool_cases, put-other}}
use Rattle.spl_agree.specs.declared.message.CommitMsg.TheVariants as msg
use Rattle.spl_agree.specs.declared.event.GroupEvent.TheVariants as event
use Rattle.spl_group_safety.proofs.Agreement.{put_holds}
use Rattle.spl_group_liveness.{specs.{Bound.{AnyOf, IsKeyed, IsManned}, Calm.{Calm, mail, move}}, proofs.Does.{SeatDoes, Rests, Sees, Promises, Commits}}
use Rattle.spl_group_liveness.proofs.{Does.{Aborts, Refuses, seat-does}, Kept.{Base, kept-base, ready-event, due-old, IsCarried, IsDropped, kept-carried}}
use Rattle.spl_group_liveness.proofs.{Kept.kept-dropped, Moves.{MayMove, Ready, IsKept, mailed-cases}}

-- a request about another round than this one
abbrev pub IsOther : {V : Type 0} → ℕ → CommitMsg V → Type 0
IsOther r (msg.VoteRequest gen q place v) = q ≢ r
IsOther r _ = ⊥

abbrev pub missing_of : Option (ℕ × List ℕ) → List ℕ
missing_of None = []
missing_of (Some o) = o.1

-- its yes is counted
abbrev pub Counted : {V : Type 0} → Group V → ℕ → Calm V → Type 0
Counted g i k = has i (missing_of (k.world.at g.coordinator).opened) ≡ false

pub record Live {V : Type 0} (g : Group V) (v : V) (r : ℕ) (k : Calm V) : Type 0 where
  pub base : Base g v k
  pub heard : (i : ℕ) → i < g.members → i ≢ g.coordinator → (k.world.at i).seen ≤ r
  pub asks : (i : ℕ) → AnyOf (IsOther r) (k.due g.coordinator i) → ⊥
  pub missing : List ℕ
  pub opened : (k.world.at g.coordinator).opened ≡ Some (r, missing)
  pub manned : IsManned g missing
  pub rest : List V
  pub first : (k.world.at g.coordinator).pending ≡ v ∷ rest
  pub once : found (g.rules.same_key v) rest ≡ None

abbrev pub IsDone : {V : Type 0} → Group V → V → Calm V → Type 0
IsDone g v k = ((r : ℕ) × IsCarried g v r k) ⊎ IsDropped g v k

pub kept-done : {V : Type 0} (g : Group V) → IsKeyed g.rules → (v : V) → IsKept g (IsDone g v)
kept-done g keyed v k here e d ready (inl x) = inl (x.0, kept-carried g v x.0 k here e d ready x.1)
kept-done g keyed v k here e d ready (inr x) = inr (kept-dropped g keyed v k here e d ready x)

-- the next state is live too, where the same are counted; or it is done
abbrev pub LiveOr : {V : Type 0} → Group V → V → ℕ → Calm V → Calm V → Type 0
LiveOr g v r k l = (Live g v r l × ((j : ℕ) → Counted g j k → Counted g j l)) ⊎ IsDone g v l

-- what a move does elsewhere than at the coordinator
pub seat-at : {V : Type 0} (g : Group V) (P : Member V → Member V → Type 0) (k : Calm V) (here : ℕ) (e : GroupEvent V) (d : ℕ → ℕ → List (CommitMsg V))
    → Ready g k here e d → ((m : Member V) → P m m)
    → (here ≢ g.coordinator → SeatDoes g here (k.world.at here) e (row g here (k.world.at here) e)
    → P (k.world.at here) (after g here (k.world.at here) (row g here (k.world.at here) e))) → (i : ℕ) → i ≢ g.coordinator
    → P (k.world.at i) ((move g k here e d).world.at i)
seat-at g P k here e d ready same does i n =
    put_holds (λ j x. j ≢ g.coordinator → P (k.world.at j) x) k.world.at here (after g here (k.world.at here) (row g here (k.world.at here) e)) i
    (λ o. does o (seat-does g here (k.world.at here) e o (ready-event g k here e d ready.may))) (λ o c. same (k.world.at i)) n

-- a request that comes from the coordinator is about the round
pub came-asked : {V : Type 0} (g : Group V) (r : ℕ) (k : Calm V) (here : ℕ) (e : GroupEvent V) (d : ℕ → ℕ → List (CommitMsg V)) → Ready g k here e d
    → ((i : ℕ) → AnyOf (IsOther r) (k.due g.coordinator i) → ⊥) → (gen q place : ℕ) (u : V) → e ≡ event.From g.coordinator (msg.VoteRequest gen q place u)
    → q ≡ r
came-asked {V} g r k here e d ready asks gen q place u eq = go (bool_cases (eqb q r)) (subst (λ (x : GroupEvent V). MayMove g k here x d) eq ready.may)
  where
    go : (eqb q r ≡ true) ⊎ (eqb q r ≡ false) → MayMove g k here (event.From g.coordinator (msg.VoteRequest gen q place u)) d → q ≡ r
    go (inl t) may = eqb_is q r t
    go (inr t) may = absurd (asks here (subst (λ (l : List (CommitMsg V)). AnyOf (IsOther r) l) (sym may.3) (inl (eqb_not q r t))))

pub heard-seat : {V : Type 0} (g : Group V) (r : ℕ) (here : ℕ) (m : Member V) (e : GroupEvent V) (p : GroupPlan V)
    → ((gen q place : ℕ) (u : V) → e ≡ event.From g.coordinator (msg.VoteRequest gen q place u) → q ≡ r) → SeatDoes g here m e p → m.seen ≤ r
    → (after g here m p).seen ≤ r
heard-seat {V} g r here m e p asked (Rests q) h = subst (λ (x : Member V). x.seen ≤ r) (sym q) h
heard-seat {V} g r here m e p asked (Sees gen a place u n s q) h =
    subst (λ (x : Member V). x.seen ≤ r) (sym q) (let z : a ≡ r = asked gen a place u s in omega (arith, z))
heard-seat {V} g r here m e p asked (Promises gen a place u n s q) h =
    subst (λ (x : Member V). x.seen ≤ r) (sym q) (let z : a ≡ r = asked gen a place u s in omega (arith, z))
heard-seat {V} g r here m e p asked (Commits gen a u n s q) h = subst (λ (x : Member V). x.seen ≤ r) (sym q) h
heard-seat {V} g r here m e p asked (Aborts gen a u n s q) h = subst (λ (x : Member V). x.seen ≤ r) (sym q) h
heard-seat {V} g r here m e p asked (Refuses u reason q) h = subst (λ (x : Member V). x.seen ≤ r) (sym q) h

pub live-seat : {V : Type 0} (g : Group V) (v : V) (r : ℕ) (k : Calm V) (here : ℕ) (e : GroupEvent V) (d : ℕ → ℕ → List (CommitMsg V)) → Ready g k here e d
    → here ≢ g.coordinator → Live g v r k → LiveOr g v r k (move g k here e d)
live-seat {V} g v r k here e d ready n live = inl (
  record {
    base = kept-base g v k here e d ready live.base;
    heard = λ i l o. seat-at g (λ x y. x.seen ≤ r → y.seen ≤ r) k here e d ready (λ m h. h)
        (λ c does h. heard-seat g r here (k.world.at here) e (row g here (k.world.at here) e) (came-asked g r k here e d ready live.asks) does h) i o
        (live.heard i l o);
    asks = λ i h. asked i (mailed-cases (IsOther r) d here (row g here (k.world.at here) e).sends g.coordinator i h);
    missing = live.missing;
    opened = ap (λ (x : Member V). x.opened) same ∙ live.opened;
    manned = live.manned;
    rest = live.rest;
    first = ap (λ (x : Member V). x.pending) same ∙ live.first;
    once = live.once;
  },
  λ j c. subst (λ (x : Member V). has j (missing_of x.opened) ≡ false) (sym same) c,
)
  where
    same : (move g k here e d).world.at g.coordinator ≡ k.world.at g.coordinator
    same = put-other k.world.at here (after g here (k.world.at here) (row g here (k.world.at here) e)) g.coordinator (λ q. n (sym q))

    asked : (i : ℕ) → AnyOf (IsOther r) (d g.coordinator i) ⊎ ((g.coordinator ≡ here) × AnyOf (IsOther r) (mail i (row g here (k.world.at here) e).sends)) → ⊥
    asked i (inl x) = live.asks i (due-old g k here e d (IsOther r) g.coordinator i ready.may x)
    asked i (inr x) = n (sym x.0)

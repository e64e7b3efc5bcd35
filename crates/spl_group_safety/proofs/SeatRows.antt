-- Each row at a member that is not the coordinator.
use Rattle.std.{specs.Prelude.{Option, Some, None, ◌==◌, nat_lt}, proofs.Common.{◌≡◌, ◌≢◌, ℕ, ◌<◌, ◌≤◌, Bool, true, false, ◌&&◌, List, [], ◌∷◌, ◌++◌, refl}}
use Rattle.std.proofs.Common.{sym, subst, arith}
use Rattle.spl_agree.specs.{Member.{Group, Member, has_round, others, has, found}, Rows.{nothing, sends_one, changes_one, row, requested, fits_here, on_vote}}
use Rattle.spl_agree.specs.{Rows.{decided, strayed, taken_back, member_tick, forward_first, on_message}, World.after, Agreement.{Lead, seat, IsLed, Follows}}
use Rattle.spl_agree.specs.{Agreement.{Told, Said}, declared.{event.{GroupEvent.GroupEvent, Note.Note}, message.CommitMsg.CommitMsg}}
use Rattle.spl_agree.{specs.declared.{plan.GroupPlan.GroupPlan, reason.Reason.Reason}, proofs.Tests.{if_holds, if_false, eqb_is, eqb_not, eqb_other, ltb_not}}
use Rattle.spl_agree.specs.declared.message.CommitMsg.TheVariants as msg
use Rattle.spl_agree.specs.declared.event.GroupEvent.TheVariants as event
use Rattle.spl_agree.specs.declared.event.GroupChange.TheVariants as change
use Rattle.spl_agree.specs.declared.event.Note.TheVariants as note
use Rattle.spl_group_safety.proofs.Seats.{follows-seen, said-seen, follows-promise, said-promise, said-yes, said-again, follows-commit, said-commit}
use Rattle.spl_group_safety.proofs.{Seats.{follows-abort, said-abort}, Sends.AllSends}

-- a plan keeps what the group needs of this member
pub record SeatKeeps {V : Type 0} (g : Group V) (l : Lead V) (i : ℕ) (m : Member V) (p : GroupPlan V) : Type 0 where
  pub follows : Follows l (seat (after g i m p)) i
  pub said : (x : CommitMsg V) → Said l (seat m) x → Said l (seat (after g i m p)) x
  pub new : AllSends (Said l (seat (after g i m p))) p.sends

pub seat-nothing : {V : Type 0} (g : Group V) (l : Lead V) (i : ℕ) (m : Member V) (n : Note) → Follows l (seat m) i → SeatKeeps g l i m (nothing n)
seat-nothing g l i m n f = record { follows = f; said = λ x h. h; new = tt }

pub seat-sends : {V : Type 0} (g : Group V) (l : Lead V) (i : ℕ) (m : Member V) (n : Note) (to : ℕ) (x : CommitMsg V) → Follows l (seat m) i
    → Said l (seat m) x → SeatKeeps g l i m (sends_one n to x)
seat-sends g l i m n to x f h = record { follows = f; said = λ x h. h; new = (h, tt) }

-- VoteRequest
pub seat-requested : {V : Type 0} (g : Group V) (l : Lead V) (i : ℕ) (m : Member V) (p : Option (ℕ × V)) (sender r place : ℕ) (v : V) → m.promise ≡ p
    → Follows l (seat m) i → Told l (msg.VoteRequest g.generation r place v) → SeatKeeps g l i m (requested g m p sender r place v)
seat-requested g l i m (Some p) sender r place v e f t =
    if_holds (SeatKeeps g l i m) (p.0 == r) _ _
    (λ q. seat-sends g l i m _ sender (msg.Vote g.generation r true) f
    (subst (λ k. Said l (seat m) (msg.Vote g.generation k true)) (eqb_is p.0 r q) (said-again l (seat m) i p.0 p.1 e f)))
    (λ q. seat-sends g l i m _ sender (msg.DecisionRequest g.generation p.0) f tt)
seat-requested g l i m None sender r place v e f t =
    if_holds (SeatKeeps g l i m) (nat_lt r m.seen) _ _ (λ q. seat-nothing g l i m _ f) (λ old.
    if_holds (SeatKeeps g l i m) (r == m.seen && has_round r m.history) _ _ (λ q. seat-nothing g l i m _ f) (λ q.
    if_holds (SeatKeeps g l i m) (r == m.seen) _ _ (λ q. seat-sends g l i m _ sender (msg.Vote g.generation r false) f tt) (λ other.
    if_holds (SeatKeeps g l i m) (fits_here g.rules m.history place v) _ _
    (λ q. record {
      follows = follows-promise l (seat m) i r place v e (newer old other) t f;
      said = λ x h. said-promise l (seat m) r v x e h;
      new = (said-yes l (seat m) r place v t, tt);
    })
    (λ q. record { follows = follows-seen l (seat m) i r (ltb_not r m.seen old) f; said = λ x h. said-seen l (seat m) r x h; new = (tt, tt) }))))
  where
    newer : nat_lt r m.seen ≡ false → (r == m.seen) ≡ false → m.seen < r
    newer a b = let x : m.seen ≤ r = ltb_not r m.seen a in let y : r ≢ m.seen = eqb_not r m.seen b in omega arith

-- Decision
pub seat-decided : {V : Type 0} (g : Group V) (l : Lead V) (i : ℕ) (m : Member V) (p : Option (ℕ × V)) (r : ℕ) (commit : Bool) → m.promise ≡ p → IsLed l
    → Follows l (seat m) i → Told l (msg.Decision g.generation r commit) → SeatKeeps g l i m (decided p r commit)
seat-decided g l i m None r commit e led f t = seat-nothing g l i m _ f
seat-decided g l i m (Some p) r true e led f t =
    if_holds (SeatKeeps g l i m) (p.0 == r) _ _
    (λ q. subst (λ k. SeatKeeps g l i m (changes_one (note.Committed k) (change.Commit k p.1))) (eqb_is p.0 r q)
    (let h : has_round p.0 l.history ≡ true = subst (λ k. has_round k l.history ≡ true) (sym (eqb_is p.0 r q)) t in
    record { follows = follows-commit l (seat m) i p led e h f; said = λ x s. said-commit l (seat m) (m.history ++ p ∷ []) p x led e h s; new = tt }))
    (λ q. seat-nothing g l i m _ f)
seat-decided g l i m (Some p) r false e led f t =
    if_holds (SeatKeeps g l i m) (p.0 == r) _ _
    (λ q. let h : Told l (msg.Decision g.generation p.0 false) = subst (λ k. Told l (msg.Decision g.generation k false)) (sym (eqb_is p.0 r q)) t in
    record { follows = follows-abort l (seat m) i p e h f; said = λ x s. said-abort l (seat m) p x e h s; new = tt })
    (λ q. seat-nothing g l i m _ f)

-- Vote, where this is not the coordinator
pub seat-vote : {V : Type 0} (g : Group V) (l : Lead V) (here : ℕ) (m : Member V) (o : Option (ℕ × List ℕ)) (sender r : ℕ) (aye : Bool)
    → here ≢ g.coordinator → Follows l (seat m) here → SeatKeeps g l here m (on_vote g here m o sender r aye)
seat-vote g l here m None sender r aye d f = seat-nothing g l here m _ f
seat-vote g l here m (Some o) sender r aye d f =
    if_false (SeatKeeps g l here m) (here == g.coordinator && o.0 == r) _ _ (rw (eqb_other here g.coordinator d)) (seat-nothing g l here m _ f)

pub seat-strayed : {V : Type 0} (g : Group V) (l : Lead V) (i : ℕ) (m : Member V) (sender : ℕ) (v : V) (o : Option Reason) → Follows l (seat m) i
    → SeatKeeps g l i m (strayed g.generation sender v o)
seat-strayed g l i m sender v None f = seat-nothing g l i m _ f
seat-strayed g l i m sender v (Some reason) f = seat-sends g l i m _ sender (msg.Refused g.generation v reason) f tt

pub seat-taken_back : {V : Type 0} (g : Group V) (l : Lead V) (i : ℕ) (m : Member V) (u : Option V) (v : V) (reason : Reason) → Follows l (seat m) i
    → SeatKeeps g l i m (taken_back g.rules u v reason)
seat-taken_back g l i m None v reason f = seat-nothing g l i m _ f
seat-taken_back g l i m (Some u) v reason f =
    if_holds (SeatKeeps g l i m) (g.rules.same u v) _ _
    (λ q. record { follows = f; said = λ x h. h; new = tt })
    (λ q. seat-nothing g l i m _ f)

-- any message
pub seat-message : {V : Type 0} (g : Group V) (l : Lead V) (here : ℕ) (m : Member V) (sender : ℕ) (x : CommitMsg V) → here ≢ g.coordinator → IsLed l
    → Follows l (seat m) here → (sender ≡ g.coordinator → Told l x) → SeatKeeps g l here m (on_message g here m sender x)
seat-message g l here m sender (msg.VoteRequest gen r place v) d led f heard =
    if_holds (SeatKeeps g l here m) (sender == g.coordinator) _ _
    (λ q. seat-requested g l here m m.promise sender r place v refl f (heard (eqb_is sender g.coordinator q)))
    (λ q. seat-sends g l here m _ sender (msg.Vote g.generation r false) f tt)
seat-message g l here m sender (msg.Vote gen r aye) d led f heard = seat-vote g l here m m.opened sender r aye d f
seat-message g l here m sender (msg.Decision gen r commit) d led f heard =
    if_holds (SeatKeeps g l here m) (sender == g.coordinator) _ _
    (λ q. seat-decided g l here m m.promise r commit refl led f (heard (eqb_is sender g.coordinator q)))
    (λ q. seat-nothing g l here m _ f)
seat-message g l here m sender (msg.DecisionRequest gen r) d led f heard =
    if_false (SeatKeeps g l here m) (here == g.coordinator && has sender (others g here)) _ _ (rw (eqb_other here g.coordinator d))
    (seat-nothing g l here m _ f)
seat-message g l here m sender (msg.Forward gen v) d led f heard =
    if_false (SeatKeeps g l here m) (here == g.coordinator) _ _ (eqb_other here g.coordinator d) (seat-strayed g l here m sender v (g.rules.stray v) f)
seat-message g l here m sender (msg.Refused gen v reason) d led f heard =
    if_holds (SeatKeeps g l here m) (sender == g.coordinator) _ _
    (λ q. seat-taken_back g l here m (found (g.rules.same_key v) m.pending) v reason f)
    (λ q. seat-nothing g l here m _ f)

-- Tick
pub seat-forward : {V : Type 0} (g : Group V) (l : Lead V) (i : ℕ) (m : Member V) (us : List V) → Follows l (seat m) i → SeatKeeps g l i m (forward_first g us)
seat-forward g l i m [] f = seat-nothing g l i m _ f
seat-forward g l i m (v ∷ vs) f = seat-sends g l i m _ g.coordinator (msg.Forward g.generation v) f tt

pub seat-tick : {V : Type 0} (g : Group V) (l : Lead V) (i : ℕ) (m : Member V) (p : Option (ℕ × V)) → Follows l (seat m) i
    → SeatKeeps g l i m (member_tick g m p)
seat-tick g l i m (Some p) f = seat-sends g l i m _ g.coordinator (msg.DecisionRequest g.generation p.0) f tt
seat-tick g l i m None f = seat-forward g l i m m.pending f

-- what is heard at a member that is not the coordinator
abbrev pub Heard : {V : Type 0} → Group V → Lead V → GroupEvent V → Type 0
Heard g l (event.From sender x) = sender ≡ g.coordinator → Told l x
Heard g l _ = Unit {0}

-- any event
pub seat-row : {V : Type 0} (g : Group V) (l : Lead V) (here : ℕ) (m : Member V) (e : GroupEvent V) → here ≢ g.coordinator → IsLed l
    → Follows l (seat m) here → Heard g l e → SeatKeeps g l here m (row g here m e)
seat-row g l here m event.Tick d led f heard =
    if_false (SeatKeeps g l here m) (here == g.coordinator) _ _ (eqb_other here g.coordinator d) (seat-tick g l here m m.promise f)
seat-row g l here m event.Expire d led f heard =
    if_false (SeatKeeps g l here m) (here == g.coordinator) _ _ (eqb_other here g.coordinator d) (seat-nothing g l here m _ f)
seat-row g l here m (event.Submit v) d led f heard =
    if_false (SeatKeeps g l here m) (here == g.coordinator) _ _ (eqb_other here g.coordinator d) (record { follows = f; said = λ x h. h; new = (tt, tt) })
seat-row g l here m (event.From sender x) d led f heard = seat-message g l here m sender x d led f heard

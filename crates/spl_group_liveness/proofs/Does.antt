-- What a tick or a message does at a member, as few cases.
use Rattle.std.{specs.Prelude.{Option, Some, None, ◌==◌, nat_lt}, proofs.Common.{◌≡◌, ◌≢◌, ℕ, ◌+◌, Bool, true, false, ◌&&◌, List, [], ◌∷◌, ◌++◌, length}}
use Rattle.std.proofs.Common.{refl, sym, subst}
use Rattle.spl_agree.specs.Member.{Group, Member, values, has_round, without, others, has, but, decision, found, found_refused, is_spent, none_left}
use Rattle.spl_agree.specs.Rows.{row, requested, requested_free, fits_here, on_vote, counted_vote, commit_open, abort_open, decided, told, strayed, admitted}
use Rattle.spl_agree.specs.Rows.{forwarded, forwarded_pending, forwarded_refused, forwarded_new, taken_back, on_message, coordinator_tick, ask_again}
use Rattle.spl_agree.specs.{Rows.{try_first, judge_first, member_tick, forward_first, to_each, abort_each, vote_no}, World.after}
use Rattle.spl_agree.specs.declared.{event.GroupEvent.GroupEvent, message.CommitMsg.CommitMsg, plan.GroupPlan.GroupPlan, reason.{Admit.Admit, Reason.Reason}}
use Rattle.spl_agree.proofs.Tests.{if_holds, eqb_is, eqb_not, and_left, and_right}
use Rattle.spl_agree.specs.declared.reason.Admit.TheVariants as admit
use Rattle.spl_agree.specs.declared.message.CommitMsg.TheVariants as msg
use Rattle.spl_agree.specs.declared.event.GroupEvent.TheVariants as event
use Rattle.spl_group_safety.proofs.Sends.{AllSends}

-- ticks and messages from other positions
abbrev pub IsCalmEvent : {V : Type 0} → ℕ → GroupEvent V → Type 0
IsCalmEvent here event.Tick = Unit {0}
IsCalmEvent here (event.From a m) = a ≢ here
IsCalmEvent here _ = ⊥

-- at a member that is not the coordinator
pub data SeatDoes {V : Type 0} (g : Group V) (here : ℕ) (m : Member V) (e : GroupEvent V) (p : GroupPlan V) : Type 0 where
  Rests : after g here m p ≡ m → SeatDoes g here m e p
  Sees : (gen r place : ℕ) → (u : V) → m.promise ≡ None → e ≡ event.From g.coordinator (msg.VoteRequest gen r place u)
      → after g here m p ≡ record m { seen = r } → SeatDoes g here m e p
  Promises : (gen r place : ℕ) → (u : V) → m.promise ≡ None → e ≡ event.From g.coordinator (msg.VoteRequest gen r place u)
      → after g here m p ≡ record m { promise = Some (r, u); seen = r } → SeatDoes g here m e p
  Commits : (gen r : ℕ) → (u : V) → m.promise ≡ Some (r, u) → e ≡ event.From g.coordinator (msg.Decision gen r true)
      → after g here m p ≡ record m { history = m.history ++ (r, u) ∷ []; promise = None; pending = without (g.rules.same_key u) m.pending }
      → SeatDoes g here m e p
  Aborts : (gen r : ℕ) → (u : V) → m.promise ≡ Some (r, u) → e ≡ event.From g.coordinator (msg.Decision gen r false)
      → after g here m p ≡ record m { promise = None } → SeatDoes g here m e p
  Refuses : (u : V) → (reason : Reason)
      → after g here m p ≡ record m { pending = without (g.rules.same_key u) m.pending; refused = m.refused ++ (u, reason) ∷ [] } → SeatDoes g here m e p

pub seat-free : {V : Type 0} (g : Group V) (here : ℕ) (m : Member V) (gen r place : ℕ) (u : V) (fits : Bool) → m.promise ≡ None
    → SeatDoes g here m (event.From g.coordinator (msg.VoteRequest gen r place u)) (requested_free g.generation m.history m.seen g.coordinator r u fits)
seat-free {V} g here m gen r place u fits none =
    if_holds D (nat_lt r m.seen) _ _ (λ q. Rests refl) (λ q.
    if_holds D (r == m.seen && has_round r m.history) _ _ (λ q. Rests refl) (λ q.
    if_holds D (r == m.seen) _ _ (λ q. Rests refl) (λ q.
    if_holds D fits _ _ (λ f. Promises gen r place u none refl refl) (λ f. Sees gen r place u none refl refl))))
  where
    D : GroupPlan V → Type 0
    D = SeatDoes g here m (event.From g.coordinator (msg.VoteRequest gen r place u))

pub seat-requested : {V : Type 0} (g : Group V) (here : ℕ) (m : Member V) (p : Option (ℕ × V)) (gen r place : ℕ) (u : V) → m.promise ≡ p
    → SeatDoes g here m (event.From g.coordinator (msg.VoteRequest gen r place u)) (requested g m p g.coordinator r place u)
seat-requested g here m (Some p) gen r place u e =
    if_holds (SeatDoes g here m (event.From g.coordinator (msg.VoteRequest gen r place u))) (p.0 == r) _ _ (λ q. Rests refl) (λ q. Rests refl)
seat-requested g here m None gen r place u e = seat-free g here m gen r place u (fits_here g.rules m.history place u) e

pub seat-decided : {V : Type 0} (g : Group V) (here : ℕ) (m : Member V) (p : Option (ℕ × V)) (gen r : ℕ) (commit : Bool) → m.promise ≡ p
    → SeatDoes g here m (event.From g.coordinator (msg.Decision gen r commit)) (decided p r commit)
seat-decided g here m None gen r commit e = Rests refl
seat-decided {V} g here m (Some p) gen r true e =
    if_holds (SeatDoes g here m (event.From g.coordinator (msg.Decision gen r true))) (p.0 == r) _ _
    (λ q. Commits gen r p.1 (subst (λ (j : ℕ). m.promise ≡ Some (j, p.1)) (eqb_is p.0 r q) e) refl refl) (λ q. Rests refl)
seat-decided {V} g here m (Some p) gen r false e =
    if_holds (SeatDoes g here m (event.From g.coordinator (msg.Decision gen r false))) (p.0 == r) _ _
    (λ q. Aborts gen r p.1 (subst (λ (j : ℕ). m.promise ≡ Some (j, p.1)) (eqb_is p.0 r q) e) refl refl) (λ q. Rests refl)

pub seat-vote : {V : Type 0} (g : Group V) (here : ℕ) (m : Member V) (o : Option (ℕ × List ℕ)) (a gen r : ℕ) (aye : Bool) → here ≢ g.coordinator
    → SeatDoes g here m (event.From a (msg.Vote gen r aye)) (on_vote g here m o a r aye)
seat-vote g here m None a gen r aye d = Rests refl
seat-vote g here m (Some o) a gen r aye d =
    if_holds (SeatDoes g here m (event.From a (msg.Vote gen r aye))) (here == g.coordinator && o.0 == r) _ _
    (λ q. absurd (d (eqb_is here g.coordinator (and_left (here == g.coordinator) (o.0 == r) q)))) (λ q. Rests refl)

pub seat-strayed : {V : Type 0} (g : Group V) (here : ℕ) (m : Member V) (e : GroupEvent V) (a : ℕ) (v : V) (o : Option Reason)
    → SeatDoes g here m e (strayed g.generation a v o)
seat-strayed g here m e a v None = Rests refl
seat-strayed g here m e a v (Some reason) = Rests refl

pub seat-taken : {V : Type 0} (g : Group V) (here : ℕ) (m : Member V) (e : GroupEvent V) (u : Option V) (v : V) (reason : Reason)
    → SeatDoes g here m e (taken_back g.rules u v reason)
seat-taken g here m e None v reason = Rests refl
seat-taken g here m e (Some u) v reason = if_holds (SeatDoes g here m e) (g.rules.same u v) _ _ (λ q. Refuses v reason refl) (λ q. Rests refl)

pub seat-forward : {V : Type 0} (g : Group V) (here : ℕ) (m : Member V) (e : GroupEvent V) (us : List V) → SeatDoes g here m e (forward_first g us)
seat-forward g here m e [] = Rests refl
seat-forward g here m e (v ∷ vs) = Rests refl

pub seat-tick : {V : Type 0} (g : Group V) (here : ℕ) (m : Member V) (e : GroupEvent V) (p : Option (ℕ × V)) → SeatDoes g here m e (member_tick g m p)
seat-tick g here m e (Some p) = Rests refl
seat-tick g here m e None = seat-forward g here m e m.pending

pub seat-message : {V : Type 0} (g : Group V) (here : ℕ) (m : Member V) (a : ℕ) (x : CommitMsg V) → here ≢ g.coordinator
    → SeatDoes g here m (event.From a x) (on_message g here m a x)
seat-message {V} g here m a (msg.VoteRequest gen r place v) d =
    if_holds (SeatDoes g here m (event.From a (msg.VoteRequest gen r place v))) (a == g.coordinator) _ _
    (λ q. subst (λ (j : ℕ). SeatDoes g here m (event.From j (msg.VoteRequest gen r place v)) (requested g m m.promise j r place v))
    (sym (eqb_is a g.coordinator q)) (seat-requested g here m m.promise gen r place v refl)) (λ q. Rests refl)
seat-message g here m a (msg.Vote gen r aye) d = seat-vote g here m m.opened a gen r aye d
seat-message {V} g here m a (msg.Decision gen r commit) d = if_holds (SeatDoes g here m (event.From a (msg.Decision gen r commit))) (a == g.coordinator) _ _
    (λ q. subst (λ (j : ℕ). SeatDoes g here m (event.From j (msg.Decision gen r commit)) (decided m.promise r commit)) (sym (eqb_is a g.coordinator q))
    (seat-decided g here m m.promise gen r commit refl)) (λ q. Rests refl)
seat-message g here m a (msg.DecisionRequest gen r) d =
    if_holds (SeatDoes g here m (event.From a (msg.DecisionRequest gen r))) (here == g.coordinator && has a (others g here)) _ _
    (λ q. absurd (d (eqb_is here g.coordinator (and_left (here == g.coordinator) (has a (others g here)) q)))) (λ q. Rests refl)
seat-message g here m a (msg.Forward gen v) d =
    if_holds (SeatDoes g here m (event.From a (msg.Forward gen v))) (here == g.coordinator) _ _ (λ q. absurd (d (eqb_is here g.coordinator q)))
    (λ q. seat-strayed g here m (event.From a (msg.Forward gen v)) a v (g.rules.stray v))
seat-message g here m a (msg.Refused gen v reason) d =
    if_holds (SeatDoes g here m (event.From a (msg.Refused gen v reason))) (a == g.coordinator) _ _
    (λ q. seat-taken g here m (event.From a (msg.Refused gen v reason)) (found (g.rules.same_key v) m.pending) v reason) (λ q. Rests refl)

pub seat-does : {V : Type 0} (g : Group V) (here : ℕ) (m : Member V) (e : GroupEvent V) → here ≢ g.coordinator → IsCalmEvent here e
    → SeatDoes g here m e (row g here m e)
seat-does g here m event.Tick d q =
    if_holds (SeatDoes g here m event.Tick) (here == g.coordinator) _ _ (λ p. absurd (d (eqb_is here g.coordinator p)))
    (λ p. seat-tick g here m event.Tick m.promise)
seat-does g here m (event.From a x) d q = seat-message g here m a x d
seat-does g here m _ d q = absurd q

-- a request is about the open round
abbrev pub IsAsked : {V : Type 0} → Option (ℕ × List ℕ) → CommitMsg V → Type 0
IsAsked o (msg.VoteRequest gen r place v) = (missing : List ℕ) × (o ≡ Some (r, missing))
IsAsked o (msg.Forward gen v) = ⊥
IsAsked o _ = Unit {0}

-- at the coordinator
pub data LeadDoes {V : Type 0} (g : Group V) (m : Member V) (e : GroupEvent V) (p : GroupPlan V) : Type 0 where
  Stays : after g g.coordinator m p ≡ m → AllSends (IsAsked m.opened) p.sends → LeadDoes g m e p
  Queues : (a gen : ℕ) → (u : V) → e ≡ event.From a (msg.Forward gen u) → found (g.rules.same_key u) m.pending ≡ None
      → found_refused (g.rules.same_key u) m.refused ≡ None → after g g.coordinator m p ≡ record m { pending = m.pending ++ u ∷ [] } → p.sends ≡ []
      → LeadDoes g m e p
  Counts : (a gen r : ℕ) → (missing : List ℕ) → m.opened ≡ Some (r, missing) → e ≡ event.From a (msg.Vote gen r true) → none_left (but a missing) ≡ false
      → after g g.coordinator m p ≡ record m { opened = Some (r, but a missing) } → p.sends ≡ [] → LeadDoes g m e p
  Carries : (a r : ℕ) → (missing : List ℕ) → (v : V) → (vs : List V) → m.opened ≡ Some (r, missing) → m.pending ≡ v ∷ vs
      → after g g.coordinator m p
      ≡ record m { history = m.history ++ (r, v) ∷ []; promise = None; pending = without (g.rules.same_key v) m.pending; opened = None }
      → p.sends ≡ to_each (msg.Decision g.generation r true) (others g g.coordinator) → LeadDoes g m e p
  Fails : (r : ℕ) → (missing : List ℕ) → (v : V) → (vs : List V) → m.opened ≡ Some (r, missing) → m.pending ≡ v ∷ vs
      → after g g.coordinator m p ≡ record m { pending = without (g.rules.same_key v) m.pending; refused = m.refused ++ (v, vote_no) ∷ []; opened = None }
      → p.sends ≡ abort_each g.generation r v vote_no (others g g.coordinator) → LeadDoes g m e p
  Drops : (v : V) → (vs : List V) → (reason : Reason) → m.opened ≡ None → m.pending ≡ v ∷ vs
      → after g g.coordinator m p ≡ record m { pending = without (g.rules.same_key v) m.pending; refused = m.refused ++ (v, reason) ∷ [] }
      → p.sends ≡ to_each (msg.Refused g.generation v reason) (others g g.coordinator) → LeadDoes g m e p
  Begins : (v : V) → (vs : List V) → m.opened ≡ None → m.pending ≡ v ∷ vs
      → after g g.coordinator m p ≡ record m { next = m.next + 1; opened = Some (m.next, others g g.coordinator) }
      → p.sends ≡ to_each (msg.VoteRequest g.generation m.next (length m.history) v) (others g g.coordinator) → LeadDoes g m e p

pub asked-each : {V : Type 0} (gen : ℕ) (o : ℕ × List ℕ) (x : Option (ℕ × List ℕ)) (place : ℕ) (v : V) (is : List ℕ) → x ≡ Some o
    → AllSends (IsAsked x) (to_each (msg.VoteRequest gen o.0 place v) is)
asked-each gen o x place v [] e = tt
asked-each gen o x place v (i ∷ is) e = ((o.1, e), asked-each gen o x place v is e)

pub lead-ask : {V : Type 0} (g : Group V) (m : Member V) (e : GroupEvent V) (o : ℕ × List ℕ) (us : List V) → m.opened ≡ Some o
    → LeadDoes g m e (ask_again g g.coordinator m o us)
lead-ask g m e o [] q = Stays refl tt
lead-ask g m e o (v ∷ vs) q = Stays refl (asked-each g.generation o m.opened (length m.history) v o.1 q)

pub lead-judge : {V : Type 0} (g : Group V) (m : Member V) (e : GroupEvent V) (v : V) (vs : List V) (o : Option Reason) → m.opened ≡ None
    → m.pending ≡ v ∷ vs → LeadDoes g m e (judge_first g g.coordinator m v o)
lead-judge g m e v vs (Some reason) shut q = Drops v vs reason shut q refl refl
lead-judge g m e v vs None shut q = Begins v vs shut q refl refl

pub lead-try : {V : Type 0} (g : Group V) (m : Member V) (e : GroupEvent V) (us : List V) → m.opened ≡ None → m.pending ≡ us
    → LeadDoes g m e (try_first g g.coordinator m us)
lead-try g m e [] shut q = Stays refl tt
lead-try g m e (v ∷ vs) shut q = lead-judge g m e v vs (g.rules.check (values m.history) v) shut q

pub lead-tick : {V : Type 0} (g : Group V) (m : Member V) (e : GroupEvent V) (o : Option (ℕ × List ℕ)) → m.opened ≡ o
    → LeadDoes g m e (coordinator_tick g g.coordinator m o)
lead-tick g m e (Some o) q = lead-ask g m e o m.pending q
lead-tick g m e None q = if_holds (LeadDoes g m e) (is_spent m) _ _ (λ p. Stays refl tt) (λ p. lead-try g m e m.pending q refl)

pub lead-commit : {V : Type 0} (g : Group V) (m : Member V) (e : GroupEvent V) (a r : ℕ) (missing : List ℕ) (us : List V) → m.opened ≡ Some (r, missing)
    → m.pending ≡ us → LeadDoes g m e (commit_open g g.coordinator r us)
lead-commit g m e a r missing [] o q = Stays refl tt
lead-commit g m e a r missing (v ∷ vs) o q = Carries a r missing v vs o q refl refl

pub lead-abort : {V : Type 0} (g : Group V) (m : Member V) (e : GroupEvent V) (r : ℕ) (missing : List ℕ) (us : List V) → m.opened ≡ Some (r, missing)
    → m.pending ≡ us → LeadDoes g m e (abort_open g g.coordinator r us)
lead-abort g m e r missing [] o q = Stays refl tt
lead-abort g m e r missing (v ∷ vs) o q = Fails r missing v vs o q refl refl

pub lead-vote : {V : Type 0} (g : Group V) (m : Member V) (o : Option (ℕ × List ℕ)) (a gen r : ℕ) (aye : Bool) → m.opened ≡ o
    → LeadDoes g m (event.From a (msg.Vote gen r aye)) (on_vote g g.coordinator m o a r aye)
lead-vote g m None a gen r aye e = Stays refl tt
lead-vote {V} g m (Some o) a gen r aye e =
    if_holds D (g.coordinator == g.coordinator && o.0 == r) _ _
    (λ q. counted aye (subst (λ (j : ℕ). m.opened ≡ Some (j, o.1)) (eqb_is o.0 r (and_right (g.coordinator == g.coordinator) (o.0 == r) q)) e))
    (λ q. Stays refl tt)
  where
    D : GroupPlan V → Type 0
    D = LeadDoes g m (event.From a (msg.Vote gen r aye))

    counted : (b : Bool) → m.opened ≡ Some (r, o.1) → LeadDoes g m (event.From a (msg.Vote gen r b)) (counted_vote g g.coordinator m a r o.1 b)
    counted true q = if_holds (LeadDoes g m (event.From a (msg.Vote gen r true))) (has a (others g g.coordinator) && has a o.1) _ _
        (λ h. if_holds (LeadDoes g m (event.From a (msg.Vote gen r true))) (none_left (but a o.1)) _ _
        (λ all. lead-commit g m (event.From a (msg.Vote gen r true)) a r o.1 m.pending q refl)
        (λ x. Counts a gen r o.1 q refl x (rw q) refl))
        (λ h. Stays refl tt)
    counted false q =
        if_holds (LeadDoes g m (event.From a (msg.Vote gen r false))) (has a (others g g.coordinator)) _ _
        (λ h. lead-abort g m (event.From a (msg.Vote gen r false)) r o.1 m.pending q refl) (λ h. Stays refl tt)

pub lead-told : {V : Type 0} (g : Group V) (m : Member V) (e : GroupEvent V) (d : Option Bool) (a r : ℕ) → LeadDoes g m e (told g.generation d a r)
lead-told g m e None a r = Stays refl tt
lead-told g m e (Some c) a r = Stays refl (tt, tt)

pub lead-new : {V : Type 0} (g : Group V) (m : Member V) (e : GroupEvent V) (a gen : ℕ) (v : V) → e ≡ event.From a (msg.Forward gen v)
    → found (g.rules.same_key v) m.pending ≡ None → found_refused (g.rules.same_key v) m.refused ≡ None → LeadDoes g m e (forwarded_new m v)
lead-new g m e a gen v f p q = if_holds (LeadDoes g m e) (length m.pending == 64) _ _ (λ x. Stays refl tt) (λ x. Queues a gen v f p q refl refl)

pub lead-forwarded_refused : {V : Type 0} (g : Group V) (m : Member V) (e : GroupEvent V) (a gen : ℕ) (v : V) (u : Option (V × Reason))
    → e ≡ event.From a (msg.Forward gen v) → found (g.rules.same_key v) m.pending ≡ None → found_refused (g.rules.same_key v) m.refused ≡ u
    → LeadDoes g m e (forwarded_refused g m a v u)
lead-forwarded_refused g m e a gen v None f p q = lead-new g m e a gen v f p q
lead-forwarded_refused g m e a gen v (Some u) f p q = if_holds (LeadDoes g m e) (g.rules.same u.0 v) _ _ (λ x. Stays refl (tt, tt)) (λ x. Stays refl (tt, tt))

pub lead-forwarded_pending : {V : Type 0} (g : Group V) (m : Member V) (e : GroupEvent V) (a gen : ℕ) (v : V) (u : Option V)
    → e ≡ event.From a (msg.Forward gen v) → found (g.rules.same_key v) m.pending ≡ u → LeadDoes g m e (forwarded_pending g m a v u)
lead-forwarded_pending g m e a gen v None f q = lead-forwarded_refused g m e a gen v (found_refused (g.rules.same_key v) m.refused) f q refl
lead-forwarded_pending g m e a gen v (Some u) f q = if_holds (LeadDoes g m e) (g.rules.same u v) _ _ (λ x. Stays refl tt) (λ x. Stays refl (tt, tt))

pub lead-forwarded : {V : Type 0} (g : Group V) (m : Member V) (e : GroupEvent V) (a gen : ℕ) (v : V) (u : Option V) → e ≡ event.From a (msg.Forward gen v)
    → LeadDoes g m e (forwarded g m a v u)
lead-forwarded g m e a gen v None f = lead-forwarded_pending g m e a gen v (found (g.rules.same_key v) m.pending) f refl
lead-forwarded g m e a gen v (Some u) f = if_holds (LeadDoes g m e) (g.rules.same u v) _ _ (λ x. Stays refl tt) (λ x. Stays refl (tt, tt))

pub lead-admitted : {V : Type 0} (g : Group V) (m : Member V) (e : GroupEvent V) (a gen : ℕ) (v : V) (x : Admit) → e ≡ event.From a (msg.Forward gen v)
    → LeadDoes g m e (admitted g m a v x)
lead-admitted g m e a gen v admit.Take f = lead-forwarded g m e a gen v (found (g.rules.same_key v) (values m.history)) f
lead-admitted g m e a gen v admit.Ignore f = Stays refl tt
lead-admitted g m e a gen v (admit.Return reason) f = Stays refl (tt, tt)

pub lead-message : {V : Type 0} (g : Group V) (m : Member V) (a : ℕ) (x : CommitMsg V) → a ≢ g.coordinator
    → LeadDoes g m (event.From a x) (on_message g g.coordinator m a x)
lead-message g m a (msg.VoteRequest gen r place v) d =
    if_holds (LeadDoes g m (event.From a (msg.VoteRequest gen r place v))) (a == g.coordinator) _ _ (λ q. absurd (d (eqb_is a g.coordinator q)))
    (λ q. Stays refl (tt, tt))
lead-message g m a (msg.Vote gen r aye) d = lead-vote g m m.opened a gen r aye refl
lead-message g m a (msg.Decision gen r commit) d =
    if_holds (LeadDoes g m (event.From a (msg.Decision gen r commit))) (a == g.coordinator) _ _ (λ q. absurd (d (eqb_is a g.coordinator q)))
    (λ q. Stays refl tt)
lead-message g m a (msg.DecisionRequest gen r) d =
    if_holds (LeadDoes g m (event.From a (msg.DecisionRequest gen r))) (g.coordinator == g.coordinator && has a (others g g.coordinator)) _ _
    (λ q. lead-told g m (event.From a (msg.DecisionRequest gen r)) (decision m r) a r) (λ q. Stays refl tt)
lead-message g m a (msg.Forward gen v) d = if_holds (LeadDoes g m (event.From a (msg.Forward gen v))) (g.coordinator == g.coordinator) _ _
    (λ q. if_holds (LeadDoes g m (event.From a (msg.Forward gen v))) (has a (others g g.coordinator)) _ _
    (λ h. lead-admitted g m (event.From a (msg.Forward gen v)) a gen v (g.rules.admits a v) refl) (λ h. Stays refl tt))
    (λ q. absurd (eqb_not g.coordinator g.coordinator q refl))
lead-message g m a (msg.Refused gen v reason) d =
    if_holds (LeadDoes g m (event.From a (msg.Refused gen v reason))) (a == g.coordinator) _ _ (λ q. absurd (d (eqb_is a g.coordinator q)))
    (λ q. Stays refl tt)

pub lead-does : {V : Type 0} (g : Group V) (m : Member V) (e : GroupEvent V) → IsCalmEvent g.coordinator e → LeadDoes g m e (row g g.coordinator m e)
lead-does g m event.Tick q =
    if_holds (LeadDoes g m event.Tick) (g.coordinator == g.coordinator) _ _ (λ p. lead-tick g m event.Tick m.opened refl)
    (λ p. absurd (eqb_not g.coordinator g.coordinator p refl))
lead-does g m (event.From a x) q = lead-message g m a x q
lead-does g m _ q = absurd q

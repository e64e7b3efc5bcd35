-- What a row sends, and that a member without history and promise gets one only by a first request of the coordinator.
use Rattle.std.{specs.Prelude.{Option, Some, None, ◌==◌, nat_lt, is_none}, proofs.Common.{◌≡◌, ◌≢◌, ℕ, ◌-◌, ◌^◌, ◌⊎◌, Bool, true, false, ◌&&◌, List, [], ◌∷◌}}
use Rattle.std.proofs.{Common.{length, refl, sym, ap, subst, ◌∙◌, inl, inr, arith}, lemmas.Option.none-some}
use Rattle.spl_agree.specs.{Member.{Group, Member, values, has_round, others, has, but, decision, found, found_refused, is_spent, none_left}, Rows.row}
use Rattle.spl_agree.specs.Rows.{requested, fits_here, on_vote, counted_vote, commit_open, abort_open, decided, told, strayed, admitted, forwarded}
use Rattle.spl_agree.specs.Rows.{forwarded_pending, forwarded_refused, taken_back, on_message, coordinator_tick, ask_again, try_first, judge_first}
use Rattle.spl_agree.specs.{Rows.{member_tick, forward_first, expire_open, to_each, abort_each, vote_no}, World.after, Fits.{IsSound, IsJudged}}
use Rattle.spl_agree.specs.declared.{event.GroupEvent.GroupEvent, message.CommitMsg.CommitMsg, plan.GroupPlan.GroupPlan, reason.{Admit.Admit, Reason.Reason}}
use Rattle.spl_agree.proofs.Tests.{if_holds, if_false, eqb_is, eqb_other, and_left, and_right}
use Rattle.spl_agree.specs.declared.reason.Admit.TheVariants as admit
use Rattle.spl_agree.specs.declared.message.CommitMsg.TheVariants as msg
use Rattle.spl_agree.specs.declared.event.GroupEvent.TheVariants as event
use Rattle.spl_group_safety.proofs.Sound.{is_none_is}
use Rattle.spl_circuit_safety.proofs.GroupOfDefinition.{AllPosts, IsByRule, IsQuiet}

-- all that a plan sends is by_rule
abbrev pub Fine : {V : Type 0} → Group V → ℕ → Member V → GroupPlan V → Type 0
Fine g here m p = AllPosts (IsByRule g (after g here m p)) p.sends

-- what holds of one message to each
pub posts-to_each : {V : Type 0} (P : ℕ → CommitMsg V → Type 0) (x : CommitMsg V) (is : List ℕ) → ((i : ℕ) → P i x) → AllPosts P (to_each x is)
posts-to_each P x [] h = tt
posts-to_each P x (i ∷ is) h = (h i, posts-to_each P x is h)

-- what holds of an abort and what is refused, to each
pub posts-abort_each : {V : Type 0} (P : ℕ → CommitMsg V → Type 0) (gen r : ℕ) (v : V) (why : Reason) (is : List ℕ)
    → ((i : ℕ) → P i (msg.Decision gen r false)) → ((i : ℕ) → P i (msg.Refused gen v why)) → AllPosts P (abort_each gen r v why is)
posts-abort_each P gen r v why [] h k = tt
posts-abort_each P gen r v why (i ∷ is) h k = (h i, (k i, posts-abort_each P gen r v why is h k))

-- an empty history has no values
pub no_values : {V : Type 0} (h : List (ℕ × V)) → length h ≡ 0 → values h ≡ []
no_values [] e = refl
no_values (x ∷ xs) e = absurd (omega (arith, e))

-- a check that is good against an empty history
pub first_good : {V : Type 0} (g : Group V) (h : List (ℕ × V)) (v : V) → g.rules.check (values h) v ≡ None → length h ≡ 0 → g.rules.check [] v ≡ None
first_good {V} g h v c e = subst (λ (z : List V). g.rules.check z v ≡ None) (no_values h e) c

-- VoteRequest
pub fine-requested : {V : Type 0} (g : Group V) (here : ℕ) (m : Member V) (p : Option (ℕ × V)) (sender r place : ℕ) (v : V) → m.promise ≡ p
    → sender ≡ g.coordinator → Fine g here m (requested g m p sender r place v)
fine-requested {V} g here m (Some p) sender r place v e s =
    if_holds (Fine g here m) (p.0 == r) _ _ (λ q. ((refl, s, λ h. none-some p (sym h ∙ e)), tt)) (λ q. (tt, tt))
fine-requested {V} g here m None sender r place v e s =
    if_holds (Fine g here m) (nat_lt r m.seen) _ _ (λ q. tt) (λ q.
    if_holds (Fine g here m) (r == m.seen && has_round r m.history) _ _ (λ q. tt) (λ q.
    if_holds (Fine g here m) (r == m.seen) _ _ (λ q. (tt, tt)) (λ q.
    if_holds (Fine g here m) (fits_here g.rules m.history place v) _ _ (λ f. ((refl, s, λ h. none-some (r, v) (sym h)), tt)) (λ f. (tt, tt)))))

-- Decision
pub fine-decided : {V : Type 0} (g : Group V) (here : ℕ) (m : Member V) (p : Option (ℕ × V)) (r : ℕ) (commit : Bool) → Fine g here m (decided p r commit)
fine-decided g here m None r commit = tt
fine-decided g here m (Some p) r true = if_holds (Fine g here m) (p.0 == r) _ _ (λ q. tt) (λ q. tt)
fine-decided g here m (Some p) r false = if_holds (Fine g here m) (p.0 == r) _ _ (λ q. tt) (λ q. tt)

-- Vote
pub fine-abort : {V : Type 0} (g : Group V) (here : ℕ) (m : Member V) (r : ℕ) (us : List V) → Fine g here m (abort_open g here r us)
fine-abort g here m r [] = tt
fine-abort g here m r (v ∷ vs) =
    posts-abort_each (IsByRule g (after g here m (abort_open g here r (v ∷ vs)))) g.generation r v vote_no (others g here) (λ i. refl) (λ i. tt)

-- the last yes
pub fine-commit : {V : Type 0} (g : Group V) (here : ℕ) (m : Member V) (r : ℕ) (us : List V) → Fine g here m (commit_open g here r us)
fine-commit g here m r [] = tt
fine-commit g here m r (v ∷ vs) =
    posts-to_each (IsByRule g (after g here m (commit_open g here r (v ∷ vs)))) (msg.Decision g.generation r true) (others g here) (λ i. refl)

-- a vote
pub fine-vote : {V : Type 0} (g : Group V) (here : ℕ) (m : Member V) (o : Option (ℕ × List ℕ)) (sender r : ℕ) (aye : Bool)
    → Fine g here m (on_vote g here m o sender r aye)
fine-vote g here m None sender r aye = tt
fine-vote g here m (Some o) sender r aye = if_holds (Fine g here m) (here == g.coordinator && o.0 == r) _ _ (λ q. counted aye) (λ q. tt)
  where
    counted : (b : Bool) → Fine g here m (counted_vote g here m sender r o.1 b)
    counted true = if_holds (Fine g here m) (has sender (others g here) && has sender o.1) _ _
        (λ h. if_holds (Fine g here m) (none_left (but sender o.1)) _ _ (λ all. fine-commit g here m r m.pending) (λ x. tt))
        (λ h. tt)
    counted false = if_holds (Fine g here m) (has sender (others g here)) _ _ (λ h. fine-abort g here m r m.pending) (λ h. tt)

-- DecisionRequest
pub fine-told : {V : Type 0} (g : Group V) (here : ℕ) (m : Member V) (d : Option Bool) (sender r : ℕ) → Fine g here m (told g.generation d sender r)
fine-told g here m None sender r = tt
fine-told g here m (Some c) sender r = (refl, tt)

-- Forward
pub fine-forwarded_refused : {V : Type 0} (g : Group V) (here : ℕ) (m : Member V) (sender : ℕ) (v : V) (u : Option (V × Reason))
    → Fine g here m (forwarded_refused g m sender v u)
fine-forwarded_refused g here m sender v None = if_holds (Fine g here m) (length m.pending == 64) _ _ (λ q. tt) (λ q. tt)
fine-forwarded_refused g here m sender v (Some u) = if_holds (Fine g here m) (g.rules.same u.0 v) _ _ (λ q. (tt, tt)) (λ q. (tt, tt))

-- a forwarded value, by what is pending
pub fine-forwarded_pending : {V : Type 0} (g : Group V) (here : ℕ) (m : Member V) (sender : ℕ) (v : V) (u : Option V)
    → Fine g here m (forwarded_pending g m sender v u)
fine-forwarded_pending g here m sender v None = fine-forwarded_refused g here m sender v (found_refused (g.rules.same_key v) m.refused)
fine-forwarded_pending g here m sender v (Some u) = if_holds (Fine g here m) (g.rules.same u v) _ _ (λ q. tt) (λ q. (tt, tt))

-- a forwarded value, by what is committed
pub fine-forwarded : {V : Type 0} (g : Group V) (here : ℕ) (m : Member V) (sender : ℕ) (v : V) (u : Option V) → Fine g here m (forwarded g m sender v u)
fine-forwarded g here m sender v None = fine-forwarded_pending g here m sender v (found (g.rules.same_key v) m.pending)
fine-forwarded g here m sender v (Some u) = if_holds (Fine g here m) (g.rules.same u v) _ _ (λ q. tt) (λ q. (tt, tt))

-- a forwarded value, as it is admitted
pub fine-admitted : {V : Type 0} (g : Group V) (here : ℕ) (m : Member V) (sender : ℕ) (v : V) (a : Admit) → Fine g here m (admitted g m sender v a)
fine-admitted g here m sender v admit.Take = fine-forwarded g here m sender v (found (g.rules.same_key v) (values m.history))
fine-admitted g here m sender v admit.Ignore = tt
fine-admitted g here m sender v (admit.Return reason) = (tt, tt)

-- a forwarded value at another member
pub fine-strayed : {V : Type 0} (g : Group V) (here : ℕ) (m : Member V) (sender : ℕ) (v : V) (o : Option Reason)
    → Fine g here m (strayed g.generation sender v o)
fine-strayed g here m sender v None = tt
fine-strayed g here m sender v (Some reason) = (tt, tt)

-- Refused
pub fine-taken_back : {V : Type 0} (g : Group V) (here : ℕ) (m : Member V) (u : Option V) (v : V) (reason : Reason)
    → Fine g here m (taken_back g.rules u v reason)
fine-taken_back g here m None v reason = tt
fine-taken_back g here m (Some u) v reason = if_holds (Fine g here m) (g.rules.same u v) _ _ (λ q. tt) (λ q. tt)

-- any message
pub fine-message : {V : Type 0} (g : Group V) (here : ℕ) (m : Member V) (sender : ℕ) (x : CommitMsg V) → Fine g here m (on_message g here m sender x)
fine-message g here m sender (msg.VoteRequest gen r place v) =
    if_holds (Fine g here m) (sender == g.coordinator) _ _ (λ q. fine-requested g here m m.promise sender r place v refl (eqb_is sender g.coordinator q))
    (λ q. (tt, tt))
fine-message g here m sender (msg.Vote gen r aye) = fine-vote g here m m.opened sender r aye
fine-message g here m sender (msg.Decision gen r commit) =
    if_holds (Fine g here m) (sender == g.coordinator) _ _ (λ q. fine-decided g here m m.promise r commit) (λ q. tt)
fine-message g here m sender (msg.DecisionRequest gen r) =
    if_holds (Fine g here m) (here == g.coordinator && has sender (others g here)) _ _ (λ q. fine-told g here m (decision m r) sender r) (λ q. tt)
fine-message g here m sender (msg.Forward gen v) = if_holds (Fine g here m) (here == g.coordinator) _ _
    (λ q. if_holds (Fine g here m) (has sender (others g here)) _ _ (λ h. fine-admitted g here m sender v (g.rules.admits sender v)) (λ h. tt))
    (λ q. fine-strayed g here m sender v (g.rules.stray v))
fine-message g here m sender (msg.Refused gen v reason) =
    if_holds (Fine g here m) (sender == g.coordinator) _ _ (λ q. fine-taken_back g here m (found (g.rules.same_key v) m.pending) v reason) (λ q. tt)

-- Tick and Expire
pub fine-judge : {V : Type 0} (g : Group V) (here : ℕ) (m : Member V) (v : V) (o : Option Reason) → g.rules.check (values m.history) v ≡ o
    → Fine g here m (judge_first g here m v o)
fine-judge g here m v (Some reason) c =
    posts-to_each (IsByRule g (after g here m (judge_first g here m v (Some reason)))) (msg.Refused g.generation v reason) (others g here) (λ i. tt)
fine-judge g here m v None c =
    posts-to_each (IsByRule g (after g here m (judge_first g here m v None))) (msg.VoteRequest g.generation m.next (length m.history) v) (others g here)
    (λ i. (refl, first_good g m.history v c))

-- the first pending value
pub fine-try : {V : Type 0} (g : Group V) (here : ℕ) (m : Member V) (us : List V) → Fine g here m (try_first g here m us)
fine-try g here m [] = tt
fine-try g here m (v ∷ vs) = fine-judge g here m v (g.rules.check (values m.history) v) refl

-- a request goes again, for a value whose check is good
pub fine-ask : {V : Type 0} (g : Group V) (here : ℕ) (m : Member V) (o : ℕ × List ℕ) (us : List V) → m.opened ≡ Some o → m.pending ≡ us → IsSound g here m
    → Fine g here m (ask_again g here m o us)
fine-ask g here m o [] e p s = tt
fine-ask {V} g here m o (v ∷ vs) e p s =
    let k : IsJudged g here m o = s.settled o e in
    let same : k.first ≡ v = let x : k.first ∷ k.rest ≡ v ∷ vs = sym k.pending ∙ p in cc in
    posts-to_each (IsByRule g (after g here m (ask_again g here m o (v ∷ vs)))) (msg.VoteRequest g.generation o.0 (length m.history) v) o.1
    (λ i. (refl, first_good g m.history v (subst (λ (u : V). g.rules.check (values m.history) u ≡ None) same k.good)))

-- a tick at the coordinator
pub fine-tick : {V : Type 0} (g : Group V) (here : ℕ) (m : Member V) (o : Option (ℕ × List ℕ)) → m.opened ≡ o → IsSound g here m
    → Fine g here m (coordinator_tick g here m o)
fine-tick g here m (Some o) e s = fine-ask g here m o m.pending e refl s
fine-tick g here m None e s = if_holds (Fine g here m) (is_spent m) _ _ (λ q. tt) (λ q. fine-try g here m m.pending)

-- an expire at the coordinator
pub fine-expire : {V : Type 0} (g : Group V) (here : ℕ) (m : Member V) (o : Option (ℕ × List ℕ)) → Fine g here m (expire_open g here o)
fine-expire g here m None = tt
fine-expire g here m (Some o) =
    posts-to_each (IsByRule g (after g here m (expire_open g here (Some o)))) (msg.Decision g.generation o.0 false) (others g here) (λ i. refl)

-- the first pending value is forwarded
pub fine-forward : {V : Type 0} (g : Group V) (here : ℕ) (m : Member V) (us : List V) → Fine g here m (forward_first g us)
fine-forward g here m [] = tt
fine-forward g here m (v ∷ vs) = (tt, tt)

-- a tick at another member
pub fine-member_tick : {V : Type 0} (g : Group V) (here : ℕ) (m : Member V) (p : Option (ℕ × V)) → Fine g here m (member_tick g m p)
fine-member_tick g here m (Some p) = (tt, tt)
fine-member_tick g here m None = fine-forward g here m m.pending

-- any event
pub fine-row : {V : Type 0} (g : Group V) (here : ℕ) (m : Member V) (e : GroupEvent V) → IsSound g here m → Fine g here m (row g here m e)
fine-row g here m event.Tick s =
    if_holds (Fine g here m) (here == g.coordinator) _ _ (λ q. fine-tick g here m m.opened refl s) (λ q. fine-member_tick g here m m.promise)
fine-row g here m event.Expire s = if_holds (Fine g here m) (here == g.coordinator) _ _ (λ q. fine-expire g here m m.opened) (λ q. tt)
fine-row g here m (event.Submit v) s = if_holds (Fine g here m) (here == g.coordinator) _ _ (λ q. tt) (λ q. (tt, tt))
fine-row g here m (event.From sender x) s = fine-message g here m sender x

-- a first request of the coordinator whose check is good
abbrev pub IsFirst : {V : Type 0} → Group V → GroupEvent V → Type 0
IsFirst g (event.From s (msg.VoteRequest gen r place v)) = (s ≡ g.coordinator) × (place ≡ 0) × (g.rules.check [] v ≡ None)
IsFirst g _ = ⊥

-- the member is quiet after the plan, or the event was such a request
abbrev pub Stays : {V : Type 0} → Group V → ℕ → Member V → GroupEvent V → GroupPlan V → Type 0
Stays g here m e p = IsQuiet (after g here m p) ⊎ IsFirst g e

-- a request of the coordinator
pub quiet-requested : {V : Type 0} (g : Group V) (here : ℕ) (m : Member V) (p : Option (ℕ × V)) (gen sender r place : ℕ) (v : V) → m.promise ≡ p
    → IsQuiet m → sender ≡ g.coordinator → Stays g here m (event.From sender (msg.VoteRequest gen r place v)) (requested g m p sender r place v)
quiet-requested {V} g here m (Some p) gen sender r place v e k s = absurd (none-some p (sym k.1 ∙ e))
quiet-requested {V} g here m None gen sender r place v e k s =
    if_holds (Stays g here m (event.From sender (msg.VoteRequest gen r place v))) (nat_lt r m.seen) _ _ (λ q. inl k) (λ q.
    if_holds (Stays g here m (event.From sender (msg.VoteRequest gen r place v))) (r == m.seen && has_round r m.history) _ _ (λ q. inl k) (λ q.
    if_holds (Stays g here m (event.From sender (msg.VoteRequest gen r place v))) (r == m.seen) _ _ (λ q. inl k) (λ q.
    if_holds (Stays g here m (event.From sender (msg.VoteRequest gen r place v))) (fits_here g.rules m.history place v) _ _
    (λ f. inr (
      s,
      first_place (eqb_is place (length m.history) (and_left (place == length m.history) _ f)),
      first_good g m.history v
          (is_none_is (g.rules.check (values m.history) v)
          (and_right (nat_lt (length m.history) (2 ^ 32 - 1)) (is_none (g.rules.check (values m.history) v)) (and_right (place == length m.history) _ f)))
          (ap (λ (h : List (ℕ × V)). length h) k.0),
    ))
    (λ f. inl k))))
  where
    first_place : place ≡ length m.history → place ≡ 0
    first_place h = h ∙ ap (λ (x : List (ℕ × V)). length x) k.0

-- a decision
pub quiet-decided : {V : Type 0} (g : Group V) (here : ℕ) (m : Member V) (p : Option (ℕ × V)) (e : GroupEvent V) (r : ℕ) (commit : Bool) → m.promise ≡ p
    → IsQuiet m → Stays g here m e (decided p r commit)
quiet-decided g here m None e r commit q k = inl k
quiet-decided {V} g here m (Some p) e r commit q k = absurd (none-some p (sym k.1 ∙ q))

-- a vote
pub quiet-vote : {V : Type 0} (g : Group V) (here : ℕ) (m : Member V) (e : GroupEvent V) (o : Option (ℕ × List ℕ)) (sender r : ℕ) (aye : Bool)
    → here ≢ g.coordinator → IsQuiet m → Stays g here m e (on_vote g here m o sender r aye)
quiet-vote g here m e None sender r aye d k = inl k
quiet-vote g here m e (Some o) sender r aye d k =
    if_false (Stays g here m e) (here == g.coordinator && o.0 == r) _ _ (rw (eqb_other here g.coordinator d)) (inl k)

-- a forwarded value
pub quiet-strayed : {V : Type 0} (g : Group V) (here : ℕ) (m : Member V) (e : GroupEvent V) (sender : ℕ) (v : V) (o : Option Reason) → IsQuiet m
    → Stays g here m e (strayed g.generation sender v o)
quiet-strayed g here m e sender v None k = inl k
quiet-strayed g here m e sender v (Some why) k = inl k

-- a refused value
pub quiet-taken_back : {V : Type 0} (g : Group V) (here : ℕ) (m : Member V) (e : GroupEvent V) (u : Option V) (v : V) (why : Reason) → IsQuiet m
    → Stays g here m e (taken_back g.rules u v why)
quiet-taken_back g here m e None v why k = inl k
quiet-taken_back g here m e (Some u) v why k = if_holds (Stays g here m e) (g.rules.same u v) _ _ (λ q. inl k) (λ q. inl k)

-- any message
pub quiet-message : {V : Type 0} (g : Group V) (here : ℕ) (m : Member V) (sender : ℕ) (x : CommitMsg V) → here ≢ g.coordinator → IsQuiet m
    → Stays g here m (event.From sender x) (on_message g here m sender x)
quiet-message g here m sender (msg.VoteRequest gen r place v) d k =
    if_holds (Stays g here m (event.From sender (msg.VoteRequest gen r place v))) (sender == g.coordinator) _ _
    (λ q. quiet-requested g here m m.promise gen sender r place v refl k (eqb_is sender g.coordinator q)) (λ q. inl k)
quiet-message g here m sender (msg.Vote gen r aye) d k = quiet-vote g here m (event.From sender (msg.Vote gen r aye)) m.opened sender r aye d k
quiet-message g here m sender (msg.Decision gen r commit) d k =
    if_holds (Stays g here m (event.From sender (msg.Decision gen r commit))) (sender == g.coordinator) _ _
    (λ q. quiet-decided g here m m.promise (event.From sender (msg.Decision gen r commit)) r commit refl k) (λ q. inl k)
quiet-message g here m sender (msg.DecisionRequest gen r) d k =
    if_false (Stays g here m (event.From sender (msg.DecisionRequest gen r))) (here == g.coordinator && has sender (others g here)) _ _
    (rw (eqb_other here g.coordinator d)) (inl k)
quiet-message g here m sender (msg.Forward gen v) d k =
    if_false (Stays g here m (event.From sender (msg.Forward gen v))) (here == g.coordinator) _ _ (eqb_other here g.coordinator d)
    (quiet-strayed g here m (event.From sender (msg.Forward gen v)) sender v (g.rules.stray v) k)
quiet-message g here m sender (msg.Refused gen v why) d k =
    if_holds (Stays g here m (event.From sender (msg.Refused gen v why))) (sender == g.coordinator) _ _
    (λ q. quiet-taken_back g here m (event.From sender (msg.Refused gen v why)) (found (g.rules.same_key v) m.pending) v why k) (λ q. inl k)

-- a value is forwarded
pub quiet-forward : {V : Type 0} (g : Group V) (here : ℕ) (m : Member V) (e : GroupEvent V) (us : List V) → IsQuiet m → Stays g here m e (forward_first g us)
quiet-forward g here m e [] k = inl k
quiet-forward g here m e (v ∷ vs) k = inl k

-- a tick
pub quiet-tick : {V : Type 0} (g : Group V) (here : ℕ) (m : Member V) (e : GroupEvent V) (p : Option (ℕ × V)) → IsQuiet m → Stays g here m e (member_tick g m p)
quiet-tick g here m e (Some p) k = inl k
quiet-tick g here m e None k = quiet-forward g here m e m.pending k

-- a quiet member that is not the coordinator stays quiet, except such a request
pub quiet-row : {V : Type 0} (g : Group V) (here : ℕ) (m : Member V) (e : GroupEvent V) → here ≢ g.coordinator → IsQuiet m → Stays g here m e (row g here m e)
quiet-row g here m event.Tick d k =
    if_false (Stays g here m event.Tick) (here == g.coordinator) _ _ (eqb_other here g.coordinator d) (quiet-tick g here m event.Tick m.promise k)
quiet-row g here m event.Expire d k = if_false (Stays g here m event.Expire) (here == g.coordinator) _ _ (eqb_other here g.coordinator d) (inl k)
quiet-row g here m (event.Submit v) d k = if_false (Stays g here m (event.Submit v)) (here == g.coordinator) _ _ (eqb_other here g.coordinator d) (inl k)
quiet-row g here m (event.From sender x) d k = quiet-message g here m sender x d k

-- What a member of any group sends carries what is pending there, or what the event brought.
use Rattle.std.{specs.{Prelude.{Option, Some, None, ◌==◌, nat_lt}, List.list_all}, proofs.Common.{◌≡◌, ℕ, Bool, true, false, ◌&&◌, List, [], ◌∷◌, length}}
use Rattle.std.proofs.Common.{refl}
use Rattle.spl_agree.specs.{Member.{Group, Member, values, has_round, found, found_refused, others, has, but, none_left, is_spent, decision}, Rows.to_each}
use Rattle.spl_agree.specs.Rows.{abort_each, row, requested, fits_here, on_vote, counted_vote, commit_open, abort_open, decided, told, strayed, admitted}
use Rattle.spl_agree.specs.Rows.{forwarded, forwarded_pending, forwarded_refused, taken_back, on_message, coordinator_tick, ask_again, try_first, judge_first}
use Rattle.spl_agree.specs.{Rows.{member_tick, forward_first, expire_open, vote_no}, declared.{event.GroupEvent.GroupEvent, message.CommitMsg.CommitMsg}}
use Rattle.spl_agree.{specs.declared.{plan.GroupPlan.GroupPlan, reason.{Admit.Admit, Reason.Reason}}, proofs.Tests.{if_holds, and_left}}
use Rattle.spl_agree.specs.declared.reason.Admit.TheVariants as admit
use Rattle.spl_agree.specs.declared.message.CommitMsg.TheVariants as msg
use Rattle.spl_agree.specs.declared.event.GroupEvent.TheVariants as event
use Rattle.spl_cell_rules.specs.Valid.{carries}

module _ {V : Type 0} (may : V → Bool) where
  abbrev pub send_carries : ℕ × CommitMsg V → Bool
  send_carries s = carries may s.1

  abbrev pub AllCarry : List (ℕ × CommitMsg V) → Type 0
  AllCarry ss = list_all send_carries ss ≡ true

  -- what the event brings
  abbrev pub Brings : GroupEvent V → Type 0
  Brings event.Tick = Unit {0}
  Brings event.Expire = Unit {0}
  Brings (event.Submit v) = may v ≡ true
  Brings (event.From s x) = carries may x ≡ true

  abbrev Carry : GroupPlan V → Type 0
  Carry p = AllCarry p.sends

  carry-to_each : (x : CommitMsg V) (is : List ℕ) → carries may x ≡ true → AllCarry (to_each x is)
  carry-to_each x [] h = refl
  carry-to_each x (i ∷ is) h = rw (h, carry-to_each x is h)

  carry-abort_each : (gen r : ℕ) (v : V) (why : Reason) (is : List ℕ) → may v ≡ true → AllCarry (abort_each gen r v why is)
  carry-abort_each gen r v why [] h = refl
  carry-abort_each gen r v why (i ∷ is) h = rw (h, carry-abort_each gen r v why is h)

  first : (v : V) (vs : List V) → list_all may (v ∷ vs) ≡ true → may v ≡ true
  first v vs h = and_left (may v) (list_all may vs) h

  carry-requested : (g : Group V) (m : Member V) (p : Option (ℕ × V)) (sender r place : ℕ) (v : V) → Carry (requested g m p sender r place v)
  carry-requested g m (Some p) sender r place v = if_holds Carry (p.0 == r) _ _ (λ q. refl) (λ q. refl)
  carry-requested g m None sender r place v =
      if_holds Carry (nat_lt r m.seen) _ _ (λ q. refl) (λ q.
      if_holds Carry (r == m.seen && has_round r m.history) _ _ (λ q. refl) (λ q.
      if_holds Carry (r == m.seen) _ _ (λ q. refl) (λ q.
      if_holds Carry (fits_here g.rules m.history place v) _ _ (λ q. refl) (λ q. refl))))

  carry-commit : (g : Group V) (here r : ℕ) (us : List V) → Carry (commit_open g here r us)
  carry-commit g here r [] = refl
  carry-commit g here r (v ∷ vs) = carry-to_each (msg.Decision g.generation r true) (others g here) refl

  carry-abort : (g : Group V) (here r : ℕ) (us : List V) → list_all may us ≡ true → Carry (abort_open g here r us)
  carry-abort g here r [] h = refl
  carry-abort g here r (v ∷ vs) h = carry-abort_each g.generation r v vote_no (others g here) (first v vs h)

  carry-vote : (g : Group V) (here : ℕ) (m : Member V) (o : Option (ℕ × List ℕ)) (sender r : ℕ) (aye : Bool) → list_all may m.pending ≡ true
      → Carry (on_vote g here m o sender r aye)
  carry-vote g here m None sender r aye h = refl
  carry-vote g here m (Some o) sender r aye h = if_holds Carry (here == g.coordinator && o.0 == r) _ _ (λ q. counted aye) (λ q. refl)
    where
      counted : (b : Bool) → Carry (counted_vote g here m sender r o.1 b)
      counted true =
          if_holds Carry (has sender (others g here) && has sender o.1) _ _
          (λ k. if_holds Carry (none_left (but sender o.1)) _ _ (λ q. carry-commit g here r m.pending) (λ q. refl)) (λ k. refl)
      counted false = if_holds Carry (has sender (others g here)) _ _ (λ k. carry-abort g here r m.pending h) (λ k. refl)

  carry-decided : (p : Option (ℕ × V)) (r : ℕ) (commit : Bool) → Carry (decided p r commit)
  carry-decided None r commit = refl
  carry-decided (Some p) r true = if_holds Carry (p.0 == r) _ _ (λ q. refl) (λ q. refl)
  carry-decided (Some p) r false = if_holds Carry (p.0 == r) _ _ (λ q. refl) (λ q. refl)

  carry-told : (gen : ℕ) (o : Option Bool) (sender r : ℕ) → Carry (told gen o sender r)
  carry-told gen None sender r = refl
  carry-told gen (Some c) sender r = refl

  carry-refused : (g : Group V) (m : Member V) (sender : ℕ) (v : V) (u : Option (V × Reason)) → may v ≡ true → Carry (forwarded_refused g m sender v u)
  carry-refused g m sender v None h = if_holds Carry (length m.pending == 64) _ _ (λ q. refl) (λ q. refl)
  carry-refused g m sender v (Some u) h = if_holds Carry (g.rules.same u.0 v) _ _ (λ q. rw h) (λ q. rw h)

  carry-pending : (g : Group V) (m : Member V) (sender : ℕ) (v : V) (u : Option V) → may v ≡ true → Carry (forwarded_pending g m sender v u)
  carry-pending g m sender v None h = carry-refused g m sender v (found_refused (g.rules.same_key v) m.refused) h
  carry-pending g m sender v (Some u) h = if_holds Carry (g.rules.same u v) _ _ (λ q. refl) (λ q. rw h)

  carry-forwarded : (g : Group V) (m : Member V) (sender : ℕ) (v : V) (u : Option V) → may v ≡ true → Carry (forwarded g m sender v u)
  carry-forwarded g m sender v None h = carry-pending g m sender v (found (g.rules.same_key v) m.pending) h
  carry-forwarded g m sender v (Some u) h = if_holds Carry (g.rules.same u v) _ _ (λ q. refl) (λ q. rw h)

  carry-admitted : (g : Group V) (m : Member V) (sender : ℕ) (v : V) (a : Admit) → may v ≡ true → Carry (admitted g m sender v a)
  carry-admitted g m sender v admit.Take h = carry-forwarded g m sender v (found (g.rules.same_key v) (values m.history)) h
  carry-admitted g m sender v admit.Ignore h = refl
  carry-admitted g m sender v (admit.Return why) h = rw h

  carry-strayed : (gen sender : ℕ) (v : V) (o : Option Reason) → may v ≡ true → Carry (strayed gen sender v o)
  carry-strayed gen sender v None h = refl
  carry-strayed gen sender v (Some why) h = rw h

  carry-taken_back : (g : Group V) (u : Option V) (v : V) (why : Reason) → Carry (taken_back g.rules u v why)
  carry-taken_back g None v why = refl
  carry-taken_back g (Some u) v why = if_holds Carry (g.rules.same u v) _ _ (λ q. refl) (λ q. refl)

  carry-message : (g : Group V) (here : ℕ) (m : Member V) (sender : ℕ) (x : CommitMsg V) → list_all may m.pending ≡ true → carries may x ≡ true
      → Carry (on_message g here m sender x)
  carry-message g here m sender (msg.VoteRequest gen r place v) h k =
      if_holds Carry (sender == g.coordinator) _ _ (λ q. carry-requested g m m.promise sender r place v) (λ q. refl)
  carry-message g here m sender (msg.Vote gen r aye) h k = carry-vote g here m m.opened sender r aye h
  carry-message g here m sender (msg.Decision gen r commit) h k =
      if_holds Carry (sender == g.coordinator) _ _ (λ q. carry-decided m.promise r commit) (λ q. refl)
  carry-message g here m sender (msg.DecisionRequest gen r) h k =
      if_holds Carry (here == g.coordinator && has sender (others g here)) _ _ (λ q. carry-told g.generation (decision m r) sender r) (λ q. refl)
  carry-message g here m sender (msg.Forward gen v) h k = if_holds Carry (here == g.coordinator) _ _
      (λ q. if_holds Carry (has sender (others g here)) _ _ (λ z. carry-admitted g m sender v (g.rules.admits sender v) k) (λ z. refl))
      (λ q. carry-strayed g.generation sender v (g.rules.stray v) k)
  carry-message g here m sender (msg.Refused gen v why) h k =
      if_holds Carry (sender == g.coordinator) _ _ (λ q. carry-taken_back g (found (g.rules.same_key v) m.pending) v why) (λ q. refl)

  carry-judge : (g : Group V) (here : ℕ) (m : Member V) (v : V) (o : Option Reason) → may v ≡ true → Carry (judge_first g here m v o)
  carry-judge g here m v (Some why) h = carry-to_each (msg.Refused g.generation v why) (others g here) h
  carry-judge g here m v None h = carry-to_each (msg.VoteRequest g.generation _ _ v) (others g here) h

  carry-try : (g : Group V) (here : ℕ) (m : Member V) (us : List V) → list_all may us ≡ true → Carry (try_first g here m us)
  carry-try g here m [] h = refl
  carry-try g here m (v ∷ vs) h = carry-judge g here m v (g.rules.check (values m.history) v) (first v vs h)

  carry-ask : (g : Group V) (here : ℕ) (m : Member V) (o : ℕ × List ℕ) (us : List V) → list_all may us ≡ true → Carry (ask_again g here m o us)
  carry-ask g here m o [] h = refl
  carry-ask g here m o (v ∷ vs) h = carry-to_each (msg.VoteRequest g.generation _ _ v) o.1 (first v vs h)

  carry-tick : (g : Group V) (here : ℕ) (m : Member V) (o : Option (ℕ × List ℕ)) → list_all may m.pending ≡ true → Carry (coordinator_tick g here m o)
  carry-tick g here m (Some o) h = carry-ask g here m o m.pending h
  carry-tick g here m None h = if_holds Carry (is_spent m) _ _ (λ q. refl) (λ q. carry-try g here m m.pending h)

  carry-expire : (g : Group V) (here : ℕ) (o : Option (ℕ × List ℕ)) → Carry (expire_open g here o)
  carry-expire g here None = refl
  carry-expire g here (Some o) = carry-to_each (msg.Decision g.generation o.0 false) (others g here) refl

  carry-forward : (g : Group V) (us : List V) → list_all may us ≡ true → Carry (forward_first g us)
  carry-forward g [] h = refl
  carry-forward g (v ∷ vs) h = rw (first v vs h)

  carry-member_tick : (g : Group V) (m : Member V) (p : Option (ℕ × V)) → list_all may m.pending ≡ true → Carry (member_tick g m p)
  carry-member_tick g m (Some p) h = refl
  carry-member_tick g m None h = carry-forward g m.pending h

  pub carry-row : (g : Group V) (here : ℕ) (m : Member V) (e : GroupEvent V) → list_all may m.pending ≡ true → Brings e → AllCarry (row g here m e).sends
  carry-row g here m event.Tick h k = if_holds Carry (here == g.coordinator) _ _ (λ q. carry-tick g here m m.opened h) (λ q. carry-member_tick g m m.promise h)
  carry-row g here m event.Expire h k = if_holds Carry (here == g.coordinator) _ _ (λ q. carry-expire g here m.opened) (λ q. refl)
  carry-row g here m (event.Submit v) h k = if_holds Carry (here == g.coordinator) _ _ (λ q. refl) (λ q. rw k)
  carry-row g here m (event.From sender x) h k = carry-message g here m sender x h k

-- What a member of any group queues is what the event brought.
use Rattle.std.{specs.{Prelude.{Option, Some, None, ◌==◌, nat_lt}, List.list_all}, proofs.Common.{◌≡◌, ℕ, ◌⊎◌, Bool, true, false, ◌&&◌, List, [], ◌∷◌, ◌++◌}}
use Rattle.std.proofs.Common.{length, refl, inl, inr}
use Rattle.spl_agree.specs.Member.{Rules, Group, Member, values, has_round, found, found_refused, others, has, but, none_left, is_spent, decision, without}
use Rattle.spl_agree.specs.{Member.changed, Rows.{row, requested, fits_here, on_vote, counted_vote, commit_open, abort_open, decided, told, strayed}}
use Rattle.spl_agree.specs.Rows.{admitted, forwarded, forwarded_pending, forwarded_refused, taken_back, on_message, coordinator_tick, ask_again, try_first}
use Rattle.spl_agree.specs.{Rows.{judge_first, member_tick, forward_first, expire_open}, declared.event.{GroupChange.GroupChange, GroupEvent.GroupEvent}}
use Rattle.spl_agree.{specs.declared.{message.CommitMsg.CommitMsg, plan.GroupPlan.GroupPlan, reason.{Admit.Admit, Reason.Reason}}, proofs.Tests.if_holds}
use Rattle.spl_agree.proofs.Tests.{bool_cases, and_left, and_right}
use Rattle.spl_agree.specs.declared.reason.Admit.TheVariants as admit
use Rattle.spl_agree.specs.declared.message.CommitMsg.TheVariants as msg
use Rattle.spl_agree.specs.declared.event.GroupEvent.TheVariants as event
use Rattle.spl_agree.specs.declared.event.GroupChange.TheVariants as change
use Rattle.spl_cell_rules.proofs.Carried.{Brings}

module _ {V : Type 0} (may : V → Bool) where
  -- what a change queues meets the test
  abbrev pub joins : GroupChange V → Bool
  joins (change.Queue v) = may v
  joins _ = true

  abbrev pub AllJoin : List (GroupChange V) → Type 0
  AllJoin xs = list_all joins xs ≡ true

  abbrev Join : GroupPlan V → Type 0
  Join p = AllJoin p.changes

  join-requested : (g : Group V) (m : Member V) (p : Option (ℕ × V)) (sender r place : ℕ) (v : V) → Join (requested g m p sender r place v)
  join-requested g m (Some p) sender r place v = if_holds Join (p.0 == r) _ _ (λ q. refl) (λ q. refl)
  join-requested g m None sender r place v =
      if_holds Join (nat_lt r m.seen) _ _ (λ q. refl) (λ q.
      if_holds Join (r == m.seen && has_round r m.history) _ _ (λ q. refl) (λ q.
      if_holds Join (r == m.seen) _ _ (λ q. refl) (λ q.
      if_holds Join (fits_here g.rules m.history place v) _ _ (λ q. refl) (λ q. refl))))

  join-commit : (g : Group V) (here r : ℕ) (us : List V) → Join (commit_open g here r us)
  join-commit g here r [] = refl
  join-commit g here r (v ∷ vs) = refl

  join-abort : (g : Group V) (here r : ℕ) (us : List V) → Join (abort_open g here r us)
  join-abort g here r [] = refl
  join-abort g here r (v ∷ vs) = refl

  join-vote : (g : Group V) (here : ℕ) (m : Member V) (o : Option (ℕ × List ℕ)) (sender r : ℕ) (aye : Bool) → Join (on_vote g here m o sender r aye)
  join-vote g here m None sender r aye = refl
  join-vote g here m (Some o) sender r aye = if_holds Join (here == g.coordinator && o.0 == r) _ _ (λ q. counted aye) (λ q. refl)
    where
      counted : (b : Bool) → Join (counted_vote g here m sender r o.1 b)
      counted true =
          if_holds Join (has sender (others g here) && has sender o.1) _ _
          (λ k. if_holds Join (none_left (but sender o.1)) _ _ (λ q. join-commit g here r m.pending) (λ q. refl)) (λ k. refl)
      counted false = if_holds Join (has sender (others g here)) _ _ (λ k. join-abort g here r m.pending) (λ k. refl)

  join-decided : (p : Option (ℕ × V)) (r : ℕ) (commit : Bool) → Join (decided p r commit)
  join-decided None r commit = refl
  join-decided (Some p) r true = if_holds Join (p.0 == r) _ _ (λ q. refl) (λ q. refl)
  join-decided (Some p) r false = if_holds Join (p.0 == r) _ _ (λ q. refl) (λ q. refl)

  join-told : (gen : ℕ) (o : Option Bool) (sender r : ℕ) → Join (told gen o sender r)
  join-told gen None sender r = refl
  join-told gen (Some c) sender r = refl

  join-refused : (g : Group V) (m : Member V) (sender : ℕ) (v : V) (u : Option (V × Reason)) → may v ≡ true → Join (forwarded_refused g m sender v u)
  join-refused g m sender v None h = if_holds Join (length m.pending == 64) _ _ (λ q. refl) (λ q. rw h)
  join-refused g m sender v (Some u) h = if_holds Join (g.rules.same u.0 v) _ _ (λ q. refl) (λ q. refl)

  join-pending : (g : Group V) (m : Member V) (sender : ℕ) (v : V) (u : Option V) → may v ≡ true → Join (forwarded_pending g m sender v u)
  join-pending g m sender v None h = join-refused g m sender v (found_refused (g.rules.same_key v) m.refused) h
  join-pending g m sender v (Some u) h = if_holds Join (g.rules.same u v) _ _ (λ q. refl) (λ q. refl)

  join-forwarded : (g : Group V) (m : Member V) (sender : ℕ) (v : V) (u : Option V) → may v ≡ true → Join (forwarded g m sender v u)
  join-forwarded g m sender v None h = join-pending g m sender v (found (g.rules.same_key v) m.pending) h
  join-forwarded g m sender v (Some u) h = if_holds Join (g.rules.same u v) _ _ (λ q. refl) (λ q. refl)

  join-admitted : (g : Group V) (m : Member V) (sender : ℕ) (v : V) (a : Admit) → may v ≡ true → Join (admitted g m sender v a)
  join-admitted g m sender v admit.Take h = join-forwarded g m sender v (found (g.rules.same_key v) (values m.history)) h
  join-admitted g m sender v _ h = refl

  join-strayed : (gen sender : ℕ) (v : V) (o : Option Reason) → Join (strayed gen sender v o)
  join-strayed gen sender v None = refl
  join-strayed gen sender v (Some why) = refl

  join-taken_back : (g : Group V) (u : Option V) (v : V) (why : Reason) → Join (taken_back g.rules u v why)
  join-taken_back g None v why = refl
  join-taken_back g (Some u) v why = if_holds Join (g.rules.same u v) _ _ (λ q. refl) (λ q. refl)

  join-message : (g : Group V) (here : ℕ) (m : Member V) (sender : ℕ) (x : CommitMsg V) → Brings may (event.From sender x) → Join (on_message g here m sender x)
  join-message g here m sender (msg.VoteRequest gen r place v) k =
      if_holds Join (sender == g.coordinator) _ _ (λ q. join-requested g m m.promise sender r place v) (λ q. refl)
  join-message g here m sender (msg.Vote gen r aye) k = join-vote g here m m.opened sender r aye
  join-message g here m sender (msg.Decision gen r commit) k = if_holds Join (sender == g.coordinator) _ _ (λ q. join-decided m.promise r commit) (λ q. refl)
  join-message g here m sender (msg.DecisionRequest gen r) k =
      if_holds Join (here == g.coordinator && has sender (others g here)) _ _ (λ q. join-told g.generation (decision m r) sender r) (λ q. refl)
  join-message g here m sender (msg.Forward gen v) k = if_holds Join (here == g.coordinator) _ _
      (λ q. if_holds Join (has sender (others g here)) _ _ (λ z. join-admitted g m sender v (g.rules.admits sender v) k) (λ z. refl))
      (λ q. join-strayed g.generation sender v (g.rules.stray v))
  join-message g here m sender (msg.Refused gen v why) k =
      if_holds Join (sender == g.coordinator) _ _ (λ q. join-taken_back g (found (g.rules.same_key v) m.pending) v why) (λ q. refl)

  join-judge : (g : Group V) (here : ℕ) (m : Member V) (v : V) (o : Option Reason) → Join (judge_first g here m v o)
  join-judge g here m v (Some why) = refl
  join-judge g here m v None = refl

  join-try : (g : Group V) (here : ℕ) (m : Member V) (us : List V) → Join (try_first g here m us)
  join-try g here m [] = refl
  join-try g here m (v ∷ vs) = join-judge g here m v (g.rules.check (values m.history) v)

  join-ask : (g : Group V) (here : ℕ) (m : Member V) (o : ℕ × List ℕ) (us : List V) → Join (ask_again g here m o us)
  join-ask g here m o [] = refl
  join-ask g here m o (v ∷ vs) = refl

  join-tick : (g : Group V) (here : ℕ) (m : Member V) (o : Option (ℕ × List ℕ)) → Join (coordinator_tick g here m o)
  join-tick g here m (Some o) = join-ask g here m o m.pending
  join-tick g here m None = if_holds Join (is_spent m) _ _ (λ q. refl) (λ q. join-try g here m m.pending)

  join-expire : (g : Group V) (here : ℕ) (o : Option (ℕ × List ℕ)) → Join (expire_open g here o)
  join-expire g here None = refl
  join-expire g here (Some o) = refl

  join-forward : (g : Group V) (us : List V) → Join (forward_first g us)
  join-forward g [] = refl
  join-forward g (v ∷ vs) = refl

  join-member_tick : (g : Group V) (m : Member V) (p : Option (ℕ × V)) → Join (member_tick g m p)
  join-member_tick g m (Some p) = refl
  join-member_tick g m None = join-forward g m.pending

  -- any row
  pub join-row : (g : Group V) (here : ℕ) (m : Member V) (e : GroupEvent V) → Brings may e → AllJoin (row g here m e).changes
  join-row g here m event.Tick k = if_holds Join (here == g.coordinator) _ _ (λ q. join-tick g here m m.opened) (λ q. join-member_tick g m m.promise)
  join-row g here m event.Expire k = if_holds Join (here == g.coordinator) _ _ (λ q. join-expire g here m.opened) (λ q. refl)
  join-row g here m (event.Submit v) k = if_holds Join (here == g.coordinator) _ _ (λ q. rw k) (λ q. rw k)
  join-row g here m (event.From sender x) k = join-message g here m sender x k

  -- ---- what is pending after changes

  pub all-append : (xs ys : List V) → list_all may xs ≡ true → list_all may ys ≡ true → list_all may (xs ++ ys) ≡ true
  all-append [] ys h k = k
  all-append (x ∷ xs) ys h k = rw (and_left (may x) (list_all may xs) h) (all-append xs ys (and_right (may x) (list_all may xs) h) k)

  all-without : (p : V → Bool) (us : List V) → list_all may us ≡ true → list_all may (without p us) ≡ true
  all-without p [] h = refl
  all-without p (u ∷ us) h = go (bool_cases (p u)) (all-without p us (and_right (may u) (list_all may us) h))
    where
      go : (p u ≡ true) ⊎ (p u ≡ false) → list_all may (without p us) ≡ true → list_all may (without p (u ∷ us)) ≡ true
      go (inl q) hyp = rw q (and_right (may u) (list_all may us) h)
      go (inr q) hyp = rw (q, and_left (may u) (list_all may us) h) hyp

  pub pending-changed : (rules : Rules V) (m : Member V) (x : GroupChange V) → joins x ≡ true → list_all may m.pending ≡ true
      → list_all may (changed rules m x).pending ≡ true
  pending-changed rules m (change.Queue v) k h = all-append m.pending (v ∷ []) h (rw k)
  pending-changed rules m (change.Refuse v why) k h = all-without (rules.same_key v) m.pending h
  pending-changed rules m (change.Commit r v) k h = all-without (rules.same_key v) m.pending h
  pending-changed rules m _ k h = h

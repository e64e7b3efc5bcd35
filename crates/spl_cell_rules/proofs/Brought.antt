-- The values in the changes of a member of any group are pending there, or promised, or what the event brought.
use Rattle.std.{specs.{Prelude.{Option, Some, None, ◌==◌, nat_lt}, List.list_all}, proofs.Common.{◌≡◌, ℕ, Bool, true, false, ◌&&◌, List, [], ◌∷◌, ◌++◌}}
use Rattle.std.proofs.Common.{length, refl}
use Rattle.spl_agree.specs.{Member.{Group, Member, values, has_round, found, found_refused, others, has, but, none_left, is_spent, decision}, Pack.kept_each}
use Rattle.spl_agree.specs.{Pack.{committed_each, queued_each, promised_one, packed_member}, Rows.{row, requested, fits_here, on_vote, counted_vote}}
use Rattle.spl_agree.specs.Rows.{commit_open, abort_open, decided, told, strayed, admitted, forwarded, forwarded_pending, forwarded_refused, taken_back}
use Rattle.spl_agree.specs.Rows.{on_message, coordinator_tick, ask_again, try_first, judge_first, member_tick, forward_first, expire_open}
use Rattle.spl_agree.specs.declared.{event.{GroupChange.GroupChange, GroupEvent.GroupEvent}, message.CommitMsg.CommitMsg, plan.GroupPlan.GroupPlan}
use Rattle.spl_agree.{specs.declared.reason.{Admit.Admit, Reason.Reason}, proofs.Tests.{if_holds, and_left, and_right}}
use Rattle.spl_agree.specs.declared.reason.Admit.TheVariants as admit
use Rattle.spl_agree.specs.declared.message.CommitMsg.TheVariants as msg
use Rattle.spl_agree.specs.declared.event.GroupEvent.TheVariants as event
use Rattle.spl_wire.specs.Grouping.{value_in, meets}
use Rattle.spl_cell_rules.{specs.Valid.{AllMeet, carries}, proofs.Carried.Brings}

module _ {V : Type 0} (may : V → Bool) where
  abbrev pub change_meets : GroupChange V → Bool
  change_meets x = meets may (value_in x)

  abbrev pub ChangesMeet : List (GroupChange V) → Type 0
  ChangesMeet xs = list_all change_meets xs ≡ true

  abbrev Meet : GroupPlan V → Type 0
  Meet p = ChangesMeet p.changes

  first : (v : V) (vs : List V) → list_all may (v ∷ vs) ≡ true → may v ≡ true
  first v vs h = and_left (may v) (list_all may vs) h

  meet-requested : (g : Group V) (m : Member V) (p : Option (ℕ × V)) (sender r place : ℕ) (v : V) → may v ≡ true → Meet (requested g m p sender r place v)
  meet-requested g m (Some p) sender r place v h = if_holds Meet (p.0 == r) _ _ (λ q. refl) (λ q. refl)
  meet-requested g m None sender r place v h =
      if_holds Meet (nat_lt r m.seen) _ _ (λ q. refl) (λ q.
      if_holds Meet (r == m.seen && has_round r m.history) _ _ (λ q. refl) (λ q.
      if_holds Meet (r == m.seen) _ _ (λ q. refl) (λ q.
      if_holds Meet (fits_here g.rules m.history place v) _ _ (λ q. rw h) (λ q. refl))))

  meet-commit : (g : Group V) (here r : ℕ) (us : List V) → list_all may us ≡ true → Meet (commit_open g here r us)
  meet-commit g here r [] h = refl
  meet-commit g here r (v ∷ vs) h = rw (first v vs h)

  meet-abort : (g : Group V) (here r : ℕ) (us : List V) → list_all may us ≡ true → Meet (abort_open g here r us)
  meet-abort g here r [] h = refl
  meet-abort g here r (v ∷ vs) h = rw (first v vs h)

  meet-vote : (g : Group V) (here : ℕ) (m : Member V) (o : Option (ℕ × List ℕ)) (sender r : ℕ) (aye : Bool) → list_all may m.pending ≡ true
      → Meet (on_vote g here m o sender r aye)
  meet-vote g here m None sender r aye h = refl
  meet-vote g here m (Some o) sender r aye h = if_holds Meet (here == g.coordinator && o.0 == r) _ _ (λ q. counted aye) (λ q. refl)
    where
      counted : (b : Bool) → Meet (counted_vote g here m sender r o.1 b)
      counted true =
          if_holds Meet (has sender (others g here) && has sender o.1) _ _
          (λ k. if_holds Meet (none_left (but sender o.1)) _ _ (λ q. meet-commit g here r m.pending h) (λ q. refl)) (λ k. refl)
      counted false = if_holds Meet (has sender (others g here)) _ _ (λ k. meet-abort g here r m.pending h) (λ k. refl)

  meet-decided : (p : Option (ℕ × V)) (r : ℕ) (commit : Bool) → ((e : ℕ × V) → p ≡ Some e → may e.1 ≡ true) → Meet (decided p r commit)
  meet-decided None r commit h = refl
  meet-decided (Some p) r true h = if_holds Meet (p.0 == r) _ _ (λ q. rw (h p refl)) (λ q. refl)
  meet-decided (Some p) r false h = if_holds Meet (p.0 == r) _ _ (λ q. refl) (λ q. refl)

  meet-told : (gen : ℕ) (o : Option Bool) (sender r : ℕ) → Meet (told gen o sender r)
  meet-told gen None sender r = refl
  meet-told gen (Some c) sender r = refl

  meet-refused : (g : Group V) (m : Member V) (sender : ℕ) (v : V) (u : Option (V × Reason)) → may v ≡ true → Meet (forwarded_refused g m sender v u)
  meet-refused g m sender v None h = if_holds Meet (length m.pending == 64) _ _ (λ q. refl) (λ q. rw h)
  meet-refused g m sender v (Some u) h = if_holds Meet (g.rules.same u.0 v) _ _ (λ q. refl) (λ q. refl)

  meet-pending : (g : Group V) (m : Member V) (sender : ℕ) (v : V) (u : Option V) → may v ≡ true → Meet (forwarded_pending g m sender v u)
  meet-pending g m sender v None h = meet-refused g m sender v (found_refused (g.rules.same_key v) m.refused) h
  meet-pending g m sender v (Some u) h = if_holds Meet (g.rules.same u v) _ _ (λ q. refl) (λ q. refl)

  meet-forwarded : (g : Group V) (m : Member V) (sender : ℕ) (v : V) (u : Option V) → may v ≡ true → Meet (forwarded g m sender v u)
  meet-forwarded g m sender v None h = meet-pending g m sender v (found (g.rules.same_key v) m.pending) h
  meet-forwarded g m sender v (Some u) h = if_holds Meet (g.rules.same u v) _ _ (λ q. refl) (λ q. refl)

  meet-admitted : (g : Group V) (m : Member V) (sender : ℕ) (v : V) (a : Admit) → may v ≡ true → Meet (admitted g m sender v a)
  meet-admitted g m sender v admit.Take h = meet-forwarded g m sender v (found (g.rules.same_key v) (values m.history)) h
  meet-admitted g m sender v admit.Ignore h = refl
  meet-admitted g m sender v (admit.Return why) h = refl

  meet-strayed : (gen sender : ℕ) (v : V) (o : Option Reason) → Meet (strayed gen sender v o)
  meet-strayed gen sender v None = refl
  meet-strayed gen sender v (Some why) = refl

  meet-taken_back : (g : Group V) (u : Option V) (v : V) (why : Reason) → may v ≡ true → Meet (taken_back g.rules u v why)
  meet-taken_back g None v why h = refl
  meet-taken_back g (Some u) v why h = if_holds Meet (g.rules.same u v) _ _ (λ q. rw h) (λ q. refl)

  meet-message : (g : Group V) (here : ℕ) (m : Member V) (sender : ℕ) (x : CommitMsg V) → AllMeet may m → carries may x ≡ true
      → Meet (on_message g here m sender x)
  meet-message g here m sender (msg.VoteRequest gen r place v) h k =
      if_holds Meet (sender == g.coordinator) _ _ (λ q. meet-requested g m m.promise sender r place v k) (λ q. refl)
  meet-message g here m sender (msg.Vote gen r aye) h k = meet-vote g here m m.opened sender r aye h.pending
  meet-message g here m sender (msg.Decision gen r commit) h k =
      if_holds Meet (sender == g.coordinator) _ _ (λ q. meet-decided m.promise r commit h.promise) (λ q. refl)
  meet-message g here m sender (msg.DecisionRequest gen r) h k =
      if_holds Meet (here == g.coordinator && has sender (others g here)) _ _ (λ q. meet-told g.generation (decision m r) sender r) (λ q. refl)
  meet-message g here m sender (msg.Forward gen v) h k = if_holds Meet (here == g.coordinator) _ _
      (λ q. if_holds Meet (has sender (others g here)) _ _ (λ z. meet-admitted g m sender v (g.rules.admits sender v) k) (λ z. refl))
      (λ q. meet-strayed g.generation sender v (g.rules.stray v))
  meet-message g here m sender (msg.Refused gen v why) h k =
      if_holds Meet (sender == g.coordinator) _ _ (λ q. meet-taken_back g (found (g.rules.same_key v) m.pending) v why k) (λ q. refl)

  meet-judge : (g : Group V) (here : ℕ) (m : Member V) (v : V) (o : Option Reason) → may v ≡ true → Meet (judge_first g here m v o)
  meet-judge g here m v (Some why) h = rw h
  meet-judge g here m v None h = refl

  meet-try : (g : Group V) (here : ℕ) (m : Member V) (us : List V) → list_all may us ≡ true → Meet (try_first g here m us)
  meet-try g here m [] h = refl
  meet-try g here m (v ∷ vs) h = meet-judge g here m v (g.rules.check (values m.history) v) (first v vs h)

  meet-ask : (g : Group V) (here : ℕ) (m : Member V) (o : ℕ × List ℕ) (us : List V) → Meet (ask_again g here m o us)
  meet-ask g here m o [] = refl
  meet-ask g here m o (v ∷ vs) = refl

  meet-tick : (g : Group V) (here : ℕ) (m : Member V) (o : Option (ℕ × List ℕ)) → list_all may m.pending ≡ true → Meet (coordinator_tick g here m o)
  meet-tick g here m (Some o) h = meet-ask g here m o m.pending
  meet-tick g here m None h = if_holds Meet (is_spent m) _ _ (λ q. refl) (λ q. meet-try g here m m.pending h)

  meet-expire : (g : Group V) (here : ℕ) (o : Option (ℕ × List ℕ)) → Meet (expire_open g here o)
  meet-expire g here None = refl
  meet-expire g here (Some o) = refl

  meet-forward : (g : Group V) (us : List V) → Meet (forward_first g us)
  meet-forward g [] = refl
  meet-forward g (v ∷ vs) = refl

  meet-member_tick : (g : Group V) (m : Member V) (p : Option (ℕ × V)) → Meet (member_tick g m p)
  meet-member_tick g m (Some p) = refl
  meet-member_tick g m None = meet-forward g m.pending

  pub meet-row : (g : Group V) (here : ℕ) (m : Member V) (e : GroupEvent V) → AllMeet may m → Brings may e → ChangesMeet (row g here m e).changes
  meet-row g here m event.Tick h k =
      if_holds Meet (here == g.coordinator) _ _ (λ q. meet-tick g here m m.opened h.pending) (λ q. meet-member_tick g m m.promise)
  meet-row g here m event.Expire h k = if_holds Meet (here == g.coordinator) _ _ (λ q. meet-expire g here m.opened) (λ q. refl)
  meet-row g here m (event.Submit v) h k = if_holds Meet (here == g.coordinator) _ _ (λ q. rw k) (λ q. rw k)
  meet-row g here m (event.From sender x) h k = meet-message g here m sender x h k

  -- ---- the packed form

  meet-append : (xs ys : List (GroupChange V)) → ChangesMeet xs → ChangesMeet ys → ChangesMeet (xs ++ ys)
  meet-append [] ys h k = k
  meet-append (x ∷ xs) ys h k =
      rw (and_left (change_meets x) (list_all change_meets xs) h, meet-append xs ys (and_right (change_meets x) (list_all change_meets xs) h) k)

  meet-kept : (us : List (V × Reason)) → list_all (λ u. may u.0) us ≡ true → ChangesMeet (kept_each us)
  meet-kept [] h = refl
  meet-kept (u ∷ us) h = rw (and_left (may u.0) (list_all (λ u. may u.0) us) h, meet-kept us (and_right (may u.0) (list_all (λ u. may u.0) us) h))

  meet-committed : (es : List (ℕ × V)) → list_all may (values es) ≡ true → ChangesMeet (committed_each es)
  meet-committed [] h = refl
  meet-committed (e ∷ es) h = rw (and_left (may e.1) (list_all may (values es)) h, meet-committed es (and_right (may e.1) (list_all may (values es)) h))

  meet-queued : (vs : List V) → list_all may vs ≡ true → ChangesMeet (queued_each vs)
  meet-queued [] h = refl
  meet-queued (v ∷ vs) h = rw (and_left (may v) (list_all may vs) h, meet-queued vs (and_right (may v) (list_all may vs) h))

  meet-promised : (o : Option (ℕ × V)) → ((e : ℕ × V) → o ≡ Some e → may e.1 ≡ true) → ChangesMeet (promised_one o)
  meet-promised None h = refl
  meet-promised (Some e) h = rw (h e refl)

  pub meet-packed : (m : Member V) → AllMeet may m → ChangesMeet (packed_member m)
  meet-packed m s =
      meet-append (kept_each m.refused) _ (meet-kept m.refused s.refused)
      (meet-append (committed_each m.history) _ (meet-committed m.history s.history)
      (meet-append (queued_each m.pending) (promised_one m.promise) (meet-queued m.pending s.pending) (meet-promised m.promise s.promise)))

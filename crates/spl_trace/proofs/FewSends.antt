-- How many messages an event brings about in a group of few members.
use Rattle.std.{specs.Prelude.{Option, Some, None, ◌==◌, nat_lt}, proofs.Common.{◌≡◌, ℕ, zero, suc, ◌+◌, ◌≤◌, Bool, true, false, ◌&&◌, List, [], ◌∷◌, ◌++◌}}
use Rattle.std.proofs.Common.{length, length-append, refl, ap, subst, arith}
use Rattle.spl_agree.specs.Member.{Group, Member, values, has_round, found, found_refused, others, below_but, has, but, none_left, is_spent, decision}
use Rattle.spl_agree.specs.{Member.{with_yes, moved}, Rows.{to_each, abort_each, row, requested, fits_here, on_vote, counted_vote, commit_open, abort_open}}
use Rattle.spl_agree.specs.Rows.{decided, told, strayed, admitted, forwarded, forwarded_pending, forwarded_refused, taken_back, on_message, coordinator_tick}
use Rattle.spl_agree.specs.{Rows.{ask_again, try_first, judge_first, member_tick, forward_first, expire_open, vote_no}, declared.event.GroupEvent.GroupEvent}
use Rattle.spl_agree.specs.declared.{event.OpenMove.OpenMove, message.CommitMsg.CommitMsg, plan.GroupPlan.GroupPlan, reason.{Admit.Admit, Reason.Reason}}
use Rattle.spl_agree.proofs.Tests.{if_holds}
use Rattle.spl_agree.specs.declared.reason.Admit.TheVariants as admit
use Rattle.spl_agree.specs.declared.message.CommitMsg.TheVariants as msg
use Rattle.spl_agree.specs.declared.event.GroupEvent.TheVariants as event
use Rattle.spl_agree.specs.declared.event.OpenMove.TheVariants as move

-- no more positions than a group has members
abbrev pub AreFew : List ℕ → Type 0
AreFew is = length is ≤ 8

-- those that an open round waits for
abbrev pub IsShort : {V : Type 0} → Member V → Type 0
IsShort m = (o : ℕ × List ℕ) → m.opened ≡ Some o → AreFew o.1

below-few : (n here : ℕ) → length (below_but n here) ≤ n
below-few zero here = omega arith
below-few (suc n) here =
    let last : length (below_but (suc n) here) ≤ length (below_but n here) + 1 =
    if_holds (λ (is : List ℕ). length (below_but n here ++ is) ≤ length (below_but n here) + 1) (n == here) [] (n ∷ [])
    (λ q. omega (arith, length-append (below_but n here) []))
    (λ q. omega (arith, length-append (below_but n here) (n ∷ []))) in
    omega (arith, last, below-few n here)

pub others-few : {V : Type 0} (g : Group V) (here : ℕ) → g.members ≤ 8 → AreFew (others g here)
others-few g here few = omega (arith, few, below-few g.members here)

-- ---- an open round

but-few : (i : ℕ) (js : List ℕ) → length (but i js) ≤ length js
but-few i [] = omega arith
but-few i (j ∷ js) = if_holds (λ (ks : List ℕ). length ks ≤ suc (length js)) (j == i) _ _ (λ q. omega (arith, but-few i js)) (λ q. omega (arith, but-few i js))

yes-short : (i : ℕ) (o : Option (ℕ × List ℕ)) → ((r : ℕ × List ℕ) → o ≡ Some r → AreFew r.1) → (r : ℕ × List ℕ) → with_yes i o ≡ Some r → AreFew r.1
yes-short i None h r e = absurd cc
yes-short i (Some o) h r e =
    let same : but i o.1 ≡ r.1 = cc in
    let old = h o refl in
    subst AreFew same (omega (arith, old, but-few i o.1))

pub moved-short : {V : Type 0} (g : Group V) (here : ℕ) (m : Member V) (x : OpenMove) → g.members ≤ 8 → IsShort m → IsShort (moved g here m x)
moved-short g here m move.Keep few h = h
moved-short g here m (move.Begin r) few h = λ o e. (let same : others g here ≡ o.1 = cc in subst AreFew same (others-few g here few))
moved-short g here m (move.Yes i) few h = yes-short i m.opened h
moved-short g here m move.Close few h = λ o e. absurd cc

-- ---- what is sent

none : 0 ≤ 16
none = omega arith

one : 1 ≤ 16
one = omega arith

module _ {V : Type 0} where
  abbrev pub SendsFew : GroupPlan V → Type 0
  SendsFew p = length p.sends ≤ 16

  each-length : (x : CommitMsg V) (is : List ℕ) → length (to_each x is) ≡ length is
  each-length x [] = refl
  each-length x (i ∷ is) = ap suc (each-length x is)

  few-each : (x : CommitMsg V) (is : List ℕ) → AreFew is → length (to_each x is) ≤ 16
  few-each x is h = omega (arith, h, each-length x is)

  abort-length : (gen r : ℕ) (v : V) (why : Reason) (is : List ℕ) → length (abort_each gen r v why is) ≡ length is + length is
  abort-length gen r v why [] = refl
  abort-length gen r v why (i ∷ is) = let rest = abort-length gen r v why is in omega (arith, rest)

  few-requested : (g : Group V) (m : Member V) (p : Option (ℕ × V)) (sender r place : ℕ) (v : V) → SendsFew (requested g m p sender r place v)
  few-requested g m (Some p) sender r place v = if_holds SendsFew (p.0 == r) _ _ (λ q. one) (λ q. one)
  few-requested g m None sender r place v =
      if_holds SendsFew (nat_lt r m.seen) _ _ (λ q. none) (λ q.
      if_holds SendsFew (r == m.seen && has_round r m.history) _ _ (λ q. none) (λ q.
      if_holds SendsFew (r == m.seen) _ _ (λ q. one) (λ q.
      if_holds SendsFew (fits_here g.rules m.history place v) _ _ (λ q. one) (λ q. one))))

  module _ (g : Group V) (here : ℕ) (few : g.members ≤ 8) where
    all-few : AreFew (others g here)
    all-few = others-few g here few

    few-commit : (r : ℕ) (us : List V) → SendsFew (commit_open g here r us)
    few-commit r [] = none
    few-commit r (v ∷ vs) = few-each (msg.Decision g.generation r true) (others g here) all-few

    few-abort : (r : ℕ) (us : List V) → SendsFew (abort_open g here r us)
    few-abort r [] = none
    few-abort r (v ∷ vs) = omega (arith, all-few, abort-length g.generation r v vote_no (others g here))

    few-vote : (m : Member V) (o : Option (ℕ × List ℕ)) (sender r : ℕ) (aye : Bool) → SendsFew (on_vote g here m o sender r aye)
    few-vote m None sender r aye = none
    few-vote m (Some o) sender r aye = if_holds SendsFew (here == g.coordinator && o.0 == r) _ _ (λ q. counted aye) (λ q. none)
      where
        counted : (b : Bool) → SendsFew (counted_vote g here m sender r o.1 b)
        counted true =
            if_holds SendsFew (has sender (others g here) && has sender o.1) _ _
            (λ k. if_holds SendsFew (none_left (but sender o.1)) _ _ (λ q. few-commit r m.pending) (λ q. none)) (λ k. none)
        counted false = if_holds SendsFew (has sender (others g here)) _ _ (λ k. few-abort r m.pending) (λ k. none)

    few-decided : (p : Option (ℕ × V)) (r : ℕ) (commit : Bool) → SendsFew (decided p r commit)
    few-decided None r commit = none
    few-decided (Some p) r true = if_holds SendsFew (p.0 == r) _ _ (λ q. none) (λ q. none)
    few-decided (Some p) r false = if_holds SendsFew (p.0 == r) _ _ (λ q. none) (λ q. none)

    few-told : (gen : ℕ) (o : Option Bool) (sender r : ℕ) → SendsFew (told gen o sender r)
    few-told gen None sender r = none
    few-told gen (Some c) sender r = one

    few-refused : (m : Member V) (sender : ℕ) (v : V) (u : Option (V × Reason)) → SendsFew (forwarded_refused g m sender v u)
    few-refused m sender v None = if_holds SendsFew (length m.pending == 64) _ _ (λ q. none) (λ q. none)
    few-refused m sender v (Some u) = if_holds SendsFew (g.rules.same u.0 v) _ _ (λ q. one) (λ q. one)

    few-pending : (m : Member V) (sender : ℕ) (v : V) (u : Option V) → SendsFew (forwarded_pending g m sender v u)
    few-pending m sender v None = few-refused m sender v (found_refused (g.rules.same_key v) m.refused)
    few-pending m sender v (Some u) = if_holds SendsFew (g.rules.same u v) _ _ (λ q. none) (λ q. one)

    few-forwarded : (m : Member V) (sender : ℕ) (v : V) (u : Option V) → SendsFew (forwarded g m sender v u)
    few-forwarded m sender v None = few-pending m sender v (found (g.rules.same_key v) m.pending)
    few-forwarded m sender v (Some u) = if_holds SendsFew (g.rules.same u v) _ _ (λ q. none) (λ q. one)

    few-admitted : (m : Member V) (sender : ℕ) (v : V) (a : Admit) → SendsFew (admitted g m sender v a)
    few-admitted m sender v admit.Take = few-forwarded m sender v (found (g.rules.same_key v) (values m.history))
    few-admitted m sender v admit.Ignore = none
    few-admitted m sender v (admit.Return why) = one

    few-strayed : (gen sender : ℕ) (v : V) (o : Option Reason) → SendsFew (strayed gen sender v o)
    few-strayed gen sender v None = none
    few-strayed gen sender v (Some why) = one

    few-taken_back : (u : Option V) (v : V) (why : Reason) → SendsFew (taken_back g.rules u v why)
    few-taken_back None v why = none
    few-taken_back (Some u) v why = if_holds SendsFew (g.rules.same u v) _ _ (λ q. none) (λ q. none)

    few-message : (m : Member V) (sender : ℕ) (x : CommitMsg V) → SendsFew (on_message g here m sender x)
    few-message m sender (msg.VoteRequest gen r place v) =
        if_holds SendsFew (sender == g.coordinator) _ _ (λ q. few-requested g m m.promise sender r place v) (λ q. one)
    few-message m sender (msg.Vote gen r aye) = few-vote m m.opened sender r aye
    few-message m sender (msg.Decision gen r commit) = if_holds SendsFew (sender == g.coordinator) _ _ (λ q. few-decided m.promise r commit) (λ q. none)
    few-message m sender (msg.DecisionRequest gen r) =
        if_holds SendsFew (here == g.coordinator && has sender (others g here)) _ _ (λ q. few-told g.generation (decision m r) sender r) (λ q. none)
    few-message m sender (msg.Forward gen v) = if_holds SendsFew (here == g.coordinator) _ _
        (λ q. if_holds SendsFew (has sender (others g here)) _ _ (λ z. few-admitted m sender v (g.rules.admits sender v)) (λ z. none))
        (λ q. few-strayed g.generation sender v (g.rules.stray v))
    few-message m sender (msg.Refused gen v why) =
        if_holds SendsFew (sender == g.coordinator) _ _ (λ q. few-taken_back (found (g.rules.same_key v) m.pending) v why) (λ q. none)

    few-judge : (m : Member V) (v : V) (o : Option Reason) → SendsFew (judge_first g here m v o)
    few-judge m v (Some why) = few-each (msg.Refused g.generation v why) (others g here) all-few
    few-judge m v None = few-each (msg.VoteRequest g.generation m.next (length m.history) v) (others g here) all-few

    few-try : (m : Member V) (us : List V) → SendsFew (try_first g here m us)
    few-try m [] = none
    few-try m (v ∷ vs) = few-judge m v (g.rules.check (values m.history) v)

    few-ask : (m : Member V) (o : ℕ × List ℕ) (us : List V) → AreFew o.1 → SendsFew (ask_again g here m o us)
    few-ask m o [] h = none
    few-ask m o (v ∷ vs) h = few-each (msg.VoteRequest g.generation o.0 (length m.history) v) o.1 h

    few-tick : (m : Member V) (o : Option (ℕ × List ℕ)) → ((r : ℕ × List ℕ) → o ≡ Some r → AreFew r.1) → SendsFew (coordinator_tick g here m o)
    few-tick m (Some o) h = few-ask m o m.pending (h o refl)
    few-tick m None h = if_holds SendsFew (is_spent m) _ _ (λ q. none) (λ q. few-try m m.pending)

    few-expire : (o : Option (ℕ × List ℕ)) → SendsFew (expire_open g here o)
    few-expire None = none
    few-expire (Some o) = few-each (msg.Decision g.generation o.0 false) (others g here) all-few

    few-forward : (us : List V) → SendsFew (forward_first g us)
    few-forward [] = none
    few-forward (v ∷ vs) = one

    few-member_tick : (m : Member V) (p : Option (ℕ × V)) → SendsFew (member_tick g m p)
    few-member_tick m (Some p) = one
    few-member_tick m None = few-forward m.pending

    -- any event sends at most two messages to each other member
    pub few-row : (m : Member V) (e : GroupEvent V) → IsShort m → SendsFew (row g here m e)
    few-row m event.Tick h = if_holds SendsFew (here == g.coordinator) _ _ (λ q. few-tick m m.opened h) (λ q. few-member_tick m m.promise)
    few-row m event.Expire h = if_holds SendsFew (here == g.coordinator) _ _ (λ q. few-expire m.opened) (λ q. none)
    few-row m (event.Submit v) h = if_holds SendsFew (here == g.coordinator) _ _ (λ q. none) (λ q. one)
    few-row m (event.From s x) h = few-message m s x

-- Of a group's messages only a value that is handed on is noted queued, and then that is all that changes.
use Rattle.std.{specs.Prelude.{Option, Some, None, ◌==◌, nat_lt}, proofs.Common.{◌≡◌, ℕ, Bool, true, false, ◌&&◌, List, [], ◌∷◌, length, refl}}
use Rattle.spl_agree.specs.{Member.{Group, Member, values, has_round, found, found_refused, others, has, but, none_left, decision}, Rows.changes_one}
use Rattle.spl_agree.specs.Rows.{requested, fits_here, on_vote, counted_vote, commit_open, abort_open, decided, told, strayed, admitted, forwarded}
use Rattle.spl_agree.specs.{Rows.{forwarded_pending, forwarded_refused, taken_back, on_message}, declared.message.CommitMsg.CommitMsg}
use Rattle.spl_agree.{specs.declared.{plan.GroupPlan.GroupPlan, reason.{Admit.Admit, Reason.Reason}}, proofs.Tests.if_holds}
use Rattle.spl_agree.specs.declared.reason.Admit.TheVariants as admit
use Rattle.spl_agree.specs.declared.event.Note.TheVariants as note
use Rattle.spl_agree.specs.declared.event.GroupChange.TheVariants as change
use Rattle.spl_agree.specs.declared.message.CommitMsg.TheVariants as msg

-- the value that a message hands on
abbrev pub handed : {V : Type 0} → CommitMsg V → Option V
handed (msg.Forward gen v) = Some v
handed _ = None

-- what is noted queued is this value
pub record IsNoted {V : Type 0} (o : Option V) (p : GroupPlan V) : Type 0 where
  pub value : V
  pub is : o ≡ Some value
  pub plan : p ≡ changes_one note.Queued (change.Queue value)

abbrev pub Noted : {V : Type 0} → Option V → GroupPlan V → Type 0
Noted o p = p.note ≡ note.Queued → IsNoted o p

module _ {V : Type 0} (o : Option V) where
  noted-requested : (g : Group V) (m : Member V) (p : Option (ℕ × V)) (sender r place : ℕ) (v : V) → Noted o (requested g m p sender r place v)
  noted-requested g m (Some p) sender r place v = if_holds (Noted o) (p.0 == r) _ _ (λ q n. cc) (λ q n. cc)
  noted-requested g m None sender r place v =
      if_holds (Noted o) (nat_lt r m.seen) _ _ (λ q n. cc) (λ q.
      if_holds (Noted o) (r == m.seen && has_round r m.history) _ _ (λ q n. cc) (λ q.
      if_holds (Noted o) (r == m.seen) _ _ (λ q n. cc) (λ q.
      if_holds (Noted o) (fits_here g.rules m.history place v) _ _ (λ q n. cc) (λ q n. cc))))

  noted-commit : (g : Group V) (here r : ℕ) (us : List V) → Noted o (commit_open g here r us)
  noted-commit g here r [] n = cc
  noted-commit g here r (v ∷ vs) n = cc

  noted-abort : (g : Group V) (here r : ℕ) (us : List V) → Noted o (abort_open g here r us)
  noted-abort g here r [] n = cc
  noted-abort g here r (v ∷ vs) n = cc

  noted-vote : (g : Group V) (here : ℕ) (m : Member V) (x : Option (ℕ × List ℕ)) (sender r : ℕ) (aye : Bool) → Noted o (on_vote g here m x sender r aye)
  noted-vote g here m None sender r aye = λ n. cc
  noted-vote g here m (Some x) sender r aye = if_holds (Noted o) (here == g.coordinator && x.0 == r) _ _ (λ q. counted aye) (λ q n. cc)
    where
      counted : (b : Bool) → Noted o (counted_vote g here m sender r x.1 b)
      counted true =
          if_holds (Noted o) (has sender (others g here) && has sender x.1) _ _
          (λ k. if_holds (Noted o) (none_left (but sender x.1)) _ _ (λ q. noted-commit g here r m.pending) (λ q n. cc)) (λ k n. cc)
      counted false = if_holds (Noted o) (has sender (others g here)) _ _ (λ k. noted-abort g here r m.pending) (λ k n. cc)

  noted-decided : (p : Option (ℕ × V)) (r : ℕ) (commit : Bool) → Noted o (decided p r commit)
  noted-decided None r commit = λ n. cc
  noted-decided (Some p) r true = if_holds (Noted o) (p.0 == r) _ _ (λ q n. cc) (λ q n. cc)
  noted-decided (Some p) r false = if_holds (Noted o) (p.0 == r) _ _ (λ q n. cc) (λ q n. cc)

  noted-told : (gen : ℕ) (x : Option Bool) (sender r : ℕ) → Noted o (told gen x sender r)
  noted-told gen None sender r n = cc
  noted-told gen (Some c) sender r n = cc

  noted-taken_back : (g : Group V) (u : Option V) (v : V) (why : Reason) → Noted o (taken_back g.rules u v why)
  noted-taken_back g None v why = λ n. cc
  noted-taken_back g (Some u) v why = if_holds (Noted o) (g.rules.same u v) _ _ (λ q n. cc) (λ q n. cc)

-- ---- what is handed on

noted-refused : {V : Type 0} (g : Group V) (m : Member V) (sender : ℕ) (v : V) (u : Option (V × Reason)) → Noted (Some v) (forwarded_refused g m sender v u)
noted-refused g m sender v None = if_holds (Noted (Some v)) (length m.pending == 64) _ _ (λ q n. cc) (λ q n. record { value = v; is = refl; plan = refl })
noted-refused g m sender v (Some u) = if_holds (Noted (Some v)) (g.rules.same u.0 v) _ _ (λ q n. cc) (λ q n. cc)

noted-pending : {V : Type 0} (g : Group V) (m : Member V) (sender : ℕ) (v : V) (u : Option V) → Noted (Some v) (forwarded_pending g m sender v u)
noted-pending g m sender v None = noted-refused g m sender v (found_refused (g.rules.same_key v) m.refused)
noted-pending g m sender v (Some u) = if_holds (Noted (Some v)) (g.rules.same u v) _ _ (λ q n. cc) (λ q n. cc)

noted-forwarded : {V : Type 0} (g : Group V) (m : Member V) (sender : ℕ) (v : V) (u : Option V) → Noted (Some v) (forwarded g m sender v u)
noted-forwarded g m sender v None = noted-pending g m sender v (found (g.rules.same_key v) m.pending)
noted-forwarded g m sender v (Some u) = if_holds (Noted (Some v)) (g.rules.same u v) _ _ (λ q n. cc) (λ q n. cc)

noted-admitted : {V : Type 0} (g : Group V) (m : Member V) (sender : ℕ) (v : V) (a : Admit) → Noted (Some v) (admitted g m sender v a)
noted-admitted g m sender v admit.Take = noted-forwarded g m sender v (found (g.rules.same_key v) (values m.history))
noted-admitted g m sender v _ = λ n. cc

noted-strayed : {V : Type 0} (gen sender : ℕ) (v : V) (o : Option Reason) → Noted (Some v) (strayed gen sender v o)
noted-strayed gen sender v None n = cc
noted-strayed gen sender v (Some why) n = cc

-- any message
pub noted-message : {V : Type 0} (g : Group V) (here : ℕ) (m : Member V) (sender : ℕ) (x : CommitMsg V) → Noted (handed x) (on_message g here m sender x)
noted-message g here m sender (msg.VoteRequest gen r place v) =
    if_holds (Noted None) (sender == g.coordinator) _ _ (λ q. noted-requested None g m m.promise sender r place v) (λ q n. cc)
noted-message g here m sender (msg.Vote gen r aye) = noted-vote None g here m m.opened sender r aye
noted-message g here m sender (msg.Decision gen r commit) =
    if_holds (Noted None) (sender == g.coordinator) _ _ (λ q. noted-decided None m.promise r commit) (λ q n. cc)
noted-message g here m sender (msg.DecisionRequest gen r) =
    if_holds (Noted None) (here == g.coordinator && has sender (others g here)) _ _ (λ q. noted-told None g.generation (decision m r) sender r) (λ q n. cc)
noted-message g here m sender (msg.Forward gen v) = if_holds (Noted (Some v)) (here == g.coordinator) _ _
    (λ q. if_holds (Noted (Some v)) (has sender (others g here)) _ _ (λ z. noted-admitted g m sender v (g.rules.admits sender v)) (λ z n. cc))
    (λ q. noted-strayed g.generation sender v (g.rules.stray v))
noted-message g here m sender (msg.Refused gen v why) =
    if_holds (Noted None) (sender == g.coordinator) _ _ (λ q. noted-taken_back None g (found (g.rules.same_key v) m.pending) v why) (λ q n. cc)

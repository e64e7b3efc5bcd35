-- A tick and an expire leave the history of a member of any group.
use Rattle.std.{specs.Prelude.{Option, Some, None, ◌==◌}, proofs.Common.{◌≡◌, ℕ, List, [], ◌∷◌, refl}}
use Rattle.spl_agree.specs.{Member.{Group, Member, values, changed_by, is_spent}, Rows.{row, coordinator_tick, ask_again, try_first, judge_first}}
use Rattle.spl_agree.specs.{Rows.{member_tick, forward_first, expire_open}, declared.{plan.GroupPlan.GroupPlan, reason.Reason.Reason}}
use Rattle.spl_agree.proofs.Tests.{if_holds}
use Rattle.spl_agree.specs.declared.event.GroupEvent.TheVariants as event

module _ {V : Type 0} (g : Group V) (here : ℕ) (m : Member V) where
  abbrev Still : GroupPlan V → Type 0
  Still p = (changed_by g.rules m p.changes).history ≡ m.history

  still-judge : (v : V) (o : Option Reason) → Still (judge_first g here m v o)
  still-judge v (Some why) = refl
  still-judge v None = refl

  still-try : (us : List V) → Still (try_first g here m us)
  still-try [] = refl
  still-try (v ∷ vs) = still-judge v (g.rules.check (values m.history) v)

  still-ask : (o : ℕ × List ℕ) (us : List V) → Still (ask_again g here m o us)
  still-ask o [] = refl
  still-ask o (v ∷ vs) = refl

  still-coordinator : (o : Option (ℕ × List ℕ)) → Still (coordinator_tick g here m o)
  still-coordinator (Some o) = still-ask o m.pending
  still-coordinator None = if_holds Still (is_spent m) _ _ (λ q. refl) (λ q. still-try m.pending)

  still-forward : (us : List V) → Still (forward_first g us)
  still-forward [] = refl
  still-forward (v ∷ vs) = refl

  still-member : (p : Option (ℕ × V)) → Still (member_tick g m p)
  still-member (Some p) = refl
  still-member None = still-forward m.pending

  still-open : (o : Option (ℕ × List ℕ)) → Still (expire_open g here o)
  still-open None = refl
  still-open (Some o) = refl

  pub still-tick : Still (row g here m event.Tick)
  still-tick = if_holds Still (here == g.coordinator) _ _ (λ q. still-coordinator m.opened) (λ q. still-member m.promise)

  pub still-expire : Still (row g here m event.Expire)
  still-expire = if_holds Still (here == g.coordinator) _ _ (λ q. still-open m.opened) (λ q. refl)

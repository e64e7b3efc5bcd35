-- A message from a position that is no member's changes no member, and is answered to that position alone.
use Rattle.std.{specs.Prelude.{Option, Some, None, ◌==◌}, proofs.Common.{◌≡◌, ℕ, ◌<◌, ◌≤◌, ◌⊎◌, Bool, true, false, ◌&&◌, List, [], ◌∷◌, refl, inl, inr}}
use Rattle.std.proofs.Common.{arith}
use Rattle.spl_agree.specs.{Member.{Group, Member, others, has}, Rows.{row, on_vote, counted_vote, strayed}, World.after}
use Rattle.spl_agree.{specs.declared.{message.CommitMsg.CommitMsg, plan.GroupPlan.GroupPlan, reason.Reason.Reason}, proofs.Tests.{if_holds, if_false}}
use Rattle.spl_agree.proofs.Tests.{eqb_other, bool_cases, and_right, has-below_but-other}
use Rattle.spl_agree.specs.declared.message.CommitMsg.TheVariants as msg
use Rattle.spl_agree.specs.declared.event.GroupEvent.TheVariants as event

abbrev pub AllTo : {V : Type 0} → ℕ → List (ℕ × CommitMsg V) → Type 0
AllTo a [] = Unit {0}
AllTo a (s ∷ ss) = (s.0 ≡ a) × AllTo a ss

pub record LeavesBe {V : Type 0} (g : Group V) (here : ℕ) (m : Member V) (a : ℕ) (p : GroupPlan V) : Type 0 where
  pub same : after g here m p ≡ m
  pub back : AllTo a p.sends

pub no_member : {V : Type 0} (g : Group V) (here a : ℕ) → g.members ≤ a → has a (others g here) ≡ false
no_member g here a l = go (bool_cases (has a (others g here)))
  where
    go : (has a (others g here) ≡ true) ⊎ (has a (others g here) ≡ false) → has a (others g here) ≡ false
    go (inl q) = absurd (let z : a < g.members = (has-below_but-other g.members here a q).0 in omega (arith, z, l))
    go (inr q) = q

pub be-vote : {V : Type 0} (g : Group V) (here : ℕ) (m : Member V) (a r : ℕ) (o : Option (ℕ × List ℕ)) (aye : Bool) → has a (others g here) ≡ false
    → LeavesBe g here m a (on_vote g here m o a r aye)
be-vote g here m a r None aye n = record { same = refl; back = tt }
be-vote {V} g here m a r (Some o) aye n =
    if_holds (LeavesBe g here m a) (here == g.coordinator && o.0 == r) _ _ (λ q. counted aye) (λ q. record { same = refl; back = tt })
  where
    counted : (b : Bool) → LeavesBe g here m a (counted_vote g here m a r o.1 b)
    counted true = if_false (LeavesBe g here m a) (has a (others g here) && has a o.1) _ _ (rw n) (record { same = refl; back = tt })
    counted false = if_false (LeavesBe g here m a) (has a (others g here)) _ _ n (record { same = refl; back = tt })

pub be-strayed : {V : Type 0} (g : Group V) (here : ℕ) (m : Member V) (a : ℕ) (v : V) (o : Option Reason) → LeavesBe g here m a (strayed g.generation a v o)
be-strayed g here m a v None = record { same = refl; back = tt }
be-strayed g here m a v (Some reason) = record { same = refl; back = (refl, tt) }

pub stranger-leaves : {V : Type 0} (g : Group V) (here : ℕ) (m : Member V) (a : ℕ) (x : CommitMsg V) → g.coordinator < g.members → g.members ≤ a
    → LeavesBe g here m a (row g here m (event.From a x))
stranger-leaves {V} g here m a x lc l = go x
  where
    other : (a == g.coordinator) ≡ false
    other = eqb_other a g.coordinator (λ e. let z : a ≡ g.coordinator = e in absurd (omega (arith, z, lc, l)))

    none : has a (others g here) ≡ false
    none = no_member g here a l

    go : (y : CommitMsg V) → LeavesBe g here m a (row g here m (event.From a y))
    go (msg.VoteRequest gen r place v) = if_false (LeavesBe g here m a) (a == g.coordinator) _ _ other (record { same = refl; back = (refl, tt) })
    go (msg.Vote gen r aye) = be-vote g here m a r m.opened aye none
    go (msg.DecisionRequest gen r) =
        if_holds (LeavesBe g here m a) (here == g.coordinator && has a (others g here)) _ _
        (λ q. absurd (let z : has a (others g here) ≡ true = and_right (here == g.coordinator) (has a (others g here)) q in
        let y : has a (others g here) ≡ false = none in cc)) (λ q. record { same = refl; back = tt })
    go (msg.Forward gen v) =
        if_holds (LeavesBe g here m a) (here == g.coordinator) _ _
        (λ q. if_false (LeavesBe g here m a) (has a (others g here)) _ _ none (record { same = refl; back = tt }))
        (λ q. be-strayed g here m a v (g.rules.stray v))
    go _ = if_false (LeavesBe g here m a) (a == g.coordinator) _ _ other (record { same = refl; back = tt })

use Rattle.std.{specs.Prelude.IfOk, proofs.Common.{◌≡◌, ℕ, subst}}
use Rattle.spl_acceptor.specs.{Rows.on_lead, declared.group.Group.Group}
use Rattle.spl_paxos.specs.{Leaders.leader_in, Plans.leader_plan, declared.leader_rounds.LeaderRounds.LeaderRounds}
use Rattle.spl_paxos.proofs.leader.lead.Goals as goal

pub returns-clause-done : goal.returns-clause-done
returns-clause-done g c =
    let l = c.args.leader.now in
    let r = c.args.round in
    let planned = c.plan_lead-plan.result in
    c.carry_out.ensures.done (on_lead l.group l.here (leader_in l.rounds r) r)
    (subst (λ (s : LeaderRounds). IfOk planned (λ p. leader_plan p ≡ on_lead l.group l.here (leader_in s r) r)) c.rounds.ensures
    (subst (λ (h : ℕ). IfOk planned (λ p. leader_plan p ≡ on_lead l.group h (leader_in c.rounds.result.now r) r)) c.here.ensures
    (subst (λ (run : Group). IfOk planned (λ p. leader_plan p ≡ on_lead run c.here.result (leader_in c.rounds.result.now r) r)) c.group.ensures.size
    c.plan_lead-plan.ensures)))

use Rattle.std.{specs.Prelude.IfOk, proofs.Common.{◌≡◌, subst}}
use Rattle.spl_agree.specs.declared.plan.GroupPlan.{GroupPlan}
use Rattle.spl_cell.proofs.Seats.{lane_settled, lane_due, lane_row}
use Rattle.spl_cell.proofs.settled.Settled.row.Goals as goal

pub plan-requires-clause-settled : goal.plan-requires-clause-settled
plan-requires-clause-settled g c =
    let m = c.member.ensures in
    lane_settled g.L.Lane.kind c.member.result.now _ c.held.result.now c.args.self.now c.held.ensures.value m.state m.ruled m.seated
    (g.met.L.Lane.settles c.args.self.now c.held.ensures.settled)

pub plan-requires-clause-due : goal.plan-requires-clause-due
plan-requires-clause-due g c =
    let m = c.member.ensures in
    lane_due g.L.Lane.kind c.member.result.now _ c.held.result.now c.args.self.now c.held.ensures.value m.state m.ruled m.seated c.args.event.now c.requires.due

pub returns : goal.returns
returns g c =
    let m = c.member.ensures in
    let is = lane_row g.L.Lane.kind c.member.result.now _ c.held.result.now c.args.self.now c.held.ensures.value m.state m.ruled m.seated c.args.event.now in
    subst (λ (p : GroupPlan _). IfOk c.plan.result (λ q. q ≡ p)) is c.plan.ensures

use Rattle.std.{specs.Prelude.IfOk, proofs.Common.{◌≡◌, subst}}
use Rattle.spl_agree.specs.declared.plan.GroupPlan.{GroupPlan}
use Rattle.spl_agree.specs.declared.event.GroupEvent.TheVariants as group
use Rattle.spl_cell.proofs.Seats.{lane_settled, lane_due, lane_row}
use Rattle.spl_cell.proofs.settled.Settled.heard.Goals as goal

pub hear-requires-clause-settled : goal.hear-requires-clause-settled
hear-requires-clause-settled g c =
    let m = c.member.ensures in
    lane_settled g.L.Lane.kind c.member.result.now _ c.held.result.now c.args.self.now c.held.ensures.value m.state m.ruled m.seated
    (g.met.L.Lane.settles c.args.self.now c.held.ensures.settled)

pub hear-requires-clause-due : goal.hear-requires-clause-due
hear-requires-clause-due g c =
    let m = c.member.ensures in
    lane_due g.L.Lane.kind c.member.result.now _ c.held.result.now c.args.self.now c.held.ensures.value m.state m.ruled m.seated
    (group.From c.args.sender c.args.body.now) c.requires.due

pub returns : goal.returns
returns g c =
    let m = c.member.ensures in
    let is = lane_row g.L.Lane.kind c.member.result.now _ c.held.result.now c.args.self.now c.held.ensures.value m.state m.ruled m.seated
    (group.From c.args.sender c.args.body.now) in
    subst (λ (p : GroupPlan _). IfOk c.hear.result (λ q. q ≡ p)) is c.hear.ensures

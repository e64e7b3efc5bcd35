use Rattle.std.{specs.Prelude.IfOk, proofs.Common.{◌≡◌, sym, ap, subst, ◌∙◌}}
use Rattle.spl_agree.specs.{Fits.IsDue, Member.new_member, Rows.row, declared.plan.GroupPlan.GroupPlan}
use Rattle.spl_circuit.specs.{Nodes.position, Acts.act_rules, declared.{act.Act.Act, definition.Definition.Definition}}
use Rattle.spl_admin.specs.Kept.{LedgerView}
use Rattle.spl_cell_rules.specs.Cells.{admin_group}
use Rattle.spl_cell.proofs.Seats.{settled_new, seat_settled, seat_due, seat_row}
use Rattle.spl_cell.proofs.site.Site.first_row.Goals as goal

pub plan-requires-clause-settled : goal.plan-requires-clause-settled
plan-requires-clause-settled c =
    let m = c.first_acts-acts.result in
    let s = c.first_acts-acts.ensures in
    seat_settled _ _ m (act_rules m.content.definition) new_member (ap (λ (l : LedgerView). act_rules l.definition) s.content) s.fresh s.seated
    (settled_new _ _)

pub plan-requires-clause-due : goal.plan-requires-clause-due
plan-requires-clause-due c =
    let m = c.first_acts-acts.result in
    let s = c.first_acts-acts.ensures in
    seat_due _ _ m (act_rules m.content.definition) new_member (ap (λ (l : LedgerView). act_rules l.definition) s.content) s.fresh s.seated c.args.event.now
    (subst (λ (d : Definition). IsDue (admin_group d) (position d.members c.args.self.now.here) new_member c.args.event.now)
    (sym c.in_ok-copy.ensures) c.requires.due)

pub returns : goal.returns
returns c =
    let m = c.first_acts-acts.result in
    let s = c.first_acts-acts.ensures in
    let is = seat_row _ _ m (act_rules m.content.definition) new_member
    (ap (λ (l : LedgerView). act_rules l.definition) s.content) s.fresh s.seated c.args.event.now
    ∙ ap (λ (d : Definition). row (admin_group d) (position d.members c.args.self.now.here) new_member c.args.event.now) c.in_ok-copy.ensures in
    subst (λ (p : GroupPlan Act). IfOk c.plan.result (λ q. q ≡ p)) is c.plan.ensures

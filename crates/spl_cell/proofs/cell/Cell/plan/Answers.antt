use Rattle.std.proofs.Common.{◌≡◌, true, Result, Ok, Err, IfOk, sym, subst}
use Rattle.spl_wire.specs.{Bounds.{IsWritable, AllSendable}, declared.plan.Plan.Plan}
use Rattle.spl_cell_rules.specs.{Plans.plan_of, Valid.{are_formed, are_legal}}
use Rattle.spl_cell.{specs.{Fits.all_fit, Sites.site_of, States.cell_of}, proofs.Fitting.plan-fits}
use Rattle.spl_cell.proofs.cell.Cell.plan.Goals as goal

-- what holds of the plan of the rules holds of the plan that is given
of_plan : {E : Type 0} (P : Plan → Type 0) (r : Result Plan E) (q : Plan) → IfOk r (λ p. p ≡ q) → P q → IfOk r P
of_plan P (Ok p) q e h = subst P (sym e) h
of_plan P (Err x) q e h = e

pub returns-clause-valid : goal.returns-clause-valid
returns-clause-valid c = rw (← c.self.view_is) c.self.invariant.1

pub returns-clause-each : goal.returns-clause-each
returns-clause-each c =
    let s = c.self.inside in
    let own = rw (← c.self.view_is) at c.requires.own in
    rw (← c.self.view_is) (of_plan (λ (p : Plan). all_fit (site_of s.site) (cell_of s.state) p.changes ≡ true) c.plan.result
    (plan_of (site_of s.site) (cell_of s.state) c.args.event.now) c.plan.ensures
    (plan-fits (site_of s.site) (cell_of s.state) c.args.event.now c.is_named.ensures own c.self.invariant.1))

pub returns-clause-writable : goal.returns-clause-writable
returns-clause-writable c =
    let s = c.self.inside in
    let own = rw (← c.self.view_is) at c.requires.own in
    rw (← c.self.view_is) (of_plan (λ (p : Plan). IsWritable s.site.circuit p.changes) c.plan.result
    (plan_of (site_of s.site) (cell_of s.state) c.args.event.now) c.plan.ensures
    (c.plans_have_bounds.ensures.writable (site_of s.site) (cell_of s.state) c.args.event.now c.is_named.ensures own c.self.invariant.1))

pub returns-clause-formed : goal.returns-clause-formed
returns-clause-formed c =
    let s = c.self.inside in
    let own = rw (← c.self.view_is) at c.requires.own in
    of_plan (λ (p : Plan). are_formed p.changes ≡ true) c.plan.result (plan_of (site_of s.site) (cell_of s.state) c.args.event.now) c.plan.ensures
    (c.plans_have_bounds.ensures.formed (site_of s.site) (cell_of s.state) c.args.event.now c.is_named.ensures own c.self.invariant.1)

pub returns-clause-legal : goal.returns-clause-legal
returns-clause-legal c =
    let s = c.self.inside in
    let own = rw (← c.self.view_is) at c.requires.own in
    of_plan (λ (p : Plan). are_legal p.sends ≡ true) c.plan.result (plan_of (site_of s.site) (cell_of s.state) c.args.event.now) c.plan.ensures
    (c.plans_fit_cells.ensures.legal (site_of s.site) (cell_of s.state) c.args.event.now c.is_named.ensures own c.self.invariant.1)

pub returns-clause-sends : goal.returns-clause-sends
returns-clause-sends c =
    let s = c.self.inside in
    let own = rw (← c.self.view_is) at c.requires.own in
    of_plan (λ (p : Plan). AllSendable p.sends) c.plan.result (plan_of (site_of s.site) (cell_of s.state) c.args.event.now) c.plan.ensures
    (c.plans_have_bounds.ensures.sends (site_of s.site) (cell_of s.state) c.args.event.now c.is_named.ensures own c.self.invariant.1)

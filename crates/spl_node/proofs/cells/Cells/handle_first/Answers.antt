use Rattle.std.proofs.Common.{refl, sym, ◌∙◌}
use Rattle.spl_cell_rules.specs.{Cells.{Cell, site_at}, Changes.after_plan, Plans.plan_of}
use Rattle.spl_node.proofs.Changing.{own_like, empty_is, empty_cells, joined_cells, kept_or_same, handled_fresh}
use Rattle.spl_node.proofs.cells.Cells.handle_first.Goals as goal

pub returns-then-is_empty-clause-cells : goal.returns-then-is_empty-clause-cells
returns-then-is_empty-clause-cells c =
    rw (← c.self.view_is) (empty_cells c.args.circuit c.self.inside.map.entries c.self.inside.map.entries
    (λ (k : Cell). after_plan c.self.inside.here k (plan_of (site_at c.self.inside.here c.args.circuit) k c.args.event.now))
    (rw (← c.self.view_is) at c.requires.empty) refl
    (sym (handled_fresh c.self.inside.here c.args.circuit c.fresh-cell.result c.args.event.now c.handled.new.cell c.fresh-cell.ensures.own
    c.fresh-cell.ensures.empty c.in_ok-done.ensures.state) ∙ empty_is c.handled.new.cell.state (sym c.is_empty.ensures ∙ c.if-is_empty.true)))

pub invariant_of-self-2 : goal.invariant_of-self-2
invariant_of-self-2 c =
    kept_or_same c.keep.result c.self.inside.here c.args.circuit c.self.inside.map.entries c.keep.new.map.entries c.handled.new.cell c.self.invariant
    c.keep.ensures.kept c.keep.ensures.err
    (own_like c.self.inside.here c.args.circuit c.fresh-cell.result c.handled.new.cell c.fresh-cell.ensures.own c.handled.ensures.fixed
    c.handled.ensures.sound)

pub returns-clause-cells : goal.returns-clause-cells
returns-clause-cells c =
    rw (← c.self.view_is) (joined_cells c.args.circuit c.self.inside.map.entries c.keep.new.map.entries c.handled.new.cell
    (λ (k : Cell). after_plan c.self.inside.here k (plan_of (site_at c.self.inside.here c.args.circuit) k c.args.event.now))
    (rw (← c.self.view_is) at c.requires.empty) c.in_ok-keep.ensures.kept
    (handled_fresh c.self.inside.here c.args.circuit c.fresh-cell.result c.args.event.now c.handled.new.cell c.fresh-cell.ensures.own
    c.fresh-cell.ensures.empty c.in_ok-done.ensures.state))

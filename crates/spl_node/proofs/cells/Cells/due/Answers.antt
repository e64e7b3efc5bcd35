use Rattle.std.proofs.Common.{◌∙◌, Option, ap, sym}
use Rattle.spl_cell_rules.specs.Cells.{Site, site_at}
use Rattle.spl_cell.specs.{Due.due, Views.CellView}
use Rattle.spl_node.{specs.Kept.state_or_empty, proofs.Maps.found_own}
use Rattle.spl_node.proofs.cells.Cells.due.Goals as goal

pub due-requires : goal.due-requires
due-requires c =
    record {
      running = (found_own c.self.inside.here c.args.circuit.now c.self.inside.map.entries c.in-Some.cell.now c.self.invariant
          (sym c.in-Some.ensures.value)).sound.running;
    }

pub returns-in-Some : goal.returns-in-Some
returns-in-Some c =
    let cell = c.in-Some.cell.now in
    let site = site_at c.self.inside.here c.args.circuit.now in
    let own = found_own c.self.inside.here c.args.circuit.now c.self.inside.map.entries cell c.self.invariant (sym c.in-Some.ensures.value) in
    rw (← c.self.view_is) (c.due.ensures ∙ ap (λ (s : Site). due s cell.state) own.site_is
    ∙ ap (λ (o : Option CellView). due site (state_or_empty o)) c.in-Some.ensures.value)

use Rattle.std.proofs.Common.{◌∙◌, Option, ap, sym}
use Rattle.spl_cell.specs.Views.{CellView, bound_in}
use Rattle.spl_node.{specs.Kept.state_or_empty, proofs.Maps.found_own}
use Rattle.spl_node.proofs.cells.Cells.held.Goals as goal

pub held-requires : goal.held-requires
held-requires c =
    record {
      running = (found_own c.self.inside.here c.args.circuit.now c.self.inside.map.entries c.in-Some.cell.now c.self.invariant
          (sym c.in-Some.ensures.value)).sound.running;
    }

pub returns-in-Some : goal.returns-in-Some
returns-in-Some c = rw (← c.self.view_is) (c.held.ensures ∙ ap (λ (o : Option CellView). bound_in (state_or_empty o)) c.in-Some.ensures.value)

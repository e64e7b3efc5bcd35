use Rattle.std.proofs.Common.{sym, subst}
use Rattle.spl_cell.{specs.{Sites.site_of, Views.IsSettledHeld}, proofs.States.{IsSettledState, settled_state, IsLawfulHeld, IsLawfulState, lawful_state}}
use Rattle.spl_cell.proofs.site.Site.plan.Goals as goal

pub new-settled-requires : goal.new-settled-requires
new-settled-requires c =
    record {
      settled = subst IsSettledHeld (sym c.deref.ensures)
          (subst IsSettledState c.in-Held.is (settled_state (site_of c.args.self.now) c.args.state.now c.requires.at c.requires.valid));
    }

pub proves-requires : goal.proves-requires
proves-requires c =
    record {
      lawful = subst IsLawfulHeld (sym c.deref-in-Prove.ensures)
          (subst IsLawfulState c.in-Held.is (lawful_state (site_of c.args.self.now) c.args.state.now c.requires.valid));
    }

use Rattle.std.proofs.Common.{List, subst, sym}
use Rattle.spl_node.specs.Kept.{CellsView}
use Rattle.spl_audit.{specs.{Audited.AreCellsKept, Keepers.keepers}, proofs.Peeks.all_kept}
use Rattle.spl_audit.proofs.running.run_audit.Goals as goal

pub write_audit-verdict-requires : goal.write_audit-verdict-requires
write_audit-verdict-requires g c =
    record {
      kept = subst (λ (vs : List CellsView). AreCellsKept (keepers vs)) (sym c.deref.ensures.value)
          (all_kept c.args.registry.now _ c.in-Ok.nodes.items c.in-Ok.ensures.stand);
    }

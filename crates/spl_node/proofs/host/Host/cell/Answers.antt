use Rattle.std.proofs.Common.{◌∙◌, Option, ap, sym}
use Rattle.spl_node.specs.{Stands.kept_cell, declared.node.Node.Node}
use Rattle.spl_node.proofs.host.Host.cell.Goals as goal

pub returns-in-Some : goal.returns-in-Some
returns-in-Some c = λ first second up.
    c.cell.ensures ∙ sym (ap (λ (o : Option Node). kept_cell c.args.self.now.id o first second c.args.circuit.now) c.in-Some.is)

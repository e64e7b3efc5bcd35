use Rattle.spl_cell_rules.{specs.Events.does, proofs.Does.does-is}
use Rattle.spl_look.proofs.Bindings.{packed-binds, planned-binds}
use Rattle.spl_look.proofs.laws.own_files_bind_their_node.Goals as goal

pub returns : goal.returns
returns g = record {
  events = λ site k e. planned-binds site k e (does site k e) (does-is site k e);
  packs = λ site k kept. packed-binds site k kept;
}

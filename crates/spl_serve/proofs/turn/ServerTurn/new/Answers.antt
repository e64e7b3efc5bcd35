use Rattle.std.proofs.Common.{refl}
use Rattle.spl_serve.specs.Servers.{server_cells}
use Rattle.spl_serve.proofs.turn.ServerTurn.new.Goals as goal

pub returns-clause-nothing : goal.returns-clause-nothing
returns-clause-nothing c = record { turn = c.new.ensures.nothing (server_cells c.args.server) (λ i. refl); slots = c.new-2.ensures.items; watchers = λ i. refl }

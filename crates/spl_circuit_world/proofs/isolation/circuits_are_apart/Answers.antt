-- The last line is taken after all others.
use Rattle.spl_circuit_world.specs.Apart.{moves-own, moves-beside}
use Rattle.spl_circuit_world.proofs.isolation.circuits_are_apart.Goals as goal

pub returns : goal.returns
returns c = record { own = moves-own; others = moves-beside }

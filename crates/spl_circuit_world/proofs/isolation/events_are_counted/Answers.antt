-- A line at a time.
use Rattle.spl_circuit_world.proofs.Counts.{events-more, happened-few}
use Rattle.spl_circuit_world.proofs.isolation.events_are_counted.Goals as goal

pub returns : goal.returns
returns c = record { more = events-more; happened = happened-few }

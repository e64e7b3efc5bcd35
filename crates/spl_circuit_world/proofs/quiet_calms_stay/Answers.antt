-- By idle ticks and pairs on which nothing waits.
use Rattle.spl_circuit_world.proofs.Quiet.{quiet-world, quiet-happened, quiet-stays, quiet-worlds, quiet-count}
use Rattle.spl_circuit_world.proofs.quiet_calms_stay.Goals as goal

pub returns : goal.returns
returns c = record { world = quiet-world; happened = quiet-happened; quiet = quiet-stays; worlds = quiet-worlds; events = quiet-count }

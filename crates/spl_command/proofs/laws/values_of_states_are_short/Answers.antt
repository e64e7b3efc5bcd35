use Rattle.spl_command.proofs.Shorts.{state_short}
use Rattle.spl_command.proofs.laws.values_of_states_are_short.Goals as goal

pub returns : goal.returns
returns c = state_short

use Rattle.spl_command.proofs.Changes.{state_sorted}
use Rattle.spl_command.proofs.laws.states_are_in_address_order.Goals as goal

pub returns : goal.returns
returns c = state_sorted

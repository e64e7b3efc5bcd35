use Rattle.spl_command.proofs.Changes.{batch_agrees}
use Rattle.spl_command.proofs.laws.the_changes_make_the_state.Goals as goal

pub returns : goal.returns
returns c = batch_agrees

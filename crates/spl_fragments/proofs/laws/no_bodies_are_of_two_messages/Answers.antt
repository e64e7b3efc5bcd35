use Rattle.spl_fragments.proofs.Joins.{one_message}
use Rattle.spl_fragments.proofs.laws.no_bodies_are_of_two_messages.Goals as goal

pub returns : goal.returns
returns c = one_message

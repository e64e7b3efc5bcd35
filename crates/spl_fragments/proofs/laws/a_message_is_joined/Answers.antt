use Rattle.spl_fragments.proofs.Joins.{message_joined}
use Rattle.spl_fragments.proofs.laws.a_message_is_joined.Goals as goal

pub returns : goal.returns
returns c = message_joined

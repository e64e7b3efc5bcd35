-- Each event is what it is among the doings.
use Rattle.spl_serve.proofs.Doing.{served_from}
use Rattle.spl_serve.proofs.laws.turns_are_doings.Goals as goal

pub returns : goal.returns
returns c = served_from

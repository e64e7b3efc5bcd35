use Rattle.spl_scabbard.proofs.Places.{told_at_place}
use Rattle.spl_scabbard.proofs.laws.receipts_are_those_at_the_place.Goals as goal

pub returns : goal.returns
returns c = told_at_place

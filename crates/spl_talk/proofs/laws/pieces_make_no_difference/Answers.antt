use Rattle.spl_talk.proofs.Pieces.{said_all, said_more, said_next}
use Rattle.spl_talk.proofs.laws.pieces_make_no_difference.Goals as goal

pub returns-clause-fed : goal.returns-clause-fed
returns-clause-fed c = said_more

pub returns-clause-says : goal.returns-clause-says
returns-clause-says c = said_next

pub returns-clause-all : goal.returns-clause-all
returns-clause-all c = said_all

use Rattle.spl_journal.proofs.Stops.{shut_kept}
use Rattle.spl_journal.proofs.laws.heads_are_opened_last.Goals as goal

pub returns : goal.returns
returns c = λ epoch rs i calls fill cleared lost. shut_kept epoch rs i calls fill cleared lost

-- By worlds that are alike at the nodes concerned.
use Rattle.spl_delta.proofs.LinesAnswered.{line-answered}
use Rattle.spl_delta.proofs.watchers_change_no_answer.Goals as goal

pub returns : goal.returns
returns c = line-answered

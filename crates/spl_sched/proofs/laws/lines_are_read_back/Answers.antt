use Rattle.spl_sched.proofs.LineLaws.{read_back}
use Rattle.spl_sched.proofs.laws.lines_are_read_back.Goals as goal

pub returns : goal.returns
returns c = read_back

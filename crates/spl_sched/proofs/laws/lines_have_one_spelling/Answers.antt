use Rattle.spl_sched.proofs.LineLaws.{spelled_so}
use Rattle.spl_sched.proofs.laws.lines_have_one_spelling.Goals as goal

pub returns : goal.returns
returns c = spelled_so

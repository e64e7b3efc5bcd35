use Rattle.spl_sched.proofs.LineLaws.{same_spelling}
use Rattle.spl_sched.proofs.laws.spellings_have_one_line.Goals as goal

pub returns : goal.returns
returns c = same_spelling

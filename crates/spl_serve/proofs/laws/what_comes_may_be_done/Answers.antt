use Rattle.spl_serve.proofs.Doing.{may_all}
use Rattle.spl_serve.proofs.laws.what_comes_may_be_done.Goals as goal

pub returns : goal.returns
returns c = may_all c.lines_have_one_spelling.ensures

use Rattle.spl_serve.proofs.Taken.{takes_on}
use Rattle.spl_serve.proofs.laws.watchers_take_one_list.Goals as goal

pub returns : goal.returns
returns c = takes_on

-- By what each task adds to what was taken before it.
use Rattle.spl_app.proofs.Taking.{watchers-take_one_list}
use Rattle.spl_app.proofs.taken.watchers_take_one_list.Goals as goal

pub returns : goal.returns
returns c = watchers-take_one_list

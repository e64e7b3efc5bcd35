-- By what each task adds to what was taken before it.
use Rattle.spl_app.proofs.Taking.{watchers-take_on}
use Rattle.spl_app.proofs.taken.watchers_take_on.Goals as goal

pub returns : goal.returns
returns c = watchers-take_on

-- Run by run.
use Rattle.spl_app.proofs.Folding.{one-history}
use Rattle.spl_app.proofs.history.folders_have_one_history.Goals as goal

pub returns : goal.returns
returns c = λ es is folder. one-history c.runs_leave_one_history.ensures c.circuits_agree.ensures.after folder

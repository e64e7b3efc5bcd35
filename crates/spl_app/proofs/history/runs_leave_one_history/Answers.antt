-- By how the run ended.
use Rattle.spl_app.proofs.Leaving.{run-leaves}
use Rattle.spl_app.proofs.history.runs_leave_one_history.Goals as goal

pub returns : goal.returns
returns c = run-leaves c.lines_have_one_spelling.ensures c.watch_lines_are_read_back.ensures.only

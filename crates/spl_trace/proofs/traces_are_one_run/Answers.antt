-- A calm is the lines that it makes, in each world.
use Rattle.spl_trace.proofs.OneRun.{one-run}
use Rattle.spl_trace.proofs.traces_are_one_run.Goals as goal

pub returns : goal.returns
returns c = one-run

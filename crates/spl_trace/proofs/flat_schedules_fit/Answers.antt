-- Each event sends so few messages that their numbers fit.
use Rattle.spl_trace.proofs.FlatFits.{flat-fits}
use Rattle.spl_trace.proofs.flat_schedules_fit.Goals as goal

pub returns : goal.returns
returns c = flat-fits

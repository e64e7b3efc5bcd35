use Rattle.spl_runs.proofs.CalmSteps.{ended_calm, stands_calm}
use Rattle.spl_runs.proofs.law.calms_are_their_steps.Goals as goal

pub returns-clause-stands : goal.returns-clause-stands
returns-clause-stands c = stands_calm

pub returns-clause-ended : goal.returns-clause-ended
returns-clause-ended c = ended_calm

use Rattle.spl_journal.proofs.Stops.{stopped, stopped_head}
use Rattle.spl_journal.proofs.laws.groups_are_kept_or_lost.Goals as goal

pub returns-clause-records : goal.returns-clause-records
returns-clause-records c = λ fits end extent epoch i more calls fill some stands good. stopped fits end extent epoch i more some stands good calls fill

pub returns-clause-head : goal.returns-clause-head
returns-clause-head c = λ fits end extent epoch i more calls fill some stands good. stopped_head fits end extent epoch i more some stands good calls fill

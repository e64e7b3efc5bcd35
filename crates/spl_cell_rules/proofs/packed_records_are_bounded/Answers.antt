use Rattle.spl_cell_rules.proofs.Bounded.{packed-written, packed-sized}
use Rattle.spl_cell_rules.proofs.packed_records_are_bounded.Goals as goal

pub returns-clause-written : goal.returns-clause-written
returns-clause-written c = packed-written

pub returns-clause-sized : goal.returns-clause-sized
returns-clause-sized c = packed-sized

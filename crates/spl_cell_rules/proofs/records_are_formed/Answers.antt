use Rattle.spl_cell_rules.proofs.Read.{read-record}
use Rattle.spl_cell_rules.proofs.records_are_formed.Goals as goal

pub returns : goal.returns
returns c = read-record

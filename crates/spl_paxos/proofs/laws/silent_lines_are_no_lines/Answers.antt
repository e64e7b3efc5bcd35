use Rattle.spl_paxos.proofs.LineLaws.{comment}
use Rattle.spl_paxos.proofs.laws.silent_lines_are_no_lines.Goals as goal

pub returns-clause-comment : goal.returns-clause-comment
returns-clause-comment c = comment

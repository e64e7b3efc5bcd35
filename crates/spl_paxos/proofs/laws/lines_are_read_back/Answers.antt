use Rattle.spl_paxos.proofs.LineLaws.{read_back, spelled_so}
use Rattle.spl_paxos.proofs.laws.lines_are_read_back.Goals as goal

pub returns-clause-again : goal.returns-clause-again
returns-clause-again c = read_back

pub returns-clause-only : goal.returns-clause-only
returns-clause-only c = spelled_so

-- By the laws of words in a row.
use Rattle.spl_delta.proofs.WatchLaws.{read-back, spelled-so}
use Rattle.spl_delta.proofs.watch_lines_are_read_back.Goals as goal

pub returns-clause-again : goal.returns-clause-again
returns-clause-again c = read-back

pub returns-clause-only : goal.returns-clause-only
returns-clause-only c = spelled-so

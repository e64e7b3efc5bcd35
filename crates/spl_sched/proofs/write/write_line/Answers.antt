use Rattle.std.proofs.Common.{rules}
use Rattle.spl_sched.proofs.LineLaws.{read_back_at}
use Rattle.spl_sched.proofs.write.write_line.Goals as goal

pub returns-clause-read_back : goal.returns-clause-read_back
returns-clause-read_back c = read_back_at c.into_piece.result c.args.line.now (search rules)

use Rattle.std.proofs.Common.{arith, rules}
use Rattle.spl_cli.proofs.Commands.{named_schedule}
use Rattle.spl_cli.proofs.command.read_paxos.Goals as goal

pub returns-then-faults-le2-clause-spelled : goal.returns-then-faults-le2-clause-spelled
returns-then-faults-le2-clause-spelled c =
    let found =
    named_schedule c.args.words.now c.first-item.result c.members-item.result c.faults-item.result _ _
    (omega arith) c.first-item.is c.members-item.is c.faults-item.is (search rules) (search rules) (search rules) in
    record { schedule = found.0; spelled = found.1; some = omega arith; few = omega arith; faulty = omega arith }

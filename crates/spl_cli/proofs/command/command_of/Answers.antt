use Rattle.std.proofs.Common.{Some, ap, map, string_bytes, sym}
use Rattle.spl_cli.proofs.Commands.{one_command}
use Rattle.spl_cli.proofs.command.command_of.Goals as goal

pub returns-in-Some-clause-all : goal.returns-in-Some-clause-all
returns-in-Some-clause-all c =
    λ m asks. ap Some (sym (one_command (map string_bytes c.args.words.now) m c.in-Some.command asks c.in-Some.ensures.asked c.in-Some.ensures.named))

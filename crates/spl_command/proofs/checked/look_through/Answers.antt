use Rattle.std.proofs.Common.{sym, ◌∙◌}
use Rattle.spl_command.proofs.Findings.{can_be_spelled}
use Rattle.spl_command.proofs.checked.look_through.Goals as goal

pub put_list-requires-clause-bounded : goal.put_list-requires-clause-bounded
put_list-requires-clause-bounded c = can_be_spelled c.args.transactions.now (sym c.first_fault.ensures ∙ c.in_default.is)

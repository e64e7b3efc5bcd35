use Rattle.std.{specs.Option.option_copied, proofs.Common.{◌≡◌, take, fold}}
use Rattle.spl_command.specs.Runs.{value_after}
use Rattle.spl_command.proofs.execution.value_after_all.Given as goal

abbrev pub invariant-loop-command : goal.invariant-loop-command
invariant-loop-command l = option_copied l.last ≡ fold (value_after l.address) (option_copied l.fn.value) (take l.command-index l.commands)

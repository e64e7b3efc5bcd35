use Rattle.std.proofs.Common.{◌≡◌, ◌++◌, map, take}
use Rattle.spl_words.specs.Words.{after_spaces}
use Rattle.spl_sched.specs.Transactions.{command_text}
use Rattle.spl_sched.proofs.transaction.put_commands.Given as goal

abbrev pub invariant-loop-command : goal.invariant-loop-command
invariant-loop-command l = l.w ≡ l.fn.w ++ after_spaces (map command_text (take l.command-index l.commands))

use Rattle.std.proofs.Common.{◌≡◌, ◌++◌, take}
use Rattle.spl_words.specs.Words.{after_spaces}
use Rattle.spl_sched.specs.Transactions.{words_of_transactions}
use Rattle.spl_sched.proofs.transaction.put_transactions.Given as goal

abbrev pub invariant-loop-transaction : goal.invariant-loop-transaction
invariant-loop-transaction l = l.w ≡ l.fn.w ++ after_spaces (words_of_transactions (take l.transaction-index l.transactions))

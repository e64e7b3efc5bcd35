use Rattle.std.proofs.Common.{◌≡◌, ◌++◌, map, take}
use Rattle.spl_words.specs.Words.{after_spaces}
use Rattle.spl_sched.specs.Transactions.{prefix_word}
use Rattle.spl_sched.proofs.transaction.put_prefixes.Given as goal

abbrev pub invariant-loop-i : goal.invariant-loop-i
invariant-loop-i l = l.w ≡ l.fn.w ++ after_spaces (map (λ p. l.keyword ++ prefix_word.spell p) (take l.i l.prefixes))

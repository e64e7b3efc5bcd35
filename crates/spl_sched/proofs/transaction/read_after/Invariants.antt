use Rattle.std.proofs.Common.{◌≡◌, length}
use Rattle.spl_sched.specs.Transactions.{no_parts, read_open}
use Rattle.spl_sched.proofs.transaction.read_after.Given as goal
use Rattle.spl_words.proofs.Items.{with_prefix}

abbrev pub invariant-loop-word : goal.invariant-loop-word
invariant-loop-word l = with_prefix l.done (read_open l.open l.words) ≡ read_open no_parts l.fn.words

abbrev pub decreases-loop-word : goal.decreases-loop-word
decreases-loop-word l = length l.words

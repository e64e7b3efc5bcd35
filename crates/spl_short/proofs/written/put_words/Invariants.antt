use Rattle.std.proofs.Common.{◌≡◌, ◌++◌, length}
use Rattle.spl_short.specs.Written.{written_words}
use Rattle.spl_short.proofs.written.put_words.Given as goal

abbrev pub invariant-loop-word : goal.invariant-loop-word
invariant-loop-word l = l.out.items ++ written_words l.places l.words ≡ l.fn.out.items ++ written_words l.places l.fn.words

abbrev pub decreases-loop-word : goal.decreases-loop-word
decreases-loop-word l = length l.words

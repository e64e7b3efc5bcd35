use Rattle.std.{specs.List.flat_map, proofs.Common.{◌≡◌, ◌++◌, length}}
use Rattle.spl_short.specs.Written.{shortened_text}
use Rattle.spl_explain.proofs.explaining.put_shortened_words.Given as goal

abbrev pub invariant-loop-word : goal.invariant-loop-word
invariant-loop-word l = l.out.items ++ flat_map shortened_text l.words ≡ l.fn.out.items ++ flat_map shortened_text l.fn.words

abbrev pub decreases-loop-word : goal.decreases-loop-word
decreases-loop-word l = length l.words

use Rattle.std.proofs.Common.{◌≡◌, drop}
use Rattle.spl_explain.specs.Explained.{value_words}
use Rattle.spl_explain.proofs.explaining.words_of.Given as goal

abbrev pub invariant-loop-value : goal.invariant-loop-value
invariant-loop-value l = value_words (drop l.value-index l.values) l.about l.word ≡ value_words l.values l.about l.word

use Rattle.std.proofs.Common.{◌≡◌, ◌++◌, length}
use Rattle.spl_words.specs.Words.{split}
use Rattle.spl_explain.specs.Explained.{answer_explained}
use Rattle.spl_explain.proofs.explaining.put_said.Given as goal

abbrev pub invariant-loop-part : goal.invariant-loop-part
invariant-loop-part l =
    l.out.items ++ answer_explained l.values l.parts l.words ≡ l.fn.out.items ++ answer_explained l.values (split 32 l.form) (split 32 l.answer)

abbrev pub decreases-loop-part : goal.decreases-loop-part
decreases-loop-part l = length l.parts

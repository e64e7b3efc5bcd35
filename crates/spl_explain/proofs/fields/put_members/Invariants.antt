use Rattle.std.proofs.Common.{◌≡◌, ◌++◌, length}
use Rattle.spl_words.specs.Words.{split}
use Rattle.spl_explain.specs.Objects.{form_members}
use Rattle.spl_explain.proofs.fields.put_members.Given as goal

abbrev pub invariant-loop-part : goal.invariant-loop-part
invariant-loop-part l = l.out.items ++ form_members l.parts l.words ≡ l.fn.out.items ++ form_members (split 32 l.form) (split 32 l.answer)

abbrev pub decreases-loop-part : goal.decreases-loop-part
decreases-loop-part l = length l.parts

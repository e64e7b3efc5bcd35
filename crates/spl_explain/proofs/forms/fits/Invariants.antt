use Rattle.std.proofs.Common.{◌≡◌, length}
use Rattle.spl_words.specs.Words.{split}
use Rattle.spl_explain.specs.Forms.{matches_form}
use Rattle.spl_explain.proofs.forms.fits.Given as goal

abbrev pub invariant-loop-part : goal.invariant-loop-part
invariant-loop-part l = matches_form l.parts l.words ≡ matches_form (split 32 l.form) (split 32 l.answer)

abbrev pub decreases-loop-part : goal.decreases-loop-part
decreases-loop-part l = length l.parts

use Rattle.std.proofs.Common.{◌≡◌, drop}
use Rattle.spl_explain.specs.Forms.{row_of}
use Rattle.spl_explain.proofs.forms.row_of.Given as goal

abbrev pub invariant-loop-row : goal.invariant-loop-row
invariant-loop-row l = row_of (drop l.row-index l.rows) l.answer ≡ row_of l.rows l.answer

use Rattle.std.proofs.Common.{◌≡◌, Some, length, ◌*◌, take}
use Rattle.spl_words.specs.Words.{read_hex_string}
use Rattle.spl_words.proofs.digits.read_cells.Given as goal

abbrev pub invariant-loop-i : goal.invariant-loop-i
invariant-loop-i l = (length l.cells ≡ length l.fn.cells) × (read_hex_string (take (2 * l.i) l.digits) ≡ Some (take l.i l.cells))

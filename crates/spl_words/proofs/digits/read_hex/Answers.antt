use Rattle.std.proofs.Common.{List, ℕ, Some, get_or, sym, ap, ◌∙◌, arith}
use Rattle.spl_words.proofs.HexDigits.{one_read, none_read, one_of}
use Rattle.spl_words.proofs.digits.read_hex.Goals as goal

pub returns-then-read_cells : goal.returns-then-read_cells
returns-then-read_cells c =
    sym (one_read c.args.digits.now (get_or c.read_cells.new.cells 0 0)
    (c.read_cells.ensures.read c.if-read_cells.true ∙ ap (λ (l : List ℕ). Some l) (one_of c.read_cells.new.cells (omega arith))))

pub returns-else-read_cells : goal.returns-else-read_cells
returns-else-read_cells c = sym (none_read c.args.digits.now (c.read_cells.ensures.unread c.if-read_cells.false))

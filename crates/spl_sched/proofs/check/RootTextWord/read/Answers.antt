use Rattle.spl_words.{specs.Words.read_hex_string, proofs.HexDigits.no_length}
use Rattle.spl_sched.proofs.check.RootTextWord.read.Goals as goal

pub returns-then-not-read_cells : goal.returns-then-not-read_cells
returns-then-not-read_cells c = no_length (read_hex_string c.args.bytes.now) 32 (c.read_cells.ensures.unread c.if-not-read_cells.true)

use Rattle.std.proofs.{Common.sym, lemmas.List.take_rest}
use Rattle.spl_words.proofs.Splits.{first_cut, no_cut}
use Rattle.spl_words.proofs.words.first_part.Goals as goal

pub returns-in-Some : goal.returns-in-Some
returns-in-Some c = rw take_rest (first_cut c.args.by c.args.bytes.now c.in-Some.i (sym c.in-Some.ensures))

pub returns-in-None : goal.returns-in-None
returns-in-None c = no_cut c.args.by c.args.bytes.now (sym c.in-None.ensures)

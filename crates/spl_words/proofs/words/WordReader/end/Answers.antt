use Rattle.std.proofs.Common.{◌∙◌, sym, ap}
use Rattle.spl_words.{specs.Words.read_end, proofs.Splits.not_at_end}
use Rattle.spl_words.proofs.words.WordReader.end.Goals as goal

pub returns-then-self : goal.returns-then-self
returns-then-self c = ap read_end (sym c.self.view_is) ∙ rw c.if-self.true (not_at_end c.self.inside.by c.self.inside.rest.now)

use Rattle.std.proofs.Common.{rules}
use Rattle.spl_short.proofs.written.write_out.Goals as goal

pub returns : goal.returns
returns c = (c.places_of.result.now, rw (← c.new-words.ensures, c.in-Some.ensures) (search rules))

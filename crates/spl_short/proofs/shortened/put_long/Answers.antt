use Rattle.std.proofs.lemmas.List.{take_rest}
use Rattle.spl_short.proofs.shortened.put_long.Goals as goal

pub returns-in-Some : goal.returns-in-Some
returns-in-Some c = rw (c.in-Some.ensures, ← take_rest c.args.word.now 70) c.put_name.ensures

use Rattle.std.proofs.Common.{◌∷◌, ◌∙◌, sym}
use Rattle.spl_sched.proofs.LineLaws.{by_words}
use Rattle.spl_sched.proofs.read.read_line.Goals as goal

pub returns-in-Some-clause-spelled : goal.returns-in-Some-clause-spelled
returns-in-Some-clause-spelled c =
    by_words c.args.line.now (c.in-Some.name.now ∷ c.next.new.self) c.read_named.result (sym c.in-Some.ensures ∙ c.new-words.ensures) c.read_named.ensures

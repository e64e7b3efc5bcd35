use Rattle.std.proofs.Common.{◌∷◌, ◌∙◌, sym}
use Rattle.spl_paxos.proofs.LineLaws.{by_words}
use Rattle.spl_paxos.proofs.read.read_step.Goals as goal

pub returns-in-Some-clause-spelled : goal.returns-in-Some-clause-spelled
returns-in-Some-clause-spelled c =
    by_words c.args.line.now (c.in-Some.name.now ∷ c.next.new.self) c.read_after.result (sym c.in-Some.ensures ∙ c.new-words.ensures) c.read_after.ensures

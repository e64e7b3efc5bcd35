use Rattle.std.proofs.Common.{sym, ◌∙◌}
use Rattle.spl_command.proofs.{Findings.same_rules, Runs.told_on}
use Rattle.spl_command.proofs.batch.Batch.cause.Goals as goal

pub cause-requires : goal.cause-requires
cause-requires c = same_rules c.args.self.now ∙ c.requires

pub returns-clause-everywhere : goal.returns-clause-everywhere
returns-clause-everywhere c = λ m. told_on m c.args.self.now ∙ sym c.cause.ensures

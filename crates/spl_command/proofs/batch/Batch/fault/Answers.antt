use Rattle.std.proofs.Common.{◌∙◌}
use Rattle.spl_command.proofs.Findings.{same_rules}
use Rattle.spl_command.proofs.batch.Batch.fault.Goals as goal

pub returns : goal.returns
returns c = c.fault.ensures ∙ same_rules c.args.self.now

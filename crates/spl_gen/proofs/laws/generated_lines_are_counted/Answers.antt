use Rattle.spl_gen.proofs.Counts.{generated_many}
use Rattle.spl_gen.proofs.laws.generated_lines_are_counted.Goals as goal

pub returns : goal.returns
returns c = generated_many

use Rattle.spl_gen.proofs.{Free.generated_free, Lengths.generated_short}
use Rattle.spl_gen.proofs.laws.generated_lines_are_spelled.Goals as goal

pub returns-clause-lacking : goal.returns-clause-lacking
returns-clause-lacking c = generated_free

pub returns-clause-short : goal.returns-clause-short
returns-clause-short c = generated_short

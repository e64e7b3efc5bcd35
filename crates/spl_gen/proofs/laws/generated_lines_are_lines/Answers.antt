use Rattle.spl_gen.{specs.Generated.generated, proofs.Bounds.{generated_fit, generated_known, all_read}}
use Rattle.spl_gen.proofs.laws.generated_lines_are_lines.Goals as goal

pub returns-clause-bounds : goal.returns-clause-bounds
returns-clause-bounds c = generated_fit

pub returns-clause-read_back : goal.returns-clause-read_back
returns-clause-read_back c = λ n seed lt. all_read c.lines_are_read_back.ensures (generated n seed) (generated_fit n seed lt)

pub returns-clause-nodes : goal.returns-clause-nodes
returns-clause-nodes c = generated_known

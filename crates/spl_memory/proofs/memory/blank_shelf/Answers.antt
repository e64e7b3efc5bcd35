use Rattle.spl_node.proofs.Journals.{settled_pair}
use Rattle.spl_memory.proofs.memory.blank_shelf.Goals as goal

pub returns-clause-settled : goal.returns-clause-settled
returns-clause-settled c = λ i below. settled_pair _ (c.in_ok-bench.ensures.blank i below)

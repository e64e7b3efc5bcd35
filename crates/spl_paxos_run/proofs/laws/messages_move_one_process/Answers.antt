use Rattle.spl_paxos_run.proofs.Moves.{named_plan, named_moved, named_others}
use Rattle.spl_paxos_run.proofs.laws.messages_move_one_process.Goals as goal

pub returns-clause-plan : goal.returns-clause-plan
returns-clause-plan c = named_plan

pub returns-clause-moved : goal.returns-clause-moved
returns-clause-moved c = named_moved

pub returns-clause-others : goal.returns-clause-others
returns-clause-others c = named_others

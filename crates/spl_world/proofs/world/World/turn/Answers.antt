use Rattle.spl_world.proofs.{Calls.{call_still, steps_still}, Results.halted_by}
use Rattle.spl_world.proofs.world.World.turn.Goals as goal
use Rattle.spl_sched.specs.declared.line.Line.TheVariants as line

pub count_turn-answered-requires-clause-ready : goal.count_turn-answered-requires-clause-ready
count_turn-answered-requires-clause-ready g c = record { sits = c.requires.go.sits; ready = c.requires.go.ready }

pub returns-clause-leaves : goal.returns-clause-leaves
returns-clause-leaves g c = call_still c.is_err-failed.result c.count_turn-answered.ensures.leaves

pub returns-clause-halts : goal.returns-clause-halts
returns-clause-halts g c = halted_by c.count_turn-answered.result _ c.is_err-failed.ensures.value

pub returns-clause-runs : goal.returns-clause-runs
returns-clause-runs g c = λ a. steps_still a.o a.others a.before (line.Step a.step) c.is_err-failed.result (c.count_turn-answered.ensures.runs a)

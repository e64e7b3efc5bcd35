use Rattle.spl_node.specs.Benches.{images}
use Rattle.spl_world.proofs.{Calls.runs_still, Common.{◌++◌, ◌∷◌, [], by_rule}, HoldingLines.{failed_step, held_step, steps_none}, Results.halted_by}
use Rattle.spl_world.proofs.Standing.{within_line}
use Rattle.spl_world.proofs.world.World.step.Goals as goal
use Rattle.spl_edge.proofs.Results.{at_ok}

pub run_line-answered-requires-clause-ready : goal.run_line-answered-requires-clause-ready
run_line-answered-requires-clause-ready g c = record { sits = c.requires.go.sits; ready = c.requires.go.ready }

pub returns-clause-runs : goal.returns-clause-runs
returns-clause-runs g c = runs_still c.is_err-failed.result c.run_line-answered.ensures.runs

pub returns-clause-halts : goal.returns-clause-halts
returns-clause-halts g c = halted_by c.run_line-answered.result _ c.is_err-failed.ensures.value

pub returns-clause-keeps : goal.returns-clause-keeps
returns-clause-keeps g c = λ o others before stands.
    let after = (c.run_line-answered.ensures.runs.steps o others before stands).ran.stands in
    let nodes = c.run_line-answered.ensures.runs.leaves.nodes in
    record {
      few = at_ok c.run_line-answered.result (λ standing. within_line (before ++ by_rule c.args.line.now ∷ []) c.run_line-answered.new.self (images g.D.Disk.view c.run_line-answered.new.pairs.items) standing c.are_within.ensures) after;
      held = λ start held.
          held_step g.D.Disk.view before c.args.line.now c.args.self.now c.run_line-answered.new.self c.args.pairs.now.items c.run_line-answered.new.pairs.items nodes.ids nodes.places
          o others c.run_line-answered.result start held (steps_none c.args.line.now c.requires.line.steps) after nodes.disks;
    }

pub returns-clause-failed : goal.returns-clause-failed
returns-clause-failed g c = λ start o before slot e held.
    let nodes = c.run_line-answered.ensures.runs.leaves.nodes in
    failed_step g.D.Disk.view before c.args.line.now c.args.self.now c.run_line-answered.new.self c.args.pairs.now.items c.run_line-answered.new.pairs.items nodes.ids nodes.places
    o c.run_line-answered.result start slot held nodes.disks e (nodes.place slot e)

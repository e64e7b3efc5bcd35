use Rattle.spl_node.specs.Benches.{images}
use Rattle.spl_world.proofs.{Calls.{halted_still, ran_still}, Common.{◌++◌, ◌∷◌, [], by_rule}, HoldingLines.{held_halt, higher_halt, picks_halt}}
use Rattle.spl_world.proofs.{HoldingLines.unarmed_halt, Results.halted_by, Standing.{within_line, within_stops}}
use Rattle.spl_world.proofs.world.World.halt.Goals as goal
use Rattle.spl_edge.proofs.Results.{at_ok}

pub returns-clause-leaves : goal.returns-clause-leaves
returns-clause-leaves g c = halted_still c.is_err-failed.result c.halt_line-answered.ensures.halts.leaves

pub returns-clause-halts : goal.returns-clause-halts
returns-clause-halts g c = halted_by c.halt_line-answered.result _ c.is_err-failed.ensures.value

pub returns-clause-runs : goal.returns-clause-runs
returns-clause-runs g c = λ o others before stands.
    let runs = c.halt_line-answered.ensures.halts.runs o others before stands in
    record { ran = ran_still o others before c.args.line.now c.is_err-failed.result runs.ran; many = runs.many }

pub returns-clause-picks : goal.returns-clause-picks
returns-clause-picks g c = λ o others before stands.
    let l = c.args.line.now in
    let w = c.args.self.now in
    let v = c.halt_line-answered.new.self in
    let ps = c.args.pairs.now.items in
    let qs = c.halt_line-answered.new.pairs.items in
    let nodes = c.halt_line-answered.ensures.halts.leaves in
    let after = (c.halt_line-answered.ensures.halts.runs o others before stands).ran.stands in
    record {
      within = record {
        few = at_ok c.halt_line-answered.result (λ standing. within_line (before ++ by_rule l ∷ []) v (images g.D.Disk.view qs) standing c.are_within.ensures) after;
        fewer = at_ok c.halt_line-answered.result (λ standing. within_stops (before ++ by_rule l ∷ []) v (images g.D.Disk.view qs) standing c.are_within-2.ensures) after;
      };
      held = λ start held. held_halt g.D.Disk.view before l w v ps qs nodes.ids nodes.places c.halt_line-answered.result start held stands after c.halt_line-answered.ensures.halts.slot;
      picks = λ i s at off e. picks_halt g.D.Disk.view before l w v ps qs nodes.ids nodes.places c.halt_line-answered.result stands after
          c.halt_line-answered.ensures.halts.slot i s at off e;
      risen_other = λ i s at e within. higher_halt g.D.Disk.view before l w v ps qs nodes.ids nodes.places c.halt_line-answered.result stands after c.halt_line-answered.ensures.halts.slot i s at e within;
    }

pub returns-clause-unarmed : goal.returns-clause-unarmed
returns-clause-unarmed g c = λ off. unarmed_halt c.halt_line-answered.result c.args.line.now _ _ _ c.halt_line-answered.ensures.halts.slot off

pub returns-clause-one : goal.returns-clause-one
returns-clause-one g c = c.halt_line-answered.ensures.halts.one

pub returns-clause-faults : goal.returns-clause-faults
returns-clause-faults g c = c.halt_line-answered.ensures.halts.faults

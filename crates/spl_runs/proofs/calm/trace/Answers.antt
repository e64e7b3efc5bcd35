use Rattle.std.proofs.Common.{◌++◌, ◌∷◌, [], refl, subst}
use Rattle.spl_sched.specs.declared.line.Step.{Step}
use Rattle.spl_sched.specs.declared.line.Line.TheVariants as line
use Rattle.spl_trace.specs.Tracers.{HasHeard}
use Rattle.spl_world.specs.Views.{world_node_ids}
use Rattle.spl_runs.proofs.Calms.{heard_more, heard_off, one_step}
use Rattle.spl_runs.proofs.calm.trace.Goals as goal
use Rattle.spl_edge.proofs.Results.{at_ok}

pub returns-then-not-is_on-clause-heard : goal.returns-then-not-is_on-clause-heard
returns-then-not-is_on-clause-heard c = λ s es is h. heard_off c.args.tracer.now c.args.tracer.now es _ refl cc

pub returns-clause-heard : goal.returns-clause-heard
returns-clause-heard c = λ s es is h.
    let same = one_step (world_node_ids c.args.world.now) c.args.circuit.now c.args.turn.now c.in_ok-step.step s c.in_ok-step.ensures.step is in
    at_ok c.line.result (λ text. subst (λ (r : Step). HasHeard c.line.new.self (es ++ line.Step r ∷ [])) same
    (heard_more c.args.tracer.now c.line.new.self es (line.Step c.in_ok-step.step) c.line.ensures.on text h)) c.line.ensures.text

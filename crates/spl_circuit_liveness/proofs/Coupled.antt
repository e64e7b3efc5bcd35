-- The coupling of groups and cells goes on in a calm.
use Rattle.std.proofs.Common.{List, subst}
use Rattle.spl_circuit.specs.{Nodes.NodeId, declared.{act.Act.Act, definition.Definition.Definition}}
use Rattle.spl_command.specs.declared.batch.Batch.{Batch}
use Rattle.spl_wire.specs.declared.plan.Plan.{Plan}
use Rattle.spl_sched.specs.declared.line.Step.{Step}
use Rattle.spl_cell_rules.specs.{Cells.Cell, Changes.after_plan}
use Rattle.spl_circuit_world.specs.{Worlds.{World, Occurrence, Steps, circuit_carried_out, step_world, circuit_happens}, Projection.{IsPlain, IsPlainStep}}
use Rattle.spl_circuit_world.proofs.Puts.{put_at-same}
use Rattle.spl_circuit_safety.proofs.{GroupWorlds.{IsValidCell, InWorld}, CoupledSteps.Past, CoupledDeeds.SomePast, Occurrences.happens-keeps}

-- there are bindings and lists with which the groups are coupled with the cells
abbrev pub IsCoupled : World → Type 0
IsCoupled w = (past : Past) × (acts : Definition → List Act) × (batches : Definition → List Batch) × InWorld past w.at w.sent acts batches

pub coupled-happens : (w : World) (e : Occurrence) → IsPlain e → IsCoupled w → IsCoupled (circuit_happens w e)
coupled-happens w e h v =
    let u : SomePast v.0 (circuit_happens w e).at (circuit_happens w e).sent _ _ = happens-keeps v.0 w e v.1 v.2 h (v.0, (λ k f x. x), v.3) in
    (u.0, _, _, u.2)

pub coupled-step : (w : World) (s : Step) → IsPlainStep s → IsCoupled w → IsCoupled (step_world w s)
coupled-step w s h v = coupled-happens w (Steps s) h v

-- so the cell after a plan that was carried out is valid
pub valid-after : (w : World) (n : NodeId) (p : Plan) → IsCoupled (circuit_carried_out w n p) → IsValidCell n (after_plan n (w.at n) p)
valid-after w n p v = subst (λ (z : Cell). IsValidCell n z) (put_at-same w.at n (after_plan n (w.at n) p)) (v.3.valid n)

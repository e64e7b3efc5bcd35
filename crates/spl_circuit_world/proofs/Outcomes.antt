-- Where a stopped event had no record, its outcome says nothing.
use Rattle.std.{specs.Prelude.if◌then◌else◌, proofs.Common.{◌≡◌, Bool, false, List, [], refl, sym, ap, ◌∙◌}}
use Rattle.spl_agree.proofs.Tests.{if_holds}
use Rattle.spl_wire.specs.declared.{change.Change.Change, plan.Plan.Plan}
use Rattle.spl_sched.specs.{Grammar.step_node, declared.line.Step.Step}
use Rattle.spl_cell_rules.specs.{Cells.Cell, Changes.{changes_made, stopped_cell}}
use Rattle.spl_circuit_world.specs.Worlds.{World, put_at, step_plan, halted, Halts, circuit_happens}

-- without changes nothing is lost
pub halts-nothing : (w : World) (s : Step) (b d : Bool) → (step_plan w s).changes ≡ [] → circuit_happens w (Halts b s) ≡ circuit_happens w (Halts d s)
halts-nothing w s b d h = ap (λ (x : World). if w.up (step_node s) then x else w) (halted-nothing (step_plan w s) b d h)
  where
    cell : (p : Plan) (k : Bool) → p.changes ≡ []
        → (if k then changes_made (step_node s) (w.at (step_node s)) p.changes else w.at (step_node s)) ≡ w.at (step_node s)
    cell p k e =
        if_holds (λ (x : Cell). x ≡ w.at (step_node s)) k _ _ (λ q. ap (λ (xs : List Change). changes_made (step_node s) (w.at (step_node s)) xs) e)
        (λ q. refl)

    halted-nothing : (p : Plan) (x y : Bool) → p.changes ≡ [] → halted w (step_node s) x p ≡ halted w (step_node s) y p
    halted-nothing p x y e = ap stop (cell p x e ∙ sym (cell p y e))
      where
        stop : Cell → World
        stop k = record { nodes = w.nodes; up = put_at w.up (step_node s) false; at = put_at w.at (step_node s) (stopped_cell k); sent = w.sent }

-- The lines of a calm are the same in the world of its circuit after its own lines and after all.
use Rattle.std.proofs.Common.{◌≡◌, Bool, true, List, [], ◌∷◌, ◌++◌, map, refl, sym, ap}
use Rattle.spl_circuit.specs.Nodes.{CircuitId}
use Rattle.spl_sched.specs.declared.line.Line.{Line}
use Rattle.spl_sched.specs.declared.line.Line.TheVariants as line
use Rattle.spl_circuit_world.specs.{Worlds.{IsOrigin, Occurrence, Origin}, Projection.{Ran, concerned, lines_fit, plainly}, Answers.world_before}
use Rattle.spl_circuit_world.{specs.Whole.whole_world, proofs.{Calms.calm-alike, Owns.{IsPair, pair-before}}}
use Rattle.spl_trace.specs.Traced.{flat_line, flat_ran, steps_in}

pub flat-whole : (o : Origin) (before : List Ran) (l : Line) (kept : Bool) → IsOrigin o
    → lines_fit (before ++ record { line = l; kept = kept } ∷ []) ≡ true
    → flat_line (λ c. whole_world o c before) l kept ≡ flat_ran o before (record { line = l; kept = kept })
flat-whole o before (line.Calm i k) kept g f =
    ap (λ (es : List Occurrence). map plainly (steps_in es))
    (sym (calm-alike (concerned o i (before ++ r ∷ [])) i (world_before o i before r) (whole_world o i before) k p.alike p.confined).happened)
  where
    r : Ran
    r = record { line = line.Calm i k; kept = kept }

    p : IsPair (concerned o i (before ++ r ∷ [])) (world_before o i before r) (whole_world o i before)
    p = pair-before o i before r g f
flat-whole o before (line.Step s) kept g f = refl
flat-whole o before (line.Stop n) kept g f = refl
flat-whole o before (line.Start n) kept g f = refl
flat-whole o before (line.Roll n) kept g f = refl
flat-whole o before (line.Check k) kept g f = refl
flat-whole o before (line.Cut calls x s) kept g f = refl
flat-whole o before (line.Fail call s) kept g f = refl

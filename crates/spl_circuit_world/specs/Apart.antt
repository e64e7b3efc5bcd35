-- A line moves the world of its own circuit, a stop or a start that of each; no other is moved (docs/RULES.md, Circuits as
-- worlds).
use Rattle.std.proofs.Common.{◌≡◌, true, false, List, [], ◌∷◌, ◌++◌, refl, ◌∙◌}
use Rattle.spl_circuit.specs.Nodes.{CircuitId}
use Rattle.spl_circuit_world.specs.{Worlds.{Origin, World, first_world}, Projection.{Ran, names}, Answers.line_world, Whole.{world_beside, world_after_line}}
use Rattle.spl_circuit_world.specs.Whole.{whole_from, whole_world}

pub whole_from-append : (c : CircuitId) (w : World) (xs ys : List Ran) → whole_from c w (xs ++ ys) ≡ whole_from c (whole_from c w xs) ys
whole_from-append c w [] ys = refl
whole_from-append c w (x ∷ xs) ys = whole_from-append c (world_after_line c w x) xs ys

pub moves-own :
    (o : Origin) (before : List Ran) (r : Ran) (c : CircuitId) →
    names c r.line ≡ true →
    whole_world o c (before ++ r ∷ []) ≡ line_world (whole_world o c before) r.line r.kept
moves-own o before r c h = whole_from-append c (first_world o c) before (r ∷ []) ∙ rw h

pub moves-beside :
    (o : Origin) (before : List Ran) (r : Ran) (c : CircuitId) →
    names c r.line ≡ false →
    whole_world o c (before ++ r ∷ []) ≡ world_beside (whole_world o c before) r.line
moves-beside o before r c h = whole_from-append c (first_world o c) before (r ∷ []) ∙ rw h

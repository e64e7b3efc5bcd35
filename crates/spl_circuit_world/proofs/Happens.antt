-- The world of a circuit after all lines is the one after what happens in them.
use Rattle.std.proofs.Common.{◌≡◌, Bool, true, false, List, [], ◌∷◌, ◌++◌, append_assoc, refl, sym, ap, ◌∙◌}
use Rattle.spl_agree.proofs.Tests.{if_holds, and_left, and_right}
use Rattle.spl_circuit.specs.Nodes.{CircuitId}
use Rattle.spl_sched.specs.declared.line.Line.{Line}
use Rattle.spl_sched.specs.declared.line.Line.TheVariants as line
use Rattle.spl_circuit_world.specs.{Worlds.{World, Occurrence, occur}, Projection.{Ran, names, line_fits, lines_fit, AllPlain}, Answers.occurrences_in}
use Rattle.spl_circuit_world.specs.Whole.{world_beside, world_after_line, whole_from, happened_beside, happened_in, happened_from}
use Rattle.spl_circuit_world.proofs.LinesAsOccurrences.{line-run, plain-line, run-append, plain-append}

beside-run : (w : World) (l : Line) → world_beside w l ≡ occur w (happened_beside l)
beside-run w (line.Step s) = refl
beside-run w _ = refl

pub after-run : (c : CircuitId) (w : World) (r : Ran) → world_after_line c w r ≡ occur w (happened_in c w r)
after-run c w r = go (names c r.line) refl
  where
    go : (b : Bool) → names c r.line ≡ b → world_after_line c w r ≡ occur w (happened_in c w r)
    go true h = rw h (line-run w r.line r.kept)
    go false h = rw h (beside-run w r.line)

pub whole-run : (c : CircuitId) (w : World) (rs : List Ran) → whole_from c w rs ≡ occur w (happened_from c w rs)
whole-run c w [] = refl
whole-run c w (r ∷ rs) =
    whole-run c (world_after_line c w r) rs
    ∙ (ap (λ (x : World). occur x (happened_from c (world_after_line c w r) rs)) (after-run c w r)
    ∙ sym (run-append w (happened_in c w r) (happened_from c (world_after_line c w r) rs)))

plain-beside : (l : Line) → AllPlain (happened_beside l)
plain-beside (line.Step s) = tt
plain-beside (line.Calm c k) = tt
plain-beside (line.Roll n) = tt
plain-beside (line.Check k) = tt
plain-beside _ = (tt, tt)

plain-after : (c : CircuitId) (w : World) (r : Ran) → line_fits r ≡ true → AllPlain (happened_in c w r)
plain-after c w r h =
    if_holds AllPlain (names c r.line) (occurrences_in w r.line r.kept) (happened_beside r.line) (λ q. plain-line w r.line r.kept h)
    (λ q. plain-beside r.line)

pub plain-whole : (c : CircuitId) (w : World) (rs : List Ran) → lines_fit rs ≡ true → AllPlain (happened_from c w rs)
plain-whole c w [] h = tt
plain-whole c w (r ∷ rs) h =
    plain-append (happened_in c w r) (happened_from c (world_after_line c w r) rs) (plain-after c w r (and_left (line_fits r) (lines_fit rs) h))
    (plain-whole c (world_after_line c w r) rs (and_right (line_fits r) (lines_fit rs) h))

-- what happens in lines, one list after the other
pub happened-append : (c : CircuitId) (w : World) (xs ys : List Ran)
    → happened_from c w (xs ++ ys) ≡ happened_from c w xs ++ happened_from c (whole_from c w xs) ys
happened-append c w [] ys = refl
happened-append c w (x ∷ xs) ys =
    ap (λ (es : List Occurrence). happened_in c w x ++ es) (happened-append c (world_after_line c w x) xs ys)
    ∙ sym (append_assoc (happened_in c w x) (happened_from c (world_after_line c w x) xs) (happened_from c (whole_from c (world_after_line c w x) xs) ys))

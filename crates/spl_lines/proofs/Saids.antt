-- What is said of a line is within the bounds of lines, and so is the circuit that it names.
use Rattle.std.proofs.Common.{◌≡◌, ℕ, Bool, true, false, ◌&&◌, List, ◌∷◌, Option, Some, None, IsTrue, if◌then◌else◌, refl, subst}
use Rattle.spl_agree.proofs.Booleans.{and_left, and_right}
use Rattle.spl_base.specs.{FormLaws.and_true, Ids.{is_circuit_id, is_node_id}}
use Rattle.spl_circuit.specs.Nodes.{CircuitId}
use Rattle.spl_delta.specs.{Watches.{is_watch_line, watch_circuit, watch_line_of, watch_spelling}, declared.line.WatchLine.{WatchLine, TheVariants.Pull}}
use Rattle.spl_delta.specs.declared.line.WatchLine.TheVariants.{Watch}
use Rattle.spl_circuit_world.specs.Projection.{lines_fit}
use Rattle.spl_sched.specs.{Grammar.{line_circuit, is_line, is_step, line_of, spelling, step_circuit}, declared.line.{Line.Line, Step.Step}}
use Rattle.spl_sched.specs.declared.line.Line.TheVariants as line
use Rattle.spl_sched.specs.declared.line.Step.TheVariants as step
use Rattle.spl_lines.specs.{Lines.is_silent, Tasks.{Task, ran_by, named_circuit, is_sayable, or_watch, line_said, said_in}, declared.reading.Said.Said}
use Rattle.spl_lines.specs.declared.reading.Said.TheVariants as say

step_id : (s : Step) → IsTrue (is_step s) → IsTrue (is_circuit_id (step_circuit s))
step_id (step.At n c e) fits = and_right (is_node_id n) (is_circuit_id c) (and_left (is_node_id n && is_circuit_id c) _ fits)
step_id (step.Deliver from to c k) fits =
    and_right (is_node_id from && is_node_id to) (is_circuit_id c) (and_left ((is_node_id from && is_node_id to) && is_circuit_id c) _ (and_left _ _ fits))

line_id : (l : Line) (c : CircuitId) → line_circuit l ≡ Some c → IsTrue (is_line l) → IsTrue (is_circuit_id c)
line_id (line.Step s) c about fits = let same : step_circuit s ≡ c = cc in subst (λ (d : CircuitId). IsTrue (is_circuit_id d)) same (step_id s fits)
line_id (line.Calm id passes) c about fits =
    let same : id ≡ c = cc in subst (λ (d : CircuitId). IsTrue (is_circuit_id d)) same (and_left (is_circuit_id id) _ fits)
line_id (line.Stop n) c about fits = absurd cc
line_id (line.Start n) c about fits = absurd cc
line_id (line.Roll n) c about fits = absurd cc
line_id (line.Check k) c about fits = absurd cc
line_id (line.Cut calls fill s) c about fits =
    let same : step_circuit s ≡ c = cc in subst (λ (d : CircuitId). IsTrue (is_circuit_id d)) same (step_id s (and_right _ (is_step s) fits))
line_id (line.Fail call s) c about fits =
    let same : step_circuit s ≡ c = cc in subst (λ (d : CircuitId). IsTrue (is_circuit_id d)) same (step_id s (and_right _ (is_step s) fits))

watch_id : (l : WatchLine) → IsTrue (is_watch_line l) → IsTrue (is_circuit_id (watch_circuit l))
watch_id (Watch n c name place) fits = and_left (is_circuit_id c) _ (and_right (is_node_id n) _ fits)
watch_id (Pull n c name count) fits = and_left (is_circuit_id c) _ (and_right (is_node_id n) _ fits)

pub said_id : (s : Said) (c : CircuitId) → named_circuit s ≡ Some c → IsTrue (is_sayable s) → IsTrue (is_circuit_id c)
said_id (say.Line l) c about fits = line_id l c about fits
said_id (say.Watch l) c about fits = let same : watch_circuit l ≡ c = cc in subst (λ (d : CircuitId). IsTrue (is_circuit_id d)) same (watch_id l fits)

-- ---- what is said

spelled : (b : Bool) (o : Option Said) (s : Said) → (if b then None else o) ≡ Some s → o ≡ Some s
spelled true o s e = absurd cc
spelled false o s e = e

module _ (law : (bytes : List ℕ) (l : Line) → line_of bytes ≡ Some l → (bytes ≡ spelling l) × IsTrue (is_line l))
    (watch_law : (bytes : List ℕ) (l : WatchLine) → watch_line_of bytes ≡ Some l → (bytes ≡ watch_spelling l) × IsTrue (is_watch_line l)) where
  fits_by : (bytes : List ℕ) (o : Option Line) (w : Option WatchLine) (s : Said) → line_of bytes ≡ o → watch_line_of bytes ≡ w → or_watch o w ≡ Some s
      → is_sayable s ≡ true
  fits_by bytes (Some l) w s p q e = let same : say.Line l ≡ s = cc in subst (λ (x : Said). is_sayable x ≡ true) same (law bytes l p).1
  fits_by bytes None (Some l) s p q e = let same : say.Watch l ≡ s = cc in subst (λ (x : Said). is_sayable x ≡ true) same (watch_law bytes l q).1
  fits_by bytes None None s p q e = absurd cc

  pub said_fits : (bytes : List ℕ) (s : Said) → line_said bytes ≡ Some s → is_sayable s ≡ true
  said_fits bytes s e = fits_by bytes (line_of bytes) (watch_line_of bytes) s refl refl (spelled (is_silent bytes) (said_in bytes) s e)

-- ---- tasks

-- a task more, whose line fits
pub one_more : (number : Option ℕ) (s : Said) (rest : List Task) → is_sayable s ≡ true → lines_fit (ran_by rest) ≡ true
    → lines_fit (ran_by (record { number = number; line = s } ∷ rest)) ≡ true
one_more number (say.Line l) rest fits h = and_true (is_line l) _ fits h
one_more number (say.Watch l) rest fits h = h

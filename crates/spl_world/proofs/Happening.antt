-- Steps that run, or fail, at one node.
use Rattle.spl_cell_rules.specs.Cells.{site_at}
use Rattle.spl_wire.specs.declared.answer.Refusal.{Refusal}
use Rattle.spl_wire.specs.declared.answer.Answer.TheVariants as answer
use Rattle.spl_wire.specs.declared.answer.Refusal.TheVariants as refusal
use Rattle.spl_world.specs.{Calls.{HandlesEvent, RunsStep}, Ended.EventEnds, Views.{HoldsWorld, Nodes}, declared.fault.WorldFault.WorldFault}
use Rattle.spl_world.proofs.{Calls.{done, fails_is}, Common.{◌≡◌, false, Result, sym, ap, subst, ◌∙◌, IfErr, IsErr, IsErrAnd, CircuitWorld}}
use Rattle.spl_world.proofs.Common.{circuit_carried_out, step_plan, step_world, plan_of, tells_only, step_circuit, step_node, Step, Answer, Event, Plan}
use Rattle.spl_world.proofs.{Ending.still_ended, Reading.step_down, Seating.{moves_as, quiet_holds}}
use Rattle.spl_edge.proofs.Results.{at_ok, when_ok}

module _ (s : Step) (xs : Nodes) where
  -- it is refused, and nothing happens
  pub step_refused : (why : Refusal) → ((m : CircuitWorld) → HoldsWorld (step_circuit s) m xs → step_plan m s ≡ tells_only (answer.Refused why))
      → RunsStep s (done Answer (answer.Refused why)) xs xs
  step_refused why told = record {
    answer = λ m h. sym (ap (λ (p : Plan). p.answer) (told m h));
    moves = record {
      own = λ m h. subst (λ (p : Plan). HoldsWorld (step_circuit s) (circuit_carried_out m (step_node s) p) xs) (sym (told m h))
          (quiet_holds (step_circuit s) (step_node s) m (answer.Refused why) xs h);
      others = λ d m off h. h;
    };
    ended = λ m h. tt;
  }

  -- so where its node is down
  pub step_at_down : ((m : CircuitWorld) → HoldsWorld (step_circuit s) m xs → m.up (step_node s) ≡ false) → RunsStep s (done Answer (answer.Refused refusal.Down)) xs xs
  step_at_down down = step_refused refusal.Down (λ m h. step_down m s (down m h))

  -- it fails before a call of a disk
  pub step_failed : (f : WorldFault) (r : Result Answer WorldFault) → IsErr r × IsErrAnd r (λ e. e ≡ f) → RunsStep s r xs xs
  step_failed f r is = subst (λ (z : Result Answer WorldFault). RunsStep s z xs xs) (sym (fails_is r f is)) (record {
    answer = λ m h. tt;
    moves = tt;
    ended = λ m h. still_ended (step_circuit s) (step_world m s) f xs;
  })

  -- its event is handled
  pub step_handled : (e : Event) (r : Result Answer WorldFault) (ys : Nodes)
      → ((m : CircuitWorld) → HoldsWorld (step_circuit s) m xs → plan_of (site_at (step_node s) (step_circuit s)) (m.at (step_node s)) e ≡ step_plan m s)
      → HandlesEvent (step_node s) (step_circuit s) e r xs ys → RunsStep s r xs ys
  step_handled e r ys same event =
      let c = step_circuit s in
      let n = step_node s in
      record {
        answer = λ m h. when_ok r (λ a told. told ∙ ap (λ (p : Plan). p.answer) (same m h)) (event.answer m h);
        moves = at_ok r (λ moves. moves_as c (λ m. circuit_carried_out m n (plan_of (site_at n c) (m.at n) e)) (λ m. step_world m s) xs ys
            (λ m h. ap (circuit_carried_out m n) (same m h)) moves) event.moves;
        ended = λ m h. subst (λ (w : CircuitWorld). IfErr r (λ f. EventEnds c w f xs ys.disks)) (ap (circuit_carried_out m n) (same m h)) (event.ended m h);
      }

-- A line that is refused moves the world of no circuit.
use Rattle.std.{specs.Prelude.if◌then◌else◌, proofs.Common.{◌≡◌, ◌⊎◌, Bool, true, false, List, [], ◌∷◌, ◌++◌, sym, ap, subst, ◌∙◌, inl, inr}}
use Rattle.spl_agree.proofs.Tests.{if_holds, bool_cases}
use Rattle.spl_circuit.specs.Nodes.{NodeId, CircuitId}
use Rattle.spl_wire.specs.declared.answer.{Answer.Answer, Bit.Bit, Refusal.Refusal}
use Rattle.spl_wire.specs.declared.answer.Answer.TheVariants as answer
use Rattle.spl_wire.specs.declared.answer.Refusal.TheVariants as refusal
use Rattle.spl_sched.specs.{Grammar.{step_node, step_circuit}, declared.line.{Line.Line, Step.Step}}
use Rattle.spl_sched.specs.declared.line.Line.TheVariants as line
use Rattle.spl_circuit_world.specs.{Worlds.{Origin, IsOrigin, World, IsUnmoved, Stops, circuit_happens, step_plan}, Projection.{Ran, names, lines_fit}}
use Rattle.spl_circuit_world.specs.{Answers.{bit_of, halt_answer, line_answer, roll_answer, answer_to}, Whole.{world_beside, whole_world}, Apart.moves-own}
use Rattle.spl_circuit_world.{specs.Apart.moves-beside, proofs.{Unmoved.{unmoved-same, unmoved-line}, Owns.answer-whole, Ups.whole-up}}

module _ (o : Origin) (before : List Ran) (why : Refusal) where
  abbrev worlds : CircuitId → World
  worlds i = whole_world o i before

  -- where a stop in a step is refused, its node is down already, in the world of each circuit
  unmoved-stop : (say : Bit → Answer) (s : Step) (kept : Bool) (c : CircuitId) → ((b : Bit) → say b ≡ answer.Refused why → ⊥)
      → halt_answer say (worlds (step_circuit s)) s kept ≡ answer.Refused why → IsUnmoved (worlds c) (circuit_happens (worlds c) (Stops (step_node s)))
  unmoved-stop say s kept c other h =
      if_holds (IsUnmoved (worlds c)) ((worlds c).up (step_node s)) _ _
      (λ q. absurd (other (bit_of kept (step_plan here s).changes) (sym (up (there q)) ∙ h))) (λ q. unmoved-same (worlds c))
    where
      here : World
      here = worlds (step_circuit s)

      there : (worlds c).up (step_node s) ≡ true → here.up (step_node s) ≡ true
      there q = whole-up o (step_circuit s) before (step_node s) ∙ (sym (whole-up o c before (step_node s)) ∙ q)

      up : here.up (step_node s) ≡ true → halt_answer say here s kept ≡ say (bit_of kept (step_plan here s).changes)
      up q = ap (λ (b : Bool). if b then say (bit_of kept (step_plan here s).changes) else answer.Refused refusal.Down) q

  unmoved-beside : (roll : NodeId → Answer) (l : Line) (kept : Bool) (c : CircuitId) → line_answer worlds roll l kept ≡ answer.Refused why
      → IsUnmoved (worlds c) (world_beside (worlds c) l)
  unmoved-beside roll (line.Stop n) kept c h = cc
  unmoved-beside roll (line.Start n) kept c h = cc
  unmoved-beside roll (line.Cut calls fill s) kept c h = unmoved-stop answer.Cut s kept c (λ b x. cc) h
  unmoved-beside roll (line.Fail call s) kept c h = unmoved-stop answer.Fault s kept c (λ b x. cc) h
  unmoved-beside roll _ kept c h = unmoved-same (worlds c)

pub unmoved-worlds : (o : Origin) (before : List Ran) (r : Ran) (why : Refusal) (c : CircuitId) → IsOrigin o → lines_fit (before ++ r ∷ []) ≡ true
    → answer_to o before r ≡ answer.Refused why → IsUnmoved (whole_world o c before) (whole_world o c (before ++ r ∷ []))
unmoved-worlds o before r why c i f h = go (bool_cases (names c r.line))
  where
    roll : NodeId → Answer
    roll n = roll_answer o (before ++ r ∷ []) n

    told : line_answer (λ d. whole_world o d before) roll r.line r.kept ≡ answer.Refused why
    told = sym (answer-whole o before r i f) ∙ h

    go : (names c r.line ≡ true) ⊎ (names c r.line ≡ false) → IsUnmoved (whole_world o c before) (whole_world o c (before ++ r ∷ []))
    go (inl q) =
        subst (λ (w : World). IsUnmoved (whole_world o c before) w) (sym (moves-own o before r c q))
        (unmoved-line (λ d. whole_world o d before) roll r.line r.kept why c q told)
    go (inr q) =
        subst (λ (w : World). IsUnmoved (whole_world o c before) w) (sym (moves-beside o before r c q))
        (unmoved-beside o before why roll r.line r.kept c told)

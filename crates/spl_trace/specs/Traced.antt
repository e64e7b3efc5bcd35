-- A run in which a calm stands as its ticks and deliveries (docs/RULES.md, Traces).
use Rattle.std.specs.Prelude.{ℕ, Bool, true, false, List, [], ◌∷◌, ◌++◌, map, ◌≡◌}
use Rattle.spl_sched.specs.{Grammar.{is_calm, spelling}, declared.line.Line.Line}
use Rattle.spl_sched.specs.declared.line.Line.TheVariants as line
use Rattle.spl_circuit.specs.Nodes.{CircuitId, NodeId}
use Rattle.spl_circuit_world.specs.{Worlds.{Origin, World, Occurrence, Steps}, Calm.calm, Projection.{Ran, plainly}, Answers.{world_before, circuit_world}}
use Rattle.spl_circuit_world.specs.{Answers.{is_up, answer_to}, Whole.whole_world}

-- the steps among what happened, each as a line; in a calm nothing else happens
abbrev pub steps_in : List Occurrence → List Line
steps_in [] = []
steps_in (Steps s ∷ es) = line.Step s ∷ steps_in es
steps_in (_ ∷ es) = steps_in es

-- the ticks and deliveries of a calm of this world, with the numbers of their messages
abbrev pub calm_lines : CircuitId → World → ℕ → List Line
calm_lines c w k = steps_in (calm c w k).happened

-- the lines that stand for a line, in the world of its circuit
abbrev pub flat_line : (CircuitId → World) → Line → Bool → List Ran
flat_line worlds (line.Calm c k) kept = map plainly (calm_lines c (worlds c) k)
flat_line worlds l kept = record { line = l; kept = kept } ∷ []

-- those of a line after others
abbrev pub flat_ran : Origin → List Ran → Ran → List Ran
flat_ran o before r = flat_line (λ c. world_before o c before r) r.line r.kept

abbrev pub flat_after : Origin → List Ran → List Ran → List Ran
flat_after o before [] = []
flat_after o before (r ∷ rs) = flat_ran o before r ++ flat_after o (before ++ r ∷ []) rs

-- of a whole schedule
abbrev pub flat : Origin → List Ran → List Ran
flat o rs = flat_after o [] rs

-- each line with a line feed after it
abbrev pub lines_text : List Line → List ℕ
lines_text [] = []
lines_text (l ∷ ls) = spelling l ++ (10 ∷ lines_text ls)

-- so are lines that ran
abbrev pub written_lines : List Ran → List ℕ
written_lines rs = lines_text (map (λ r. r.line) rs)

-- each line but the calms is answered after the trace of what stands before it as it is answered in the schedule; and the
-- schedule and its trace leave the same worlds
pub record IsOneRun (o : Origin) (rs : List Ran) : Type 0 where
  pub answers : (before after : List Ran) (r : Ran) → before ++ r ∷ after ≡ rs → is_calm r.line ≡ false → answer_to o (flat o before) r ≡ answer_to o before r
  pub worlds : (c : CircuitId) → whole_world o c (flat o rs) ≡ whole_world o c rs
  pub cells : (c : CircuitId) (n : NodeId) → (circuit_world o c (flat o rs)).at n ≡ (circuit_world o c rs).at n
  pub sent : (c : CircuitId) → (circuit_world o c (flat o rs)).sent ≡ (circuit_world o c rs).sent
  pub up : (n : NodeId) → is_up n (flat o rs) ≡ is_up n rs

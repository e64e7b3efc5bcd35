-- What a check is answered.
use Rattle.std.proofs.Common.{◌≡◌, Bool, List, refl}
use Rattle.spl_sched.specs.declared.line.ProofCheck.{ProofCheck}
use Rattle.spl_sched.specs.declared.line.Line.TheVariants as line
use Rattle.spl_circuit_world.specs.{Worlds.Origin, Projection.Ran, Answers.{check_answer, answer_to}}

pub check-own : (o : Origin) (before : List Ran) (c : ProofCheck) (kept : Bool)
    → answer_to o before (record { line = line.Check c; kept = kept }) ≡ check_answer c
unfolding answer_to
check-own o before c kept = refl

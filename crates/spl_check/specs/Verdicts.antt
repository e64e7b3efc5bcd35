-- What four words say of a proof (docs/RULES.md, Proofs, Questions to a folder).
use Rattle.std.specs.Prelude.{◌≡◌, ℕ, Bool, codes, List, ◌++◌, Option, Some, Result, Ok, Err}
use Rattle.spl_proof.specs.{Accepted.accepts, Forms.{proof, whole_of}, declared.proof.Proof.Proof}
use Rattle.spl_sched.specs.{Grammar.line_of, declared.line.{Line.Line, ProofCheck.ProofCheck}}
use Rattle.spl_sched.specs.declared.line.Line.TheVariants as line
use Rattle.spl_check.specs.declared.checking.CheckFault.{CheckFault}
use Rattle.spl_check.specs.declared.checking.CheckFault.TheVariants as fault

-- whether the proof is accepted that the bytes are, or where they are none
abbrev pub verdict_by : ProofCheck → Result Proof ℕ → Result Bool CheckFault
verdict_by c (Ok p) = Ok (accepts c.root c.address c.claim p)
verdict_by c (Err at) = Err (fault.NotProof at)

abbrev pub verdict_of : ProofCheck → Result Bool CheckFault
verdict_of c = verdict_by c (whole_of proof c.bytes)

-- by the line that was read
abbrev pub verdict : Option Line → Result Bool CheckFault
verdict (Some (line.Check c)) = verdict_of c
verdict _ = Err fault.BadWord

-- the line check of a schedule with these words
abbrev pub line_of_words : (root address claim shown : List ℕ) → List ℕ
line_of_words root address claim shown = ((((((codes "check " ++ root) ++ codes " ") ++ address) ++ codes " ") ++ claim) ++ codes " ") ++ shown

-- what the words say
abbrev pub judged : (root address claim shown : List ℕ) → Result Bool CheckFault
judged root address claim shown = verdict (line_of (line_of_words root address claim shown))

-- a call comes to this, unless memory ran out
abbrev pub ComesToVerdict : Result Bool CheckFault → Result Bool CheckFault → Type 0
ComesToVerdict (Err fault.NoMemory) v = Unit {0}
ComesToVerdict r v = v ≡ r

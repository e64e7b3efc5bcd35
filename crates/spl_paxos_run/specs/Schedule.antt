-- What a run of Paxos Commit does and writes, by the lines of its schedule (docs/RULES.md, Paxos Commit).
use Rattle.std.specs.Prelude.{◌⊎◌, ◌+◌, ℕ, List, [], ◌∷◌, ◌++◌, Option, None, Some, IsSomeAnd, IsTrue, if◌then◌else◌}
use Rattle.spl_lines.specs.{Lines.{IsShort, is_silent}, Tasks.printed}
use Rattle.spl_acceptor.specs.{Worlds.{PaxosCommitWorld, Happening, first_paxos_world, paxos_happens, paxos_answer}, declared.group.Group.Group}
use Rattle.spl_paxos.specs.{Lines.{happening_of, paxos_line_of}, Texts.paxos_answer_text, declared.line.PaxosLine.PaxosLine}
use Rattle.spl_paxos_run.specs.Places.{has_line_names}

-- ---- lines

-- a line that a schedule of this run may have
abbrev pub IsPaxosLine : Group → List ℕ → Type 0
IsPaxosLine g line = IsShort line × (IsTrue (is_silent line) ⊎ IsSomeAnd (paxos_line_of line) (λ l. IsTrue (has_line_names g l)))

-- what is run of a line
abbrev pub paxos_line_said : List ℕ → Option PaxosLine
paxos_line_said line = if is_silent line then None else paxos_line_of line

abbrev pub with_number : ℕ → Option PaxosLine → List (ℕ × PaxosLine) → List (ℕ × PaxosLine)
with_number n None ls = ls
with_number n (Some l) ls = (n, l) ∷ ls

-- the lines that are run, with their numbers, which count from n
abbrev pub numbered_lines : ℕ → List (List ℕ) → List (ℕ × PaxosLine)
numbered_lines n [] = []
numbered_lines n (line ∷ lines) = with_number n (paxos_line_said line) (numbered_lines (n + 1) lines)

-- what happens by these lines
abbrev pub happenings : List (ℕ × PaxosLine) → List Happening
happenings [] = []
happenings (x ∷ xs) = happening_of x.1 ∷ happenings xs

-- ---- what is written

-- the answers to these lines in this world, with their numbers
abbrev pub outputs : Group → PaxosCommitWorld → List (ℕ × PaxosLine) → List ℕ
outputs g w [] = []
outputs g w (x ∷ xs) = printed x.0 (paxos_answer_text (paxos_answer g w (happening_of x.1))) ++ outputs g (paxos_happens g w (happening_of x.1)) xs

-- what a run of these lines writes
abbrev pub run_output : Group → List (List ℕ) → List ℕ
run_output g lines = outputs g (first_paxos_world g) (numbered_lines 1 lines)

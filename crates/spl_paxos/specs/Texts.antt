-- The texts of answers (docs/RULES.md, Paxos Commit).
use Rattle.std.specs.Prelude.{ℕ, Bool, List, ◌++◌, if◌then◌else◌, codes, decimal}
use Rattle.spl_acceptor.specs.declared.answer.PaxosAnswer.{PaxosAnswer, TheVariants.{Told, Undecided, Decided, IsDown, IsUp, Refused}}
use Rattle.spl_acceptor.specs.declared.{answer.PaxosRefusal.{PaxosRefusal, TheVariants.{Down, Voted, NoMessage}}, note.PaxosNote.PaxosNote}
use Rattle.spl_acceptor.specs.declared.note.PaxosNote.TheVariants as note

abbrev pub paxos_note_text : PaxosNote → List ℕ
paxos_note_text note.Voted = codes "voted"
paxos_note_text note.Spent = codes "spent"
paxos_note_text (note.Ballot b) = codes "ballot " ++ decimal b
paxos_note_text (note.Promised b) = codes "promised " ++ decimal b
paxos_note_text (note.Higher b) = codes "higher " ++ decimal b
paxos_note_text note.Accepted = codes "accepted"
paxos_note_text note.Counted = codes "counted"
paxos_note_text (note.Sent b) = codes "sent " ++ decimal b
paxos_note_text (note.Noted b) = codes "noted " ++ decimal b
paxos_note_text note.Abort = codes "abort"
paxos_note_text note.Commit = codes "commit"
paxos_note_text note.Ignored = codes "ignored"

-- the number of a refusal
abbrev pub paxos_refusal_text : PaxosRefusal → List ℕ
paxos_refusal_text Down = codes "1"
paxos_refusal_text Voted = codes "2"
paxos_refusal_text NoMessage = codes "3"

abbrev pub decision_text : Bool → List ℕ
decision_text commit = if commit then codes "ok commit" else codes "ok abort"

abbrev pub paxos_answer_text : PaxosAnswer → List ℕ
paxos_answer_text (Told n) = codes "ok " ++ paxos_note_text n
paxos_answer_text Undecided = codes "ok undecided"
paxos_answer_text (Decided commit) = decision_text commit
paxos_answer_text IsDown = codes "ok down"
paxos_answer_text IsUp = codes "ok up"
paxos_answer_text (Refused r) = codes "refused " ++ paxos_refusal_text r

-- Two schedules and what they are answered (docs/RULES.md, Paxos Commit).
use Rattle.std.specs.Prelude.{true, false, List, [], ◌∷◌}
use Rattle.spl_acceptor.specs.{Rows.{member, acceptor, leader}, Worlds.{Happening, Votes, Leads, Delivers, Shows, Stops}}
use Rattle.spl_acceptor.specs.declared.answer.{PaxosAnswer.{PaxosAnswer, TheVariants.{Told, Undecided, IsDown, Refused}}, PaxosRefusal.TheVariants.Voted}
use Rattle.spl_acceptor.specs.declared.group.Group.{Group}
use Rattle.spl_acceptor.specs.declared.note.PaxosNote.TheVariants as note

-- two members vote yes, and one of them hears that both votes were accepted
abbrev pub two_members : Group
two_members = record { members = 2; faults = 0 }

abbrev pub commit_lines : List Happening
commit_lines = Votes 1 1 true
    ∷ Votes 2 1 true
    ∷ Delivers (member 1) (acceptor 1) 1
    ∷ Delivers (member 2) (acceptor 1) 1
    ∷ Delivers (acceptor 1) (member 1) 1
    ∷ Delivers (acceptor 1) (member 1) 2
    ∷ Shows 2 1
    ∷ Votes 1 1 false
    ∷ []

abbrev pub commit_answers : List PaxosAnswer
commit_answers = Told note.Voted
    ∷ Told note.Voted
    ∷ Told note.Accepted
    ∷ Told note.Accepted
    ∷ Told note.Counted
    ∷ Told note.Commit
    ∷ Undecided
    ∷ Refused Voted
    ∷ []

-- one of two members is down, and a leader aborts the round for the other
abbrev pub three_acceptors : Group
three_acceptors = record { members = 2; faults = 1 }

abbrev pub abort_lines : List Happening
abort_lines = Votes 1 1 true
    ∷ Stops (member 2)
    ∷ Leads 1 1
    ∷ Delivers (leader 1) (acceptor 1) 1
    ∷ Delivers (leader 1) (acceptor 2) 1
    ∷ Delivers (acceptor 1) (leader 1) 1
    ∷ Delivers (acceptor 2) (leader 1) 1
    ∷ Delivers (leader 1) (acceptor 1) 2
    ∷ Delivers (leader 1) (acceptor 2) 2
    ∷ Delivers (acceptor 1) (member 1) 1
    ∷ Delivers (acceptor 2) (member 1) 1
    ∷ Delivers (member 1) (acceptor 1) 1
    ∷ []

abbrev pub abort_answers : List PaxosAnswer
abort_answers = Told note.Voted
    ∷ IsDown
    ∷ Told (note.Ballot 1)
    ∷ Told (note.Promised 1)
    ∷ Told (note.Promised 1)
    ∷ Told note.Counted
    ∷ Told (note.Sent 1)
    ∷ Told note.Accepted
    ∷ Told note.Accepted
    ∷ Told note.Counted
    ∷ Told note.Abort
    ∷ Told note.Ignored
    ∷ []

-- All processes of a run, all messages ever sent, and what each line does (docs/RULES.md, Paxos Commit).
use Rattle.std.specs.Prelude.{ℕ, zero, suc, Bool, true, false, ◌&&◌, ◌||◌, ◌==◌, nat_lt, nat_le, List, [], ◌∷◌, ◌++◌, if◌then◌else◌, slice_get, Option, Some}
use Rattle.std.specs.Prelude.{None, is_none}
use Rattle.spl_agree.specs.World.{put}
use Rattle.spl_acceptor.specs.{Quorums.acceptors, Processes.{Acceptor, VotingMember, Leader, new_acceptor, new_paxos_member, new_leader, stopped_member}}
use Rattle.spl_acceptor.specs.{Processes.stopped_leader, Rows.{PaxosPlan, member, leader, on_paxos_vote, on_lead, member_row, acceptor_row, leader_row}}
use Rattle.spl_acceptor.specs.{Rows.{acceptor_after, member_after, leader_after}, declared.answer.PaxosAnswer.{PaxosAnswer, TheVariants.{Told, Undecided}}}
use Rattle.spl_acceptor.specs.declared.answer.{PaxosAnswer.TheVariants.{Decided, IsDown, IsUp, Refused}, PaxosRefusal.TheVariants.{Down, Voted, NoMessage}}
use Rattle.spl_acceptor.specs.declared.{group.Group.Group, kind.TheConstants.{MEMBER, ACCEPTOR, LEADER}, message.{Name.Name, PaxosMsg.PaxosMsg}}
use Rattle.spl_acceptor.specs.declared.message.PaxosMsg.TheVariants as msg

-- a message that was sent
pub record SentPaxosMessage : Type 0 where
  pub from : Name
  pub to : Name
  pub message : PaxosMsg

-- which processes are up, what each keeps, by its number and by round, and all messages that were ever sent, in their order
pub record PaxosCommitWorld : Type 0 where
  pub up : Name → Bool
  pub member : ℕ → ℕ → VotingMember
  pub acceptor : ℕ → ℕ → Acceptor
  pub leader : ℕ → ℕ → Leader
  pub sent : List SentPaxosMessage

abbrev pub is_in_range : ℕ → ℕ → Bool
is_in_range n i = nat_lt 0 i && nat_le i n

-- the run has this process
abbrev pub has_name : Group → Name → Bool
has_name g n = (n.kind == MEMBER && is_in_range g.members n.number)
    || ((n.kind == ACCEPTOR && is_in_range (acceptors g.faults) n.number)
    || (n.kind == LEADER && is_in_range 3 n.number))

-- at first all are up, nothing is kept, and nothing was sent
abbrev pub first_paxos_world : Group → PaxosCommitWorld
first_paxos_world g = record {
  up = has_name g;
  member = λ i r. new_paxos_member;
  acceptor = λ a r. new_acceptor;
  leader = λ l r. new_leader;
  sent = [];
}

abbrev pub same_name : Name → Name → Bool
same_name m n = m.kind == n.kind && m.number == n.number

-- another thing at one name
unfoldable pub put_name : (Name → Bool) → Name → Bool → Name → Bool
put_name f here x n = if same_name n here then x else f n

-- another thing at one number, in one round
unfoldable pub put_round : {S : Type 0} → (ℕ → ℕ → S) → ℕ → ℕ → S → ℕ → ℕ → S
put_round f here r s = put f here (put (f here) r s)

-- what was ever sent on a pair of processes, in order
abbrev pub paxos_on_pair : Name → Name → List SentPaxosMessage → List PaxosMsg
paxos_on_pair from to [] = []
paxos_on_pair from to (s ∷ ss) = if same_name s.from from && same_name s.to to then s.message ∷ paxos_on_pair from to ss else paxos_on_pair from to ss

-- the messages of a pair are numbered from 1
abbrev pub message_numbered : List PaxosMsg → ℕ → Option PaxosMsg
message_numbered ms zero = None
message_numbered ms (suc k) = slice_get ms k

abbrev pub message_at : PaxosCommitWorld → Name → Name → ℕ → Option PaxosMsg
message_at w from to k = message_numbered (paxos_on_pair from to w.sent) k

abbrev pub paxos_posted : Name → List (Name × PaxosMsg) → List SentPaxosMessage
paxos_posted here [] = []
paxos_posted here (s ∷ ss) = record { from = here; to = s.0; message = s.1 } ∷ paxos_posted here ss

-- ---- a plan is carried out

abbrev pub at_member : PaxosCommitWorld → ℕ → ℕ → PaxosPlan → PaxosCommitWorld
at_member w here r p = record {
  up = w.up;
  member = put_round w.member here r (member_after (w.member here r) p);
  acceptor = w.acceptor;
  leader = w.leader;
  sent = w.sent ++ paxos_posted (record { kind = MEMBER; number = here }) p.sends;
}

abbrev pub at_acceptor : PaxosCommitWorld → ℕ → ℕ → PaxosPlan → PaxosCommitWorld
at_acceptor w here r p = record {
  up = w.up;
  member = w.member;
  acceptor = put_round w.acceptor here r (acceptor_after (w.acceptor here r) p);
  leader = w.leader;
  sent = w.sent ++ paxos_posted (record { kind = ACCEPTOR; number = here }) p.sends;
}

abbrev pub at_leader : PaxosCommitWorld → ℕ → ℕ → PaxosPlan → PaxosCommitWorld
at_leader w here r p = record {
  up = w.up;
  member = w.member;
  acceptor = w.acceptor;
  leader = put_round w.leader here r (leader_after (w.leader here r) p);
  sent = w.sent ++ paxos_posted (record { kind = LEADER; number = here }) p.sends;
}

-- ---- what lines do

-- what may happen in a run
pub data Happening : Type 0 where
  Votes : (here : ℕ) → (round : ℕ) → (aye : Bool) → Happening
  Leads : (here : ℕ) → (round : ℕ) → Happening
  Delivers : (from : Name) → (to : Name) → (number : ℕ) → Happening
  Shows : (here : ℕ) → (round : ℕ) → Happening
  Stops : (name : Name) → Happening
  Starts : (name : Name) → Happening

abbrev pub round_of : PaxosMsg → ℕ
round_of (msg.Ask r b) = r
round_of (msg.Accept r i b p) = r
round_of (msg.Promise r b pairs) = r
round_of (msg.Higher r b) = r
round_of (msg.Accepted r i b p) = r

-- what a message gives at the process that hears it
abbrev pub heard_plan : Group → PaxosCommitWorld → Name → Name → PaxosMsg → PaxosPlan
heard_plan g w from to m =
    if to.kind == MEMBER then member_row g (w.member to.number (round_of m)) from m
    else (if to.kind == ACCEPTOR then acceptor_row g (w.acceptor to.number (round_of m)) from m
    else leader_row g (w.leader to.number (round_of m)) from m)

-- a message comes; it may come again and again
abbrev pub message_heard : Group → PaxosCommitWorld → Name → Name → PaxosMsg → PaxosCommitWorld
message_heard g w from to m =
    if to.kind == MEMBER then at_member w to.number (round_of m) (member_row g (w.member to.number (round_of m)) from m)
    else (if to.kind == ACCEPTOR then at_acceptor w to.number (round_of m) (acceptor_row g (w.acceptor to.number (round_of m)) from m)
    else at_leader w to.number (round_of m) (leader_row g (w.leader to.number (round_of m)) from m))

abbrev pub paxos_delivered : Group → PaxosCommitWorld → Name → Name → Option PaxosMsg → PaxosCommitWorld
paxos_delivered g w from to None = w
paxos_delivered g w from to (Some m) = message_heard g w from to m

-- what is volatile at one number is forgotten, in every round
unfoldable pub forget : {S : Type 0} → (S → S) → (ℕ → ℕ → S) → ℕ → ℕ → ℕ → S
forget process_stopped f here = put f here (λ r. process_stopped (f here r))

abbrev pub process_stopped : PaxosCommitWorld → Name → PaxosCommitWorld
process_stopped w n = record {
  up = put_name w.up n false;
  member = if n.kind == MEMBER then forget stopped_member w.member n.number else w.member;
  acceptor = w.acceptor;
  leader = if n.kind == LEADER then forget stopped_leader w.leader n.number else w.leader;
  sent = w.sent;
}

abbrev pub process_started : PaxosCommitWorld → Name → PaxosCommitWorld
process_started w n = record { up = put_name w.up n true; member = w.member; acceptor = w.acceptor; leader = w.leader; sent = w.sent }

-- nothing happens at a process that is down, or that the run hasn't
abbrev pub paxos_happens : Group → PaxosCommitWorld → Happening → PaxosCommitWorld
paxos_happens g w (Votes i r aye) =
    if w.up (member i) && is_none (w.member i r).vote then at_member w i r (on_paxos_vote g i r aye) else w
paxos_happens g w (Leads l r) = if w.up (leader l) then at_leader w l r (on_lead g l (w.leader l r) r) else w
paxos_happens g w (Delivers from to k) = if w.up to then paxos_delivered g w from to (message_at w from to k) else w
paxos_happens g w (Shows i r) = w
paxos_happens g w (Stops n) = if w.up n then process_stopped w n else w
paxos_happens g w (Starts n) = if has_name g n then process_started w n else w

abbrev pub paxos_run : Group → PaxosCommitWorld → List Happening → PaxosCommitWorld
paxos_run g w [] = w
paxos_run g w (e ∷ es) = paxos_run g (paxos_happens g w e) es

-- the world after a whole schedule
abbrev pub paxos_world_after : Group → List Happening → PaxosCommitWorld
paxos_world_after g es = paxos_run g (first_paxos_world g) es

-- ---- answers

abbrev pub shown : Option Bool → PaxosAnswer
shown None = Undecided
shown (Some commit) = Decided commit

abbrev pub delivery_answer : Group → PaxosCommitWorld → Name → Name → Option PaxosMsg → PaxosAnswer
delivery_answer g w from to None = Refused NoMessage
delivery_answer g w from to (Some m) = Told (heard_plan g w from to m).note

-- what a line is answered, the first refusal that holds first
abbrev pub paxos_answer : Group → PaxosCommitWorld → Happening → PaxosAnswer
paxos_answer g w (Votes i r aye) =
    if w.up (member i) then (if is_none (w.member i r).vote then Told (on_paxos_vote g i r aye).note else Refused Voted)
    else Refused Down
paxos_answer g w (Leads l r) = if w.up (leader l) then Told (on_lead g l (w.leader l r) r).note else Refused Down
paxos_answer g w (Delivers from to k) = if w.up to then delivery_answer g w from to (message_at w from to k) else Refused Down
paxos_answer g w (Shows i r) = if w.up (member i) then shown (w.member i r).decision else Refused Down
paxos_answer g w (Stops n) = IsDown
paxos_answer g w (Starts n) = IsUp

abbrev pub paxos_answers : Group → PaxosCommitWorld → List Happening → List PaxosAnswer
paxos_answers g w [] = []
paxos_answers g w (e ∷ es) = paxos_answer g w e ∷ paxos_answers g (paxos_happens g w e) es

-- the answers to a whole schedule
abbrev pub answers_to : Group → List Happening → List PaxosAnswer
answers_to g es = paxos_answers g (first_paxos_world g) es

-- What a process of any kind keeps of all rounds (docs/RULES.md, Paxos Commit).
use Rattle.std.specs.Prelude.{◌≡◌, ◌⊎◌, ◌==◌, ℕ, Bool, List, None, IfSome, IfOk, OnOk, Result, if◌then◌else◌}
use Rattle.spl_edge.specs.Devices.{Image, DiskView, image_now}
use Rattle.spl_journal.specs.{Gate.LeavesSince, declared.form.JournalFault.JournalFault}
use Rattle.spl_acceptor.specs.{Held.acceptor_in, Keeping.{has_halted, ProcessKeeps}, Logs.JournalMakes, Processes.{Acceptor, VotingMember, Leader}}
use Rattle.spl_acceptor.specs.{Processes.{new_paxos_member, stopped_member, stopped_leader}, Records.{MakeAcceptor, MakeMember, MakeLeader}, Rows.PaxosPlan}
use Rattle.spl_acceptor.specs.{Rows.{member_row, acceptor_row, leader_row, member_after, acceptor_after, leader_after, round_carried_out}, Steps.IsStepped}
use Rattle.spl_acceptor.specs.{Worlds.{PaxosCommitWorld, round_of}, declared.{group.Group.Group, kind.TheConstants.{MEMBER, ACCEPTOR, LEADER}}}
use Rattle.spl_acceptor.specs.declared.{message.{Name.Name, PaxosMsg.PaxosMsg}, note.Stepped.Stepped}
use Rattle.spl_acceptor.specs.declared.record.PaxosRecord.{PaxosRecord}
use Rattle.spl_paxos.specs.{Leaders.leader_in, Members.member_in}
use Rattle.spl_paxos_run.specs.declared.process.Process.{Process}
use Rattle.spl_paxos_run.specs.declared.process.Process.TheVariants as process

pub data States : Type 0 where
  OfMember : (ℕ → VotingMember) → States
  OfAcceptor : (ℕ → Acceptor) → States
  OfLeader : (ℕ → Leader) → States

-- what the process of this name keeps in a world
abbrev pub states_in : PaxosCommitWorld → Name → States
states_in w n = if n.kind == MEMBER then OfMember (w.member n.number)
    else (if n.kind == ACCEPTOR then OfAcceptor (w.acceptor n.number) else OfLeader (w.leader n.number))

-- what a message gives there
abbrev pub heard_by : Group → States → Name → PaxosMsg → PaxosPlan
heard_by g (OfMember f) from m = member_row g (f (round_of m)) from m
heard_by g (OfAcceptor f) from m = acceptor_row g (f (round_of m)) from m
heard_by g (OfLeader f) from m = leader_row g (f (round_of m)) from m

-- what a plan leaves, and what a stop leaves
abbrev pub states_after : States → ℕ → PaxosPlan → States
states_after (OfMember f) r p = OfMember (round_carried_out member_after f r p)
states_after (OfAcceptor f) r p = OfAcceptor (round_carried_out acceptor_after f r p)
states_after (OfLeader f) r p = OfLeader (round_carried_out leader_after f r p)

abbrev pub states_stopped : States → States
states_stopped (OfMember f) = OfMember (λ r. stopped_member (f r))
states_stopped (OfAcceptor f) = OfAcceptor f
states_stopped (OfLeader f) = OfLeader (λ r. stopped_leader (f r))

-- these records of so many members make it, except what a stop forgets
abbrev pub MakeStates : ℕ → States → List PaxosRecord → Type 0
MakeStates n (OfMember f) xs = MakeMember n f xs
MakeStates n (OfAcceptor f) xs = MakeAcceptor n f xs
MakeStates n (OfLeader f) xs = MakeLeader n f xs

-- what a member keeps of a round; nothing of another process
abbrev pub member_state : States → ℕ → VotingMember
member_state (OfMember f) r = f r
member_state (OfAcceptor f) r = new_paxos_member
member_state (OfLeader f) r = new_paxos_member

abbrev pub kind_of : States → ℕ
kind_of (OfMember f) = MEMBER
kind_of (OfAcceptor f) = ACCEPTOR
kind_of (OfLeader f) = LEADER

-- ---- a process that is up

abbrev pub states_of : Process → States
states_of (process.Member m) = OfMember (member_in m.rounds)
states_of (process.Acceptor a) = OfAcceptor (acceptor_in a.rounds)
states_of (process.Leader l) = OfLeader (leader_in l.rounds)

abbrev pub is_process_halted : Process → Bool
is_process_halted (process.Member m) = has_halted m
is_process_halted (process.Acceptor a) = has_halted a
is_process_halted (process.Leader l) = has_halted l

abbrev pub ProcessStands : Process → Image → Type 0
ProcessStands (process.Member m) i = ProcessKeeps MakeMember member_in m i
ProcessStands (process.Acceptor a) i = ProcessKeeps MakeAcceptor acceptor_in a i
ProcessStands (process.Leader l) i = ProcessKeeps MakeLeader leader_in l i

-- the run that it is of, and its number there
abbrev pub run_and_number : Process → Group × ℕ
run_and_number (process.Member m) = (m.group, m.here)
run_and_number (process.Acceptor a) = (a.group, a.here)
run_and_number (process.Leader l) = (l.group, l.here)

-- it is of this run, and has this number there
abbrev pub IsOfRun : Group → ℕ → Process → Type 0
IsOfRun g here p = ((run_and_number p).0 ≡ g) × ((run_and_number p).1 ≡ here)

-- ---- a step

-- a process of any kind carries out a plan in a round
pub record ProcessDoes (n : ℕ) (old new : States) (here : ℕ) (p : PaxosPlan) (x y : DiskView) (result : Result Stepped JournalFault) : Type 0 where
  pub answer : IfOk result (λ s. IsStepped s p)
  pub states : OnOk result (new ≡ states_after old here p)
  pub any_moment : IfSome (image_now x) (λ i. LeavesSince x y
      (λ c. JournalMakes (MakeStates n old) c ⊎ JournalMakes (MakeStates n (states_after old here p)) c))
  pub kept : OnOk result (IfSome (image_now y) (λ i. JournalMakes (MakeStates n (states_after old here p)) i.bytes))
  pub quiet : p.change ≡ None → y ≡ x

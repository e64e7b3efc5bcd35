-- A process of a run, up or down (docs/RULES.md, Paxos Commit).
use Rattle.std.specs.Prelude.{◌≡◌, ◌⊎◌, true, false, Option, Some, None, IsSomeAnd, IfSome, IfOk, OnOk, Result}
use Rattle.spl_edge.specs.Devices.{Image, IsSettled, DiskView, image_now}
use Rattle.spl_journal.specs.{Gate.LeavesSince, declared.form.JournalFault.JournalFault}
use Rattle.spl_acceptor.specs.{Logs.JournalMakes, Rows.PaxosPlan, Steps.IsStepped, Worlds.PaxosCommitWorld, declared.{group.Group.Group, message.Name.Name}}
use Rattle.spl_acceptor.specs.declared.note.Stepped.{Stepped}
use Rattle.spl_paxos_run.specs.States.{MakeStates, states_in, states_stopped, states_of, is_process_halted, ProcessStands, IsOfRun}
use Rattle.spl_paxos_run.specs.declared.{process.Process.Process, seat.Seat.Seat}

-- a process is down, and its disk reports: what is in memory is forgotten, and the records of its disk make the rest
pub record IsDown (g : Group) (w : PaxosCommitWorld) (n : Name) (o : Option Image) : Type 0 where
  pub down : w.up n ≡ false
  pub forgotten : states_stopped (states_in w n) ≡ states_in w n
  pub disk : IsSomeAnd o (λ i. IsSettled i × JournalMakes (MakeStates g.members (states_in w n)) i.bytes)

-- a process is up, its disk reports, and it keeps what the world says of it
pub record IsProcessUp (g : Group) (w : PaxosCommitWorld) (n : Name) (p : Process) (o : Option Image) : Type 0 where
  pub up : w.up n ≡ true
  pub run : IsOfRun g n.number p
  pub going : is_process_halted p ≡ false
  pub states : states_of p ≡ states_in w n
  pub disk : IsSomeAnd o (ProcessStands p)

abbrev pub IsSoInWorld : Group → PaxosCommitWorld → Name → Option Process → Option Image → Type 0
IsSoInWorld g w n None o = IsDown g w n o
IsSoInWorld g w n (Some p) o = IsProcessUp g w n p o

-- a process and its disk are as the world says
abbrev pub SeatStands : Group → PaxosCommitWorld → Seat → Option Image → Type 0
SeatStands g w s o = IsSoInWorld g w s.name s.process o

-- A process that is up in one world carries out a plan, and is up in the next. A stop at any moment leaves records of what it
-- keeps in the one or in the other
pub record ProcessMoves (g : Group) (n : Name) (p : PaxosPlan) (w v : PaxosCommitWorld)
    (new : Process) (x y : DiskView) (result : Result Stepped JournalFault) : Type 0 where
  pub told : IfOk result (λ s. IsStepped s p)
  pub up : OnOk result (IsProcessUp g v n new (image_now y))
  pub any_moment : IfSome (image_now x) (λ i. LeavesSince x y (λ c.
      JournalMakes (MakeStates g.members (states_in w n)) c ⊎ JournalMakes (MakeStates g.members (states_in v n)) c))

-- a process and its disk are as some world says
abbrev pub IsProcessSeated : Seat → Option Image → Type 0
IsProcessSeated s o = (g : Group) × (w : PaxosCommitWorld) × SeatStands g w s o

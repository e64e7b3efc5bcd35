-- What a line does at its process, and at the disk of that process (docs/RULES.md, Paxos Commit).
use Rattle.std.specs.Prelude.{◌≡◌, ◌⊎◌, ◌≤◌, ℕ, Bool, true, false, [], ◌∷◌, ◌++◌, Option, IsSomeAnd, IfOk, OnOk, OnErr, IsErrOf, Result}
use Rattle.spl_edge.specs.{Devices.{Rose, Image, Picked, DiskView, image_now}, declared.{disk.Arming.TheVariants.Off, fill.Fill.TheVariants.Old}}
use Rattle.spl_journal.specs.declared.form.JournalFault.{JournalFault, TheVariants.{Disk, NotAJournal}}
use Rattle.spl_acceptor.specs.{Logs.JournalMakes, Worlds.{PaxosCommitWorld, Happening, Votes, Leads, Delivers, Shows, Stops, Starts, paxos_posted}}
use Rattle.spl_acceptor.specs.{Worlds.{paxos_happens, paxos_answer}, declared.{group.Group.Group, message.Name.Name}}
use Rattle.spl_paxos_run.specs.{Seats.SeatStands, States.{MakeStates, states_in}, declared.{seat.Seat.Seat, step.SeatStep.SeatStep}}

-- a line takes down a process that is up
abbrev pub takes_down : PaxosCommitWorld → Happening → Bool
takes_down w (Stops n) = w.up n
takes_down w (Votes i r aye) = false
takes_down w (Leads l r) = false
takes_down w (Delivers from to k) = false
takes_down w (Shows i r) = false
takes_down w (Starts n) = false

-- what a stop picks of the disk of a process that keeps this in a world: the bytes of the last sync, of a disk that isn't armed,
-- and their records make the durable part
pub record IsStopPick (g : Group) (w : PaxosCommitWorld) (n : Name) (p : Picked) : Type 0 where
  pub fill : p.fill ≡ Old
  pub arming : p.arming ≡ Off
  pub made : JournalMakes (MakeStates g.members (states_in w n)) p.image

-- one pick more
pub record PicksOne (g : Group) (w : PaxosCommitWorld) (n : Name) (x y : DiskView) : Type 0 where
  pub pick : Picked
  pub picks : y.picks ≡ x.picks ++ pick ∷ []
  pub is : IsStopPick g w n pick
  pub later : x.faults ≤ pick.faults
  pub counted : pick.faults ≤ y.faults

-- the disk of a process picks once where a line takes it down, and else not
abbrev pub ProcessPicks : Bool → Group → PaxosCommitWorld → Name → DiskView → DiskView → Type 0
ProcessPicks true g w n x y = PicksOne g w n x y
ProcessPicks false g w n x y = y.picks ≡ x.picks

-- the records of a disk make what a process keeps in one world or in the next
abbrev pub HoldsEither : Group → Name → PaxosCommitWorld → PaxosCommitWorld → Option Image → Type 0
HoldsEither g n w v o =
    IsSomeAnd o (λ i. JournalMakes (MakeStates g.members (states_in w n)) i.bytes ⊎ JournalMakes (MakeStates g.members (states_in v n)) i.bytes)

-- what a line gives at its process, as the world says: its answer, what it sends, and what the process and its disk are then
pub record SeatDoes (g : Group) (w : PaxosCommitWorld) (e : Happening) (n : Name)
    (new : Seat) (x y : DiskView) (result : Result SeatStep JournalFault) : Type 0 where
  pub told : IfOk result (λ s. s.answer ≡ paxos_answer g w e)
  pub sent : IfOk result (λ s. (paxos_happens g w e).sent ≡ w.sent ++ paxos_posted n s.sends)
  pub stands : OnOk result (SeatStands g (paxos_happens g w e) new (image_now y))
  pub picks : OnOk result (x.armed.arming ≡ Off → ProcessPicks (takes_down w e) g w n x y)
  pub fallen : OnErr result (HoldsEither g n w (paxos_happens g w e) (image_now y))
  pub unpicked : OnErr result (y.picks ≡ x.picks)

-- how a line leaves the disk of its process, whatever it reports, and why it failed
pub record LeavesDisk (x y : DiskView) (result : Result SeatStep JournalFault) : Type 0 where
  pub later : x.faults ≤ y.faults
  pub unarmed : x.armed.arming ≡ Off → y.armed.arming ≡ Off
  pub failed : IsErrOf result Disk → Rose x.faults y.faults
  pub sound : (at : ℕ) → IsErrOf result (NotAJournal at) → ⊥

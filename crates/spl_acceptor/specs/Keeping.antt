-- A process of one kind over its disk (docs/RULES.md, Paxos Commit).
use Rattle.std.specs.Prelude.{◌≡◌, ℕ, Bool, ◌||◌, List}
use Rattle.spl_edge.specs.Devices.{Image}
use Rattle.spl_acceptor.specs.{Logs.{JournalMakes, LogStands, is_log_halted as log_halted}, declared.process.PaxosProcess.PaxosProcess}
use Rattle.spl_acceptor.specs.declared.record.PaxosRecord.{PaxosRecord}

-- a call failed, so that the disk has to be read again
abbrev pub has_halted : {K : Type 0} → PaxosProcess K → Bool
has_halted p = p.halted || log_halted p.log

-- it has kept its number and its run
pub record IsSameProcess {K : Type 0} (old new : PaxosProcess K) : Type 0 where
  pub here : new.here ≡ old.here
  pub group : new.group ≡ old.group

-- the disk is as the process left it, and its records make what the process keeps durably
pub record ProcessKeeps {K S : Type 0} (Make : ℕ → (ℕ → S) → List PaxosRecord → Type 0) (kept : K → ℕ → S) (p : PaxosProcess K) (i : Image) : Type 0 where
  pub log : LogStands p.log i
  pub made : JournalMakes (Make p.group.members (kept p.rounds)) i.bytes

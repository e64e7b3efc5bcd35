-- A step of a process over its disk (docs/RULES.md, Paxos Commit).
use Rattle.std.specs.Prelude.{◌≡◌, ◌⊎◌, ℕ, List, None, IfSome, IfOk, OnOk, IsTrue, Result}
use Rattle.spl_edge.specs.Devices.{DiskView, image_now}
use Rattle.spl_journal.specs.{Gate.LeavesSince, declared.form.JournalFault.JournalFault}
use Rattle.spl_acceptor.specs.{Logs.JournalMakes, Records.{round_kept, is_own}, Rows.{PaxosPlan, round_carried_out}, declared.note.Stepped.Stepped}
use Rattle.spl_acceptor.specs.declared.record.PaxosRecord.{PaxosRecord}

-- it reports the note and the messages of a plan
pub record IsStepped (s : Stepped) (p : PaxosPlan) : Type 0 where
  pub note : s.note ≡ p.note
  pub sends : s.sends ≡ p.sends

-- the record of a plan is of this round, and of one of so many members
abbrev pub WritesIn : ℕ → ℕ → PaxosPlan → Type 0
WritesIn here n p = IfSome p.change (λ x. (round_kept x ≡ here) × IsTrue (is_own n x))

-- A process carries out a plan in a round. A stop at any moment leaves a journal whose records make what it kept before, or
-- what it keeps after the plan; at Ok the disk has the latter. Without a record no call of the disk is made.
pub record CarriesOut {S : Type 0} (Made : (ℕ → S) → List PaxosRecord → Type 0) (after : S → PaxosPlan → S) (old new : ℕ → S) (here : ℕ) (p : PaxosPlan)
    (x y : DiskView) (result : Result Stepped JournalFault) : Type 0 where
  pub answer : IfOk result (λ s. IsStepped s p)
  pub rounds : OnOk result ((r : ℕ) → new r ≡ round_carried_out after old here p r)
  pub any_moment : IfSome (image_now x) (λ i. LeavesSince x y (λ c. JournalMakes (Made old) c ⊎ JournalMakes (Made (round_carried_out after old here p)) c))
  pub kept : OnOk result (IfSome (image_now y) (λ i. JournalMakes (Made (round_carried_out after old here p)) i.bytes))
  pub quiet : p.change ≡ None → y ≡ x

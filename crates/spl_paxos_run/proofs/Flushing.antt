-- A whole run, once what waited was handed over.
use Rattle.std.{specs.{Prelude.IsErrOf, Io.KnownBytes.Appends}, proofs.Common.{◌≡◌, ◌≤◌, inl, inr, ℕ, List, [], ◌∷◌, Option, Result, Ok, Err, sym, subst}}
use Rattle.std.proofs.Common.{refl, append-nil, arith}
use Rattle.spl_edge.specs.{Devices.{AppendsPart, Rose, PairView, SinkView}, declared.fault.DeviceError.DeviceError}
use Rattle.spl_edge.specs.declared.fault.DeviceError.TheVariants as device
use Rattle.spl_lines.{specs.Due.IsDuePart, proofs.Dues.{due_flushed, due_whole, part_flushed}}
use Rattle.spl_acceptor.specs.{Worlds.first_paxos_world, declared.{group.Group.Group, message.Name.Name}}
use Rattle.spl_paxos.specs.{Lines.happening_of, declared.line.PaxosLine.PaxosLine}
use Rattle.spl_paxos_run.specs.{Wholes.HasFailedAt, Run.{PaxosDevices, PaxosEnded, PaxosRunEnds, Left, PaxosOutcome, PaxosRun, AnswersWritten, paxos_devices}}
use Rattle.spl_paxos_run.{specs.{Schedule.{happenings, outputs}, Stages.{ReachesPaxosEnd, PaxosDue, paxos_fault}}, proofs.Standing.left_fallen}
use Rattle.spl_paxos_run.specs.declared.fault.PaxosFault.TheVariants as fault

-- ---- what waited is handed over

due_prefix : (e : PaxosEnded) (a b : Option (List ℕ)) (waiting all : List ℕ) → PaxosDue e a b waiting all → IsDuePart a b waiting all
due_prefix (Ok e) a b waiting all due = due_whole a b waiting all due
due_prefix (Err (fault.BadLine n)) a b waiting all due = due_whole a b waiting all due
due_prefix (Err (fault.TooMany which)) a b waiting all due = due_whole a b waiting all due
due_prefix (Err (fault.Disk n)) a b waiting all due = due_whole a b waiting all due
due_prefix (Err fault.Write) a b waiting all due = due
due_prefix (Err fault.NoMemory) a b waiting all due = due

all_of_it : (b c : Option (List ℕ)) (waiting : List ℕ) → Appends b c waiting → AppendsPart b c waiting
all_of_it b c waiting wrote = (waiting, [], sym (append-nil waiting), wrote)

written_all : (e : PaxosEnded) (a b c : Option (List ℕ)) (waiting all : List ℕ) → PaxosDue e a b waiting all → Appends b c waiting → AnswersWritten e a c all
written_all (Ok e) a b c waiting all due wrote = due_flushed a b c waiting all due wrote
written_all (Err (fault.BadLine n)) a b c waiting all due wrote = due_flushed a b c waiting all due wrote
written_all (Err (fault.TooMany which)) a b c waiting all due wrote = due_flushed a b c waiting all due wrote
written_all (Err (fault.Disk n)) a b c waiting all due wrote = due_flushed a b c waiting all due wrote
written_all (Err fault.Write) a b c waiting all due wrote = part_flushed a b c waiting all due (all_of_it b c waiting wrote)
written_all (Err fault.NoMemory) a b c waiting all due wrote = part_flushed a b c waiting all due (all_of_it b c waiting wrote)

-- ---- what the disks hold, where the sink or memory failed after the lines

module _ (g : Group) (before : List (ℕ × PaxosLine)) (start now : List PairView) where
  left_short : (e : PaxosEnded) (next : List (ℕ × PaxosLine)) → Left e g before next start now → Left (Err fault.NoMemory) g before next start now
  left_short (Ok e) [] left = left
  left_short (Ok e) (t ∷ ts) left = left
  left_short (Err (fault.BadLine n)) [] left = left
  left_short (Err (fault.BadLine n)) (t ∷ ts) left = left
  left_short (Err (fault.TooMany which)) [] left = left
  left_short (Err (fault.TooMany which)) (t ∷ ts) left = left_fallen g (happenings before) (happening_of t.1) start now left
  left_short (Err (fault.Disk n)) [] left = left
  left_short (Err (fault.Disk n)) (t ∷ ts) left = left
  left_short (Err fault.Write) [] left = left
  left_short (Err fault.Write) (t ∷ ts) left = left
  left_short (Err fault.NoMemory) next left = left

  left_unwritten : (next : List (ℕ × PaxosLine)) → Left (Err fault.NoMemory) g before next start now → Left (Err fault.Write) g before next start now
  left_unwritten [] left = left
  left_unwritten (t ∷ ts) left = left

-- a call of the sink that failed
abbrev pub sink_failed : DeviceError → Result (Unit {0}) DeviceError
sink_failed d = Err d

-- ---- the end

module _ (g : Group) (lines : List (List ℕ)) (wait : List ℕ) (x : PaxosDevices) (old new : SinkView) (disks : List PairView)
    (onward : old.faults ≤ new.faults) where
  abbrev y : PaxosDevices
  y = paxos_devices old disks

  abbrev z : PaxosDevices
  z = paxos_devices new disks

  ends_same : (e : PaxosEnded) (read : List (List ℕ)) (before next : List (ℕ × PaxosLine)) → PaxosRunEnds e g lines read before next x y
      → PaxosRunEnds e g lines read before next x z
  ends_same (Ok e) read before next h = h
  ends_same (Err (fault.BadLine n)) read before next h = h
  ends_same (Err (fault.TooMany which)) read before next h = h
  ends_same (Err (fault.Disk n)) read before next h = h
  ends_same (Err fault.Write) read before next h = (let rose = h.0 in omega (arith, rose, onward), h.1)
  ends_same (Err fault.NoMemory) read before next h = tt

  -- a failed write takes the place of how it ended
  ends_unwritten : (e : PaxosEnded) (read : List (List ℕ)) (before next : List (ℕ × PaxosLine)) → (IsErrOf e fault.NoMemory → ⊥)
      → Rose x.sink.faults new.faults → PaxosRunEnds e g lines read before next x y → PaxosRunEnds (Err fault.Write) g lines read before next x z
  ends_unwritten (Ok e) read before next room rose h = (rose, inl h.1)
  ends_unwritten (Err (fault.BadLine n)) read before next room rose h = (rose, inl h.1)
  ends_unwritten (Err (fault.TooMany which)) read before next room rose h = (rose, inr (h.0, h.1, inl (which, h.2)))
  ends_unwritten (Err (fault.Disk n)) read before next room rose (t, is, same, failed) =
      (rose, inr (t, is, inr (subst (λ (m : Name). HasFailedAt g m x.disks disks) same failed)))
  ends_unwritten (Err fault.Write) read before next room rose h = (rose, h.1)
  ends_unwritten (Err fault.NoMemory) read before next room rose h = absurd (room refl)

  module _ (e : PaxosEnded) (h : ReachesPaxosEnd e g lines wait x y) where
    run_as : (f : PaxosEnded) → PaxosRunEnds f g lines h.read h.before h.next x z
        → AnswersWritten f x.sink.written new.written (outputs g (first_paxos_world g) h.before) → Left f g h.before h.next x.disks disks
        → PaxosRun f g lines x z
    run_as f ends written left = record {
      read = h.read;
      rest = h.rest;
      place = h.place;
      allowed = h.allowed;
      before = h.before;
      next = h.next;
      all = h.all;
      within = h.leaves.within;
      ends = ends;
      written = written;
      left = left;
    }

    pub ran_whole : Appends old.written new.written wait → PaxosOutcome e g lines x z
    ran_whole wrote = record {
      done = inr (run_as e (ends_same e h.read h.before h.next h.ends)
          (written_all e x.sink.written old.written new.written wait (outputs g (first_paxos_world g) h.before) h.leaves.due wrote) h.leaves.left);
      spared = h.leaves.spared;
    }

    module _ (wrote : AppendsPart old.written new.written wait) where
      abbrev part : AppendsPart x.sink.written new.written (outputs g (first_paxos_world g) h.before)
      part = part_flushed x.sink.written old.written new.written wait (outputs g (first_paxos_world g) h.before)
          (due_prefix e x.sink.written old.written wait (outputs g (first_paxos_world g) h.before) h.leaves.due) wrote

      abbrev left : Left (Err fault.NoMemory) g h.before h.next x.disks disks
      left = left_short g h.before x.disks disks e h.next h.leaves.left

      pub ran_short : PaxosOutcome (Err fault.NoMemory) g lines x z
      ran_short = record { done = inr (run_as (Err fault.NoMemory) tt part left); spared = h.leaves.spared }

      pub ran_unwritten : (d : DeviceError) → (IsErrOf e fault.NoMemory → ⊥) → (d ≡ device.Failed → Rose old.faults new.faults)
          → x.sink.faults ≤ old.faults → PaxosOutcome (Err (paxos_fault d)) g lines x z
      ran_unwritten device.Failed room rose later = record {
        done = inr (run_as (Err fault.Write) (ends_unwritten e h.read h.before h.next room (let r = rose refl in omega (arith, r, later)) h.ends) part
            (left_unwritten g h.before x.disks disks h.next left));
        spared = h.leaves.spared;
      }
      ran_unwritten device.NoMemory room rose later = ran_short

-- Where a run stopped, while some of the answers wait.
use Rattle.std.proofs.Common.{◌≡◌, ◌∙◌, ◌⊎◌, ◌<◌, inl, inr, ℕ, List, [], ◌∷◌, ◌++◌, Option, Err, sym, ap, subst, refl, append-nil}
use Rattle.spl_edge.specs.{Devices.{Rose, PairView}, declared.fault.DeviceError.DeviceError}
use Rattle.spl_edge.specs.declared.fault.DeviceError.TheVariants as device
use Rattle.spl_lines.{specs.{Due.{IsOutputDue, IsDuePart}, Tasks.printed}, proofs.Dues.{due_due, due_part, due_then, due_whole}}
use Rattle.spl_acceptor.specs.{Worlds.{Happening, paxos_answer, first_paxos_world, paxos_world_after}, declared.answer.PaxosAnswer.PaxosAnswer}
use Rattle.spl_acceptor.specs.declared.{group.Group.Group, message.Name.Name}
use Rattle.spl_paxos.specs.{Lines.happening_of, Texts.paxos_answer_text, declared.line.PaxosLine.PaxosLine}
use Rattle.spl_paxos_run.specs.{Faults.IsOfWorld, Places.{EachDisk, process_count}, Wholes.{AreSpared, ChangesFirst, HasFailedAt, HasFallen}}
use Rattle.spl_paxos_run.specs.{Wholes.{ProcessHasPicked, WorldStands, group_of}, Limits.{IsOverPaxosLimit, AreLinesWithin}, Run.PaxosDevices}
use Rattle.spl_paxos_run.specs.{Run.paxos_devices, Schedule.{IsPaxosLine, happenings, outputs, paxos_line_said, with_number}, Stages.{AreLinesDone, PaxosDue}}
use Rattle.spl_paxos_run.specs.{Stages.{PaxosEndsAt, RunFailsAt, RunFailsBy, paxos_fault}, declared.{fault.PaxosFault.PaxosFault, run.Run.Run}}
use Rattle.spl_paxos_run.{specs.declared.world.PaxosWorld.PaxosWorld, proofs.{Lines.{happenings_more, outputs_more}, Standing.{are_left, left_after}}}
use Rattle.spl_paxos_run.proofs.Standing.{spared_more}
use Rattle.spl_paxos_run.specs.declared.fault.PaxosFault.TheVariants as fault
use Rattle.spl_paxos_safety.specs.Written.{process_of}

-- the processes and their disks after these lines, whatever was written
pub record AreAfter (g : Group) (ls : List (ℕ × PaxosLine)) (world : PaxosWorld) (start now : List PairView) : Type 0 where
  pub group : group_of world ≡ g
  pub stands : WorldStands (happenings ls) world now
  pub picked : EachDisk (ProcessHasPicked g (happenings ls)) g start now
  pub spared : AreSpared g start now
  pub within : AreLinesWithin ls

-- a line that the processes carried out, after these
pub stepped : (g : Group) (ls : List (ℕ × PaxosLine)) (t : ℕ × PaxosLine) (run : Run) (x y : PaxosDevices) → AreLinesDone g ls run x y → (v : PaxosWorld)
    → v ≡ run.world → (w : PaxosWorld) → group_of w ≡ group_of v → (now : List PairView)
    → ((es : List Happening) → WorldStands es v y.disks → WorldStands (es ++ happening_of t.1 ∷ []) w now)
    → ((es : List Happening) (start : List PairView) → WorldStands es v y.disks → EachDisk (ProcessHasPicked (group_of v) es) (group_of v) start y.disks
    → EachDisk (ProcessHasPicked (group_of v) (es ++ happening_of t.1 ∷ [])) (group_of v) start now)
    → (k : ℕ) × (k < process_count (group_of v)) × ChangesFirst k y.disks now → AreLinesWithin (ls ++ t ∷ []) → AreAfter g (ls ++ t ∷ []) w x.disks now
stepped g ls t run x y h v same w kept now stands picked changes within =
    let es = happenings ls in
    let group : group_of v ≡ g = ap group_of same ∙ h.group in
    let before = subst (λ (u : PaxosWorld). WorldStands es u y.disks) (sym same) h.stands in
    let had = subst (λ (k : Group). EachDisk (ProcessHasPicked k es) k x.disks y.disks) (sym group) h.picked in
    record {
      group = kept ∙ group;
      stands = subst (λ (fs : List Happening). WorldStands fs w now) (sym (happenings_more ls t)) (stands es before);
      picked = subst (λ (fs : List Happening). EachDisk (ProcessHasPicked g fs) g x.disks now) (sym (happenings_more ls t))
          (subst (λ (k : Group). EachDisk (ProcessHasPicked k (es ++ happening_of t.1 ∷ [])) k x.disks now) group (picked es x.disks before had));
      spared = spared_more g x.disks y.disks now h.spared (subst (λ (k : Group). (i : ℕ) × (i < process_count k) × ChangesFirst i y.disks now) group changes);
      within = within;
    }

-- ---- after lines that ran

module _ (g : Group) (ls : List (ℕ × PaxosLine)) (world : PaxosWorld) (x y : PaxosDevices) (h : AreAfter g ls world x.disks y.disks) (waiting : List ℕ) where
  stops_after : (f : PaxosFault) → PaxosDue (Err f) x.sink.written y.sink.written waiting (outputs g (first_paxos_world g) ls) → PaxosEndsAt f g ls [] x y
      → RunFailsAt f g ls waiting x y
  stops_after f due why = record {
    before = ls;
    next = [];
    all = sym (append-nil ls);
    leaves = record {
      within = h.within;
      left = left_after (Err f) g ls x.disks y.disks (are_left g (happenings ls) x.disks y.disks world h.group h.stands h.picked);
      spared = h.spared;
      due = due;
    };
    why = why;
  }

  pub stops_memory : IsDuePart x.sink.written y.sink.written waiting (outputs g (first_paxos_world g) ls) → RunFailsAt fault.NoMemory g ls waiting x y
  stops_memory part = stops_after fault.NoMemory part tt

  pub stops_bad : (n : ℕ) → IsOutputDue x.sink.written y.sink.written waiting (outputs g (first_paxos_world g) ls)
      → RunFailsAt (fault.BadLine n) g ls waiting x y
  stops_bad n due = stops_after (fault.BadLine n) due refl

  pub stops_sink : (d : DeviceError) → (d ≡ device.Failed → Rose x.sink.faults y.sink.faults)
      → IsDuePart x.sink.written y.sink.written waiting (outputs g (first_paxos_world g) ls) → RunFailsAt (paxos_fault d) g ls waiting x y
  stops_sink device.Failed rose part = stops_after fault.Write part (refl, rose refl)
  stops_sink device.NoMemory rose part = stops_memory part

-- ---- in the next line

module _ (g : Group) (ls : List (ℕ × PaxosLine)) (run : Run) (x y : PaxosDevices) (h : AreLinesDone g ls run x y) where
  pub is_after : AreAfter g ls run.world x.disks y.disks
  is_after = record { group = h.group; stands = h.stands; picked = h.picked; spared = h.spared; within = h.within }

  pub stops_done : RunFailsAt fault.NoMemory g ls run.output x y
  stops_done =
      stops_memory g ls run.world x y is_after run.output (due_whole x.sink.written y.sink.written run.output (outputs g (first_paxos_world g) ls) h.due)

  pub stops_unread : (n : ℕ) → RunFailsAt (fault.BadLine n) g ls run.output x y
  stops_unread n = stops_bad g ls run.world x y is_after run.output n h.due

  -- it could not be read
  pub stops_unread_by : (number : ℕ) (line : List ℕ) (f : PaxosFault) → (f ≡ fault.NoMemory) ⊎ ((f ≡ fault.BadLine number) × (IsPaxosLine g line → ⊥))
      → RunFailsBy f g ls number line run.output x y
  stops_unread_by number line f (inl is) = subst (λ (e : PaxosFault). RunFailsBy e g ls number line run.output x y) (sym is) (inl stops_done)
  stops_unread_by number line f (inr (is, bad)) =
      subst (λ (e : PaxosFault). RunFailsBy e g ls number line run.output x y) (sym is) (refl, bad, stops_unread number)

  module _ (t : ℕ × PaxosLine) where
    -- it passes a limit
    pub stops_over : (which : ℕ) → IsOverPaxosLimit (ls ++ t ∷ []) which → RunFailsAt (fault.TooMany which) g (ls ++ t ∷ []) run.output x y
    stops_over which over = record {
      before = ls;
      next = t ∷ [];
      all = refl;
      leaves = record {
        within = h.within;
        left = are_left g (happenings ls) x.disks y.disks run.world h.group h.stands h.picked;
        spared = h.spared;
        due = h.due;
      };
      why = (t, refl, over);
    }

    -- it failed
    module _ (disks : List PairView) (fallen : EachDisk (HasFallen g (happenings ls) (happening_of t.1)) g x.disks disks)
        (spared : AreSpared g x.disks disks) where
      pub stops_fallen : (f : PaxosFault) → IsOfWorld f
          → ((n : Name) → f ≡ fault.Disk n → (n ≡ process_of (happening_of t.1)) × HasFailedAt g n x.disks disks)
          → RunFailsAt f g (ls ++ t ∷ []) run.output x (paxos_devices y.sink disks)
      stops_fallen (fault.BadLine n) is failed = absurd is
      stops_fallen (fault.TooMany which) is failed = absurd is
      stops_fallen (fault.Disk n) is failed = record {
        before = ls;
        next = t ∷ [];
        all = refl;
        leaves = record { within = h.within; left = fallen; spared = spared; due = h.due };
        why = (t, refl, (failed n refl).0, (failed n refl).1);
      }
      stops_fallen fault.Write is failed = absurd is
      stops_fallen fault.NoMemory is failed = record {
        before = ls;
        next = t ∷ [];
        all = refl;
        leaves = record {
          within =
              h.within;
          left = fallen;
          spared = spared;
          due = due_whole x.sink.written y.sink.written run.output (outputs g (first_paxos_world g) ls) h.due;
        };
        why = tt;
      }

-- ---- it was good

module _ (g : Group) (ls : List (ℕ × PaxosLine)) (number : ℕ) (line waiting : List ℕ) (x y : PaxosDevices) (good : IsPaxosLine g line) where
  pub stops_ran : (f : PaxosFault) → ((n : ℕ) → f ≡ fault.BadLine n → ⊥) → RunFailsAt f g (ls ++ with_number number (paxos_line_said line) []) waiting x y
      → RunFailsBy f g ls number line waiting x y
  stops_ran (fault.BadLine n) other stops = absurd (other n refl)
  stops_ran (fault.TooMany which) other stops = inr (good, stops)
  stops_ran (fault.Disk n) other stops = inr (good, stops)
  stops_ran fault.Write other stops = inr (good, stops)
  stops_ran fault.NoMemory other stops = inr (good, stops)

-- ---- its answer

-- the text of an answer in a list that was emptied
pub spelled_as : (a : PaxosAnswer) (empty new text : List ℕ) → empty ≡ [] → new ≡ empty ++ paxos_answer_text a → text ≡ new → text ≡ paxos_answer_text a
spelled_as a empty new text none is same = same ∙ is ∙ ap (λ (l : List ℕ). l ++ paxos_answer_text a) none

module _ (g : Group) (ls : List (ℕ × PaxosLine)) (t : ℕ × PaxosLine) (s o : Option (List ℕ)) (waiting : List ℕ)
    (due : IsOutputDue s o waiting (outputs g (first_paxos_world g) ls)) where
  -- it isn't there yet
  pub due_unanswered : IsDuePart s o waiting (outputs g (first_paxos_world g) (ls ++ t ∷ []))
  due_unanswered =
      subst (IsDuePart s o waiting) (sym (outputs_more g (first_paxos_world g) ls t)) (due_part s o waiting (outputs g (first_paxos_world g) ls) _ due)

  module _ (a : PaxosAnswer) (right : a ≡ paxos_answer g (paxos_world_after g (happenings ls)) (happening_of t.1)) (text : List ℕ)
      (spelled : text ≡ paxos_answer_text a) where
    all_are : outputs g (first_paxos_world g) ls ++ printed t.0 text ≡ outputs g (first_paxos_world g) (ls ++ t ∷ [])
    all_are =
        ap (λ (bytes : List ℕ). outputs g (first_paxos_world g) ls ++ printed t.0 bytes) (spelled ∙ ap paxos_answer_text right)
        ∙ sym (outputs_more g (first_paxos_world g) ls t)

    pub due_answer : (n : Option (List ℕ)) (later : List ℕ) → IsOutputDue o n later (waiting ++ printed t.0 text)
        → IsOutputDue s n later (outputs g (first_paxos_world g) (ls ++ t ∷ []))
    due_answer n later put = subst (IsOutputDue s n later) all_are (due_due s o n waiting later (outputs g (first_paxos_world g) ls) (printed t.0 text) due put)

    pub part_answer : (n : Option (List ℕ)) (later : List ℕ) → IsDuePart o n later (waiting ++ printed t.0 text)
        → IsDuePart s n later (outputs g (first_paxos_world g) (ls ++ t ∷ []))
    part_answer n later put = subst (IsDuePart s n later) all_are (due_then s o n waiting later (outputs g (first_paxos_world g) ls) (printed t.0 text) due put)

-- A line at the process of its place.
use Rattle.std.{specs.Prelude.{IsTrue, IfOk, Result}, proofs.Common.{◌≡◌, ◌⊎◌, inl, inr, ℕ, ◌<◌, List, [], ◌∷◌, ◌++◌, length, Some, Ok, Err, slice_get}}
use Rattle.std.proofs.Common.{slice_set, refl, sym, ◌∙◌, ap, subst, arith}
use Rattle.spl_edge.specs.{Devices.{DiskView, bench, pair_view, image_now}, declared.bench.Pair.Pair}
use Rattle.spl_journal.specs.declared.form.JournalFault.{JournalFault, TheVariants.{Disk as JDisk, NotAJournal, NoMemory as JNoMemory}}
use Rattle.spl_acceptor.specs.Worlds.{PaxosCommitWorld, Happening, SentPaxosMessage, has_name, paxos_posted, paxos_happens, paxos_world_after}
use Rattle.spl_acceptor.specs.declared.{group.Group.Group, message.{Name.Name, PaxosMsg.PaxosMsg}}
use Rattle.spl_paxos_safety.specs.Written.{process_of}
use Rattle.spl_paxos_run.specs.{Places.{process_count, process_place, name_at}, Posts.HoldsSent, Seats.SeatStands, Steps.{SeatDoes, LeavesDisk}}
use Rattle.spl_paxos_run.specs.{Wholes.{AreSeated, StepsAt}, declared.{fault.PaxosFault.{PaxosFault, TheVariants.{Disk, NoMemory}}, posts.Posts.Posts}}
use Rattle.spl_paxos_run.{specs.declared.{seat.Seat.Seat, step.SeatStep.SeatStep}, proofs.Benches.{bench_here, bench_length, set_here, set_else, set_length}}
use Rattle.spl_paxos_run.proofs.{Lifting.after_more, Placing.{name_place, place_below}}

module _ {D : Type 0} (view : D → DiskView) (g : Group) (es : List Happening) (e : Happening) (k : ℕ) (seats : List Seat) (ps : List (Pair D))
    (seated : AreSeated g (paxos_world_after g es) seats (bench view ps))
    (own : IsTrue (has_name g (process_of e))) (place : k ≡ process_place g (process_of e)) where
  pub k_seats : k < length seats
  k_seats = let low : process_place g (process_of e) < process_count g = place_below g (process_of e) own in omega (arith, place, low, seated.as_many)

  pub k_pairs : k < length ps
  k_pairs = let low : process_place g (process_of e) < process_count g = place_below g (process_of e) own in
      omega (arith, place, low, seated.room, bench_length view ps)

  module _ (s : Seat) (p : Pair D) (at : slice_get seats k ≡ Some s) (there : slice_get ps k ≡ Some p) where
    -- the process there is that of the line
    pub named : s.name ≡ process_of e
    named = seated.names k s at ∙ ap (name_at g) place ∙ name_place g (process_of e) own

    pub stands : SeatStands g (paxos_world_after g es) s (image_now (view p.first))
    stands = seated.each k s (pair_view view p) at (bench_here view ps k p there)

    pub steps_at : (t : Seat) (q : Pair D) (result : Result SeatStep JournalFault) → t.name ≡ s.name
        → SeatDoes g (paxos_world_after g es) e s.name t (view p.first) (view q.first) result → LeavesDisk (view p.first) (view q.first) result
        → StepsAt g es e k seats (slice_set seats k t) (bench view ps) (bench view (slice_set ps k q)) result
    steps_at t q result name does leaves = record {
      seat = t;
      pair = pair_view view p;
      later = pair_view view q;
      there = set_here seats k t k_seats;
      before = bench_here view ps k p there;
      after = bench_here view (slice_set ps k q) k q (set_here ps k q k_pairs);
      name = name ∙ named;
      does = subst (λ (n : Name). SeatDoes g (paxos_world_after g es) e n t (view p.first) (view q.first) result) named does;
      leaves = leaves;
      as_many = set_length seats k t;
      others = λ i off. set_else seats k i t off;
    }

-- ---- a line of a world

fault_cases : (f : JournalFault) → (f ≡ JDisk) ⊎ (f ≡ JDisk → ⊥)
fault_cases JDisk = inl refl
fault_cases (NotAJournal at) = inr (λ e. cc)
fault_cases JNoMemory = inr (λ e. cc)

-- a fault that names a disk is one of a disk, that of the line's process
pub disk_fault : (f : JournalFault) (name n : Name) (got : PaxosFault) → (f ≡ JDisk → got ≡ Disk name) → ((f ≡ JDisk → ⊥) → got ≡ NoMemory) → got ≡ Disk n
    → (f ≡ JDisk) × (n ≡ name)
disk_fault f name n got disk other is = by (fault_cases f)
  where
    by : (f ≡ JDisk) ⊎ (f ≡ JDisk → ⊥) → (f ≡ JDisk) × (n ≡ name)
    by (inl d) = (d, (let same : Disk name ≡ Disk n = sym (disk d) ∙ is in let e : name ≡ n = cc in sym e))
    by (inr o) = (let same : NoMemory ≡ Disk n = sym (other o) ∙ is in absurd cc)

pub ok_of : {A E : Type 0} (r : Result A E) (P : A → Type 0) (a : A) → r ≡ Ok a → IfOk r P → P a
ok_of (Ok b) P a is h = let same : b ≡ a = cc in subst P same h
ok_of (Err f) P a is h = absurd cc

-- the messages after a line
pub sent_after : (g : Group) (es : List Happening) (e : Happening) (old new : Posts) (sends : List (Name × PaxosMsg)) (n : Name) → n ≡ process_of e
    → HoldsSent old (paxos_world_after g es).sent → ((ss : List SentPaxosMessage) → HoldsSent old ss → HoldsSent new (ss ++ paxos_posted n sends))
    → (paxos_happens g (paxos_world_after g es) e).sent ≡ (paxos_world_after g es).sent ++ paxos_posted (process_of e) sends
    → HoldsSent new (paxos_world_after g (es ++ e ∷ [])).sent
sent_after g es e old new sends n name holds more is =
    subst (λ (ss : List SentPaxosMessage). HoldsSent new ss)
    (sym (ap (λ (w : PaxosCommitWorld). w.sent) (after_more g es e) ∙ is
    ∙ ap (λ (m : Name). (paxos_world_after g es).sent ++ paxos_posted m sends) (sym name))) (more (paxos_world_after g es).sent holds)

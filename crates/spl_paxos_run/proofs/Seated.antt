-- All processes of a run and their disks, after a line at one of them.
use Rattle.std.{specs.Prelude.{IsTrue, IsSomeAnd, OnOk, OnErr, Result, slice_get}, proofs.Common.{◌≡◌, ◌≢◌, ◌⊎◌, inl, inr, ℕ, zero, suc, ◌<◌, ◌≤◌, Bool}}
use Rattle.std.proofs.Common.{true, false, ◌&&◌, List, [], ◌∷◌, ◌++◌, length, Option, Some, None, Ok, Err, refl, sym, ◌∙◌, ap, subst, arith}
use Rattle.spl_agree.proofs.Tests.{bool_cases, eqb_same}
use Rattle.spl_edge.specs.{Devices.{Image, Picked, DiskView, PairView, image_now}, declared.disk.Arming.TheVariants.Off}
use Rattle.spl_journal.specs.declared.form.JournalFault.{JournalFault, TheVariants.Disk}
use Rattle.spl_acceptor.specs.{Logs.JournalMakes, Worlds.{PaxosCommitWorld, Happening, has_name, same_name, first_paxos_world, paxos_happens}}
use Rattle.spl_acceptor.specs.{Worlds.paxos_world_after, declared.{group.Group.Group, message.Name.Name}}
use Rattle.spl_paxos_safety.{specs.Written.process_of, proofs.AcceptorRows.same_number}
use Rattle.spl_paxos_run.specs.{Places.{process_count, process_place, name_at, EachDisk}, Seats.{IsSoInWorld, SeatStands}, States.{States, MakeStates}}
use Rattle.spl_paxos_run.specs.{States.states_in, Steps.{takes_down, ProcessPicks, HoldsEither, SeatDoes}, Wholes.{AreSeated, stops_in, ArePicks}}
use Rattle.spl_paxos_run.specs.{Wholes.{ProcessHasPicked, HasFallen, HasFailedAt, ChangesFirst, StepsAt}, declared.{process.Process.Process, seat.Seat.Seat}}
use Rattle.spl_paxos_run.{specs.declared.step.SeatStep.SeatStep, proofs.Lifting.{same_item, get_below, after_more, picks_none, picks_one}}
use Rattle.spl_paxos_run.proofs.{Others.{others_as_before, stays_so}, Placing.{name_place, named_at, other_names}, Seating.process_makes}
use Rattle.spl_node.specs.Benches.{last_count}

pub get_at : {A : Type 0} (xs : List A) (k : ℕ) → k < length xs → (x : A) × (slice_get xs k ≡ Some x)
get_at [] k below = absurd (omega (arith, below))
get_at (x ∷ xs) zero below = (x, refl)
get_at (x ∷ xs) (suc k) below = let rest : k < length xs = omega (arith, below) in get_at xs k rest

-- a process and its disk that are as a world says: the records of the disk make what the process keeps
pub seat_holds : (g : Group) (w : PaxosCommitWorld) (n : Name) (s : Option Process) (o : Option Image) → IsSoInWorld g w n s o
    → IsSomeAnd o (λ i. JournalMakes (MakeStates g.members (states_in w n)) i.bytes)
seat_holds g w n None None down = absurd down.disk
seat_holds g w n None (Some i) down = down.disk.1
seat_holds g w n (Some p) None up = absurd up.disk
seat_holds g w n (Some p) (Some i) up =
    subst (λ (s : States). JournalMakes (MakeStates g.members s) i.bytes) up.states (process_makes g n.number p i up.run up.disk).1

either_first : (g : Group) (n : Name) (w v : PaxosCommitWorld) (o : Option Image)
    → IsSomeAnd o (λ i. JournalMakes (MakeStates g.members (states_in w n)) i.bytes) → HoldsEither g n w v o
either_first g n w v None h = absurd h
either_first g n w v (Some i) h = inl h

either_second : (g : Group) (n : Name) (w v : PaxosCommitWorld) (o : Option Image)
    → IsSomeAnd o (λ i. JournalMakes (MakeStates g.members (states_in v n)) i.bytes) → HoldsEither g n w v o
either_second g n w v None h = absurd h
either_second g n w v (Some i) h = inr h

same_self : (a : Name) → same_name a a ≡ true
same_self a = rw (eqb_same a.kind, eqb_same a.number) refl

-- a disk that wasn't picked from, by the same lines
picks_stay : (g : Group) (es : List Happening) (n : Name) (s p q : DiskView) → ProcessHasPicked g es n s p → q.picks ≡ p.picks → p.faults ≤ q.faults
    → q.armed.arming ≡ Off → ProcessHasPicked g es n s q
picks_stay g es n s p q had same later off =
    let count : last_count s.faults q.picks ≡ last_count s.faults p.picks = ap (last_count s.faults) same in
    let old : last_count s.faults p.picks ≤ p.faults = had.later in
    let start : s.faults ≤ p.faults = had.no_less in
    record {
      picks = subst (λ (l : List Picked). ArePicks g n (stops_in g n (first_paxos_world g) es) l) (sym same) had.picks;
      unarmed = off;
      later = omega (arith, count, old, later);
      no_less = omega (arith, start, later);
    }

module _ (g : Group) (es : List Happening) (e : Happening) (seats now : List Seat) (ps qs : List PairView) (result : Result SeatStep JournalFault)
    (seated : AreSeated g (paxos_world_after g es) seats ps) (own : IsTrue (has_name g (process_of e)))
    (does : StepsAt g es e (process_place g (process_of e)) seats now ps qs result) (changes : ChangesFirst (process_place g (process_of e)) ps qs) where
  abbrev w : PaxosCommitWorld
  w = paxos_world_after g es

  abbrev v : PaxosCommitWorld
  v = paxos_world_after g (es ++ e ∷ [])

  abbrev k : ℕ
  k = process_place g (process_of e)

  here : name_at g k ≡ process_of e
  here = name_place g (process_of e) own

  k_below : k < process_count g
  k_below = let one : k < length now = get_below now k does.seat does.there in omega (arith, one, does.as_many, seated.as_many)

  off_name : (i : ℕ) → i < process_count g → i ≢ k → same_name (process_of e) (name_at g i) ≡ false
  off_name i below off = subst (λ (m : Name). same_name m (name_at g i) ≡ false) here (other_names g i k below k_below off)

  names : (i : ℕ) (s : Seat) → slice_get now i ≡ Some s → s.name ≡ name_at g i
  names i s at = by (same_number i k)
    where
      by : (i ≡ k) ⊎ (i ≢ k) → s.name ≡ name_at g i
      by (inl is) =
          let same : s ≡ does.seat = same_item now k s does.seat (ap (slice_get now) (sym is) ∙ at) does.there in
          ap (λ (z : Seat). z.name) same ∙ does.name ∙ sym here ∙ ap (name_at g) (sym is)
      by (inr off) = seated.names i s (sym (does.others i off) ∙ at)

  each : (r : Result SeatStep JournalFault) (t : SeatStep) → r ≡ Ok t → SeatDoes g w e (process_of e) does.seat does.pair.first does.later.first r
      → (i : ℕ) (s : Seat) (q : PairView) → slice_get now i ≡ Some s → slice_get qs i ≡ Some q → SeatStands g v s (image_now q.first)
  each r t ok did i s q at there = by (same_number i k)
    where
      stood : (r : Result SeatStep JournalFault) → r ≡ Ok t → OnOk r (SeatStands g (paxos_happens g w e) does.seat (image_now does.later.first))
          → SeatStands g (paxos_happens g w e) does.seat (image_now does.later.first)
      stood (Ok u) ok h = h
      stood (Err f) ok h = cc

      by : (i ≡ k) ⊎ (i ≢ k) → SeatStands g v s (image_now q.first)
      by (inl is) =
          let same : s ≡ does.seat = same_item now k s does.seat (ap (slice_get now) (sym is) ∙ at) does.there in
          let pair : q ≡ does.later = same_item qs k q does.later (ap (slice_get qs) (sym is) ∙ there) does.after in
          subst (λ (u : PaxosCommitWorld). SeatStands g u s (image_now q.first)) (sym (after_more g es e))
          (subst (λ (z : Seat). SeatStands g (paxos_happens g w e) z (image_now q.first)) (sym same)
          (subst (λ (z : PairView). SeatStands g (paxos_happens g w e) does.seat (image_now z.first)) (sym pair) (stood r ok did.stands)))
      by (inr off) =
          let was : slice_get seats i ≡ Some s = sym (does.others i off) ∙ at in
          let below : i < process_count g = (let one : i < length seats = get_below seats i s was in omega (arith, one, seated.as_many)) in
          let name : s.name ≡ name_at g i = seated.names i s was in
          let named : IsTrue (has_name g s.name) = subst (λ (m : Name). IsTrue (has_name g m)) (sym name) (named_at g i below) in
          let other : same_name (process_of e) s.name ≡ false = subst (λ (m : Name). same_name (process_of e) m ≡ false) (sym name) (off_name i below off) in
          subst (λ (u : PaxosCommitWorld). SeatStands g u s (image_now q.first)) (sym (after_more g es e))
          (stays_so g w (paxos_happens g w e) s.name s.process (image_now q.first) (others_as_before g w s.name named e own other)
          (seated.each i s q was (sym (changes.others i off) ∙ there)))

  pub seated_more : (t : SeatStep) → result ≡ Ok t → AreSeated g v now qs
  seated_more t ok = record {
    as_many = does.as_many ∙ seated.as_many;
    room = let had : process_count g ≤ length ps = seated.room in omega (arith, had, changes.as_many);
    names = names;
    each = each result t ok does.does;
  }

  -- ---- picks

  module _ (start : List PairView) (all : EachDisk (ProcessHasPicked g es) g start ps) where
    had : (s : PairView) → slice_get start k ≡ Some s → ProcessHasPicked g es (process_of e) s.first does.pair.first
    had s at = subst (λ (n : Name). ProcessHasPicked g es n s.first does.pair.first) here (all k s does.pair k_below at does.before)

    elsewhere : (i : ℕ) (s q : PairView) → i < process_count g → i ≢ k → slice_get start i ≡ Some s → slice_get qs i ≡ Some q
        → ProcessHasPicked g es (name_at g i) s.first q.first
    elsewhere i s q below off at there = all i s q below at (sym (changes.others i off) ∙ there)

    own_picks : (s : PairView) → slice_get start k ≡ Some s → ProcessPicks (takes_down w e) g w (process_of e) does.pair.first does.later.first
        → ProcessHasPicked g (es ++ e ∷ []) (process_of e) s.first does.later.first
    own_picks s at picks = by (bool_cases (takes_down w e))
      where
        off : does.later.first.armed.arming ≡ Off
        off = does.leaves.unarmed (had s at).unarmed

        by : (takes_down w e ≡ true) ⊎ (takes_down w e ≡ false) → ProcessHasPicked g (es ++ e ∷ []) (process_of e) s.first does.later.first
        by (inl t) =
            let both : (same_name (process_of e) (process_of e) && takes_down w e) ≡ true = rw (same_self (process_of e), t) refl in
            picks_one g es e (process_of e) s.first does.pair.first (had s at) does.later.first both
            (subst (λ (b : Bool). ProcessPicks b g w (process_of e) does.pair.first does.later.first) t picks) off
        by (inr f) =
            let both : (same_name (process_of e) (process_of e) && takes_down w e) ≡ false = rw (same_self (process_of e), f) refl in
            picks_none g es e (process_of e) s.first does.pair.first (had s at) does.later.first both
            (subst (λ (b : Bool). ProcessPicks b g w (process_of e) does.pair.first does.later.first) f picks) does.leaves.later off

    pub picked_more : (t : SeatStep) → result ≡ Ok t → EachDisk (ProcessHasPicked g (es ++ e ∷ [])) g start qs
    picked_more t ok i s q below at there = by (same_number i k)
      where
        found : (r : Result SeatStep JournalFault) → r ≡ Ok t
            → OnOk r (does.pair.first.armed.arming ≡ Off → ProcessPicks (takes_down w e) g w (process_of e) does.pair.first does.later.first)
            → does.pair.first.armed.arming ≡ Off → ProcessPicks (takes_down w e) g w (process_of e) does.pair.first does.later.first
        found (Ok u) ok h = h
        found (Err f) ok h = cc

        by : (i ≡ k) ⊎ (i ≢ k) → ProcessHasPicked g (es ++ e ∷ []) (name_at g i) s.first q.first
        by (inl is) =
            let first : slice_get start k ≡ Some s = ap (slice_get start) (sym is) ∙ at in
            let pair : q ≡ does.later = same_item qs k q does.later (ap (slice_get qs) (sym is) ∙ there) does.after in
            subst (λ (n : Name). ProcessHasPicked g (es ++ e ∷ []) n s.first q.first) (sym (ap (name_at g) is ∙ here))
            (subst (λ (z : PairView). ProcessHasPicked g (es ++ e ∷ []) (process_of e) s.first z.first) (sym pair)
            (own_picks s first (found result ok does.does.picks (had s first).unarmed)))
        by (inr off) =
            let old = elsewhere i s q below off at there in
            let none : (same_name (process_of e) (name_at g i) && takes_down w e) ≡ false = rw (off_name i below off) refl in
            picks_none g es e (name_at g i) s.first q.first old q.first none refl (omega arith) old.unarmed

    -- ---- an error

    pub fallen_more : (f : JournalFault) → result ≡ Err f → EachDisk (HasFallen g es e) g start qs
    fallen_more f err i s q below at there = by (same_number i k)
      where
        held : (r : Result SeatStep JournalFault) → r ≡ Err f → OnErr r (HoldsEither g (process_of e) w (paxos_happens g w e) (image_now does.later.first))
            → HoldsEither g (process_of e) w (paxos_happens g w e) (image_now does.later.first)
        held (Ok u) err h = cc
        held (Err d) err h = h

        same : (r : Result SeatStep JournalFault) → r ≡ Err f → OnErr r (does.later.first.picks ≡ does.pair.first.picks)
            → does.later.first.picks ≡ does.pair.first.picks
        same (Ok u) err h = cc
        same (Err d) err h = h

        by : (i ≡ k) ⊎ (i ≢ k) → HasFallen g es e (name_at g i) s.first q.first
        by (inl is) =
            let first : slice_get start k ≡ Some s = ap (slice_get start) (sym is) ∙ at in
            let pair : q ≡ does.later = same_item qs k q does.later (ap (slice_get qs) (sym is) ∙ there) does.after in
            subst (λ (n : Name). HasFallen g es e n s.first q.first) (sym (ap (name_at g) is ∙ here))
            (subst (λ (z : PairView). HasFallen g es e (process_of e) s.first z.first) (sym pair) (record {
              held = subst (λ (u : PaxosCommitWorld). HoldsEither g (process_of e) w u (image_now does.later.first)) (sym (after_more g es e))
                  (held result err does.does.fallen);
              picked = inl (picks_stay g es (process_of e) s.first does.pair.first does.later.first (had s first)
                  (same result err does.does.unpicked) does.leaves.later (does.leaves.unarmed (had s first).unarmed));
            }))
        by (inr off) =
            let seat = get_at seats i (omega (arith, below, seated.as_many)) in
            let stands : SeatStands g w seat.0 (image_now q.first) = seated.each i seat.0 q seat.1 (sym (changes.others i off) ∙ there) in
            record {
              held = subst (λ (n : Name). HoldsEither g n w v (image_now q.first)) (seated.names i seat.0 seat.1)
                  (either_first g seat.0.name w v (image_now q.first) (seat_holds g w seat.0.name seat.0.process (image_now q.first) stands));
              picked = inl (elsewhere i s q below off at there);
            }

    pub failed_more : (f : JournalFault) → result ≡ Err f → f ≡ Disk → HasFailedAt g (process_of e) start qs
    failed_more f err is = record { named = own; failed = by }
      where
        same : (r : Result SeatStep JournalFault) → r ≡ Err f → OnErr r (does.later.first.picks ≡ does.pair.first.picks)
            → does.later.first.picks ≡ does.pair.first.picks
        same (Ok u) err h = cc
        same (Err d) err h = h

        by : (s p : PairView) → slice_get start k ≡ Some s → slice_get qs k ≡ Some p → last_count s.first.faults p.first.picks < p.first.faults
        by s p at there =
            let pair : p ≡ does.later = same_item qs k p does.later there does.after in
            let rose : does.pair.first.faults < does.later.first.faults = does.leaves.failed (err ∙ ap (λ (d : JournalFault). Err d) is) in
            let low : last_count s.first.faults does.pair.first.picks ≤ does.pair.first.faults = (had s at).later in
            let count : last_count s.first.faults does.later.first.picks ≡ last_count s.first.faults does.pair.first.picks =
            ap (last_count s.first.faults) (same result err does.does.unpicked) in
            subst (λ (z : PairView). last_count s.first.faults z.first.picks < z.first.faults) (sym pair) (omega (arith, rose, low, count))

-- the line was carried out, and what it sent found no memory
pub fallen_after : (g : Group) (es : List Happening) (e : Happening) (seats : List Seat) (start ps : List PairView)
    → AreSeated g (paxos_world_after g (es ++ e ∷ [])) seats ps → EachDisk (ProcessHasPicked g (es ++ e ∷ [])) g start ps
    → EachDisk (HasFallen g es e) g start ps
fallen_after g es e seats start ps seated all i s q below at there =
    let seat = get_at seats i (omega (arith, below, seated.as_many)) in
    let w = paxos_world_after g es in
    let v = paxos_world_after g (es ++ e ∷ []) in
    record {
      held = subst (λ (n : Name). HoldsEither g n w v (image_now q.first)) (seated.names i seat.0 seat.1)
          (either_second g seat.0.name w v (image_now q.first)
          (seat_holds g v seat.0.name seat.0.process (image_now q.first) (seated.each i seat.0 q seat.1 there)));
      picked = inr (all i s q below at there);
    }

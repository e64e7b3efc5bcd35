-- What a message sends, and a process that is taken down or brought up by a line.
use Rattle.std.{specs.{Prelude.{IsSomeAnd, IsTrue, IsErrOf, Result, ◌==◌}, Result.IsOkAnd}, proofs.Common.{◌≡◌, inl, ℕ, Bool, true, false, List, [], ◌++◌}}
use Rattle.std.proofs.Common.{length, Option, Some, None, Ok, Err, IfSome, refl, sym, ◌∙◌, ap, subst, append-nil, arith}
use Rattle.spl_agree.proofs.Tests.{if_true, if_false}
use Rattle.spl_edge.specs.{Devices.{SamePast, Image, IsSettled, settled_at, Picks, picked_of, DiskView, image_now}, declared.disk.Arming.TheVariants.Off}
use Rattle.spl_edge.specs.declared.fill.Fill.TheVariants.{Old}
use Rattle.spl_journal.specs.declared.form.JournalFault.{JournalFault, TheVariants.NoMemory}
use Rattle.spl_acceptor.specs.{Logs.{JournalMakes, records_on}, Rows.{PaxosPlan, member_row, acceptor_row, leader_row}, Worlds.{PaxosCommitWorld, Stops}}
use Rattle.spl_acceptor.specs.Worlds.{Starts, has_name, paxos_posted, round_of, message_heard, heard_plan, process_stopped, process_started, paxos_happens}
use Rattle.spl_acceptor.specs.declared.{answer.PaxosAnswer.TheVariants.IsDown as AnsweredDown, group.Group.Group, kind.TheConstants.{MEMBER, ACCEPTOR}}
use Rattle.spl_acceptor.specs.declared.{kind.TheConstants.LEADER, message.{Name.Name, PaxosMsg.PaxosMsg}}
use Rattle.spl_acceptor.specs.declared.record.PaxosRecord.{PaxosRecord}
use Rattle.spl_paxos_run.specs.{Seats.{IsDown, IsProcessUp}, States.{States, MakeStates, states_in, ProcessStands}, Steps.{PicksOne, ProcessPicks}}
use Rattle.spl_paxos_run.specs.{Steps.{HoldsEither, SeatDoes}, declared.{process.Process.Process, seat.Seat.Seat, step.SeatStep.SeatStep}}
use Rattle.spl_paxos_run.proofs.{Answering.name_kind, Moves.{IsKind, AMember, AnAcceptor, ALeader, kind_of, not_member, not_acceptor, as_member, as_acceptor}}
use Rattle.spl_paxos_run.proofs.{Moves.as_leader, Seating.{process_makes, taken_down}}

-- ---- what a message sends

module _ (g : Group) (w : PaxosCommitWorld) (from to : Name) (m : PaxosMsg) where
  sends_kind : IsKind to → (message_heard g w from to m).sent ≡ w.sent ++ paxos_posted to (heard_plan g w from to m).sends
  sends_kind (AMember is) =
      let p : PaxosPlan = member_row g (w.member to.number (round_of m)) from m in
      ap (λ (v : PaxosCommitWorld). v.sent) (as_member g w from to m is)
      ∙ ap (λ (z : Name). w.sent ++ paxos_posted z p.sends) (name_kind to MEMBER is)
      ∙ ap (λ (q : PaxosPlan). w.sent ++ paxos_posted to q.sends)
      (sym (if_true (λ (q : PaxosPlan). q ≡ p) (to.kind == MEMBER) _ _ (subst (λ (k : ℕ). (k == MEMBER) ≡ true) (sym is) refl) refl))
  sends_kind (AnAcceptor is) =
      let p : PaxosPlan = acceptor_row g (w.acceptor to.number (round_of m)) from m in
      ap (λ (v : PaxosCommitWorld). v.sent) (as_acceptor g w from to m is)
      ∙ ap (λ (z : Name). w.sent ++ paxos_posted z p.sends) (name_kind to ACCEPTOR is)
      ∙ ap (λ (q : PaxosPlan). w.sent ++ paxos_posted to q.sends)
      (sym (if_false (λ (q : PaxosPlan). q ≡ p) (to.kind == MEMBER) _ _ (not_member to ACCEPTOR is refl)
      (if_true (λ (q : PaxosPlan). q ≡ p) (to.kind == ACCEPTOR) _ _ (subst (λ (k : ℕ). (k == ACCEPTOR) ≡ true) (sym is) refl) refl)))
  sends_kind (ALeader is) =
      let p : PaxosPlan = leader_row g (w.leader to.number (round_of m)) from m in
      ap (λ (v : PaxosCommitWorld). v.sent) (as_leader g w from to m is)
      ∙ ap (λ (z : Name). w.sent ++ paxos_posted z p.sends) (name_kind to LEADER is)
      ∙ ap (λ (q : PaxosPlan). w.sent ++ paxos_posted to q.sends)
      (sym (if_false (λ (q : PaxosPlan). q ≡ p) (to.kind == MEMBER) _ _ (not_member to LEADER is refl)
      (if_false (λ (q : PaxosPlan). q ≡ p) (to.kind == ACCEPTOR) _ _ (not_acceptor to LEADER is refl) refl)))

  pub heard_sends : IsTrue (has_name g to) → (message_heard g w from to m).sent ≡ w.sent ++ paxos_posted to (heard_plan g w from to m).sends
  heard_sends named = sends_kind (kind_of g to named)

-- ---- a stop

settled_back : (i : Image) → IsSettled i → settled_at i.synced ≡ i
settled_back i s =
    ap settled_at s.same
    ∙ ap (λ (l : List ℕ). record { bytes = i.bytes; synced = l; touched = []; least = length i.bytes; greatest = length i.bytes }) (sym s.same)
    ∙ ap (λ (t : List (ℕ × ℕ)). record { bytes = i.bytes; synced = i.synced; touched = t; least = length i.bytes; greatest = length i.bytes }) (sym s.none)
    ∙ ap (λ (n : ℕ). record { bytes = i.bytes; synced = i.synced; touched = i.touched; least = n; greatest = length i.bytes }) (sym s.least)
    ∙ ap (λ (n : ℕ). record { bytes = i.bytes; synced = i.synced; touched = i.touched; least = i.least; greatest = n }) (sym s.greatest)

module _ (g : Group) (w : PaxosCommitWorld) (n : Name) (p : Process) (x y : DiskView) (up : IsProcessUp g w n p (image_now x)) where
  module _ (picks : Picks Old x.armed.arming x.faults x.picks y.picks (image_now x) (image_now y)) where
    stood : ProcessStands p picks.image
    stood = subst (λ (o : Option Image). IsSomeAnd o (ProcessStands p)) picks.told up.disk

    -- the disk holds what it held
    pub picked_same : image_now y ≡ image_now x
    picked_same = picks.holds ∙ ap (λ (i : Image). Some i) (settled_back picks.image (process_makes g n.number p picks.image up.run stood).0) ∙ sym picks.told

    made : JournalMakes (MakeStates g.members (states_in w n)) picks.image.synced
    made =
        let both = process_makes g n.number p picks.image up.run stood in
        subst (λ (l : List ℕ). JournalMakes (MakeStates g.members (states_in w n)) l) (sym both.0.same)
        (subst (λ (s : States). JournalMakes (MakeStates g.members s) picks.image.bytes) up.states both.1)

    pub picked_one : y.faults ≡ x.faults → x.armed.arming ≡ Off → PicksOne g w n x y
    picked_one same off = record {
      pick = picked_of Old x.armed.arming x.faults picks.image;
      picks = picks.kept;
      is = record { fill = refl; arming = off; made = made };
      later = omega arith;
      counted = omega (arith, same);
    }

  pub still_held : (v : PaxosCommitWorld) → image_now y ≡ image_now x → HoldsEither g n w v (image_now y)
  still_held v same = subst (λ (o : Option Image). HoldsEither g n w v o) (sym same) (by (image_now x) up.disk)
    where
      by : (o : Option Image) → IsSomeAnd o (ProcessStands p) → HoldsEither g n w v o
      by None some = absurd some
      by (Some i) s = inl (subst (λ (t : States). JournalMakes (MakeStates g.members t) i.bytes) up.states (process_makes g n.number p i up.run s).1)

pub past_now : (x y : DiskView) → SamePast x y → y.moment ≡ x.moment → image_now y ≡ image_now x
past_now x y past same = ap y.image_at same ∙ past x.moment (omega arith)

pub stops_next : (g : Group) (w : PaxosCommitWorld) (n : Name) → w.up n ≡ true → paxos_happens g w (Stops n) ≡ process_stopped w n
stops_next g w n up = if_true (λ (v : PaxosCommitWorld). v ≡ process_stopped w n) (w.up n) _ _ up refl

pub stops_none : (g : Group) (w : PaxosCommitWorld) (n : Name) → w.up n ≡ false → paxos_happens g w (Stops n) ≡ w
stops_none g w n down = if_false (λ (v : PaxosCommitWorld). v ≡ w) (w.up n) _ _ down refl

-- ---- a start

pub starts_next : (g : Group) (w : PaxosCommitWorld) (n : Name) → IsTrue (has_name g n) → paxos_happens g w (Starts n) ≡ process_started w n
starts_next g w n named = if_true (λ (v : PaxosCommitWorld). v ≡ process_started w n) (has_name g n) _ _ named refl

pub down_held : (g : Group) (w v : PaxosCommitWorld) (n : Name) (o : Option Image) → IsDown g w n o → HoldsEither g n w v o
down_held g w v n None down = absurd down.disk
down_held g w v n (Some i) down = inl down.disk.1

-- the disk of a process that is down is a journal
pub down_journal : (g : Group) (w : PaxosCommitWorld) (n : Name) (o : Option Image) (at : ℕ) → IsDown g w n o → IfSome o (λ i. records_on i.bytes ≡ Err at) → ⊥
down_journal g w n None at down none = absurd down.disk
down_journal g w n (Some i) at down none = by (records_on i.bytes) down.disk.1 none
  where
    by : (r : Result (List PaxosRecord) ℕ) → IsOkAnd r (MakeStates g.members (states_in w n)) → r ≡ Err at → ⊥
    by (Ok xs) made e = absurd cc
    by (Err z) made e = absurd made

-- ---- a line `stop` at a process that is up

module _ (g : Group) (w : PaxosCommitWorld) (n : Name) (p : Process) (x y : DiskView) (up : IsProcessUp g w n p (image_now x)) where
  pub stops_silent : IsTrue (has_name g n) → Picks Old x.armed.arming x.faults x.picks y.picks (image_now x) (image_now y) → y.faults ≡ x.faults
      → (t : SeatStep) → t.answer ≡ AnsweredDown → t.sends ≡ []
      → SeatDoes g w (Stops n) n (record { name = n; process = None }) x y (Ok t)
  stops_silent named picks same t told sends = record {
    told = told;
    sent = ap (λ (u : PaxosCommitWorld). u.sent) (stops_next g w n up.up) ∙ sym (append-nil w.sent)
        ∙ ap (λ (l : List (Name × PaxosMsg)). w.sent ++ paxos_posted n l) (sym sends);
    stands = subst (λ (u : PaxosCommitWorld). IsDown g u n (image_now y)) (sym (stops_next g w n up.up))
        (subst (λ (o : Option Image). IsDown g (process_stopped w n) n o) (sym (picked_same g w n p x y up picks))
        (taken_down g w n (Some p) (image_now x) named up.up up));
    picks = λ off. subst (λ (b : Bool). ProcessPicks b g w n x y) (sym up.up) (picked_one g w n p x y up picks same off);
    fallen = tt;
    unpicked = tt;
  }

  pub stop_falls : (s : Seat) → image_now y ≡ image_now x → y.picks ≡ x.picks → SeatDoes g w (Stops n) n s x y (Err NoMemory)
  stop_falls s same picks = record {
    told = tt;
    sent = tt;
    stands = tt;
    picks = tt;
    fallen = still_held g w n p x y up (paxos_happens g w (Stops n)) same;
    unpicked = picks;
  }

pub start_falls : (g : Group) (w : PaxosCommitWorld) (n : Name) (s : Seat) (x y : DiskView) (f : JournalFault) → IsDown g w n (image_now x)
    → image_now y ≡ image_now x → y.picks ≡ x.picks → SeatDoes g w (Starts n) n s x y (Err f)
start_falls g w n s x y f down same picks = record {
  told = tt;
  sent = tt;
  stands = tt;
  picks = tt;
  fallen = subst (λ (o : Option Image). HoldsEither g n w (paxos_happens g w (Starts n)) o) (sym same)
      (down_held g w (paxos_happens g w (Starts n)) n (image_now x) down);
  unpicked = picks;
}

-- the same error of another call
pub err_over : {A B : Type 0} (e d : JournalFault) → IsErrOf {T = A} {E = JournalFault} (Err e) d → IsErrOf {T = B} {E = JournalFault} (Err e) d
err_over {A} {B} e d is = let same : e ≡ d = cc in ap (λ (z : JournalFault). Err z) same

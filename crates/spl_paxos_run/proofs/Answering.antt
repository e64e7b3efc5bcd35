-- A line at its process: nothing changes, or the process makes a step.
use Rattle.std.{specs.Prelude.{IsSome, IsSomeAnd, is_none}, proofs.Common.{◌≡◌, ◌⊎◌, ℕ, ◌≤◌, Bool, true, false, ◌&&◌, List, [], ◌++◌, Option, Some, None, Ok}}
use Rattle.std.proofs.Common.{Err, IfSome, refl, sym, ◌∙◌, ap, subst, append-nil, arith}
use Rattle.spl_agree.proofs.Tests.{if_true, if_false}
use Rattle.spl_edge.specs.Devices.{Image, MayLeave, DiskView, image_now}
use Rattle.spl_journal.specs.{Gate.LeavesSince, declared.form.JournalFault.JournalFault}
use Rattle.spl_acceptor.specs.{Logs.JournalMakes, Rows.{PaxosPlan, member, leader, on_paxos_vote, on_lead}, Worlds.{PaxosCommitWorld, Happening, Votes}}
use Rattle.spl_acceptor.specs.Worlds.{Leads, Delivers, Shows, paxos_posted, message_at, at_member, at_leader, message_heard, heard_plan, paxos_delivered}
use Rattle.spl_acceptor.specs.{Worlds.{delivery_answer, shown, paxos_happens, paxos_answer}, declared.answer.PaxosAnswer.{PaxosAnswer, TheVariants.Told}}
use Rattle.spl_acceptor.specs.declared.{answer.{PaxosAnswer.TheVariants.Refused, PaxosRefusal.TheVariants.{Down, Voted, NoMessage}}, group.Group.Group}
use Rattle.spl_acceptor.specs.declared.{kind.TheConstants.MEMBER, message.{Name.Name, PaxosMsg.PaxosMsg}, note.{PaxosNote.PaxosNote, Stepped.Stepped}}
use Rattle.spl_paxos_run.specs.{Seats.{IsDown, IsProcessUp, IsSoInWorld, SeatStands, ProcessMoves}, States.{States, MakeStates, member_state, states_in}}
use Rattle.spl_paxos_run.specs.{States.{states_of, ProcessStands}, Steps.{takes_down, ProcessPicks, HoldsEither, SeatDoes}, declared.process.Process.Process}
use Rattle.spl_paxos_run.{specs.declared.{seat.Seat.Seat, step.SeatStep.SeatStep}, proofs.Processes.member_states}

-- ---- who is up

pub is_up : (g : Group) (w : PaxosCommitWorld) (n : Name) (s : Option Process) (p : Process) (o : Option Image) → s ≡ Some p → IsSoInWorld g w n s o
    → IsProcessUp g w n p o
is_up g w n s p o is stands = subst (λ (t : Option Process). IsSoInWorld g w n t o) is stands

pub none_down : (g : Group) (w : PaxosCommitWorld) (n : Name) (s : Option Process) (o : Option Image) → s ≡ None → IsSoInWorld g w n s o → IsDown g w n o
none_down g w n s o is stands = subst (λ (t : Option Process). IsSoInWorld g w n t o) is stands

pub name_kind : (n : Name) (k : ℕ) → n.kind ≡ k → record { kind = k; number = n.number } ≡ n
name_kind n k is = ap (λ (z : ℕ). record { kind = z; number = n.number }) (sym is)

-- ---- a line that changes no disk

module _ (g : Group) (w v : PaxosCommitWorld) (e : Happening) (n : Name) (s : Seat) (x y : DiskView) (t : SeatStep) (next : paxos_happens g w e ≡ v)
    (stays : takes_down w e ≡ false) (same : y.picks ≡ x.picks) where
  pub settles : SeatStands g v s (image_now y) → v.sent ≡ w.sent → t.answer ≡ paxos_answer g w e → t.sends ≡ [] → SeatDoes g w e n s x y (Ok t)
  settles stands sent told sends = record {
    told = told;
    sent = ap (λ (u : PaxosCommitWorld). u.sent) next ∙ sent ∙ sym (append-nil w.sent)
        ∙ ap (λ (l : List (Name × PaxosMsg)). w.sent ++ paxos_posted n l) (sym sends);
    stands = subst (λ (u : PaxosCommitWorld). SeatStands g u s (image_now y)) (sym next) stands;
    picks = λ off. subst (λ (b : Bool). ProcessPicks b g w n x y) (sym stays) same;
    fallen = tt;
    unpicked = tt;
  }

-- ---- a step of a process

some_if : (o : Option Image) (Q : Image → Type 0) (R : Type 0) → IsSomeAnd o Q → IfSome o (λ i. R) → R
some_if None Q R some h = absurd some
some_if (Some i) Q R some h = h

told_now : (o : Option Image) (P : List ℕ → Type 0) → IsSome o → IfSome o (λ i. (c : List ℕ) → MayLeave i c → P c) → IfSome o (λ i. MayLeave i i.bytes)
    → IsSomeAnd o (λ i. P i.bytes)
told_now None P some left may = cc
told_now (Some i) P some left may = left i.bytes may

module _ (g : Group) (w v : PaxosCommitWorld) (e : Happening) (n : Name) (p : PaxosPlan) (q : Process) (x y : DiskView) (next : paxos_happens g w e ≡ v)
    (stays : takes_down w e ≡ false) (same : y.picks ≡ x.picks) where
  pub steps : (stepped : Stepped) (t : SeatStep) → ProcessMoves g n p w v q x y (Ok stepped) → paxos_answer g w e ≡ Told p.note
      → v.sent ≡ w.sent ++ paxos_posted n p.sends → t.answer ≡ Told stepped.note → t.sends ≡ stepped.sends
      → SeatDoes g w e n (record { name = n; process = Some q }) x y (Ok t)
  steps stepped t m answered sent told sends = record {
    told = told ∙ ap (λ (k : PaxosNote). Told k) m.told.note ∙ sym answered;
    sent = ap (λ (u : PaxosCommitWorld). u.sent) next ∙ sent ∙ ap (λ (l : List (Name × PaxosMsg)). w.sent ++ paxos_posted n l) (sym (sends ∙ m.told.sends));
    stands = subst (λ (u : PaxosCommitWorld). IsProcessUp g u n q (image_now y)) (sym next) m.up;
    picks = λ off. subst (λ (b : Bool). ProcessPicks b g w n x y) (sym stays) same;
    fallen = tt;
    unpicked = tt;
  }

  pub falls : (f : JournalFault) (old : Process) → ProcessMoves g n p w v q x y (Err f) → IsSomeAnd (image_now x) (ProcessStands old) → x.moment ≤ y.moment
      → IsSome (image_now y) → IfSome (image_now y) (λ i. MayLeave i i.bytes)
      → SeatDoes g w e n (record { name = n; process = Some q }) x y (Err f)
  falls f old m stood later tells may =
      let P : List ℕ → Type 0 = λ c. JournalMakes (MakeStates g.members (states_in w n)) c ⊎ JournalMakes (MakeStates g.members (states_in v n)) c in
      let left : LeavesSince x y P = some_if (image_now x) (ProcessStands old) (LeavesSince x y P) stood m.any_moment in
      record {
        told = tt;
        sent = tt;
        stands = tt;
        picks = tt;
        fallen = subst (λ (u : PaxosCommitWorld). HoldsEither g n w u (image_now y)) (sym next)
            (told_now (image_now y) P tells (left y.moment later (omega arith)) may);
        unpicked = same;
      }

-- ---- a vote

module _ (g : Group) (w : PaxosCommitWorld) (i r : ℕ) (aye : Bool) where
  pub votes_next : w.up (member i) ≡ true → (w.member i r).vote ≡ None → paxos_happens g w (Votes i r aye) ≡ at_member w i r (on_paxos_vote g i r aye)
  votes_next up none =
      let both : (w.up (member i) && is_none (w.member i r).vote) ≡ true = rw (up, none) refl in
      if_true (λ (v : PaxosCommitWorld). v ≡ at_member w i r (on_paxos_vote g i r aye)) (w.up (member i) && is_none (w.member i r).vote) _ _ both refl

  pub votes_told : w.up (member i) ≡ true → (w.member i r).vote ≡ None → paxos_answer g w (Votes i r aye) ≡ Told (on_paxos_vote g i r aye).note
  votes_told up none = rw (up, none) refl

  pub votes_down : w.up (member i) ≡ false → (paxos_happens g w (Votes i r aye) ≡ w) × (paxos_answer g w (Votes i r aye) ≡ Refused Down)
  votes_down down = (rw down refl, rw down refl)

  pub votes_twice : w.up (member i) ≡ true → is_none (w.member i r).vote ≡ false
      → (paxos_happens g w (Votes i r aye) ≡ w) × (paxos_answer g w (Votes i r aye) ≡ Refused Voted)
  votes_twice up had = (rw (up, had) refl, rw (up, had) refl)

  -- ---- a turn

  pub leads_next : w.up (leader i) ≡ true → paxos_happens g w (Leads i r) ≡ at_leader w i r (on_lead g i (w.leader i r) r)
  leads_next up = if_true (λ (v : PaxosCommitWorld). v ≡ at_leader w i r (on_lead g i (w.leader i r) r)) (w.up (leader i)) _ _ up refl

  pub leads_told : w.up (leader i) ≡ true → paxos_answer g w (Leads i r) ≡ Told (on_lead g i (w.leader i r) r).note
  leads_told up = if_true (λ (a : PaxosAnswer). a ≡ Told (on_lead g i (w.leader i r) r).note) (w.up (leader i)) _ _ up refl

  pub leads_down : w.up (leader i) ≡ false → (paxos_happens g w (Leads i r) ≡ w) × (paxos_answer g w (Leads i r) ≡ Refused Down)
  leads_down down = (
    if_false (λ (v : PaxosCommitWorld). v ≡ w) (w.up (leader i)) _ _ down refl,
    if_false (λ (a : PaxosAnswer). a ≡ Refused Down) (w.up (leader i)) _ _ down refl,
  )

-- ---- a message

module _ (g : Group) (w : PaxosCommitWorld) (from to : Name) (k : ℕ) where
  pub comes_next : (m : PaxosMsg) → w.up to ≡ true → message_at w from to k ≡ Some m → paxos_happens g w (Delivers from to k) ≡ message_heard g w from to m
  comes_next m up is = if_true (λ (v : PaxosCommitWorld). v ≡ message_heard g w from to m) (w.up to) _ _ up (ap (paxos_delivered g w from to) is)

  pub comes_told : (m : PaxosMsg) → w.up to ≡ true → message_at w from to k ≡ Some m
      → paxos_answer g w (Delivers from to k) ≡ Told (heard_plan g w from to m).note
  comes_told m up is = if_true (λ (a : PaxosAnswer). a ≡ Told (heard_plan g w from to m).note) (w.up to) _ _ up (ap (delivery_answer g w from to) is)

  pub comes_down : w.up to ≡ false → (paxos_happens g w (Delivers from to k) ≡ w) × (paxos_answer g w (Delivers from to k) ≡ Refused Down)
  comes_down down =
      (if_false (λ (v : PaxosCommitWorld). v ≡ w) (w.up to) _ _ down refl, if_false (λ (a : PaxosAnswer). a ≡ Refused Down) (w.up to) _ _ down refl)

  pub comes_none : w.up to ≡ true → message_at w from to k ≡ None
      → (paxos_happens g w (Delivers from to k) ≡ w) × (paxos_answer g w (Delivers from to k) ≡ Refused NoMessage)
  comes_none up none = (
    if_true (λ (v : PaxosCommitWorld). v ≡ w) (w.up to) _ _ up (ap (paxos_delivered g w from to) none),
    if_true (λ (a : PaxosAnswer). a ≡ Refused NoMessage) (w.up to) _ _ up (ap (delivery_answer g w from to) none),
  )

-- ---- a decision that is shown

module _ (g : Group) (w : PaxosCommitWorld) (n : Name) (s : Option Process) (o : Option Image) (r : ℕ) (kind : n.kind ≡ MEMBER)
    (stands : IsSoInWorld g w n s o) where
  pub shows_down : s ≡ None → paxos_answer g w (Shows n.number r) ≡ Refused Down
  shows_down none =
      let down = none_down g w n s o none stands in
      if_false (λ (a : PaxosAnswer). a ≡ Refused Down) (w.up (member n.number)) _ _ (ap w.up (name_kind n MEMBER kind) ∙ down.down) refl

  pub shows_up : (p : Process) (d : Option Bool) → s ≡ Some p → d ≡ (member_state (states_of p) r).decision → paxos_answer g w (Shows n.number r) ≡ shown d
  shows_up p d is found =
      let up = is_up g w n s p o is stands in
      if_true (λ (a : PaxosAnswer). a ≡ shown d) (w.up (member n.number)) _ _ (ap w.up (name_kind n MEMBER kind) ∙ up.up)
      (ap (λ (t : States). shown (member_state t r).decision) (sym (up.states ∙ member_states w n kind)) ∙ ap shown (sym found))

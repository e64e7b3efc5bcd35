-- A process that is up, after a message, a vote and a turn.
use Rattle.std.{proofs.Common.{◌≡◌, ◌⊎◌, ℕ, false, Option, Some, None, Ok, Err, IfSome, refl}, specs.Prelude.{IsSomeAnd, IsTrue, Result, OnOk, Bool}}
use Rattle.std.proofs.Common.{sym, ◌∙◌, ap, subst}
use Rattle.spl_edge.specs.Devices.{Image, DiskView, image_now}
use Rattle.spl_journal.specs.{Gate.LeavesSince, declared.form.JournalFault.JournalFault}
use Rattle.spl_acceptor.specs.{Keeping.{has_halted, IsSameProcess, ProcessKeeps}, declared.process.PaxosProcess.PaxosProcess}
use Rattle.spl_acceptor.specs.{Logs.{JournalMakes, TellsAs}, Processes.Leader, Records.{MakeMember, MakeLeader}, Rows.{PaxosPlan, member, leader}}
use Rattle.spl_acceptor.specs.{Rows.{on_paxos_vote, on_lead, member_after, leader_after}, Steps.CarriesOut, Worlds.{PaxosCommitWorld, has_name, round_of}}
use Rattle.spl_acceptor.specs.{Worlds.{at_member, at_leader, message_heard, heard_plan}, declared.group.Group.Group}
use Rattle.spl_acceptor.specs.declared.{message.{Name.Name, PaxosMsg.PaxosMsg}, note.Stepped.Stepped}
use Rattle.spl_paxos.specs.{Leaders.leader_in, Members.member_in, declared.{leader_rounds.LeaderRounds.LeaderRounds, member_rounds.MemberRounds.MemberRounds}}
use Rattle.spl_paxos_run.specs.{Seats.{IsProcessUp, ProcessMoves}, States.{States, OfMember, OfLeader, MakeStates, states_in, states_after, heard_by}}
use Rattle.spl_paxos_run.specs.{States.{states_of, is_process_halted, ProcessStands, IsOfRun, ProcessDoes}, declared.process.Process.Process}
use Rattle.spl_paxos_run.proofs.{Moves.{here, named_plan, named_moved}, Processes.{member_does, leader_does}}
use Rattle.spl_paxos_run.specs.declared.process.Process.TheVariants as process
use Rattle.spl_paxos_safety.proofs.Runs.{heard-up}

tells_some : (o q : Option Image) (P Q : Image → Type 0) → TellsAs o q → IsSomeAnd o P → IfSome q Q → IsSomeAnd q Q
tells_some None q P Q told some h = absurd some
tells_some (Some i) None P Q told some h = cc
tells_some (Some i) (Some j) P Q told some h = h

-- a process that does a plan, and is then what a world says
module _ (g : Group) (n : Name) (p q : Process) (k : ℕ) (plan : PaxosPlan) (w v : PaxosCommitWorld) (x y : DiskView) (result : Result Stepped JournalFault)
    (up : IsProcessUp g w n p (image_now x))
    (does : ProcessDoes g.members (states_of p) (states_of q) k plan x y result) (then : states_after (states_of p) k plan ≡ states_in v n)
    (still : v.up n ≡ w.up n) where
  leaves : IfSome (image_now x)
      (λ i. LeavesSince x y (λ c. JournalMakes (MakeStates g.members (states_in w n)) c ⊎ JournalMakes (MakeStates g.members (states_in v n)) c))
  leaves = subst (λ (s : States). IfSome (image_now x)
      (λ i. LeavesSince x y (λ c. JournalMakes (MakeStates g.members (states_in w n)) c ⊎ JournalMakes (MakeStates g.members s) c))) then
      (subst (λ (s : States). IfSome (image_now x)
      (λ i. LeavesSince x y (λ c. JournalMakes (MakeStates g.members s) c
      ⊎ JournalMakes (MakeStates g.members (states_after (states_of p) k plan)) c))) up.states does.any_moment)

  pub moves : IsOfRun g n.number q → OnOk result (is_process_halted q ≡ false) → OnOk result (IfSome (image_now y) (ProcessStands q))
      → OnOk result (TellsAs (image_now x) (image_now y)) → ProcessMoves g n plan w v q x y result
  moves run going stands told = record { told = does.answer; up = by result does.states going stands told; any_moment = leaves }
    where
      by : (r : Result Stepped JournalFault) → OnOk r (states_of q ≡ states_after (states_of p) k plan) → OnOk r (is_process_halted q ≡ false)
          → OnOk r (IfSome (image_now y) (ProcessStands q)) → OnOk r (TellsAs (image_now x) (image_now y)) → OnOk r (IsProcessUp g v n q (image_now y))
      by (Ok s) is going stands told = record {
        up = still ∙ up.up;
        run = run;
        going = going;
        states = is ∙ then;
        disk = tells_some (image_now x) (image_now y) (ProcessStands p) (ProcessStands q) told up.disk stands;
      }
      by (Err e) is going stands told = tt

-- ---- a message

module _ (g : Group) (w : PaxosCommitWorld) (from n : Name) (m : PaxosMsg) (named : IsTrue (has_name g n)) (p q : Process) (x y : DiskView)
    (result : Result Stepped JournalFault) (up : IsProcessUp g w n p (image_now x))
    (does : ProcessDoes g.members (states_of p) (states_of q) (round_of m) (heard_by g (states_of p) from m) x y result) where
  plan_told : heard_by g (states_of p) from m ≡ heard_plan g w from n m
  plan_told = ap (λ (s : States). heard_by g s from m) up.states ∙ sym (named_plan g w from n m named)

  then : states_after (states_of p) (round_of m) (heard_by g (states_of p) from m) ≡ states_in (message_heard g w from n m) n
  then = ap (λ (s : States). states_after s (round_of m) (heard_by g s from m)) up.states ∙ sym (named_moved g w from n m named)

  pub hears : IsOfRun g n.number q → OnOk result (is_process_halted q ≡ false) → OnOk result (IfSome (image_now y) (ProcessStands q))
      → OnOk result (TellsAs (image_now x) (image_now y)) → ProcessMoves g n (heard_plan g w from n m) w (message_heard g w from n m) q x y result
  hears run going stands told = subst (λ (r : PaxosPlan). ProcessMoves g n r w (message_heard g w from n m) q x y result) plan_told
      (moves g n p q (round_of m) (heard_by g (states_of p) from m) w (message_heard g w from n m) x y result up does
      then (ap (λ (f : Name → Bool). f n) (heard-up g w from n m)) run going stands told)

-- ---- a vote

module _ (g : Group) (w : PaxosCommitWorld) (i r : ℕ) (aye : Bool) (m o : PaxosProcess MemberRounds) (x y : DiskView) (result : Result Stepped JournalFault)
    (up : IsProcessUp g w (member i) (process.Member m) (image_now x))
    (same : IsSameProcess m o) (going : OnOk result (has_halted o ≡ false)) (stands : OnOk result (IfSome (image_now y) (ProcessKeeps MakeMember member_in o)))
    (told : OnOk result (TellsAs (image_now x) (image_now y))) where
  abbrev vote_plan : PaxosPlan
  vote_plan = on_paxos_vote g i r aye

  vote_then : states_after (OfMember (member_in m.rounds)) r vote_plan ≡ states_in (at_member w i r vote_plan) (member i)
  vote_then = ap (λ (s : States). states_after s r vote_plan) up.states ∙ sym (ap OfMember (here w.member i r (member_after (w.member i r) vote_plan)))

  pub votes : CarriesOut (MakeMember m.group.members) member_after (member_in m.rounds) (member_in o.rounds) r (on_paxos_vote m.group m.here r aye) x y result
      → ProcessMoves g (member i) vote_plan w (at_member w i r vote_plan) (process.Member o) x y result
  votes done =
      let old = member_in m.rounds in
      let now = member_in o.rounds in
      moves g (member i) (process.Member m) (process.Member o) r vote_plan w (at_member w i r vote_plan) x y result up
      (subst (λ (h : Group). ProcessDoes h.members (OfMember old) (OfMember now) r (on_paxos_vote h i r aye) x y result) up.run.0
      (subst (λ (h : ℕ). ProcessDoes m.group.members (OfMember old) (OfMember now) r (on_paxos_vote m.group h r aye) x y result) up.run.1
      (member_does m.group.members r (on_paxos_vote m.group m.here r aye) x y result old now done)))
      vote_then refl (same.group ∙ up.run.0, same.here ∙ up.run.1) going stands told

-- ---- a turn

module _ (g : Group) (w : PaxosCommitWorld) (l r : ℕ) (m o : PaxosProcess LeaderRounds) (x y : DiskView) (result : Result Stepped JournalFault)
    (up : IsProcessUp g w (leader l) (process.Leader m) (image_now x))
    (same : IsSameProcess m o) (going : OnOk result (has_halted o ≡ false)) (stands : OnOk result (IfSome (image_now y) (ProcessKeeps MakeLeader leader_in o)))
    (told : OnOk result (TellsAs (image_now x) (image_now y))) where
  abbrev lead_plan : PaxosPlan
  lead_plan = on_lead g l (w.leader l r) r

  lead_then : states_after (OfLeader (leader_in m.rounds)) r lead_plan ≡ states_in (at_leader w l r lead_plan) (leader l)
  lead_then = ap (λ (s : States). states_after s r lead_plan) up.states ∙ sym (ap OfLeader (here w.leader l r (leader_after (w.leader l r) lead_plan)))

  led : States → ℕ → Leader
  led (OfLeader f) r = f r
  led s r = leader_in m.rounds r

  kept : leader_in m.rounds r ≡ w.leader l r
  unfolding led
  kept = ap (λ (s : States). led s r) up.states

  pub leads_on : CarriesOut (MakeLeader m.group.members) leader_after (leader_in m.rounds) (leader_in o.rounds) r
      (on_lead m.group m.here (leader_in m.rounds r) r) x y result
      → ProcessMoves g (leader l) lead_plan w (at_leader w l r lead_plan) (process.Leader o) x y result
  leads_on done =
      let old = leader_in m.rounds in
      let now = leader_in o.rounds in
      moves g (leader l) (process.Leader m) (process.Leader o) r lead_plan w (at_leader w l r lead_plan) x y result up
      (subst (λ (f : Leader). ProcessDoes g.members (OfLeader old) (OfLeader now) r (on_lead g l f r) x y result) kept
      (subst (λ (h : Group). ProcessDoes h.members (OfLeader old) (OfLeader now) r (on_lead h l (old r) r) x y result) up.run.0
      (subst (λ (h : ℕ). ProcessDoes m.group.members (OfLeader old) (OfLeader now) r (on_lead m.group h (old r) r) x y result) up.run.1
      (leader_does m.group.members r (on_lead m.group m.here (old r) r) x y result old now done))))
      lead_then refl (same.group ∙ up.run.0, same.here ∙ up.run.1) going stands told

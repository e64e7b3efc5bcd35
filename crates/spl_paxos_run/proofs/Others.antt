-- A line moves its own process, and no other.
use Rattle.std.{specs.Prelude.{◌==◌, IsTrue, IsSomeAnd, Option, Some, None, is_none}, proofs.Common.{◌≡◌, ◌≢◌, ℕ, Bool, true, false, ◌&&◌, refl, sym, ◌∙◌}}
use Rattle.std.proofs.Common.{ap, subst, arith}
use Rattle.spl_agree.proofs.Tests.{if_holds, if_false, eqb_is, put-other}
use Rattle.spl_edge.specs.Devices.{Image, IsSettled}
use Rattle.spl_acceptor.specs.{Logs.JournalMakes, Processes.{VotingMember, Leader, stopped_member, stopped_leader}, Rows.{member, leader, on_paxos_vote}}
use Rattle.spl_acceptor.specs.{Rows.on_lead, Worlds.{PaxosCommitWorld, Happening, Votes, Leads, Delivers, Shows, Stops, Starts, has_name, same_name}}
use Rattle.spl_acceptor.specs.{Worlds.{put_name, message_at, paxos_delivered, forget, process_stopped, paxos_happens}, declared.group.Group.Group}
use Rattle.spl_acceptor.specs.declared.{kind.TheConstants.{MEMBER, LEADER}, message.{Name.Name, PaxosMsg.PaxosMsg}}
use Rattle.spl_paxos_safety.{proofs.Runs.heard-up, specs.Written.process_of}
use Rattle.spl_paxos_run.specs.{Seats.IsSoInWorld, States.{States, OfMember, OfLeader, MakeStates, states_in, states_stopped}}
use Rattle.spl_paxos_run.{proofs.Moves.{IsKind, AMember, AnAcceptor, ALeader, kind_of, leads}, specs.declared.process.Process.Process}
use Rattle.spl_paxos_run.proofs.{Moves.{named_others, other_number, past_member, past_leader}, Processes.{member_states, acceptor_states}}

-- a process keeps what it kept, and is as up as it was
pub record IsAsBefore (w v : PaxosCommitWorld) (n : Name) : Type 0 where
  pub up : v.up n ≡ w.up n
  pub states : states_in v n ≡ states_in w n

as_it_was : (w : PaxosCommitWorld) (n : Name) → IsAsBefore w w n
as_it_was w n = record { up = refl; states = refl }

other_up : (f : Name → Bool) (m n : Name) (x : Bool) → same_name n m ≡ false → put_name f m x n ≡ f n
unfolding put_name
other_up f m n x other = if_false (λ (b : Bool). b ≡ f n) (same_name n m) x (f n) other refl

-- the two names the other way round
turned : (m n : Name) → same_name m n ≡ false → same_name n m ≡ false
turned m n other = rw (eqb_turn m.kind n.kind, eqb_turn m.number n.number) other
  where
    eqb_turn : (a b : ℕ) → (b == a) ≡ (a == b)
    eqb_turn a b = grind (arith)

-- ---- a stop

unforgotten : {S : Type 0} (stop : S → S) (f : ℕ → ℕ → S) (h i : ℕ) → i ≢ h → forget stop f h i ≡ f i
unfolding forget
unforgotten stop f h i off = put-other f h (λ r. stop (f h r)) i off

stop_others : (w : PaxosCommitWorld) (m n : Name) → same_name m n ≡ false → IsKind n → states_in (process_stopped w m) n ≡ states_in w n
stop_others w m n other (AMember is) = member_states (process_stopped w m) n is
    ∙ if_holds (λ (f : ℕ → ℕ → VotingMember). OfMember (f n.number) ≡ OfMember (w.member n.number)) (m.kind == MEMBER)
    (forget stopped_member w.member m.number) w.member
    (λ q. ap OfMember (unforgotten stopped_member w.member m.number n.number (other_number m n (same_kind q is) other))) (λ q. refl)
    ∙ sym (member_states w n is)
  where
    same_kind : (m.kind == MEMBER) ≡ true → n.kind ≡ MEMBER → m.kind ≡ n.kind
    same_kind q h = eqb_is m.kind MEMBER q ∙ sym h
stop_others w m n other (AnAcceptor is) = acceptor_states (process_stopped w m) n is ∙ sym (acceptor_states w n is)
stop_others w m n other (ALeader is) = leads (process_stopped w m) n is
    ∙ if_holds (λ (f : ℕ → ℕ → Leader). OfLeader (f n.number) ≡ OfLeader (w.leader n.number)) (m.kind == LEADER)
    (forget stopped_leader w.leader m.number) w.leader
    (λ q. ap OfLeader (unforgotten stopped_leader w.leader m.number n.number (other_number m n (same_kind q is) other))) (λ q. refl)
    ∙ sym (leads w n is)
  where
    same_kind : (m.kind == LEADER) ≡ true → n.kind ≡ LEADER → m.kind ≡ n.kind
    same_kind q h = eqb_is m.kind LEADER q ∙ sym h

-- ---- any line

module _ (g : Group) (w : PaxosCommitWorld) (n : Name) (named : IsTrue (has_name g n)) where
  delivered_others : (from to : Name) (o : Option PaxosMsg) → IsTrue (has_name g to) → same_name to n ≡ false → IsAsBefore w (paxos_delivered g w from to o) n
  delivered_others from to None own other = as_it_was w n
  delivered_others from to (Some m) own other =
      record { up = ap (λ (f : Name → Bool). f n) (heard-up g w from to m); states = named_others g w from to n m own named other }

  pub others_as_before : (e : Happening) → IsTrue (has_name g (process_of e)) → same_name (process_of e) n ≡ false → IsAsBefore w (paxos_happens g w e) n
  others_as_before (Votes i r aye) own other = if_holds (λ (v : PaxosCommitWorld). IsAsBefore w v n) (w.up (member i) && is_none (w.member i r).vote) _ _
      (λ q. record { up = refl; states = past_member w i r (on_paxos_vote g i r aye) n (member i) refl refl other (kind_of g n named) })
      (λ q. as_it_was w n)
  others_as_before (Leads l r) own other = if_holds (λ (v : PaxosCommitWorld). IsAsBefore w v n) (w.up (leader l)) _ _
      (λ q. record { up = refl; states = past_leader w l r (on_lead g l (w.leader l r) r) n (leader l) refl refl other (kind_of g n named) })
      (λ q. as_it_was w n)
  others_as_before (Delivers from to k) own other =
      if_holds (λ (v : PaxosCommitWorld). IsAsBefore w v n) (w.up to) _ _ (λ q. delivered_others from to (message_at w from to k) own other)
      (λ q. as_it_was w n)
  others_as_before (Shows i r) own other = as_it_was w n
  others_as_before (Stops m) own other = if_holds (λ (v : PaxosCommitWorld). IsAsBefore w v n) (w.up m) _ _
      (λ q. record { up = other_up w.up m n false (turned m n other); states = stop_others w m n other (kind_of g n named) })
      (λ q. as_it_was w n)
  others_as_before (Starts m) own other = if_holds (λ (v : PaxosCommitWorld). IsAsBefore w v n) (has_name g m) _ _
      (λ q. record { up = other_up w.up m n true (turned m n other); states = refl })
      (λ q. as_it_was w n)

-- what the disk of a process that is down holds
abbrev IsDisk : Group → States → Option Image → Type 0
IsDisk g s o = IsSomeAnd o (λ i. IsSettled i × JournalMakes (MakeStates g.members s) i.bytes)

-- a process that is as before stands as before
pub stays_so : (g : Group) (w v : PaxosCommitWorld) (n : Name) (s : Option Process) (o : Option Image) → IsAsBefore w v n → IsSoInWorld g w n s o
    → IsSoInWorld g v n s o
stays_so g w v n None o same down = record {
  down = same.up ∙ down.down;
  forgotten = subst (λ (s : States). states_stopped s ≡ s) (sym same.states) down.forgotten;
  disk = subst (λ (s : States). IsDisk g s o) (sym same.states) down.disk;
}
stays_so g w v n (Some p) o same up = record { up = same.up ∙ up.up; run = up.run; going = up.going; states = up.states ∙ sym same.states; disk = up.disk }

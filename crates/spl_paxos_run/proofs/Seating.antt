-- A process that is taken down, and one that is brought up.
use Rattle.std.{specs.Prelude.{IsSomeAnd, IsTrue, is_some, ◌==◌, Bool}, proofs.Common.{◌≡◌, true, false, Option, Some, None, IfSome, refl, sym, ◌∙◌, ap}}
use Rattle.std.proofs.Common.{subst, ℕ, List}
use Rattle.spl_agree.proofs.Tests.{if_true, eqb_same, put-same}
use Rattle.spl_edge.specs.Devices.{Image, IsSettled}
use Rattle.spl_acceptor.specs.{Logs.JournalMakes, Processes.{VotingMember, Leader, stopped_member, stopped_leader}, Records.{MakeAcceptor, MakeMember}}
use Rattle.spl_acceptor.specs.{Records.MakeLeader, Worlds.{PaxosCommitWorld, has_name, same_name, put_name, forget, process_stopped, process_started}}
use Rattle.spl_acceptor.specs.{Held.acceptor_in, declared.{group.Group.Group, kind.TheConstants.{MEMBER, LEADER}, message.Name.Name}}
use Rattle.spl_acceptor.proofs.Logs.{stand_map}
use Rattle.spl_acceptor.specs.declared.record.PaxosRecord.{PaxosRecord}
use Rattle.spl_paxos.specs.{Leaders.leader_in, Members.member_in}
use Rattle.spl_paxos_run.specs.{Seats.{IsDown, IsProcessUp, IsSoInWorld}, States.{States, OfMember, OfAcceptor, OfLeader, MakeStates, states_in}}
use Rattle.spl_paxos_run.specs.{States.{states_stopped, states_of, is_process_halted, ProcessStands, IsOfRun}, declared.process.Process.Process}
use Rattle.spl_paxos_run.proofs.{Moves.{IsKind, AMember, AnAcceptor, ALeader, kind_of, leads}, Processes.{member_states, acceptor_states}}
use Rattle.spl_paxos_run.specs.declared.process.Process.TheVariants as process

forgets : {S : Type 0} (stop : S → S) (f : ℕ → ℕ → S) (h : ℕ) → forget stop f h h ≡ (λ r. stop (f h r))
unfolding forget
forgets stop f h = put-same f h (λ r. stop (f h r))

up_here : (f : Name → Bool) (n : Name) (x : Bool) → put_name f n x n ≡ x
unfolding put_name
up_here f n x =
    let same : same_name n n ≡ true = rw (eqb_same n.kind, eqb_same n.number) refl in
    if_true (λ (b : Bool). b ≡ x) (same_name n n) x (f n) same refl

-- what a stop leaves of the process of a name
stop_states : (w : PaxosCommitWorld) (n : Name) → IsKind n → states_in (process_stopped w n) n ≡ states_stopped (states_in w n)
stop_states w n (AMember is) = member_states (process_stopped w n) n is
    ∙ ap (λ (f : ℕ → ℕ → VotingMember). OfMember (f n.number))
    (if_true (λ (z : ℕ → ℕ → VotingMember). z ≡ forget stopped_member w.member n.number) (n.kind == MEMBER) _ _
    (subst (λ (k : ℕ). (k == MEMBER) ≡ true) (sym is) refl) refl)
    ∙ ap OfMember (forgets stopped_member w.member n.number) ∙ sym (ap states_stopped (member_states w n is))
stop_states w n (AnAcceptor is) = acceptor_states (process_stopped w n) n is ∙ sym (ap states_stopped (acceptor_states w n is))
stop_states w n (ALeader is) = leads (process_stopped w n) n is
    ∙ ap (λ (f : ℕ → ℕ → Leader). OfLeader (f n.number))
    (if_true (λ (z : ℕ → ℕ → Leader). z ≡ forget stopped_leader w.leader n.number) (n.kind == LEADER) _ _
    (subst (λ (k : ℕ). (k == LEADER) ≡ true) (sym is) refl) refl)
    ∙ ap OfLeader (forgets stopped_leader w.leader n.number) ∙ sym (ap states_stopped (leads w n is))

twice : (s : States) → states_stopped (states_stopped s) ≡ states_stopped s
twice (OfMember f) = refl
twice (OfAcceptor f) = refl
twice (OfLeader f) = refl

make_stopped : (n : ℕ) (s : States) (xs : List PaxosRecord) → MakeStates n s xs → MakeStates n (states_stopped s) xs
make_stopped n (OfMember f) xs made = made
make_stopped n (OfAcceptor f) xs made = made
make_stopped n (OfLeader f) xs made = made

pub process_makes : (g : Group) (here : ℕ) (p : Process) (i : Image) → IsOfRun g here p → ProcessStands p i
    → IsSettled i × JournalMakes (MakeStates g.members (states_of p)) i.bytes
process_makes g here (process.Member m) i run s =
    (s.log.holds.settled, subst (λ (h : Group). JournalMakes (MakeMember h.members (member_in m.rounds)) i.bytes) run.0 s.made)
process_makes g here (process.Acceptor a) i run s =
    (s.log.holds.settled, subst (λ (h : Group). JournalMakes (MakeAcceptor h.members (acceptor_in a.rounds)) i.bytes) run.0 s.made)
process_makes g here (process.Leader l) i run s =
    (s.log.holds.settled, subst (λ (h : Group). JournalMakes (MakeLeader h.members (leader_in l.rounds)) i.bytes) run.0 s.made)

some_map : (o : Option Image) (P Q : Image → Type 0) → IsSomeAnd o P → ((i : Image) → P i → Q i) → IsSomeAnd o Q
some_map None P Q h f = h
some_map (Some i) P Q h f = f i h

goes_down : (g : Group) (w : PaxosCommitWorld) (n : Name) (p : Process) (o : Option Image) → IsKind n → IsProcessUp g w n p o
    → IsDown g (process_stopped w n) n o
goes_down g w n p o kind up =
    let left = stop_states w n kind in
    let ends : states_stopped (states_of p) ≡ states_in (process_stopped w n) n = ap states_stopped up.states ∙ sym left in
    record {
      down = up_here w.up n false;
      forgotten = ap states_stopped left ∙ twice (states_in w n) ∙ sym left;
      disk = some_map o (ProcessStands p) (λ i. IsSettled i × JournalMakes (MakeStates g.members (states_in (process_stopped w n) n)) i.bytes) up.disk
          (λ i s. let made = process_makes g n.number p i up.run s in (
            made.0,
            subst (λ (t : States). JournalMakes (MakeStates g.members t) i.bytes) ends
                (stand_map (MakeStates g.members (states_of p)) (MakeStates g.members (states_stopped (states_of p))) i.bytes
                (make_stopped g.members (states_of p)) made.1),
          ));
    }

pub taken_down : (g : Group) (w : PaxosCommitWorld) (n : Name) (s : Option Process) (o : Option Image) → IsTrue (has_name g n) → w.up n ≡ true
    → IsSoInWorld g w n s o → IsSoInWorld g (process_stopped w n) n None o
taken_down g w n None o named up stands = let no : w.up n ≡ false = stands.down in absurd cc
taken_down g w n (Some p) o named up stands = goes_down g w n p o (kind_of g n named) stands

-- ---- up again

pub up_still : (g : Group) (w : PaxosCommitWorld) (n : Name) (p : Process) (o : Option Image) → IsProcessUp g w n p o
    → IsProcessUp g (process_started w n) n p o
up_still g w n p o up = record { up = up_here w.up n true; run = up.run; going = up.going; states = up.states; disk = up.disk }

pub comes_up : (g : Group) (w : PaxosCommitWorld) (n : Name) (p : Process) (q : Option Image) → IsDown g w n q → IsOfRun g n.number p
    → is_process_halted p ≡ false
    → IfSome q (λ i. JournalMakes (MakeStates g.members (states_in w n)) i.bytes → states_of p ≡ states_stopped (states_in w n))
    → IfSome q (ProcessStands p) → IsProcessUp g (process_started w n) n p q
comes_up g w n p None down run going read stands = absurd down.disk
comes_up g w n p (Some i) down run going read stands =
    record { up = up_here w.up n true; run = run; going = going; states = read down.disk.1 ∙ down.forgotten; disk = stands }

pub still_so : (g : Group) (w : PaxosCommitWorld) (n : Name) (s : Option Process) (o : Option Image) → is_some s ≡ true → IsSoInWorld g w n s o
    → IsSoInWorld g (process_started w n) n s o
still_so g w n None o some stands = cc
still_so g w n (Some p) o some stands = up_still g w n p o stands

pub is_down : (g : Group) (w : PaxosCommitWorld) (n : Name) (s : Option Process) (o : Option Image) → is_some s ≡ false → IsSoInWorld g w n s o → IsDown g w n o
is_down g w n None o none stands = stands
is_down g w n (Some p) o none stands = cc

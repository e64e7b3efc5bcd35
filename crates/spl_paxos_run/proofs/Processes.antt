-- What a process of each kind does, as a process of any kind.
use Rattle.std.{specs.{Prelude.{Result, ◌==◌}, Result.IsOkAnd}, proofs.Common.{◌≡◌, ℕ, true, false, List, Ok, Err, refl, sym, ◌∙◌, ap, subst}}
use Rattle.std.proofs.Math.Path.{fun_ext}
use Rattle.spl_agree.proofs.Tests.{if_true, if_false}
use Rattle.spl_edge.specs.Devices.{DiskView}
use Rattle.spl_journal.specs.declared.form.JournalFault.{JournalFault}
use Rattle.spl_acceptor.specs.{Logs.{records_on, JournalMakes}, Processes.{Acceptor, VotingMember, Leader}}
use Rattle.spl_acceptor.specs.{Records.{MakeRounds, MakeDurable, MakeAcceptor, MakeMember, MakeLeader}, Rows.PaxosPlan}
use Rattle.spl_acceptor.specs.{Rows.{member_after, acceptor_after, leader_after, round_carried_out}, Steps.CarriesOut, Worlds.PaxosCommitWorld}
use Rattle.spl_acceptor.specs.declared.{kind.TheConstants.{MEMBER, ACCEPTOR}, message.Name.Name}
use Rattle.spl_acceptor.{specs.declared.note.Stepped.Stepped, proofs.Lists.on_ok}
use Rattle.spl_acceptor.specs.declared.record.PaxosRecord.{PaxosRecord}
use Rattle.spl_paxos_run.specs.States.{States, OfMember, OfAcceptor, OfLeader, states_in, states_after, ProcessDoes}

module _ (n k : ℕ) (p : PaxosPlan) (x y : DiskView) (result : Result Stepped JournalFault) where
  pub member_does : (old new : ℕ → VotingMember) → CarriesOut (MakeMember n) member_after old new k p x y result
      → ProcessDoes n (OfMember old) (OfMember new) k p x y result
  member_does old new c = record {
    answer = c.answer;
    states = on_ok result ((r : ℕ) → new r ≡ round_carried_out member_after old k p r) (OfMember new ≡ states_after (OfMember old) k p)
        (λ h. ap OfMember (fun_ext h)) c.rounds;
    any_moment = c.any_moment;
    kept = c.kept;
    quiet = c.quiet;
  }

  pub acceptor_does : (old new : ℕ → Acceptor) → CarriesOut (MakeAcceptor n) acceptor_after old new k p x y result
      → ProcessDoes n (OfAcceptor old) (OfAcceptor new) k p x y result
  acceptor_does old new c = record {
    answer = c.answer;
    states = on_ok result ((r : ℕ) → new r ≡ round_carried_out acceptor_after old k p r) (OfAcceptor new ≡ states_after (OfAcceptor old) k p)
        (λ h. ap OfAcceptor (fun_ext h)) c.rounds;
    any_moment = c.any_moment;
    kept = c.kept;
    quiet = c.quiet;
  }

  pub leader_does : (old new : ℕ → Leader) → CarriesOut (MakeLeader n) leader_after old new k p x y result
      → ProcessDoes n (OfLeader old) (OfLeader new) k p x y result
  leader_does old new c = record {
    answer = c.answer;
    states = on_ok result ((r : ℕ) → new r ≡ round_carried_out leader_after old k p r) (OfLeader new ≡ states_after (OfLeader old) k p)
        (λ h. ap OfLeader (fun_ext h)) c.rounds;
    any_moment = c.any_moment;
    kept = c.kept;
    quiet = c.quiet;
  }

-- ---- a process that is opened

same_made : (P : List PaxosRecord → Type 0) (bytes : List ℕ) (Q : Type 0) → ((xs : List PaxosRecord) → P xs → Q) → JournalMakes P bytes → Q
same_made P bytes Q f = by (records_on bytes)
  where
    by : (r : Result (List PaxosRecord) ℕ) → IsOkAnd r P → Q
    by (Ok xs) h = f xs h
    by (Err at) h = absurd h

both_stand : (P Q : List PaxosRecord → Type 0) (bytes : List ℕ) → JournalMakes P bytes → JournalMakes Q bytes → JournalMakes (λ xs. P xs × Q xs) bytes
both_stand P Q bytes = by (records_on bytes)
  where
    by : (r : Result (List PaxosRecord) ℕ) → IsOkAnd r P → IsOkAnd r Q → IsOkAnd r (λ xs. P xs × Q xs)
    by (Ok xs) p q = (p, q)
    by (Err at) p q = p

-- what is read has what is made durably, and no more
pub reopened : {S : Type 0} (with : S → PaxosRecord → S) (stopped : S → S) (first : S) (Of : (ℕ → S) → States) (n : ℕ) (states f : ℕ → S) (bytes : List ℕ)
    → JournalMakes (MakeRounds with first n states) bytes → JournalMakes (MakeDurable with stopped first n f) bytes → Of states ≡ Of (λ r. stopped (f r))
reopened with stopped first Of n states f bytes read made =
    same_made (λ xs. MakeRounds with first n states xs × MakeDurable with stopped first n f xs) bytes (Of states ≡ Of (λ r. stopped (f r)))
    (λ xs h. ap Of (fun_ext (λ (r : ℕ). sym (h.0 r) ∙ h.1 r)))
    (both_stand (MakeRounds with first n states) (MakeDurable with stopped first n f) bytes read made)

-- ---- which kind a name is of

pub member_states : (w : PaxosCommitWorld) (n : Name) → n.kind ≡ MEMBER → states_in w n ≡ OfMember (w.member n.number)
member_states w n is =
    if_true (λ (s : States). s ≡ OfMember (w.member n.number)) (n.kind == MEMBER) _ _ (subst (λ (k : ℕ). (k == MEMBER) ≡ true) (sym is) refl) refl

pub acceptor_states : (w : PaxosCommitWorld) (n : Name) → n.kind ≡ ACCEPTOR → states_in w n ≡ OfAcceptor (w.acceptor n.number)
acceptor_states w n is =
    if_false (λ (s : States). s ≡ OfAcceptor (w.acceptor n.number)) (n.kind == MEMBER) _ _ (subst (λ (k : ℕ). (k == MEMBER) ≡ false) (sym is) refl)
    (if_true (λ (s : States). s ≡ OfAcceptor (w.acceptor n.number)) (n.kind == ACCEPTOR) _ _ (subst (λ (k : ℕ). (k == ACCEPTOR) ≡ true) (sym is) refl) refl)

pub leader_states : (w : PaxosCommitWorld) (n : Name) → (n.kind == MEMBER) ≡ false → (n.kind == ACCEPTOR) ≡ false → states_in w n ≡ OfLeader (w.leader n.number)
leader_states w n first second = if_false (λ (s : States). s ≡ OfLeader (w.leader n.number)) (n.kind == MEMBER) _ _ first
    (if_false (λ (s : States). s ≡ OfLeader (w.leader n.number)) (n.kind == ACCEPTOR) _ _ second refl)

-- What a message and a stop do to the processes of a world, by their names.
use Rattle.std.{specs.Prelude.{◌==◌, IsTrue}, proofs.Common.{◌≡◌, ◌≢◌, ◌⊎◌, inl, inr, ℕ, true, false, ◌&&◌, ◌||◌, refl, sym, ◌∙◌, ap, subst}}
use Rattle.spl_agree.{specs.World.put, proofs.Tests.{if_true, if_false, or_cases, and_left, eqb_is, eqb_same, put-same, put-other}}
use Rattle.spl_acceptor.specs.{Quorums.acceptors, Rows.{PaxosPlan, member_row, acceptor_row, leader_row, member_after, acceptor_after, leader_after}}
use Rattle.spl_acceptor.specs.Worlds.{PaxosCommitWorld, is_in_range, has_name, same_name, put_round, round_of, at_member, at_acceptor, at_leader}
use Rattle.spl_acceptor.specs.{Worlds.{message_heard, heard_plan}, declared.{group.Group.Group, kind.TheConstants.{MEMBER, ACCEPTOR, LEADER}}}
use Rattle.spl_acceptor.specs.declared.message.{Name.Name, PaxosMsg.PaxosMsg}
use Rattle.spl_paxos_run.{specs.States.{States, OfMember, OfAcceptor, OfLeader, states_in, states_after, heard_by}, proofs.Processes.member_states}
use Rattle.spl_paxos_run.proofs.Processes.{acceptor_states, leader_states}

-- ---- one number of many

pub here : {S : Type 0} (f : ℕ → ℕ → S) (h k : ℕ) (s : S) → put_round f h k s h ≡ put (f h) k s
unfolding put_round
here f h k s = put-same f h (put (f h) k s)

pub elsewhere : {S : Type 0} (f : ℕ → ℕ → S) (h k : ℕ) (s : S) (i : ℕ) → i ≢ h → put_round f h k s i ≡ f i
unfolding put_round
elsewhere f h k s i d = put-other f h (put (f h) k s) i d

-- ---- kinds

pub data IsKind (n : Name) : Type 0 where
  AMember : n.kind ≡ MEMBER → IsKind n
  AnAcceptor : n.kind ≡ ACCEPTOR → IsKind n
  ALeader : n.kind ≡ LEADER → IsKind n

pub kind_of : (g : Group) (n : Name) → IsTrue (has_name g n) → IsKind n
kind_of g n h = by (or_cases (n.kind == MEMBER && is_in_range g.members n.number) _ h)
  where
    by_two : ((n.kind == ACCEPTOR && is_in_range (acceptors g.faults) n.number) ≡ true) ⊎ ((n.kind == LEADER && is_in_range 3 n.number) ≡ true) → IsKind n
    by_two (inl e) = AnAcceptor (eqb_is n.kind ACCEPTOR (and_left (n.kind == ACCEPTOR) _ e))
    by_two (inr e) = ALeader (eqb_is n.kind LEADER (and_left (n.kind == LEADER) _ e))

    by : ((n.kind == MEMBER && is_in_range g.members n.number) ≡ true)
        ⊎ (((n.kind == ACCEPTOR && is_in_range (acceptors g.faults) n.number) || (n.kind == LEADER && is_in_range 3 n.number)) ≡ true) → IsKind n
    by (inl e) = AMember (eqb_is n.kind MEMBER (and_left (n.kind == MEMBER) _ e))
    by (inr e) = by_two (or_cases (n.kind == ACCEPTOR && is_in_range (acceptors g.faults) n.number) _ e)

pub not_member : (n : Name) (k : ℕ) → n.kind ≡ k → (k == MEMBER) ≡ false → (n.kind == MEMBER) ≡ false
not_member n k is h = subst (λ (j : ℕ). (j == MEMBER) ≡ false) (sym is) h

pub not_acceptor : (n : Name) (k : ℕ) → n.kind ≡ k → (k == ACCEPTOR) ≡ false → (n.kind == ACCEPTOR) ≡ false
not_acceptor n k is h = subst (λ (j : ℕ). (j == ACCEPTOR) ≡ false) (sym is) h

pub leads : (w : PaxosCommitWorld) (n : Name) → n.kind ≡ LEADER → states_in w n ≡ OfLeader (w.leader n.number)
leads w n is = leader_states w n (not_member n LEADER is refl) (not_acceptor n LEADER is refl)

-- names of one kind that differ have other numbers
pub other_number : (a b : Name) → a.kind ≡ b.kind → same_name a b ≡ false → b.number ≢ a.number
other_number a b kinds other same =
    let one : (a.kind == b.kind) ≡ true = subst (λ (k : ℕ). (a.kind == k) ≡ true) kinds (eqb_same a.kind) in
    let two : (a.number == b.number) ≡ true = subst (λ (k : ℕ). (a.number == k) ≡ true) (sym same) (eqb_same a.number) in
    let both : same_name a b ≡ true = rw (one, two) refl in
    absurd cc

-- ---- a message

module _ (g : Group) (w : PaxosCommitWorld) (from to : Name) (m : PaxosMsg) where
  abbrev r : ℕ
  r = round_of m

  abbrev i : ℕ
  i = to.number

  pub as_member : to.kind ≡ MEMBER → message_heard g w from to m ≡ at_member w i r (member_row g (w.member i r) from m)
  as_member is =
      if_true (λ (v : PaxosCommitWorld). v ≡ at_member w i r (member_row g (w.member i r) from m)) (to.kind == MEMBER) _ _
      (subst (λ (k : ℕ). (k == MEMBER) ≡ true) (sym is) refl) refl

  pub as_acceptor : to.kind ≡ ACCEPTOR → message_heard g w from to m ≡ at_acceptor w i r (acceptor_row g (w.acceptor i r) from m)
  as_acceptor is =
      if_false (λ (v : PaxosCommitWorld). v ≡ at_acceptor w i r (acceptor_row g (w.acceptor i r) from m)) (to.kind == MEMBER) _ _
      (not_member to ACCEPTOR is refl)
      (if_true (λ (v : PaxosCommitWorld). v ≡ at_acceptor w i r (acceptor_row g (w.acceptor i r) from m)) (to.kind == ACCEPTOR) _ _
      (subst (λ (k : ℕ). (k == ACCEPTOR) ≡ true) (sym is) refl) refl)

  pub as_leader : to.kind ≡ LEADER → message_heard g w from to m ≡ at_leader w i r (leader_row g (w.leader i r) from m)
  as_leader is =
      if_false (λ (v : PaxosCommitWorld). v ≡ at_leader w i r (leader_row g (w.leader i r) from m)) (to.kind == MEMBER) _ _ (not_member to LEADER is refl)
      (if_false (λ (v : PaxosCommitWorld). v ≡ at_leader w i r (leader_row g (w.leader i r) from m)) (to.kind == ACCEPTOR) _ _
      (not_acceptor to LEADER is refl) refl)

  pub plan_is : IsKind to → heard_plan g w from to m ≡ heard_by g (states_in w to) from m
  plan_is (AMember is) =
      if_true (λ (p : PaxosPlan). p ≡ member_row g (w.member i r) from m) (to.kind == MEMBER) _ _ (subst (λ (k : ℕ). (k == MEMBER) ≡ true) (sym is) refl) refl
      ∙ sym (ap (λ (s : States). heard_by g s from m) (member_states w to is))
  plan_is (AnAcceptor is) = if_false (λ (p : PaxosPlan). p ≡ acceptor_row g (w.acceptor i r) from m) (to.kind == MEMBER) _ _ (not_member to ACCEPTOR is refl)
      (if_true (λ (p : PaxosPlan). p ≡ acceptor_row g (w.acceptor i r) from m) (to.kind == ACCEPTOR) _ _
      (subst (λ (k : ℕ). (k == ACCEPTOR) ≡ true) (sym is) refl) refl)
      ∙ sym (ap (λ (s : States). heard_by g s from m) (acceptor_states w to is))
  plan_is (ALeader is) = if_false (λ (p : PaxosPlan). p ≡ leader_row g (w.leader i r) from m) (to.kind == MEMBER) _ _ (not_member to LEADER is refl)
      (if_false (λ (p : PaxosPlan). p ≡ leader_row g (w.leader i r) from m) (to.kind == ACCEPTOR) _ _ (not_acceptor to LEADER is refl) refl)
      ∙ sym (ap (λ (s : States). heard_by g s from m) (leads w to is))

  pub moved : IsKind to → states_in (message_heard g w from to m) to ≡ states_after (states_in w to) r (heard_by g (states_in w to) from m)
  moved (AMember is) = ap (λ (v : PaxosCommitWorld). states_in v to) (as_member is) ∙ member_states (at_member w i r (member_row g (w.member i r) from m)) to is
      ∙ ap OfMember (here w.member i r (member_after (w.member i r) (member_row g (w.member i r) from m)))
      ∙ sym (ap (λ (s : States). states_after s r (heard_by g s from m)) (member_states w to is))
  moved (AnAcceptor is) =
      ap (λ (v : PaxosCommitWorld). states_in v to) (as_acceptor is) ∙ acceptor_states (at_acceptor w i r (acceptor_row g (w.acceptor i r) from m)) to is
      ∙ ap OfAcceptor (here w.acceptor i r (acceptor_after (w.acceptor i r) (acceptor_row g (w.acceptor i r) from m)))
      ∙ sym (ap (λ (s : States). states_after s r (heard_by g s from m)) (acceptor_states w to is))
  moved (ALeader is) = ap (λ (v : PaxosCommitWorld). states_in v to) (as_leader is) ∙ leads (at_leader w i r (leader_row g (w.leader i r) from m)) to is
      ∙ ap OfLeader (here w.leader i r (leader_after (w.leader i r) (leader_row g (w.leader i r) from m)))
      ∙ sym (ap (λ (s : States). states_after s r (heard_by g s from m)) (leads w to is))

-- ---- other processes

module _ (w : PaxosCommitWorld) (i r : ℕ) (p : PaxosPlan) (n : Name) where
  pub past_member : (to : Name) → to.number ≡ i → to.kind ≡ MEMBER → same_name to n ≡ false → IsKind n → states_in (at_member w i r p) n ≡ states_in w n
  past_member to num kind other (AMember is) = member_states (at_member w i r p) n is
      ∙ ap OfMember (elsewhere w.member i r (member_after (w.member i r) p) n.number (λ e. other_number to n (kind ∙ sym is) other (e ∙ sym num)))
      ∙ sym (member_states w n is)
  past_member to num kind other (AnAcceptor is) = acceptor_states (at_member w i r p) n is ∙ sym (acceptor_states w n is)
  past_member to num kind other (ALeader is) = leads (at_member w i r p) n is ∙ sym (leads w n is)

  pub past_acceptor : (to : Name) → to.number ≡ i → to.kind ≡ ACCEPTOR → same_name to n ≡ false → IsKind n → states_in (at_acceptor w i r p) n ≡ states_in w n
  past_acceptor to num kind other (AMember is) = member_states (at_acceptor w i r p) n is ∙ sym (member_states w n is)
  past_acceptor to num kind other (AnAcceptor is) = acceptor_states (at_acceptor w i r p) n is
      ∙ ap OfAcceptor (elsewhere w.acceptor i r (acceptor_after (w.acceptor i r) p) n.number (λ e. other_number to n (kind ∙ sym is) other (e ∙ sym num)))
      ∙ sym (acceptor_states w n is)
  past_acceptor to num kind other (ALeader is) = leads (at_acceptor w i r p) n is ∙ sym (leads w n is)

  pub past_leader : (to : Name) → to.number ≡ i → to.kind ≡ LEADER → same_name to n ≡ false → IsKind n → states_in (at_leader w i r p) n ≡ states_in w n
  past_leader to num kind other (AMember is) = member_states (at_leader w i r p) n is ∙ sym (member_states w n is)
  past_leader to num kind other (AnAcceptor is) = acceptor_states (at_leader w i r p) n is ∙ sym (acceptor_states w n is)
  past_leader to num kind other (ALeader is) = leads (at_leader w i r p) n is
      ∙ ap OfLeader (elsewhere w.leader i r (leader_after (w.leader i r) p) n.number (λ e. other_number to n (kind ∙ sym is) other (e ∙ sym num)))
      ∙ sym (leads w n is)

pub others_stay : (g : Group) (w : PaxosCommitWorld) (from to n : Name) (m : PaxosMsg) → IsKind to → IsKind n → same_name to n ≡ false
    → states_in (message_heard g w from to m) n ≡ states_in w n
others_stay g w from to n m (AMember is) kind other =
    ap (λ (v : PaxosCommitWorld). states_in v n) (as_member g w from to m is)
    ∙ past_member w to.number (round_of m) (member_row g (w.member to.number (round_of m)) from m) n to refl is other kind
others_stay g w from to n m (AnAcceptor is) kind other =
    ap (λ (v : PaxosCommitWorld). states_in v n) (as_acceptor g w from to m is)
    ∙ past_acceptor w to.number (round_of m) (acceptor_row g (w.acceptor to.number (round_of m)) from m) n to refl is other kind
others_stay g w from to n m (ALeader is) kind other =
    ap (λ (v : PaxosCommitWorld). states_in v n) (as_leader g w from to m is)
    ∙ past_leader w to.number (round_of m) (leader_row g (w.leader to.number (round_of m)) from m) n to refl is other kind

pub named_plan : (g : Group) (w : PaxosCommitWorld) (from to : Name) (m : PaxosMsg) → IsTrue (has_name g to)
    → heard_plan g w from to m ≡ heard_by g (states_in w to) from m
named_plan g w from to m h = plan_is g w from to m (kind_of g to h)

pub named_moved : (g : Group) (w : PaxosCommitWorld) (from to : Name) (m : PaxosMsg) → IsTrue (has_name g to)
    → states_in (message_heard g w from to m) to ≡ states_after (states_in w to) (round_of m) (heard_by g (states_in w to) from m)
named_moved g w from to m h = moved g w from to m (kind_of g to h)

pub named_others : (g : Group) (w : PaxosCommitWorld) (from to n : Name) (m : PaxosMsg) → IsTrue (has_name g to) → IsTrue (has_name g n)
    → same_name to n ≡ false → states_in (message_heard g w from to m) n ≡ states_in w n
named_others g w from to n m h k other = others_stay g w from to n m (kind_of g to h) (kind_of g n k) other

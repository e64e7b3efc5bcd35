-- Each step keeps the soundness of its round.
use Rattle.std.{specs.Prelude.{List, [], ◌∷◌, Option, Some, None, nat_lt, ◌==◌, not, is_none, is_some, if◌then◌else◌}, proofs.Common.{◌≡◌, ℕ, ◌+◌, ◌<◌, ◌≤◌}}
use Rattle.std.proofs.Common.{◌^◌, Bool, true, false, ◌&&◌, eqb, refl, sym, subst, ◌∙◌, ap, arith}
use Rattle.spl_agree.{specs.World.put, proofs.Tests.{if_holds, ltb_is, ltb_not, eqb_is, put-same, put-other, and_left, and_right}}
use Rattle.spl_acceptor.specs.{Quorums.{IsWithin, numbers, count, all_within, acceptors, has_quorum}, Processes.{Pair, Pairs, Acceptor, VotingMember}}
use Rattle.spl_acceptor.specs.{Processes.{PaxosBallot, Leader}, Rows.{PaxosPlan, member, acceptor, leader, leader_of, is_leader_of, to_acceptors, to_members}}
use Rattle.spl_acceptor.specs.Rows.{on_paxos_vote, same_bool, has_accepted, is_chosen, is_prepared, on_accepted, member_row, pledges, promises, decline_plan}
use Rattle.spl_acceptor.specs.Rows.{on_ask, is_pair, accept_plan, may_order, on_accept, acceptor_row, next_ballot, begin_plan, on_lead, pair_among, choice}
use Rattle.spl_acceptor.specs.Rows.{orders, counts_promise, on_promise, on_higher, leader_row, acceptor_changed, with_promise, acceptor_after, member_after}
use Rattle.spl_acceptor.specs.{Rows.leader_after, Worlds.{paxos_posted, round_of, message_heard}, declared.{group.Group.Group, message.Acceptance.Acceptance}}
use Rattle.spl_acceptor.specs.declared.message.{Name.Name, PaxosMsg.PaxosMsg}
use Rattle.spl_acceptor.specs.declared.record.PaxosRecord.{PaxosRecord}
use Rattle.spl_acceptor.specs.declared.message.PaxosMsg.TheVariants as msg
use Rattle.spl_acceptor.specs.declared.record.PaxosRecord.TheVariants as kept
use Rattle.spl_paxos_safety.proofs.Round.{Message, Accept, Promise, Accepted, Round, IsAmong, with_member, with_acceptor, with_leader, said, seen}
use Rattle.spl_paxos_safety.proofs.{Quorums.within-last, Soundness.{Accepts, Sound}, AcceptorRows.{promises-sound, accepts-sound, declines-sound}}
use Rattle.spl_paxos_safety.proofs.{AcceptorRows.{idle-acceptor-sound, Only}, MemberRows.{voted-sound, abort-sound, commit-sound, counts-sound}}
use Rattle.spl_paxos_safety.proofs.{MemberRows.idle-member-sound, Greatest.Heard, LeaderRows.{noted-sound, idle-leader-sound, begun-sound, closes-sound}}
use Rattle.spl_paxos_safety.proofs.{LeaderRows.{heard-sound, hears-more}, Pledges.{pledges-from, pledges-within}, Said.{AllOf, seen-one, within-numbers}}
use Rattle.spl_paxos_safety.proofs.{Said.{acceptors-all, members-all, one-all, each-only, each-said, orders-all, orders-said}, Ballots.{next-own, next-above}}

-- a plan is carried out in its round
abbrev pub MemberStep : Group → Round → ℕ → ℕ → PaxosPlan → Type 0
MemberStep g v r h p = Sound g (with_member v h (member_after (v.member h) p) (seen r (paxos_posted (member h) p.sends)))

abbrev pub AcceptorStep : Group → Round → ℕ → ℕ → PaxosPlan → Type 0
AcceptorStep g v r a p = Sound g (with_acceptor v a (acceptor_after (v.acceptor a) p) (seen r (paxos_posted (acceptor a) p.sends)))

abbrev pub LeaderStep : Group → Round → ℕ → ℕ → PaxosPlan → Type 0
LeaderStep g v r l p = Sound g (with_leader v l (leader_after (v.leader l) p) (seen r (paxos_posted (leader l) p.sends)))

-- ---- a member

pub vote-step : (g : Group) (v : Round) (r h : ℕ) (p : Bool) → IsWithin g.members h → is_none (v.member h).vote ≡ true → Sound g v
    → MemberStep g v r h (on_paxos_vote g h r p)
vote-step g v r h p w free s =
    voted-sound g v h p (seen r (paxos_posted (member h) (to_acceptors g (msg.Accept r h 0 p)))) w free
    (each-only r (member h) acceptor (msg.Accept r h 0 p) (numbers (acceptors g.faults))) s

accepted-step : (g : Group) (v : Round) (r k h : ℕ) (x : Acceptance) → Accepts v.sent x.acceptor x.member x.ballot x.prepared → Sound g v
    → MemberStep g v r h (on_accepted g k x (v.member h).counted)
accepted-step g v r k h x u s = if_holds (MemberStep g v r h) (is_chosen g (x ∷ (v.member h).counted) x.member x.ballot false) _ _
    (λ q. abort-sound g v h x u q s)
    (λ q. if_holds (MemberStep g v r h) (all_within g.members (is_prepared g (x ∷ (v.member h).counted))) _ _
    (λ t. commit-sound g v h x u t s)
    (λ t. if_holds (MemberStep g v r h) (has_accepted (v.member h).counted x.member x.ballot x.prepared x.acceptor) _ _
    (λ z. idle-member-sound g v h s)
    (λ z. counts-sound g v h x u s)))

pub member_row-step : (g : Group) (v : Round) (r h : ℕ) (from : Name) (m : PaxosMsg) → IsAmong (said from.number m) v.sent → Sound g v
    → MemberStep g v r h (member_row g (v.member h) from m)
member_row-step g v r h from (msg.Accepted k i b p) u s = if_holds (MemberStep g v r h) (is_some (v.member h).decision) _ _
    (λ q. idle-member-sound g v h s)
    (λ q. accepted-step g v r k h (record { acceptor = from.number; member = i; ballot = b; prepared = p }) u s)
member_row-step g v r h from (msg.Ask k b) u s = idle-member-sound g v h s
member_row-step g v r h from (msg.Accept k i b p) u s = idle-member-sound g v h s
member_row-step g v r h from (msg.Promise k b pairs) u s = idle-member-sound g v h s
member_row-step g v r h from (msg.Higher k b) u s = idle-member-sound g v h s

-- ---- an acceptor

promises-step : (g : Group) (v : Round) (r a b : ℕ) (from : Name) → (v.acceptor a).promised ≤ b → Sound g v
    → AcceptorStep g v r a (promises g (v.acceptor a) from r b)
promises-step g v r a b from l s =
    subst (λ (xs : List Message). Sound g (with_acceptor v a (acceptor_changed old change) xs))
    (sym (seen-one r (acceptor a) from (msg.Promise r b (pledges g.members old.accepted)) refl))
    (if_holds (λ (c : Option PaxosRecord). Sound g (with_acceptor v a (acceptor_changed old c) (Promise a b pairs ∷ []))) (old.promised == b) None
    (Some (kept.Promised r b))
    (λ q. promises-sound g v a b old pairs l (eqb_is old.promised b q) refl from_old within s)
    (λ q. promises-sound g v a b (record { promised = b; accepted = old.accepted }) pairs l refl refl from_old within s))
  where
    old : Acceptor
    old = v.acceptor a

    change : Option PaxosRecord
    change = if old.promised == b then None else Some (kept.Promised r b)

    pairs : Pairs
    pairs = pair_among (pledges g.members old.accepted)

    from_old : (i : ℕ) (z : Pair) → pairs i ≡ Some z → old.accepted i ≡ Some z
    from_old i z e = pledges-from g.members old.accepted i z e

    within : (i : ℕ) → IsWithin g.members i → pairs i ≡ old.accepted i
    within i w = pledges-within g.members old.accepted i w

declines-step : (g : Group) (v : Round) (r a : ℕ) (from : Name) → Sound g v → AcceptorStep g v r a (decline_plan (v.acceptor a) from r)
declines-step g v r a from s =
    subst (λ (xs : List Message). Sound g (with_acceptor v a (v.acceptor a) xs))
    (sym (seen-one r (acceptor a) from (msg.Higher r (v.acceptor a).promised) refl))
    (declines-sound g v a (v.acceptor a).promised s)

ask-step : (g : Group) (v : Round) (r a b : ℕ) (from : Name) → Sound g v → AcceptorStep g v r a (on_ask g (v.acceptor a) from r b)
ask-step g v r a b from s = if_holds (AcceptorStep g v r a) (is_leader_of b from) _ _
    (λ q. if_holds (AcceptorStep g v r a) (nat_lt b (v.acceptor a).promised) _ _ (λ t. declines-step g v r a from s)
    (λ t. promises-step g v r a b from (ltb_not b (v.acceptor a).promised t) s))
    (λ q. idle-acceptor-sound g v a s)

same-is : (p q : Bool) → same_bool p q ≡ true → p ≡ q
same-is true true e = refl
same-is true false e = cc
same-is false true e = cc
same-is false false e = refl

pair-is : (b : ℕ) (p : Bool) (o : Option Pair) → is_pair b p o ≡ true → o ≡ Some (b, p)
pair-is b p None e = cc
pair-is b p (Some x) e =
    let k : x.0 ≡ b = eqb_is x.0 b (and_left (eqb x.0 b) (same_bool x.1 p) e) in
    let l : x.1 ≡ p = same-is x.1 p (and_right (eqb x.0 b) (same_bool x.1 p) e) in
    ap (λ (n : ℕ). Some (n, x.1)) k ∙ ap (λ (q : Bool). Some (b, q)) l

accepts-step : (g : Group) (v : Round) (r a i b : ℕ) (p : Bool) → (v.acceptor a).promised ≤ b → IsAmong (Accept i b p) v.sent → Sound g v
    → AcceptorStep g v r a (accept_plan g (v.acceptor a) r i b p)
accepts-step g v r a i b p l asked s =
    if_holds (λ (c : Option PaxosRecord). Sound g (with_acceptor v a (acceptor_changed old c) sends))
    (old.promised == b && is_pair b p (old.accepted i)) None (Some (kept.Accepted r i b p))
    (λ q. accepts-sound g v a i b p old sends l (eqb_is old.promised b (and_left (old.promised == b) (is_pair b p (old.accepted i)) q))
    (pair-is b p (old.accepted i) (and_right (old.promised == b) (is_pair b p (old.accepted i)) q)) (λ j n. refl) asked only has s)
    (λ q. accepts-sound g v a i b p (record { promised = b; accepted = put old.accepted i (Some (b, p)) }) sends l refl
    (put-same old.accepted i (Some (b, p))) (λ j n. put-other old.accepted i (Some (b, p)) j n) asked only has s)
  where
    old : Acceptor
    old = v.acceptor a

    sends : List Message
    sends = seen r (paxos_posted (acceptor a) (to_members g (msg.Accepted r i b p)))

    only : Only (Accepted a i b p) sends
    only = each-only r (acceptor a) member (msg.Accepted r i b p) (numbers g.members)

    has : IsAmong (Accepted a i b p) sends
    has = each-said r (acceptor a) member (msg.Accepted r i b p) (numbers g.members) i (within-numbers g.members i (s.ordered i b p asked).member) refl

not-true : (c : Bool) → not c ≡ true → c ≡ false
not-true true e = cc
not-true false e = refl

accept-step : (g : Group) (v : Round) (r a i b : ℕ) (p : Bool) (from : Name) → IsAmong (Accept i b p) v.sent → Sound g v
    → AcceptorStep g v r a (on_accept g (v.acceptor a) from r i b p)
accept-step g v r a i b p from u s = if_holds (AcceptorStep g v r a) (may_order i b from && not (nat_lt b (v.acceptor a).promised)) _ _
    (λ q. accepts-step g v r a i b p
    (ltb_not b (v.acceptor a).promised
    (not-true (nat_lt b (v.acceptor a).promised) (and_right (may_order i b from) (not (nat_lt b (v.acceptor a).promised)) q))) u s)
    (λ q. idle-acceptor-sound g v a s)

-- the message is of the round
pub acceptor_row-step : (g : Group) (v : Round) (a : ℕ) (from : Name) (m : PaxosMsg) → IsAmong (said from.number m) v.sent → Sound g v
    → AcceptorStep g v (round_of m) a (acceptor_row g (v.acceptor a) from m)
acceptor_row-step g v a from (msg.Ask r b) u s = ask-step g v r a b from s
acceptor_row-step g v a from (msg.Accept r i b p) u s = accept-step g v r a i b p from u s
acceptor_row-step g v a from (msg.Promise r b pairs) u s = idle-acceptor-sound g v a s
acceptor_row-step g v a from (msg.Higher r b) u s = idle-acceptor-sound g v a s
acceptor_row-step g v a from (msg.Accepted r i b p) u s = idle-acceptor-sound g v a s

-- ---- a leader

begins-step : (g : Group) (v : Round) (r l b : ℕ) → (v.leader l).used < b → leader_of b ≡ l → Sound g v → LeaderStep g v r l (begin_plan g r b)
begins-step g v r l b k own s = begun-sound g v l b sends k own (each-only r (leader l) acceptor (msg.Ask r b) (numbers (acceptors g.faults)))
    (each-said r (leader l) acceptor (msg.Ask r b) (numbers (acceptors g.faults)) (acceptors g.faults)
    (within-numbers (acceptors g.faults) (acceptors g.faults) (within-last (g.faults + g.faults))) refl) s
  where
    sends : List Message
    sends = seen r (paxos_posted (leader l) (to_acceptors g (msg.Ask r b)))

pub lead-step : (g : Group) (v : Round) (r l : ℕ) → IsWithin 3 l → Sound g v → LeaderStep g v r l (on_lead g l (v.leader l) r)
lead-step g v r l w s = if_holds (LeaderStep g v r l) (nat_lt (next_ballot l (v.leader l).used) (2 ^ 64)) _ _
    (λ q. begins-step g v r l (next_ballot l (v.leader l).used) (next-above l (v.leader l).used) (next-own l (v.leader l).used w) s)
    (λ q. idle-leader-sound g v l s)

-- a ballot is open, and one promise more is counted for it
counts-step : (g : Group) (v : Round) (r l a : ℕ) (o : PaxosBallot) (pairs : Pairs) → (v.leader l).opened ≡ Some o
    → IsAmong (Promise a o.number pairs) v.sent → Sound g v
    → LeaderStep g v r l (counts_promise g r o.number a pairs (put o.promises a (Some pairs)))
counts-step g v r l a o pairs e u s = if_holds (LeaderStep g v r l) (has_quorum g.faults (λ (c : ℕ). is_some (heard c))) _ _
    (λ q. closes-sound g v l o heard (seen r (paxos_posted (leader l) (orders g r o.number (choice g heard) (numbers g.members)))) e all
    (let k : g.faults < count (acceptors g.faults) (λ (c : ℕ). is_some (heard c)) = ltb_is g.faults
    (count (acceptors g.faults) (λ (c : ℕ). is_some (heard c))) q in omega arith)
    (orders-said g r o.number (leader l) (choice g heard)) s)
    (λ q. subst (λ (z : Option PaxosBallot). Sound g (with_leader v l (record { used = (v.leader l).used; opened = with_promise z a pairs }) [])) (sym e)
    (heard-sound g v l o heard e all s))
  where
    heard : ℕ → Option Pairs
    heard = put o.promises a (Some pairs)

    all : Heard v o.number heard
    all = hears-more g v l o a pairs e u s

promise-step : (g : Group) (v : Round) (r l a b : ℕ) (o : Option PaxosBallot) (pairs : Pairs) → (v.leader l).opened ≡ o
    → IsAmong (Promise a b pairs) v.sent → Sound g v → LeaderStep g v r l (on_promise g o r a b pairs)
promise-step g v r l a b None pairs e u s = idle-leader-sound g v l s
promise-step g v r l a b (Some o) pairs e u s = if_holds (LeaderStep g v r l) (o.number == b && is_none (o.promises a)) _ _
    (λ q. let k : o.number ≡ b = eqb_is o.number b (and_left (o.number == b) (is_none (o.promises a)) q) in
    subst (λ (z : ℕ). LeaderStep g v r l (counts_promise g r z a pairs (put o.promises a (Some pairs)))) k
    (counts-step g v r l a o pairs e (subst (λ (z : ℕ). IsAmong (Promise a z pairs) v.sent) (sym k) u) s))
    (λ q. idle-leader-sound g v l s)

higher-step : (g : Group) (v : Round) (r l b : ℕ) → Sound g v → LeaderStep g v r l (on_higher (v.leader l) r b)
higher-step g v r l b s =
    if_holds (LeaderStep g v r l) (nat_lt (v.leader l).used b) _ _ (λ q. noted-sound g v l b (ltb_is (v.leader l).used b q) s)
    (λ q. idle-leader-sound g v l s)

pub leader_row-step : (g : Group) (v : Round) (l : ℕ) (from : Name) (m : PaxosMsg) → IsAmong (said from.number m) v.sent → Sound g v
    → LeaderStep g v (round_of m) l (leader_row g (v.leader l) from m)
leader_row-step g v l from (msg.Promise r b pairs) u s = promise-step g v r l from.number b (v.leader l).opened (pair_among pairs) refl u s
leader_row-step g v l from (msg.Higher r b) u s = higher-step g v r l b s
leader_row-step g v l from (msg.Ask r b) u s = idle-leader-sound g v l s
leader_row-step g v l from (msg.Accept r i b p) u s = idle-leader-sound g v l s
leader_row-step g v l from (msg.Accepted r i b p) u s = idle-leader-sound g v l s

-- ---- all that a row sends is of the round of its message

accepted-all : (g : Group) (r k : ℕ) (x : Acceptance) (counted : List Acceptance) → AllOf r (on_accepted g k x counted).sends
accepted-all g r k x counted = if_holds (λ (p : PaxosPlan). AllOf r p.sends) (is_chosen g (x ∷ counted) x.member x.ballot false) _ _ (λ q s u. absurd u)
    (λ q. if_holds (λ (p : PaxosPlan). AllOf r p.sends) (all_within g.members (is_prepared g (x ∷ counted))) _ _ (λ t s u. absurd u)
    (λ t. if_holds (λ (p : PaxosPlan). AllOf r p.sends) (has_accepted counted x.member x.ballot x.prepared x.acceptor) _ _ (λ z s u. absurd u)
    (λ z s u. absurd u)))

pub member_row-all : (g : Group) (m : VotingMember) (from : Name) (x : PaxosMsg) → AllOf (round_of x) (member_row g m from x).sends
member_row-all g m from (msg.Accepted k i b p) =
    if_holds (λ (p : PaxosPlan). AllOf k p.sends) (is_some m.decision) _ _ (λ q s u. absurd u)
    (λ q. accepted-all g k k (record { acceptor = from.number; member = i; ballot = b; prepared = p }) m.counted)
member_row-all g m from (msg.Ask k b) = λ s u. absurd u
member_row-all g m from (msg.Accept k i b p) = λ s u. absurd u
member_row-all g m from (msg.Promise k b pairs) = λ s u. absurd u
member_row-all g m from (msg.Higher k b) = λ s u. absurd u

pub acceptor_row-all : (g : Group) (a : Acceptor) (from : Name) (x : PaxosMsg) → AllOf (round_of x) (acceptor_row g a from x).sends
acceptor_row-all g a from (msg.Ask k b) = if_holds (λ (p : PaxosPlan). AllOf k p.sends) (is_leader_of b from) _ _
    (λ q. if_holds (λ (p : PaxosPlan). AllOf k p.sends) (nat_lt b a.promised) _ _ (λ t. one-all k from (msg.Higher k a.promised) refl)
    (λ t. one-all k from (msg.Promise k b (pledges g.members a.accepted)) refl))
    (λ q s u. absurd u)
acceptor_row-all g a from (msg.Accept k i b p) =
    if_holds (λ (p : PaxosPlan). AllOf k p.sends) (may_order i b from && not (nat_lt b a.promised)) _ _ (λ q. members-all g k (msg.Accepted k i b p) refl)
    (λ q s u. absurd u)
acceptor_row-all g a from (msg.Promise k b pairs) = λ s u. absurd u
acceptor_row-all g a from (msg.Higher k b) = λ s u. absurd u
acceptor_row-all g a from (msg.Accepted k i b p) = λ s u. absurd u

promise-all : (g : Group) (o : Option PaxosBallot) (r a b : ℕ) (pairs : Pairs) → AllOf r (on_promise g o r a b pairs).sends
promise-all g None r a b pairs = λ s u. absurd u
promise-all g (Some o) r a b pairs = if_holds (λ (p : PaxosPlan). AllOf r p.sends) (o.number == b && is_none (o.promises a)) _ _
    (λ q. counts (put o.promises a (Some pairs)))
    (λ q s u. absurd u)
  where
    counts : (heard : ℕ → Option Pairs) → AllOf r (counts_promise g r b a pairs heard).sends
    counts heard =
        if_holds (λ (p : PaxosPlan). AllOf r p.sends) (has_quorum g.faults (λ (c : ℕ). is_some (heard c))) _ _
        (λ t. orders-all g r b (choice g heard) (numbers g.members)) (λ t s u. absurd u)

pub leader_row-all : (g : Group) (l : Leader) (from : Name) (x : PaxosMsg) → AllOf (round_of x) (leader_row g l from x).sends
leader_row-all g l from (msg.Promise k b pairs) = promise-all g l.opened k from.number b (pair_among pairs)
leader_row-all g l from (msg.Higher k b) = if_holds (λ (p : PaxosPlan). AllOf k p.sends) (nat_lt l.used b) _ _ (λ q s u. absurd u) (λ q s u. absurd u)
leader_row-all g l from (msg.Ask k b) = λ s u. absurd u
leader_row-all g l from (msg.Accept k i b p) = λ s u. absurd u
leader_row-all g l from (msg.Accepted k i b p) = λ s u. absurd u

pub lead-all : (g : Group) (h : ℕ) (l : Leader) (r : ℕ) → AllOf r (on_lead g h l r).sends
lead-all g h l r =
    if_holds (λ (p : PaxosPlan). AllOf r p.sends) (nat_lt (next_ballot h l.used) (2 ^ 64)) _ _
    (λ q. acceptors-all g r (msg.Ask r (next_ballot h l.used)) refl) (λ q s u. absurd u)

pub vote-all : (g : Group) (h r : ℕ) (p : Bool) → AllOf r (on_paxos_vote g h r p).sends
vote-all g h r p = acceptors-all g r (msg.Accept r h 0 p) refl

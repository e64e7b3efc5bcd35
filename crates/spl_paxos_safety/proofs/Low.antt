-- Numbers stay low: each line raises the greatest of them by three at most.
use Rattle.std.{specs.Prelude.{Option, Some, None, nat_lt, not, ◌==◌, is_none, is_some, if◌then◌else◌}, proofs.Common.{◌≡◌, ℕ, ◌+◌, ◌*◌, ◌≤◌, ◌⊎◌, ◌^◌, Bool}}
use Rattle.std.proofs.Common.{false, ◌&&◌, List, [], ◌∷◌, ◌++◌, length, inl, inr, refl, sym, subst, arith}
use Rattle.spl_agree.{specs.World.put, proofs.Tests.if_holds}
use Rattle.spl_acceptor.specs.{Quorums.{numbers, all_within, acceptors, has_quorum}, Processes.{Pairs, Acceptor, VotingMember, PaxosBallot, Leader}}
use Rattle.spl_acceptor.specs.{Processes.stopped_leader, Rows.{PaxosPlan, member, acceptor, leader, is_leader_of, to_each_process, on_paxos_vote}}
use Rattle.spl_acceptor.specs.Rows.{has_accepted, is_chosen, is_prepared, on_accepted, member_row, pledges, is_pair, may_order, acceptor_row, next_ballot}
use Rattle.spl_acceptor.specs.Rows.{on_lead, pair_among, choice, orders, counts_promise, on_promise, leader_row, acceptor_changed, with_promise}
use Rattle.spl_acceptor.specs.{Rows.{acceptor_after, leader_after}, Worlds.{PaxosCommitWorld, SentPaxosMessage, has_name, first_paxos_world, paxos_on_pair}}
use Rattle.spl_acceptor.specs.Worlds.{message_at, paxos_posted, at_member, at_acceptor, at_leader, Happening, Votes, Leads, Delivers, Shows, Stops, Starts}
use Rattle.spl_acceptor.specs.Worlds.{round_of, message_heard, paxos_delivered, forget, process_stopped, paxos_happens, paxos_run, paxos_world_after}
use Rattle.spl_acceptor.specs.declared.{group.Group.Group, kind.TheConstants.{MEMBER, ACCEPTOR, LEADER}, message.{Acceptance.Acceptance, Name.Name}}
use Rattle.spl_acceptor.specs.declared.message.PaxosMsg.{PaxosMsg}
use Rattle.spl_acceptor.specs.declared.record.PaxosRecord.{PaxosRecord}
use Rattle.spl_acceptor.specs.declared.message.PaxosMsg.TheVariants as msg
use Rattle.spl_acceptor.specs.declared.record.PaxosRecord.TheVariants as kept
use Rattle.spl_paxos_safety.proofs.{Round.IsAmong, Tests.{put_holds, was-split}, Said.{Sends, each-is, orders-from}, Views.forget-is, Begun.posted-from}
use Rattle.spl_paxos_safety.proofs.{Settled.next-near, Runs.{pair-was, numbered-was}, Decisions.put_round-holds}

abbrev ballot_of : PaxosMsg → ℕ
ballot_of (msg.Ask r b) = b
ballot_of (msg.Accept r i b p) = b
ballot_of (msg.Promise r b pairs) = b
ballot_of (msg.Higher r b) = b
ballot_of (msg.Accepted r i b p) = b

pub record Low (n : ℕ) (w : PaxosCommitWorld) : Type 0 where
  pub promised : (a r : ℕ) → (w.acceptor a r).promised ≤ n
  pub used : (l r : ℕ) → (w.leader l r).used ≤ n
  pub opened : (l r : ℕ) (o : PaxosBallot) → (w.leader l r).opened ≡ Some o → o.number ≤ n
  pub sent : (s : SentPaxosMessage) → IsAmong s w.sent → ballot_of s.message ≤ n

abbrev AllLow : ℕ → Sends → Type 0
AllLow n sends = (t : Name × PaxosMsg) → IsAmong t sends → ballot_of t.1 ≤ n

none-low : (n : ℕ) → AllLow n []
none-low n t u = absurd u

one-low : (n : ℕ) (to : Name) (m : PaxosMsg) → ballot_of m ≤ n → AllLow n ((to, m) ∷ [])
one-low n to m l t (inl e) = subst (λ (z : Name × PaxosMsg). ballot_of z.1 ≤ n) (sym e) l
one-low n to m l t (inr u) = absurd u

each-low : (n : ℕ) (name : ℕ → Name) (m : PaxosMsg) (is : List ℕ) → ballot_of m ≤ n → AllLow n (to_each_process name m is)
each-low n name m is l t u = subst (λ (z : PaxosMsg). ballot_of z ≤ n) (sym (each-is name m is t u)) l

orders-low : (n : ℕ) (g : Group) (r b : ℕ) (chosen : ℕ → Bool) (is : List ℕ) → b ≤ n → AllLow n (orders g r b chosen is)
orders-low n g r b chosen is l t u = subst (λ (z : PaxosMsg). ballot_of z ≤ n) (sym (orders-from g r b chosen is t u).2) l

posted-low : (n : ℕ) (here : Name) (sends : Sends) (ss : List SentPaxosMessage) → AllLow n sends
    → ((s : SentPaxosMessage) → IsAmong s ss → ballot_of s.message ≤ n) → (s : SentPaxosMessage) → IsAmong s (ss ++ paxos_posted here sends)
    → ballot_of s.message ≤ n
posted-low n here sends ss low old s u = go (was-split s ss (paxos_posted here sends) u)
  where
    go : IsAmong s ss ⊎ IsAmong s (paxos_posted here sends) → ballot_of s.message ≤ n
    go (inl v) = old s v
    go (inr v) =
        let x : (t : Name × PaxosMsg) × IsAmong t sends × (s.message ≡ t.1) = posted-from here sends s v in
        subst (λ (z : PaxosMsg). ballot_of z ≤ n) (sym x.2) (low x.0 x.1)

member-low : (n : ℕ) (w : PaxosCommitWorld) (h r : ℕ) (p : PaxosPlan) → AllLow n p.sends → Low n w → Low n (at_member w h r p)
member-low n w h r p low x =
    record { promised = x.promised; used = x.used; opened = x.opened; sent = posted-low n (record { kind = MEMBER; number = h }) p.sends w.sent low x.sent }

acceptor-low : (n : ℕ) (w : PaxosCommitWorld) (a r : ℕ) (p : PaxosPlan) → (acceptor_after (w.acceptor a r) p).promised ≤ n → AllLow n p.sends → Low n w
    → Low n (at_acceptor w a r p)
acceptor-low n w a r p up low x = record {
  promised = λ c k. put_round-holds (λ (c k : ℕ) (z : Acceptor). z.promised ≤ n) w.acceptor a r (acceptor_after (w.acceptor a r) p) c k up (x.promised c k);
  used = x.used;
  opened = x.opened;
  sent = posted-low n (record { kind = ACCEPTOR; number = a }) p.sends w.sent low x.sent;
}

-- a leader's numbers
record IsLow (n : ℕ) (l : Leader) : Type 0 where
  pub used : l.used ≤ n
  pub opened : (o : PaxosBallot) → l.opened ≡ Some o → o.number ≤ n

leader-low : (n : ℕ) (w : PaxosCommitWorld) (l r : ℕ) (p : PaxosPlan) → IsLow n (leader_after (w.leader l r) p) → AllLow n p.sends → Low n w
    → Low n (at_leader w l r p)
leader-low n w l r p up low x = record {
  promised = x.promised;
  used = λ c k. put_round-holds (λ (c k : ℕ) (z : Leader). z.used ≤ n) w.leader l r (leader_after (w.leader l r) p) c k up.used (x.used c k);
  opened = λ c k. put_round-holds (λ (c k : ℕ) (z : Leader). (o : PaxosBallot) → z.opened ≡ Some o → o.number ≤ n) w.leader l r
      (leader_after (w.leader l r) p) c k up.opened (x.opened c k);
  sent = posted-low n (record { kind = LEADER; number = l }) p.sends w.sent low x.sent;
}

-- ---- rows

accepted-low : (n : ℕ) (g : Group) (k : ℕ) (x : Acceptance) (counted : List Acceptance) → AllLow n (on_accepted g k x counted).sends
accepted-low n g k x counted = if_holds (λ (p : PaxosPlan). AllLow n p.sends) (is_chosen g (x ∷ counted) x.member x.ballot false) _ _ (λ q. none-low n)
    (λ q. if_holds (λ (p : PaxosPlan). AllLow n p.sends) (all_within g.members (is_prepared g (x ∷ counted))) _ _ (λ t. none-low n)
    (λ t. if_holds (λ (p : PaxosPlan). AllLow n p.sends) (has_accepted counted x.member x.ballot x.prepared x.acceptor) _ _ (λ z. none-low n)
    (λ z. none-low n)))

member_row-low : (n : ℕ) (g : Group) (m : VotingMember) (from : Name) (x : PaxosMsg) → AllLow n (member_row g m from x).sends
member_row-low n g m from (msg.Accepted k i b p) =
    if_holds (λ (p : PaxosPlan). AllLow n p.sends) (is_some m.decision) _ _ (λ q. none-low n)
    (λ q. accepted-low n g k (record { acceptor = from.number; member = i; ballot = b; prepared = p }) m.counted)
member_row-low n g m from (msg.Ask k b) = none-low n
member_row-low n g m from (msg.Accept k i b p) = none-low n
member_row-low n g m from (msg.Promise k b pairs) = none-low n
member_row-low n g m from (msg.Higher k b) = none-low n

abbrev AcceptorLow : ℕ → Acceptor → PaxosPlan → Type 0
AcceptorLow n a p = ((acceptor_after a p).promised ≤ n) × AllLow n p.sends

acceptor_row-low : (n : ℕ) (g : Group) (a : Acceptor) (from : Name) (x : PaxosMsg) → a.promised ≤ n → ballot_of x ≤ n
    → AcceptorLow n a (acceptor_row g a from x)
acceptor_row-low n g a from (msg.Ask r b) up low = if_holds (AcceptorLow n a) (is_leader_of b from) _ _
    (λ q. if_holds (AcceptorLow n a) (nat_lt b a.promised) _ _
    (λ t. (up, one-low n from (msg.Higher r a.promised) up))
    (λ t. (
      if_holds (λ (c : Option PaxosRecord). (acceptor_changed a c).promised ≤ n) (a.promised == b) None (Some (kept.Promised r b)) (λ z. up)
          (λ z. low),
      one-low n from (msg.Promise r b (pledges g.members a.accepted)) low,
    )))
    (λ q. (up, none-low n))
acceptor_row-low n g a from (msg.Accept r i b p) up low = if_holds (AcceptorLow n a) (may_order i b from && not (nat_lt b a.promised)) _ _
    (λ q. (
      if_holds (λ (c : Option PaxosRecord). (acceptor_changed a c).promised ≤ n) (a.promised == b && is_pair b p (a.accepted i)) None
          (Some (kept.Accepted r i b p)) (λ z. up) (λ z. low),
      each-low n member (msg.Accepted r i b p) (numbers g.members) low,
    ))
    (λ q. (up, none-low n))
acceptor_row-low n g a from (msg.Promise r b pairs) up low = (up, none-low n)
acceptor_row-low n g a from (msg.Higher r b) up low = (up, none-low n)
acceptor_row-low n g a from (msg.Accepted r i b p) up low = (up, none-low n)

abbrev LeaderLow : ℕ → Leader → PaxosPlan → Type 0
LeaderLow n l p = IsLow n (leader_after l p) × AllLow n p.sends

heard-number : (o : Option PaxosBallot) (a : ℕ) (pairs : Pairs) (n : ℕ) → ((d : PaxosBallot) → o ≡ Some d → d.number ≤ n) → (d : PaxosBallot)
    → with_promise o a pairs ≡ Some d → d.number ≤ n
heard-number None a pairs n all d e = cc
heard-number (Some c) a pairs n all d e =
    let f : record { number = c.number; promises = put c.promises a (Some pairs) } ≡ d = cc in subst (λ (z : PaxosBallot). z.number ≤ n) f (all c refl)

promise-low : (n : ℕ) (g : Group) (l : Leader) (r a b : ℕ) (pairs : Pairs) (o : Option PaxosBallot) → IsLow n l → b ≤ n
    → LeaderLow n l (on_promise g o r a b pairs)
promise-low n g l r a b pairs None x low = (x, none-low n)
promise-low n g l r a b pairs (Some o) x low = if_holds (LeaderLow n l) (o.number == b && is_none (o.promises a)) _ _
    (λ q. counted (put o.promises a (Some pairs)))
    (λ q. (x, none-low n))
  where
    counted : (heard : ℕ → Option Pairs) → LeaderLow n l (counts_promise g r b a pairs heard)
    counted heard = if_holds (LeaderLow n l) (has_quorum g.faults (λ (c : ℕ). is_some (heard c))) _ _
        (λ t. (record { used = x.used; opened = λ d e. cc }, orders-low n g r b (choice g heard) (numbers g.members) low))
        (λ t. (record { used = x.used; opened = heard-number l.opened a pairs n x.opened }, none-low n))

leader_row-low : (n : ℕ) (g : Group) (l : Leader) (from : Name) (x : PaxosMsg) → IsLow n l → ballot_of x ≤ n → LeaderLow n l (leader_row g l from x)
leader_row-low n g l from (msg.Promise r b pairs) x low = promise-low n g l r from.number b (pair_among pairs) l.opened x low
leader_row-low n g l from (msg.Higher r b) x low =
    if_holds (LeaderLow n l) (nat_lt l.used b) _ _ (λ q. (record { used = low; opened = x.opened }, none-low n)) (λ q. (x, none-low n))
leader_row-low n g l from (msg.Ask r b) x low = (x, none-low n)
leader_row-low n g l from (msg.Accept r i b p) x low = (x, none-low n)
leader_row-low n g l from (msg.Accepted r i b p) x low = (x, none-low n)

lead-low : (n : ℕ) (g : Group) (h : ℕ) (l : Leader) (r : ℕ) → l.used + 3 ≤ n → IsLow n l → LeaderLow n l (on_lead g h l r)
lead-low n g h l r up x = if_holds (LeaderLow n l) (nat_lt (next_ballot h l.used) (2 ^ 64)) _ _
    (λ q. (record { used = near; opened = begun }, each-low n acceptor (msg.Ask r (next_ballot h l.used)) (numbers (acceptors g.faults)) near))
    (λ q. (x, none-low n))
  where
    near : next_ballot h l.used ≤ n
    near = let k : next_ballot h l.used ≤ l.used + 3 = next-near h l.used in omega arith

    begun : (d : PaxosBallot) → Some (record { number = next_ballot h l.used; promises = λ a. None }) ≡ Some d → d.number ≤ n
    begun d e = let f : record { number = next_ballot h l.used; promises = λ a. None } ≡ d = cc in subst (λ (z : PaxosBallot). z.number ≤ n) f near

-- ---- lines

more-low : (n m : ℕ) (w : PaxosCommitWorld) → n ≤ m → Low n w → Low m w
more-low n m w l x = record {
  promised = λ a r. let k : (w.acceptor a r).promised ≤ n = x.promised a r in omega arith;
  used = λ h r. let k : (w.leader h r).used ≤ n = x.used h r in omega arith;
  opened = λ h r o e. let k : o.number ≤ n = x.opened h r o e in omega arith;
  sent = λ s u. let k : ballot_of s.message ≤ n = x.sent s u in omega arith;
}

its-low : (n : ℕ) (w : PaxosCommitWorld) (l r : ℕ) → Low n w → IsLow n (w.leader l r)
its-low n w l r x = record { used = x.used l r; opened = x.opened l r }

heard-low : (n : ℕ) (g : Group) (w : PaxosCommitWorld) (from to : Name) (m : PaxosMsg) → ballot_of m ≤ n → Low n w → Low n (message_heard g w from to m)
heard-low n g w from to m low x = if_holds (Low n) (to.kind == MEMBER) _ _
    (λ q. member-low n w to.number (round_of m) (member_row g (w.member to.number (round_of m)) from m)
    (member_row-low n g (w.member to.number (round_of m)) from m) x)
    (λ q. if_holds (Low n) (to.kind == ACCEPTOR) _ _
    (λ t. let y : AcceptorLow n (w.acceptor to.number (round_of m)) (acceptor_row g (w.acceptor to.number (round_of m)) from m) = acceptor_row-low n g
    (w.acceptor to.number (round_of m)) from m (x.promised to.number (round_of m)) low in
    acceptor-low n w to.number (round_of m) (acceptor_row g (w.acceptor to.number (round_of m)) from m) y.0 y.1 x)
    (λ t. let y : LeaderLow n (w.leader to.number (round_of m)) (leader_row g (w.leader to.number (round_of m)) from m) = leader_row-low n g
    (w.leader to.number (round_of m)) from m (its-low n w to.number (round_of m) x) low in
    leader-low n w to.number (round_of m) (leader_row g (w.leader to.number (round_of m)) from m) y.0 y.1 x))

sent-low : (n : ℕ) (w : PaxosCommitWorld) (from to : Name) (k : ℕ) (m : PaxosMsg) → Low n w → message_at w from to k ≡ Some m → ballot_of m ≤ n
sent-low n w from to k m x e =
    let y : (s : SentPaxosMessage) × IsAmong s w.sent × (s.from.number ≡ from.number) × (s.message ≡ m) =
    pair-was from to w.sent m (numbered-was (paxos_on_pair from to w.sent) k m e) in
    subst (λ (z : PaxosMsg). ballot_of z ≤ n) y.3 (x.sent y.0 y.1)

delivered-low : (n : ℕ) (g : Group) (w : PaxosCommitWorld) (from to : Name) (o : Option PaxosMsg) → ((m : PaxosMsg) → o ≡ Some m → ballot_of m ≤ n)
    → Low n w → Low n (paxos_delivered g w from to o)
delivered-low n g w from to None low x = x
delivered-low n g w from to (Some m) low x = heard-low n g w from to m (low m refl) x

stopped-low : (n : ℕ) (w : PaxosCommitWorld) (s : Name) → Low n w → Low n (process_stopped w s)
stopped-low n w s x = record { promised = x.promised; used = λ l r. (both l r).used; opened = λ l r. (both l r).opened; sent = x.sent }
  where
    both : (l r : ℕ) → IsLow n ((if s.kind == LEADER then forget stopped_leader w.leader s.number else w.leader) l r)
    both l r = if_holds (λ (ls : ℕ → ℕ → Leader). IsLow n (ls l r)) (s.kind == LEADER) _ _
        (λ q. subst (IsLow n) (sym (forget-is stopped_leader w.leader s.number r l))
        (put_holds (λ (i : ℕ) (z : Leader). IsLow n z) (λ i. w.leader i r) s.number (stopped_leader (w.leader s.number r)) l
        (record { used = x.used s.number r; opened = λ o e. cc }) (λ k. its-low n w l r x)))
        (λ q. its-low n w l r x)

happens-low : (n : ℕ) (g : Group) (w : PaxosCommitWorld) (e : Happening) → Low n w → Low (n + 3) (paxos_happens g w e)
happens-low n g w (Votes i r p) x =
    more-low n (n + 3) _ (omega arith)
    (if_holds (Low n) (w.up (member i) && is_none (w.member i r).vote) _ _
    (λ q. member-low n w i r (on_paxos_vote g i r p) (each-low n acceptor (msg.Accept r i 0 p) (numbers (acceptors g.faults)) (omega arith)) x) (λ q. x))
happens-low n g w (Leads l r) x = if_holds (Low (n + 3)) (w.up (leader l)) _ _
    (λ q. let y : LeaderLow (n + 3) (w.leader l r) (on_lead g l (w.leader l r) r) = lead-low (n + 3) g l (w.leader l r) r
    (let k : (w.leader l r).used ≤ n = x.used l r in omega arith) (its-low (n + 3) w l r (more-low n (n + 3) w (omega arith) x)) in
    leader-low (n + 3) w l r (on_lead g l (w.leader l r) r) y.0 y.1 (more-low n (n + 3) w (omega arith) x))
    (λ q. more-low n (n + 3) w (omega arith) x)
happens-low n g w (Delivers from to k) x =
    more-low n (n + 3) _ (omega arith)
    (if_holds (Low n) (w.up to) _ _ (λ q. delivered-low n g w from to (message_at w from to k) (λ m e. sent-low n w from to k m x e) x) (λ q. x))
happens-low n g w (Shows i r) x = more-low n (n + 3) w (omega arith) x
happens-low n g w (Stops s) x = more-low n (n + 3) _ (omega arith) (if_holds (Low n) (w.up s) _ _ (λ q. stopped-low n w s x) (λ q. x))
happens-low n g w (Starts s) x =
    more-low n (n + 3) _ (omega arith)
    (if_holds (Low n) (has_name g s) _ _ (λ q. record { promised = x.promised; used = x.used; opened = x.opened; sent = x.sent }) (λ q. x))

first-low : (g : Group) → Low 0 (first_paxos_world g)
first-low g = record { promised = λ a r. omega arith; used = λ l r. omega arith; opened = λ l r o e. cc; sent = λ s u. absurd u }

run-low : (n : ℕ) (g : Group) (w : PaxosCommitWorld) (es : List Happening) → Low n w → Low (n + 3 * length es) (paxos_run g w es)
run-low n g w [] x = more-low n (n + 3 * length {A = Happening} []) w (omega arith) x
run-low n g w (e ∷ es) x =
    more-low (n + 3 + 3 * length es) (n + 3 * length (e ∷ es)) (paxos_run g (paxos_happens g w e) es) (omega arith)
    (run-low (n + 3) g (paxos_happens g w e) es (happens-low n g w e x))

pub after-low : (g : Group) (es : List Happening) → Low (3 * length es) (paxos_world_after g es)
after-low g es = more-low (0 + 3 * length es) (3 * length es) (paxos_world_after g es) (omega arith) (run-low 0 g (first_paxos_world g) es (first-low g))

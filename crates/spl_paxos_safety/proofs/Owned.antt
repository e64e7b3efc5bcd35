-- Each order that was ever sent is about a member of the run.
use Rattle.std.{specs.Prelude.{IsTrue, Option, Some, None, nat_lt, nat_le, not, ◌==◌, is_none, is_some}, proofs.Common.{◌≡◌, ℕ, ◌≤◌, ◌⊎◌, ◌^◌, Bool, true}}
use Rattle.std.proofs.Common.{false, ◌&&◌, List, [], ◌∷◌, ◌++◌, inl, inr, refl, sym, subst, arith}
use Rattle.spl_agree.{specs.World.put, proofs.Tests.{if_holds, and_left}}
use Rattle.spl_acceptor.specs.{Acceptors.orders_own, Quorums.{IsWithin, numbers, acceptors, all_within, has_quorum}, Processes.{Pairs, Acceptor}}
use Rattle.spl_acceptor.specs.{Processes.{VotingMember, PaxosBallot, Leader}, Rows.{PaxosPlan, member, acceptor, leader, is_leader_of, to_each_process}}
use Rattle.spl_acceptor.specs.Rows.{on_paxos_vote, is_chosen, is_prepared, has_accepted, on_accepted, member_row, pledges, may_order, acceptor_row}
use Rattle.spl_acceptor.specs.{Rows.{next_ballot, on_lead, pair_among, choice, counts_promise, on_promise, orders, leader_row}, Worlds.PaxosCommitWorld}
use Rattle.spl_acceptor.specs.Worlds.{SentPaxosMessage, has_name, first_paxos_world, paxos_on_pair, message_at, paxos_posted, Happening, Votes, Leads}
use Rattle.spl_acceptor.specs.Worlds.{Delivers, Shows, Stops, Starts, round_of, message_heard, paxos_delivered, paxos_happens, paxos_run, paxos_world_after}
use Rattle.spl_acceptor.specs.declared.{group.Group.Group, kind.TheConstants.{MEMBER, ACCEPTOR, LEADER}, message.{Acceptance.Acceptance, Name.Name}}
use Rattle.spl_acceptor.specs.declared.message.PaxosMsg.{PaxosMsg}
use Rattle.spl_acceptor.specs.declared.message.PaxosMsg.TheVariants as msg
use Rattle.spl_paxos_safety.proofs.{Round.IsAmong, Tests.was-split, Said.{Sends, each-is, numbers-within, orders-from}, Begun.posted-from, Runs.UpNamed}
use Rattle.spl_paxos_safety.proofs.Runs.{pair-was, numbered-was, member-named, happens-named}

-- each message is about members of the run
abbrev AllOwn : ℕ → Sends → Type 0
AllOwn n sends = (t : Name × PaxosMsg) → IsAmong t sends → IsTrue (orders_own n t.1)

abbrev SentOwn : ℕ → List SentPaxosMessage → Type 0
SentOwn n ss = (s : SentPaxosMessage) → IsAmong s ss → IsTrue (orders_own n s.message)

own_within : (n r i b : ℕ) (p : Bool) → IsWithin n i → IsTrue (orders_own n (msg.Accept r i b p))
own_within n r i b p w =
    let above : 1 ≤ i = w.above in
    let most : i ≤ n = w.most in
    let low : nat_lt 0 i ≡ true = grind (arith) in
    let high : nat_le i n ≡ true = grind (arith) in
    rw (low, high) refl

none-own : (n : ℕ) → AllOwn n []
none-own n t u = absurd u

one-own : (n : ℕ) (to : Name) (m : PaxosMsg) → IsTrue (orders_own n m) → AllOwn n ((to, m) ∷ [])
one-own n to m o t (inl e) = subst (λ (z : Name × PaxosMsg). IsTrue (orders_own n z.1)) (sym e) o
one-own n to m o t (inr u) = absurd u

each-own : (n : ℕ) (name : ℕ → Name) (m : PaxosMsg) (is : List ℕ) → IsTrue (orders_own n m) → AllOwn n (to_each_process name m is)
each-own n name m is o t u = subst (λ (z : PaxosMsg). IsTrue (orders_own n z)) (sym (each-is name m is t u)) o

orders-own : (g : Group) (r b : ℕ) (chosen : ℕ → Bool) → AllOwn g.members (orders g r b chosen (numbers g.members))
orders-own g r b chosen t u =
    let x : (i : ℕ) × IsAmong i (numbers g.members) × (t.1 ≡ msg.Accept r i b (chosen i)) = orders-from g r b chosen (numbers g.members) t u in
    subst (λ (z : PaxosMsg). IsTrue (orders_own g.members z)) (sym x.2) (own_within g.members r x.0 b (chosen x.0) (numbers-within g.members x.0 x.1))

posted-own : (n : ℕ) (here : Name) (sends : Sends) (ss : List SentPaxosMessage) → AllOwn n sends → SentOwn n ss → SentOwn n (ss ++ paxos_posted here sends)
posted-own n here sends ss own old s u = go (was-split s ss (paxos_posted here sends) u)
  where
    go : IsAmong s ss ⊎ IsAmong s (paxos_posted here sends) → IsTrue (orders_own n s.message)
    go (inl v) = old s v
    go (inr v) =
        let x : (t : Name × PaxosMsg) × IsAmong t sends × (s.message ≡ t.1) = posted-from here sends s v in
        subst (λ (z : PaxosMsg). IsTrue (orders_own n z)) (sym x.2) (own x.0 x.1)

-- ---- rows

accepted-own : (n : ℕ) (g : Group) (k : ℕ) (x : Acceptance) (counted : List Acceptance) → AllOwn n (on_accepted g k x counted).sends
accepted-own n g k x counted = if_holds (λ (p : PaxosPlan). AllOwn n p.sends) (is_chosen g (x ∷ counted) x.member x.ballot false) _ _ (λ q. none-own n)
    (λ q. if_holds (λ (p : PaxosPlan). AllOwn n p.sends) (all_within g.members (is_prepared g (x ∷ counted))) _ _ (λ t. none-own n)
    (λ t. if_holds (λ (p : PaxosPlan). AllOwn n p.sends) (has_accepted counted x.member x.ballot x.prepared x.acceptor) _ _ (λ z. none-own n)
    (λ z. none-own n)))

member_row-own : (n : ℕ) (g : Group) (m : VotingMember) (from : Name) (x : PaxosMsg) → AllOwn n (member_row g m from x).sends
member_row-own n g m from (msg.Accepted k i b p) =
    if_holds (λ (p : PaxosPlan). AllOwn n p.sends) (is_some m.decision) _ _ (λ q. none-own n)
    (λ q. accepted-own n g k (record { acceptor = from.number; member = i; ballot = b; prepared = p }) m.counted)
member_row-own n g m from (msg.Ask k b) = none-own n
member_row-own n g m from (msg.Accept k i b p) = none-own n
member_row-own n g m from (msg.Promise k b pairs) = none-own n
member_row-own n g m from (msg.Higher k b) = none-own n

acceptor_row-own : (n : ℕ) (g : Group) (a : Acceptor) (from : Name) (x : PaxosMsg) → AllOwn n (acceptor_row g a from x).sends
acceptor_row-own n g a from (msg.Ask r b) = if_holds (λ (p : PaxosPlan). AllOwn n p.sends) (is_leader_of b from) _ _
    (λ q. if_holds (λ (p : PaxosPlan). AllOwn n p.sends) (nat_lt b a.promised) _ _
    (λ t. one-own n from (msg.Higher r a.promised) refl)
    (λ t. one-own n from (msg.Promise r b (pledges g.members a.accepted)) refl))
    (λ q. none-own n)
acceptor_row-own n g a from (msg.Accept r i b p) = if_holds (λ (p : PaxosPlan). AllOwn n p.sends) (may_order i b from && not (nat_lt b a.promised)) _ _
    (λ q. each-own n member (msg.Accepted r i b p) (numbers g.members) refl)
    (λ q. none-own n)
acceptor_row-own n g a from (msg.Promise r b pairs) = none-own n
acceptor_row-own n g a from (msg.Higher r b) = none-own n
acceptor_row-own n g a from (msg.Accepted r i b p) = none-own n

promise-own : (g : Group) (r a b : ℕ) (pairs : Pairs) (o : Option PaxosBallot) → AllOwn g.members (on_promise g o r a b pairs).sends
promise-own g r a b pairs None = none-own g.members
promise-own g r a b pairs (Some o) = if_holds (λ (p : PaxosPlan). AllOwn g.members p.sends) (o.number == b && is_none (o.promises a)) _ _
    (λ q. counted (put o.promises a (Some pairs)))
    (λ q. none-own g.members)
  where
    counted : (heard : ℕ → Option Pairs) → AllOwn g.members (counts_promise g r b a pairs heard).sends
    counted heard = if_holds (λ (p : PaxosPlan). AllOwn g.members p.sends) (has_quorum g.faults (λ (c : ℕ). is_some (heard c))) _ _
        (λ t. orders-own g r b (choice g heard)) (λ t. none-own g.members)

leader_row-own : (g : Group) (l : Leader) (from : Name) (x : PaxosMsg) → AllOwn g.members (leader_row g l from x).sends
leader_row-own g l from (msg.Promise r b pairs) = promise-own g r from.number b (pair_among pairs) l.opened
leader_row-own g l from (msg.Higher r b) =
    if_holds (λ (p : PaxosPlan). AllOwn g.members p.sends) (nat_lt l.used b) _ _ (λ q. none-own g.members) (λ q. none-own g.members)
leader_row-own g l from (msg.Ask r b) = none-own g.members
leader_row-own g l from (msg.Accept r i b p) = none-own g.members
leader_row-own g l from (msg.Accepted r i b p) = none-own g.members

lead-own : (g : Group) (h : ℕ) (l : Leader) (r : ℕ) → AllOwn g.members (on_lead g h l r).sends
lead-own g h l r = if_holds (λ (p : PaxosPlan). AllOwn g.members p.sends) (nat_lt (next_ballot h l.used) (2 ^ 64)) _ _
    (λ q. each-own g.members acceptor (msg.Ask r (next_ballot h l.used)) (numbers (acceptors g.faults)) refl)
    (λ q. none-own g.members)

-- ---- lines

abbrev Owns : Group → PaxosCommitWorld → Type 0
Owns g w = SentOwn g.members w.sent

heard-own : (g : Group) (w : PaxosCommitWorld) (from to : Name) (m : PaxosMsg) → Owns g w → Owns g (message_heard g w from to m)
heard-own g w from to m x = if_holds (Owns g) (to.kind == MEMBER) _ _
    (λ q. posted-own g.members (record { kind = MEMBER; number = to.number }) (member_row g (w.member to.number (round_of m)) from m).sends w.sent
    (member_row-own g.members g (w.member to.number (round_of m)) from m) x)
    (λ q. if_holds (Owns g) (to.kind == ACCEPTOR) _ _
    (λ t. posted-own g.members (record { kind = ACCEPTOR; number = to.number }) (acceptor_row g (w.acceptor to.number (round_of m)) from m).sends w.sent
    (acceptor_row-own g.members g (w.acceptor to.number (round_of m)) from m) x)
    (λ t. posted-own g.members (record { kind = LEADER; number = to.number }) (leader_row g (w.leader to.number (round_of m)) from m).sends w.sent
    (leader_row-own g (w.leader to.number (round_of m)) from m) x))

delivered-own : (g : Group) (w : PaxosCommitWorld) (from to : Name) (o : Option PaxosMsg) → Owns g w → Owns g (paxos_delivered g w from to o)
delivered-own g w from to None x = x
delivered-own g w from to (Some m) x = heard-own g w from to m x

happens-own : (g : Group) (w : PaxosCommitWorld) (e : Happening) → UpNamed g w → Owns g w → Owns g (paxos_happens g w e)
happens-own g w (Votes i r p) n x = if_holds (Owns g) (w.up (member i) && is_none (w.member i r).vote) _ _
    (λ q. posted-own g.members (member i) (on_paxos_vote g i r p).sends w.sent
    (each-own g.members acceptor (msg.Accept r i 0 p) (numbers (acceptors g.faults))
    (own_within g.members r i 0 p (member-named g i (n (member i) (and_left (w.up (member i)) (is_none (w.member i r).vote) q))))) x)
    (λ q. x)
happens-own g w (Leads l r) n x = if_holds (Owns g) (w.up (leader l)) _ _
    (λ q. posted-own g.members (leader l) (on_lead g l (w.leader l r) r).sends w.sent (lead-own g l (w.leader l r) r) x) (λ q. x)
happens-own g w (Delivers from to k) n x = if_holds (Owns g) (w.up to) _ _ (λ q. delivered-own g w from to (message_at w from to k) x) (λ q. x)
happens-own g w (Shows i r) n x = x
happens-own g w (Stops s) n x = if_holds (Owns g) (w.up s) _ _ (λ q. x) (λ q. x)
happens-own g w (Starts s) n x = if_holds (Owns g) (has_name g s) _ _ (λ q. x) (λ q. x)

run-own : (g : Group) (w : PaxosCommitWorld) (es : List Happening) → UpNamed g w → Owns g w → Owns g (paxos_run g w es)
run-own g w [] n x = x
run-own g w (e ∷ es) n x = run-own g (paxos_happens g w e) es (happens-named g w e n) (happens-own g w e n x)

pub sent-own : (g : Group) (es : List Happening) (from to : Name) (k : ℕ) (m : PaxosMsg) → message_at (paxos_world_after g es) from to k ≡ Some m
    → IsTrue (orders_own g.members m)
sent-own g es from to k m e =
    let w = paxos_world_after g es in
    let y : (s : SentPaxosMessage) × IsAmong s w.sent × (s.from.number ≡ from.number) × (s.message ≡ m) =
    pair-was from to w.sent m (numbered-was (paxos_on_pair from to w.sent) k m e) in
    subst (λ (z : PaxosMsg). IsTrue (orders_own g.members z)) y.3 (run-own g (first_paxos_world g) es (λ s up. up) (λ s u. absurd u) y.0 y.1)

run-up : (g : Group) (w : PaxosCommitWorld) (es : List Happening) → UpNamed g w → UpNamed g (paxos_run g w es)
run-up g w [] n = n
run-up g w (e ∷ es) n = run-up g (paxos_happens g w e) es (happens-named g w e n)

pub up-named : (g : Group) (es : List Happening) → UpNamed g (paxos_world_after g es)
up-named g es = run-up g (first_paxos_world g) es (λ s up. up)

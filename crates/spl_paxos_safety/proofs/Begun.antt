-- A ballot that was asked for was begun by a line.
use Rattle.std.{specs.Prelude.{Option, Some, None, nat_lt, not, ◌==◌, is_none, is_some}, proofs.Common.{◌≡◌, ℕ, ◌⊎◌, ◌^◌, Bool, true, false, ◌&&◌, List, []}}
use Rattle.std.proofs.Common.{◌∷◌, ◌++◌, inl, inr, refl, sym, subst, ◌∙◌, ap, append_assoc}
use Rattle.spl_agree.{specs.World.put, proofs.Tests.{if_holds, if_true}}
use Rattle.spl_acceptor.specs.{Quorums.{IsWithin, numbers, all_within, acceptors, has_quorum}, Processes.{Pairs, Acceptor, VotingMember, PaxosBallot, Leader}}
use Rattle.spl_acceptor.specs.Rows.{PaxosPlan, note_alone, member, acceptor, leader, is_leader_of, to_each_process, to_acceptors, on_paxos_vote, has_accepted}
use Rattle.spl_acceptor.specs.Rows.{is_chosen, is_prepared, on_accepted, member_row, pledges, may_order, acceptor_row, next_ballot, begin_plan, on_lead}
use Rattle.spl_acceptor.specs.{Rows.{pair_among, choice, orders, counts_promise, on_promise, leader_row}, Worlds.{PaxosCommitWorld, SentPaxosMessage}}
use Rattle.spl_acceptor.specs.Worlds.{has_name, first_paxos_world, message_at, paxos_posted, at_leader, Happening, Votes, Leads, Delivers, Shows, Stops}
use Rattle.spl_acceptor.specs.Worlds.{Starts, paxos_answer, round_of, message_heard, paxos_delivered, paxos_happens, paxos_run, paxos_world_after}
use Rattle.spl_acceptor.specs.declared.{answer.{PaxosAnswer.{PaxosAnswer, TheVariants.{Told, Refused}}, PaxosRefusal.TheVariants.Down}, group.Group.Group}
use Rattle.spl_acceptor.specs.declared.{kind.TheConstants.{MEMBER, ACCEPTOR, LEADER}, message.{Acceptance.Acceptance, Name.Name, PaxosMsg.PaxosMsg}}
use Rattle.spl_acceptor.specs.declared.message.PaxosMsg.TheVariants as msg
use Rattle.spl_acceptor.specs.declared.note.PaxosNote.TheVariants as note
use Rattle.spl_paxos_safety.{specs.Begun.HasBegun, proofs.{Round.IsAmong, Tests.was-split, Said.{Sends, each-is, orders-from}, Runs.run-append}}
use Rattle.spl_paxos_safety.proofs.Decisions.{DecidedAs, runs-abort}

abbrev is_ask : PaxosMsg → Bool
is_ask (msg.Ask r b) = true
is_ask (msg.Accept r i b p) = false
is_ask (msg.Promise r b pairs) = false
is_ask (msg.Higher r b) = false
is_ask (msg.Accepted r i b p) = false

-- none of these asks for a ballot
abbrev NoAsk : Sends → Type 0
NoAsk sends = (t : Name × PaxosMsg) → IsAmong t sends → is_ask t.1 ≡ false

pub posted-from : (n : Name) (sends : Sends) (s : SentPaxosMessage) → IsAmong s (paxos_posted n sends)
    → (t : Name × PaxosMsg) × IsAmong t sends × (s.message ≡ t.1)
posted-from n [] s u = absurd u
posted-from n (t ∷ ts) s (inl e) = (t, inl refl, ap (λ (z : SentPaxosMessage). z.message) e)
posted-from n (t ∷ ts) s (inr u) = let x : (y : Name × PaxosMsg) × IsAmong y ts × (s.message ≡ y.1) = posted-from n ts s u in (x.0, inr x.1, x.2)

each-no : (name : ℕ → Name) (m : PaxosMsg) (is : List ℕ) → is_ask m ≡ false → NoAsk (to_each_process name m is)
each-no name m is e t u = ap is_ask (each-is name m is t u) ∙ e

one-no : (to : Name) (m : PaxosMsg) → is_ask m ≡ false → NoAsk ((to, m) ∷ [])
one-no to m e t (inl q) = ap (λ (z : Name × PaxosMsg). is_ask z.1) q ∙ e
one-no to m e t (inr u) = absurd u

none-no : NoAsk []
none-no t u = absurd u

accepted-no : (g : Group) (k : ℕ) (x : Acceptance) (counted : List Acceptance) → NoAsk (on_accepted g k x counted).sends
accepted-no g k x counted = if_holds (λ (p : PaxosPlan). NoAsk p.sends) (is_chosen g (x ∷ counted) x.member x.ballot false) _ _ (λ q. none-no)
    (λ q. if_holds (λ (p : PaxosPlan). NoAsk p.sends) (all_within g.members (is_prepared g (x ∷ counted))) _ _ (λ t. none-no)
    (λ t. if_holds (λ (p : PaxosPlan). NoAsk p.sends) (has_accepted counted x.member x.ballot x.prepared x.acceptor) _ _ (λ z. none-no) (λ z. none-no)))

member-no : (g : Group) (m : VotingMember) (from : Name) (x : PaxosMsg) → NoAsk (member_row g m from x).sends
member-no g m from (msg.Accepted k i b p) =
    if_holds (λ (p : PaxosPlan). NoAsk p.sends) (is_some m.decision) _ _ (λ q. none-no)
    (λ q. accepted-no g k (record { acceptor = from.number; member = i; ballot = b; prepared = p }) m.counted)
member-no g m from (msg.Ask k b) = none-no
member-no g m from (msg.Accept k i b p) = none-no
member-no g m from (msg.Promise k b pairs) = none-no
member-no g m from (msg.Higher k b) = none-no

acceptor-no : (g : Group) (a : Acceptor) (from : Name) (x : PaxosMsg) → NoAsk (acceptor_row g a from x).sends
acceptor-no g a from (msg.Ask k b) = if_holds (λ (p : PaxosPlan). NoAsk p.sends) (is_leader_of b from) _ _
    (λ q. if_holds (λ (p : PaxosPlan). NoAsk p.sends) (nat_lt b a.promised) _ _ (λ t. one-no from (msg.Higher k a.promised) refl)
    (λ t. one-no from (msg.Promise k b (pledges g.members a.accepted)) refl))
    (λ q. none-no)
acceptor-no g a from (msg.Accept k i b p) =
    if_holds (λ (p : PaxosPlan). NoAsk p.sends) (may_order i b from && not (nat_lt b a.promised)) _ _
    (λ q. each-no member (msg.Accepted k i b p) (numbers g.members) refl) (λ q. none-no)
acceptor-no g a from (msg.Promise k b pairs) = none-no
acceptor-no g a from (msg.Higher k b) = none-no
acceptor-no g a from (msg.Accepted k i b p) = none-no

orders-no : (g : Group) (r b : ℕ) (chosen : ℕ → Bool) (is : List ℕ) → NoAsk (orders g r b chosen is)
orders-no g r b chosen is t u = ap is_ask (orders-from g r b chosen is t u).2

promise-no : (g : Group) (o : Option PaxosBallot) (r a b : ℕ) (pairs : Pairs) → NoAsk (on_promise g o r a b pairs).sends
promise-no g None r a b pairs = none-no
promise-no g (Some o) r a b pairs = if_holds (λ (p : PaxosPlan). NoAsk p.sends) (o.number == b && is_none (o.promises a)) _ _
    (λ q. counted (put o.promises a (Some pairs)))
    (λ q. none-no)
  where
    counted : (heard : ℕ → Option Pairs) → NoAsk (counts_promise g r b a pairs heard).sends
    counted heard =
        if_holds (λ (p : PaxosPlan). NoAsk p.sends) (has_quorum g.faults (λ (c : ℕ). is_some (heard c))) _ _
        (λ t. orders-no g r b (choice g heard) (numbers g.members)) (λ t. none-no)

leader-no : (g : Group) (l : Leader) (from : Name) (x : PaxosMsg) → NoAsk (leader_row g l from x).sends
leader-no g l from (msg.Promise k b pairs) = promise-no g l.opened k from.number b (pair_among pairs)
leader-no g l from (msg.Higher k b) = if_holds (λ (p : PaxosPlan). NoAsk p.sends) (nat_lt l.used b) _ _ (λ q. none-no) (λ q. none-no)
leader-no g l from (msg.Ask k b) = none-no
leader-no g l from (msg.Accept k i b p) = none-no
leader-no g l from (msg.Accepted k i b p) = none-no

-- ---- what a line asks for

-- a message that asks is one of these, or it is new and a line that leads sent it
abbrev Fresh : Group → PaxosCommitWorld → Happening → SentPaxosMessage → PaxosCommitWorld → Type 0
Fresh g w e s v =
    (r b : ℕ) → s.message ≡ msg.Ask r b → IsAmong s v.sent
    → IsAmong s w.sent ⊎ ((l : ℕ) × (c : ℕ) × (e ≡ Leads l r) × (paxos_answer g w e ≡ Told (note.Ballot c)))

quiet : (n : Name) (sends : Sends) (ss : List SentPaxosMessage) → NoAsk sends → (s : SentPaxosMessage) (r b : ℕ) → s.message ≡ msg.Ask r b
    → IsAmong s (ss ++ paxos_posted n sends) → IsAmong s ss
quiet n sends ss free s r b e u = go (was-split s ss (paxos_posted n sends) u)
  where
    go : IsAmong s ss ⊎ IsAmong s (paxos_posted n sends) → IsAmong s ss
    go (inl v) = v
    go (inr v) = let x : (t : Name × PaxosMsg) × IsAmong t sends × (s.message ≡ t.1) = posted-from n sends s v in
        let f : true ≡ false = ap is_ask (sym e ∙ x.2) ∙ free x.0 x.1 in cc

heard-quiet : (g : Group) (w : PaxosCommitWorld) (from to : Name) (m : PaxosMsg) (s : SentPaxosMessage) (r b : ℕ) → s.message ≡ msg.Ask r b
    → IsAmong s (message_heard g w from to m).sent → IsAmong s w.sent
heard-quiet g w from to m s r b e = if_holds (λ (v : PaxosCommitWorld). IsAmong s v.sent → IsAmong s w.sent) (to.kind == MEMBER) _ _
    (λ q. quiet (record { kind = MEMBER; number = to.number }) (member_row g (w.member to.number (round_of m)) from m).sends w.sent
    (member-no g (w.member to.number (round_of m)) from m) s r b e)
    (λ q. if_holds (λ (v : PaxosCommitWorld). IsAmong s v.sent → IsAmong s w.sent) (to.kind == ACCEPTOR) _ _
    (λ t. quiet (record { kind = ACCEPTOR; number = to.number }) (acceptor_row g (w.acceptor to.number (round_of m)) from m).sends w.sent
    (acceptor-no g (w.acceptor to.number (round_of m)) from m) s r b e)
    (λ t. quiet (record { kind = LEADER; number = to.number }) (leader_row g (w.leader to.number (round_of m)) from m).sends w.sent
    (leader-no g (w.leader to.number (round_of m)) from m) s r b e))

delivered-quiet : (g : Group) (w : PaxosCommitWorld) (from to : Name) (o : Option PaxosMsg) (s : SentPaxosMessage) (r b : ℕ) → s.message ≡ msg.Ask r b
    → IsAmong s (paxos_delivered g w from to o).sent → IsAmong s w.sent
delivered-quiet g w from to None s r b e u = u
delivered-quiet g w from to (Some m) s r b e u = heard-quiet g w from to m s r b e u

lead-fresh : (g : Group) (w : PaxosCommitWorld) (l k : ℕ) (s : SentPaxosMessage) → w.up (leader l) ≡ true
    → Fresh g w (Leads l k) s (at_leader w l k (on_lead g l (w.leader l k) k))
lead-fresh g w l k s up r b e =
    if_holds (λ (p : PaxosPlan). p ≡ on_lead g l (w.leader l k) k → IsAmong s (w.sent ++ paxos_posted (leader l) p.sends)
    → IsAmong s w.sent ⊎ ((h : ℕ) × (c : ℕ) × (Leads l k ≡ Leads h r) × (paxos_answer g w (Leads l k) ≡ Told (note.Ballot c))))
    (nat_lt (next_ballot l (w.leader l k).used) (2 ^ 64)) (begin_plan g k (next_ballot l (w.leader l k).used)) (note_alone note.Spent)
    (λ q same u. go same (was-split s w.sent (paxos_posted (leader l) (to_acceptors g (msg.Ask k (next_ballot l (w.leader l k).used)))) u))
    (λ q same u. inl (quiet (leader l) [] w.sent none-no s r b e u)) refl
  where
    go : begin_plan g k (next_ballot l (w.leader l k).used) ≡ on_lead g l (w.leader l k) k
        → IsAmong s w.sent ⊎ IsAmong s (paxos_posted (leader l) (to_acceptors g (msg.Ask k (next_ballot l (w.leader l k).used))))
        → IsAmong s w.sent ⊎ ((h : ℕ) × (c : ℕ) × (Leads l k ≡ Leads h r) × (paxos_answer g w (Leads l k) ≡ Told (note.Ballot c)))
    go same (inl v) = inl v
    go same (inr v) =
        let x : (t : Name × PaxosMsg) × IsAmong t (to_acceptors g (msg.Ask k (next_ballot l (w.leader l k).used))) × (s.message ≡ t.1) =
        posted-from (leader l) (to_acceptors g (msg.Ask k (next_ballot l (w.leader l k).used))) s v in
        let f : msg.Ask r b ≡ msg.Ask k (next_ballot l (w.leader l k).used) =
        sym e ∙ x.2 ∙ each-is acceptor (msg.Ask k (next_ballot l (w.leader l k).used)) (numbers (acceptors g.faults)) x.0 x.1 in
        let d : k ≡ r = sym (ap round_of f) in
        inr (
          l,
          next_ballot l (w.leader l k).used,
          ap (λ (z : ℕ). Leads l z) d,
          if_true (λ (y : PaxosAnswer). y ≡ Told (note.Ballot (next_ballot l (w.leader l k).used))) (w.up (leader l))
              (Told (on_lead g l (w.leader l k) k).note) (Refused Down) up (ap (λ (p : PaxosPlan). Told p.note) (sym same)),
        )

happens-fresh : (g : Group) (w : PaxosCommitWorld) (e : Happening) (s : SentPaxosMessage) → Fresh g w e s (paxos_happens g w e)
happens-fresh g w (Votes i k p) s r b e z =
    inl (if_holds (λ (v : PaxosCommitWorld). IsAmong s v.sent → IsAmong s w.sent) (w.up (member i) && is_none (w.member i k).vote) _ _
    (λ q u. quiet (record { kind = MEMBER; number = i }) (on_paxos_vote g i k p).sends w.sent
    (each-no acceptor (msg.Accept k i 0 p) (numbers (acceptors g.faults)) refl) s r b e u) (λ q u. u) z)
happens-fresh g w (Leads l k) s r b e z =
    if_holds (λ (v : PaxosCommitWorld). IsAmong s v.sent
    → IsAmong s w.sent ⊎ ((h : ℕ) × (c : ℕ) × (Leads l k ≡ Leads h r) × (paxos_answer g w (Leads l k) ≡ Told (note.Ballot c)))) (w.up (leader l)) _ _
    (λ q u. lead-fresh g w l k s q r b e u) (λ q u. inl u) z
happens-fresh g w (Delivers from to k) s r b e z =
    inl (if_holds (λ (v : PaxosCommitWorld). IsAmong s v.sent → IsAmong s w.sent) (w.up to) _ _
    (λ q u. delivered-quiet g w from to (message_at w from to k) s r b e u) (λ q u. u) z)
happens-fresh g w (Shows i k) s r b e z = inl z
happens-fresh g w (Stops x) s r b e z = inl (if_holds (λ (v : PaxosCommitWorld). IsAmong s v.sent → IsAmong s w.sent) (w.up x) _ _ (λ q u. u) (λ q u. u) z)
happens-fresh g w (Starts x) s r b e z =
    inl (if_holds (λ (v : PaxosCommitWorld). IsAmong s v.sent → IsAmong s w.sent) (has_name g x) _ _ (λ q u. u) (λ q u. u) z)

-- ---- runs

widen : (g : Group) (es fs : List Happening) (r : ℕ) → HasBegun g es r → HasBegun g (es ++ fs) r
widen g es fs r x = record {
  before = x.before;
  here = x.here;
  after = x.after ++ fs;
  ballot = x.ballot;
  line = ap (λ (z : List Happening). z ++ fs) x.line ∙ append_assoc x.before (Leads x.here r ∷ x.after) fs;
  told = x.told;
}

abbrev Asks : ℕ → ℕ → SentPaxosMessage → PaxosCommitWorld → Type 0
Asks r b s w = (s.message ≡ msg.Ask r b) × IsAmong s w.sent

run-begun : (g : Group) (before es : List Happening) (w : PaxosCommitWorld) (r b : ℕ) (s : SentPaxosMessage) → paxos_world_after g before ≡ w
    → (Asks r b s w → HasBegun g before r) → Asks r b s (paxos_run g w es) → HasBegun g (before ++ es) r
run-begun g before [] w r b s e h x = widen g before [] r (h x)
run-begun g before (d ∷ es) w r b s e h x = subst (λ (z : List Happening). HasBegun g z r) (append_assoc before (d ∷ []) es)
    (run-begun g (before ++ d ∷ []) es (paxos_happens g w d) r b s
    (run-append g (first_paxos_world g) before (d ∷ []) ∙ ap (λ (z : PaxosCommitWorld). paxos_happens g z d) e)
    (λ y. go (happens-fresh g w d s r b y.0 y.1) y.0) x)
  where
    go : IsAmong s w.sent ⊎ ((l : ℕ) × (c : ℕ) × (d ≡ Leads l r) × (paxos_answer g w d ≡ Told (note.Ballot c))) → s.message ≡ msg.Ask r b
        → HasBegun g (before ++ d ∷ []) r
    go (inl u) q = widen g before (d ∷ []) r (h (q, u))
    go (inr y) q = record {
      before = before;
      here = y.0;
      after = [];
      ballot = y.1;
      line = ap (λ (z : Happening). before ++ z ∷ []) y.2;
      told = ap (λ (z : PaxosCommitWorld). paxos_answer g z (Leads y.0 r)) e ∙ ap (paxos_answer g w) (sym y.2) ∙ y.3;
    }

pub asked-begun : (g : Group) (es : List Happening) (r m : ℕ) → DecidedAs (paxos_world_after g es) m r false
    → ((i : ℕ) × IsWithin g.members i × (((paxos_world_after g es).member i r).vote ≡ Some false)) ⊎ HasBegun g es r
asked-begun g es r m x = go (runs-abort g es r m x)
  where
    go : ((i : ℕ) × IsWithin g.members i × (((paxos_world_after g es).member i r).vote ≡ Some false))
        ⊎ ((b : ℕ) × (s : SentPaxosMessage) × IsAmong s (paxos_world_after g es).sent × (s.message ≡ msg.Ask r b))
        → ((i : ℕ) × IsWithin g.members i × (((paxos_world_after g es).member i r).vote ≡ Some false)) ⊎ HasBegun g es r
    go (inl y) = inl y
    go (inr y) = inr (run-begun g [] es (first_paxos_world g) r y.0 y.1 refl (λ z. absurd z.1) (y.3, y.2))

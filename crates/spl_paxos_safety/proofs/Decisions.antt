-- Decisions stay, and what they mean.
use Rattle.std.{specs.Prelude.{Option, Some, None, ◌==◌, is_none, is_some}, proofs.Common.{◌≡◌, ℕ, zero, suc, ◌⊎◌, Bool, true, false, ◌&&◌, List, [], ◌∷◌}}
use Rattle.std.proofs.Common.{◌++◌, inl, inr, refl, sym, subst, ◌∙◌, ap, arith}
use Rattle.spl_agree.{specs.World.put, proofs.Tests.{if_holds, eqb_is}}
use Rattle.spl_acceptor.specs.{Quorums.IsWithin, Processes.{VotingMember, stopped_member}, Rows.{PaxosPlan, member, leader, on_paxos_vote, member_row}}
use Rattle.spl_acceptor.specs.{Rows.member_after, Worlds.{PaxosCommitWorld, SentPaxosMessage, has_name, first_paxos_world, put_round, message_at, at_member}}
use Rattle.spl_acceptor.specs.Worlds.{Happening, Votes, Leads, Delivers, Shows, Stops, Starts, round_of, message_heard, paxos_delivered, process_stopped}
use Rattle.spl_acceptor.specs.{Worlds.{paxos_happens, paxos_run, paxos_world_after}, declared.{group.Group.Group, kind.TheConstants.{MEMBER, ACCEPTOR}}}
use Rattle.spl_acceptor.specs.declared.message.{Name.Name, PaxosMsg.PaxosMsg}
use Rattle.spl_acceptor.specs.declared.message.PaxosMsg.TheVariants as msg
use Rattle.spl_paxos_safety.proofs.{Round.{Message, Ask, Accept, Round, IsAmong, said, said_in, seen, in_round}, Soundness.{Reason, Sound}}
use Rattle.spl_paxos_safety.proofs.{Choice.{chosen-asked, reasons-same}, Tests.{put_holds, was-split}, Views.forget-is, Runs.{after-sounds, run-append}}

abbrev pub DecidedAs : PaxosCommitWorld → ℕ → ℕ → Bool → Type 0
DecidedAs w m r d = (w.member m r).decision ≡ Some d

-- what holds of the new value at its place, and of the old ones at theirs
pub put_round-holds : {S : Type 0} (P : ℕ → ℕ → S → Type 0) (f : ℕ → ℕ → S) (h k : ℕ) (s : S) (i r : ℕ) → P h k s → P i r (f i r)
    → P i r (put_round f h k s i r)
unfolding put_round
put_round-holds {S} P f h k s i r p q = put_holds (λ (i : ℕ) (z : ℕ → S). P i r (f i r) → P i r (z r)) f h (put (f h) k s) i
    (λ o. put_holds (λ (r : ℕ) (z : S). P h r (f h r) → P h r z) (f h) k s r (λ o. p) (λ n o. o) o)
    (λ n o. o) q

is_some-not : (o : Option Bool) (d : Bool) → is_some o ≡ false → o ≡ Some d → ⊥
is_some-not None d q e = cc
is_some-not (Some x) d q e = cc

-- a row of a member leaves a decision
abbrev pub Leaves : VotingMember → PaxosPlan → Type 0
Leaves m p = (d : Bool) → m.decision ≡ Some d → (member_after m p).decision ≡ Some d

vote-leaves : (g : Group) (m : VotingMember) (h r : ℕ) (p : Bool) → Leaves m (on_paxos_vote g h r p)
vote-leaves g m h r p d e = e

pub row-leaves : (g : Group) (m : VotingMember) (from : Name) (x : PaxosMsg) → Leaves m (member_row g m from x)
row-leaves g m from (msg.Accepted k i b p) = if_holds (Leaves m) (is_some m.decision) _ _ (λ q d e. e) (λ q d e. absurd (is_some-not m.decision d q e))
row-leaves g m from (msg.Ask k b) = λ d e. e
row-leaves g m from (msg.Accept k i b p) = λ d e. e
row-leaves g m from (msg.Promise k b pairs) = λ d e. e
row-leaves g m from (msg.Higher k b) = λ d e. e

at_member-decided : (w : PaxosCommitWorld) (h k : ℕ) (p : PaxosPlan) → Leaves (w.member h k) p → (m r : ℕ) (d : Bool) → DecidedAs w m r d
    → DecidedAs (at_member w h k p) m r d
at_member-decided w h k p l m r d e =
    put_round-holds (λ (m r : ℕ) (z : VotingMember). (w.member m r).decision ≡ Some d → z.decision ≡ Some d) w.member h k
    (member_after (w.member h k) p) m r (λ e. l d e) (λ e. e) e

heard-decided : (g : Group) (w : PaxosCommitWorld) (from to : Name) (x : PaxosMsg) (m r : ℕ) (d : Bool) → DecidedAs w m r d
    → DecidedAs (message_heard g w from to x) m r d
heard-decided g w from to x m r d e = if_holds (λ (v : PaxosCommitWorld). DecidedAs v m r d) (to.kind == MEMBER) _ _
    (λ q. at_member-decided w to.number (round_of x) (member_row g (w.member to.number (round_of x)) from x)
    (row-leaves g (w.member to.number (round_of x)) from x) m r d e)
    (λ q. if_holds (λ (v : PaxosCommitWorld). DecidedAs v m r d) (to.kind == ACCEPTOR) _ _ (λ t. e) (λ t. e))

delivered-decided : (g : Group) (w : PaxosCommitWorld) (from to : Name) (o : Option PaxosMsg) (m r : ℕ) (d : Bool) → DecidedAs w m r d
    → DecidedAs (paxos_delivered g w from to o) m r d
delivered-decided g w from to None m r d e = e
delivered-decided g w from to (Some x) m r d e = heard-decided g w from to x m r d e

stopped-decided : (w : PaxosCommitWorld) (n : Name) (m r : ℕ) (d : Bool) → DecidedAs w m r d → DecidedAs (process_stopped w n) m r d
stopped-decided w n m r d e = if_holds (λ (ms : ℕ → ℕ → VotingMember). (ms m r).decision ≡ Some d) (n.kind == MEMBER) _ _
    (λ q. subst (λ (z : VotingMember). z.decision ≡ Some d) (sym (forget-is stopped_member w.member n.number r m))
    (put_holds (λ (i : ℕ) (z : VotingMember). (w.member i r).decision ≡ Some d → z.decision ≡ Some d) (λ i. w.member i r) n.number
    (stopped_member (w.member n.number r)) m (λ e. e) (λ k e. e) e))
    (λ q. e)

pub happens-decided : (g : Group) (w : PaxosCommitWorld) (e : Happening) (m r : ℕ) (d : Bool) → DecidedAs w m r d → DecidedAs (paxos_happens g w e) m r d
happens-decided g w (Votes i k p) m r d e =
    if_holds (λ (v : PaxosCommitWorld). DecidedAs v m r d) (w.up (member i) && is_none (w.member i k).vote) _ _
    (λ q. at_member-decided w i k (on_paxos_vote g i k p) (vote-leaves g (w.member i k) i k p) m r d e) (λ q. e)
happens-decided g w (Leads l k) m r d e = if_holds (λ (v : PaxosCommitWorld). DecidedAs v m r d) (w.up (leader l)) _ _ (λ q. e) (λ q. e)
happens-decided g w (Delivers from to k) m r d e =
    if_holds (λ (v : PaxosCommitWorld). DecidedAs v m r d) (w.up to) _ _ (λ q. delivered-decided g w from to (message_at w from to k) m r d e) (λ q. e)
happens-decided g w (Shows i k) m r d e = e
happens-decided g w (Stops x) m r d e = if_holds (λ (v : PaxosCommitWorld). DecidedAs v m r d) (w.up x) _ _ (λ q. stopped-decided w x m r d e) (λ q. e)
happens-decided g w (Starts x) m r d e = if_holds (λ (v : PaxosCommitWorld). DecidedAs v m r d) (has_name g x) _ _ (λ q. e) (λ q. e)

pub run-decided : (g : Group) (w : PaxosCommitWorld) (es : List Happening) (m r : ℕ) (d : Bool) → DecidedAs w m r d → DecidedAs (paxos_run g w es) m r d
run-decided g w [] m r d e = e
run-decided g w (x ∷ xs) m r d e = run-decided g (paxos_happens g w x) xs m r d (happens-decided g w x m r d e)

-- ---- the law

pub runs-same : (g : Group) (es : List Happening) (r m n : ℕ) (p q : Bool) → DecidedAs (paxos_world_after g es) m r p
    → DecidedAs (paxos_world_after g es) n r q → p ≡ q
runs-same g es r m n p q x y =
    let s : Sound g (in_round r (paxos_world_after g es)) = after-sounds g es r in
    reasons-same g (in_round r (paxos_world_after g es)) p q s (s.decided m p x) (s.decided n q y)

pub runs-stay : (g : Group) (es fs : List Happening) (r m : ℕ) (d : Bool) → DecidedAs (paxos_world_after g es) m r d
    → DecidedAs (paxos_world_after g (es ++ fs)) m r d
runs-stay g es fs r m d x =
    subst (λ (w : PaxosCommitWorld). DecidedAs w m r d) (sym (run-append g (first_paxos_world g) es fs)) (run-decided g (paxos_world_after g es) fs m r d x)

pub runs-commit : (g : Group) (es : List Happening) (r m i : ℕ) → DecidedAs (paxos_world_after g es) m r true → IsWithin g.members i
    → ((paxos_world_after g es).member i r).vote ≡ Some true
runs-commit g es r m i x l =
    let s : Sound g (in_round r (paxos_world_after g es)) = after-sounds g es r in
    let c : Reason g (in_round r (paxos_world_after g es)) true = s.decided m true x in
    (s.ordered i (c i l).0 true (chosen-asked g (in_round r (paxos_world_after g es)) i (c i l).0 true s (c i l).1)).yes refl

-- what was said was sent
pub said-sent : (r : ℕ) (ss : List SentPaxosMessage) (y : Message) → IsAmong y (seen r ss)
    → (s : SentPaxosMessage) × IsAmong s ss × (round_of s.message ≡ r) × (y ≡ said s.from.number s.message)
said-sent r [] y u = absurd u
said-sent r (s ∷ ss) y u = go (was-split y (seen r ss) (said_in r s.from.number s.message) u) (said-sent r ss y)
  where
    only : round_of s.message ≡ r → (y ≡ said s.from.number s.message) ⊎ ⊥
        → (t : SentPaxosMessage) × IsAmong t (s ∷ ss) × (round_of t.message ≡ r) × (y ≡ said t.from.number t.message)
    only q (inl e) = (s, inl refl, q, e)
    only q (inr v) = absurd v

    here : IsAmong y (said_in r s.from.number s.message)
        → (t : SentPaxosMessage) × IsAmong t (s ∷ ss) × (round_of t.message ≡ r) × (y ≡ said t.from.number t.message)
    here = if_holds (λ (xs : List Message). IsAmong y xs
        → (t : SentPaxosMessage) × IsAmong t (s ∷ ss) × (round_of t.message ≡ r) × (y ≡ said t.from.number t.message)) (round_of s.message == r)
        (said s.from.number s.message ∷ []) []
        (λ q v. only (eqb_is (round_of s.message) r q) v) (λ q v. absurd v)

    go : IsAmong y (seen r ss) ⊎ IsAmong y (said_in r s.from.number s.message)
        → (IsAmong y (seen r ss) → (t : SentPaxosMessage) × IsAmong t ss × (round_of t.message ≡ r) × (y ≡ said t.from.number t.message))
        → (t : SentPaxosMessage) × IsAmong t (s ∷ ss) × (round_of t.message ≡ r) × (y ≡ said t.from.number t.message)
    go (inl v) ih = ((ih v).0, inr (ih v).1, (ih v).2, (ih v).3)
    go (inr v) ih = here v

-- what says an Ask is one
ask-is : (r n b : ℕ) (m : PaxosMsg) → round_of m ≡ r → Ask b ≡ said n m → m ≡ msg.Ask r b
ask-is r n b (msg.Ask k c) e f = ap (λ (z : ℕ). msg.Ask z c) e ∙ ap (λ (z : ℕ). msg.Ask r z) (let q : b ≡ c = cc in sym q)
ask-is r n b (msg.Accept k i c p) e f = cc
ask-is r n b (msg.Promise k c pairs) e f = cc
ask-is r n b (msg.Higher k c) e f = cc
ask-is r n b (msg.Accepted k i c p) e f = cc

pub asked-sent : (r b : ℕ) (ss : List SentPaxosMessage) → IsAmong (Ask b) (seen r ss) → (s : SentPaxosMessage) × IsAmong s ss × (s.message ≡ msg.Ask r b)
asked-sent r b ss u =
    let x : (s : SentPaxosMessage) × IsAmong s ss × (round_of s.message ≡ r) × (Ask b ≡ said s.from.number s.message) = said-sent r ss (Ask b) u in
    (x.0, x.1, ask-is r x.0.from.number b x.0.message x.2 x.3)

pub runs-abort : (g : Group) (es : List Happening) (r m : ℕ) → DecidedAs (paxos_world_after g es) m r false
    → ((i : ℕ) × IsWithin g.members i × (((paxos_world_after g es).member i r).vote ≡ Some false))
    ⊎ ((b : ℕ) × (s : SentPaxosMessage) × IsAmong s (paxos_world_after g es).sent × (s.message ≡ msg.Ask r b))
runs-abort g es r m x = go c.1 (chosen-asked g w c.0 c.1 false s c.2)
  where
    w : Round
    w = in_round r (paxos_world_after g es)

    s : Sound g w
    s = after-sounds g es r

    c : Reason g w false
    c = s.decided m false x

    go : (b : ℕ) → IsAmong (Accept c.0 b false) w.sent
        → ((i : ℕ) × IsWithin g.members i × ((w.member i).vote ≡ Some false))
        ⊎ ((b : ℕ) × (s : SentPaxosMessage) × IsAmong s (paxos_world_after g es).sent × (s.message ≡ msg.Ask r b))
    go zero u = inl (c.0, (s.ordered c.0 zero false u).member, (s.ordered c.0 zero false u).first refl)
    go (suc b) u =
        let z : (t : SentPaxosMessage) × IsAmong t (paxos_world_after g es).sent
        × (t.message ≡ msg.Ask r (suc b)) = asked-sent r (suc b) (paxos_world_after g es).sent ((s.ordered c.0 (suc b) false u).asked (omega arith)) in inr
        (suc b, z.0, z.1, z.2)

-- Every run is sound in each round, and its decisions stay.
use Rattle.std.{specs.Prelude.{Option, Some, None, nat_lt, nat_le, ◌==◌, is_none, if◌then◌else◌}, proofs.Common.{◌≡◌, ◌≢◌, ℕ, zero, suc, ◌<◌, ◌≤◌, ◌⊎◌, Bool}}
use Rattle.std.proofs.{Common.{true, false, ◌&&◌, ◌||◌, List, [], ◌∷◌, ◌++◌, inl, inr, refl, sym, subst, ◌∙◌, ap, arith}, Math.Path.fun_ext}
use Rattle.spl_agree.proofs.Tests.{if_holds, ltb_is, eqb_is, and_left, and_right}
use Rattle.spl_acceptor.specs.{Quorums.IsWithin, Processes.{Acceptor, VotingMember, Leader, stopped_member, stopped_leader}, Rows.{PaxosPlan, member, leader}}
use Rattle.spl_acceptor.specs.{Rows.{on_paxos_vote, member_row, acceptor_row, on_lead, leader_row}, Worlds.{PaxosCommitWorld, SentPaxosMessage, is_in_range}}
use Rattle.spl_acceptor.specs.Worlds.{has_name, first_paxos_world, same_name, put_name, paxos_on_pair, message_numbered, message_at, at_member, at_acceptor}
use Rattle.spl_acceptor.specs.Worlds.{at_leader, Happening, Votes, Leads, Delivers, Shows, Stops, Starts, round_of, message_heard, paxos_delivered, forget}
use Rattle.spl_acceptor.specs.{Worlds.{process_stopped, paxos_happens, paxos_run, paxos_world_after}, declared.{group.Group.Group, kind.TheConstants.MEMBER}}
use Rattle.spl_acceptor.specs.declared.{kind.TheConstants.{ACCEPTOR, LEADER}, message.{Name.Name, PaxosMsg.PaxosMsg}}
use Rattle.spl_paxos_safety.proofs.{Round.{Round, IsAmong, said, seen, in_round}, Soundness.Sound, Tests.was-slice_get, AcceptorRows.same_number}
use Rattle.spl_paxos_safety.proofs.{MemberRows.stopped_member-sound, LeaderRows.stopped_leader-sound, Said.{AllOf, sent-said}, Views.{forget-is, view-member}}
use Rattle.spl_paxos_safety.proofs.{Views.{view-acceptor, view-leader, still-member, still-acceptor, still-leader}, Steps.{MemberStep, AcceptorStep}}
use Rattle.spl_paxos_safety.proofs.Steps.{LeaderStep, vote-step, member_row-step, acceptor_row-step, lead-step, leader_row-step, member_row-all}
use Rattle.spl_paxos_safety.proofs.Steps.{acceptor_row-all, leader_row-all, lead-all, vote-all}

-- each round is sound
abbrev pub Sounds : Group → PaxosCommitWorld → Type 0
Sounds g w = (r : ℕ) → Sound g (in_round r w)

-- only processes of the run are up
abbrev pub UpNamed : Group → PaxosCommitWorld → Type 0
UpNamed g w = (n : Name) → w.up n ≡ true → has_name g n ≡ true

-- ---- a plan is carried out

member-lift : (g : Group) (w : PaxosCommitWorld) (h k : ℕ) (p : PaxosPlan) → AllOf k p.sends → MemberStep g (in_round k w) k h p → Sounds g w
    → Sounds g (at_member w h k p)
member-lift g w h k p all st s r = go (same_number k r)
  where
    go : (k ≡ r) ⊎ (k ≢ r) → Sound g (in_round r (at_member w h k p))
    go (inl e) = subst (λ (z : ℕ). Sound g (in_round z (at_member w h k p))) e (subst (Sound g) (sym (view-member k w h p)) st)
    go (inr d) = subst (Sound g) (sym (still-member r k w h p d all)) (s r)

acceptor-lift : (g : Group) (w : PaxosCommitWorld) (h k : ℕ) (p : PaxosPlan) → AllOf k p.sends → AcceptorStep g (in_round k w) k h p → Sounds g w
    → Sounds g (at_acceptor w h k p)
acceptor-lift g w h k p all st s r = go (same_number k r)
  where
    go : (k ≡ r) ⊎ (k ≢ r) → Sound g (in_round r (at_acceptor w h k p))
    go (inl e) = subst (λ (z : ℕ). Sound g (in_round z (at_acceptor w h k p))) e (subst (Sound g) (sym (view-acceptor k w h p)) st)
    go (inr d) = subst (Sound g) (sym (still-acceptor r k w h p d all)) (s r)

leader-lift : (g : Group) (w : PaxosCommitWorld) (h k : ℕ) (p : PaxosPlan) → AllOf k p.sends → LeaderStep g (in_round k w) k h p → Sounds g w
    → Sounds g (at_leader w h k p)
leader-lift g w h k p all st s r = go (same_number k r)
  where
    go : (k ≡ r) ⊎ (k ≢ r) → Sound g (in_round r (at_leader w h k p))
    go (inl e) = subst (λ (z : ℕ). Sound g (in_round z (at_leader w h k p))) e (subst (Sound g) (sym (view-leader k w h p)) st)
    go (inr d) = subst (Sound g) (sym (still-leader r k w h p d all)) (s r)

-- ---- a message comes

pub pair-was : (from to : Name) (ss : List SentPaxosMessage) (m : PaxosMsg) → IsAmong m (paxos_on_pair from to ss)
    → (s : SentPaxosMessage) × IsAmong s ss × (s.from.number ≡ from.number) × (s.message ≡ m)
pair-was from to [] m u = absurd u
pair-was from to (s ∷ ss) m u =
    if_holds (λ (xs : List PaxosMsg). IsAmong m xs → (t : SentPaxosMessage) × IsAmong t (s ∷ ss) × (t.from.number ≡ from.number) × (t.message ≡ m))
    (same_name s.from from && same_name s.to to) _ _
    (λ q v. here (and_left (same_name s.from from) (same_name s.to to) q) v (pair-was from to ss m))
    (λ q v. later (pair-was from to ss m v)) u
  where
    later : ((t : SentPaxosMessage) × IsAmong t ss × (t.from.number ≡ from.number) × (t.message ≡ m))
        → (t : SentPaxosMessage) × IsAmong t (s ∷ ss) × (t.from.number ≡ from.number) × (t.message ≡ m)
    later x = (x.0, inr x.1, x.2, x.3)

    here : same_name s.from from ≡ true → IsAmong m (s.message ∷ paxos_on_pair from to ss)
        → (IsAmong m (paxos_on_pair from to ss) → (t : SentPaxosMessage) × IsAmong t ss × (t.from.number ≡ from.number) × (t.message ≡ m))
        → (t : SentPaxosMessage) × IsAmong t (s ∷ ss) × (t.from.number ≡ from.number) × (t.message ≡ m)
    here q (inl e) ih = (s, inl refl, eqb_is s.from.number from.number (and_right (s.from.kind == from.kind) (s.from.number == from.number) q), sym e)
    here q (inr v) ih = later (ih v)

pub numbered-was : (ms : List PaxosMsg) (k : ℕ) (m : PaxosMsg) → message_numbered ms k ≡ Some m → IsAmong m ms
numbered-was ms zero m e = cc
numbered-was ms (suc k) m e = was-slice_get ms k m e

-- what is handed over was said
pub message-said : (w : PaxosCommitWorld) (from to : Name) (k : ℕ) (m : PaxosMsg) → message_at w from to k ≡ Some m
    → IsAmong (said from.number m) (in_round (round_of m) w).sent
message-said w from to k m e =
    let x : (s : SentPaxosMessage) × IsAmong s w.sent × (s.from.number ≡ from.number) × (s.message ≡ m) =
    pair-was from to w.sent m (numbered-was (paxos_on_pair from to w.sent) k m e) in
    subst (λ (z : PaxosMsg). IsAmong (said from.number z) (seen (round_of m) w.sent)) x.3
    (subst (λ (z : ℕ). IsAmong (said z x.0.message) (seen (round_of m) w.sent)) x.2 (sent-said (round_of m) w.sent x.0 x.1 (ap round_of x.3)))

heard-sounds : (g : Group) (w : PaxosCommitWorld) (from to : Name) (m : PaxosMsg) → IsAmong (said from.number m) (in_round (round_of m) w).sent
    → Sounds g w → Sounds g (message_heard g w from to m)
heard-sounds g w from to m u s = if_holds (Sounds g) (to.kind == MEMBER) _ _
    (λ q. member-lift g w to.number (round_of m) (member_row g (w.member to.number (round_of m)) from m)
    (member_row-all g (w.member to.number (round_of m)) from m)
    (member_row-step g (in_round (round_of m) w) (round_of m) to.number from m u (s (round_of m))) s)
    (λ q. if_holds (Sounds g) (to.kind == ACCEPTOR) _ _
    (λ t. acceptor-lift g w to.number (round_of m) (acceptor_row g (w.acceptor to.number (round_of m)) from m)
    (acceptor_row-all g (w.acceptor to.number (round_of m)) from m) (acceptor_row-step g (in_round (round_of m) w) to.number from m u (s (round_of m))) s)
    (λ t. leader-lift g w to.number (round_of m) (leader_row g (w.leader to.number (round_of m)) from m)
    (leader_row-all g (w.leader to.number (round_of m)) from m) (leader_row-step g (in_round (round_of m) w) to.number from m u (s (round_of m))) s))

delivered-sounds : (g : Group) (w : PaxosCommitWorld) (from to : Name) (o : Option PaxosMsg)
    → ((m : PaxosMsg) → o ≡ Some m → IsAmong (said from.number m) (in_round (round_of m) w).sent) → Sounds g w → Sounds g (paxos_delivered g w from to o)
delivered-sounds g w from to None h s = s
delivered-sounds g w from to (Some m) h s = heard-sounds g w from to m (h m refl) s

-- ---- a stop

abbrev made : (ℕ → VotingMember) → (ℕ → ℕ → Acceptor) → (ℕ → Leader) → List SentPaxosMessage → ℕ → Round
made ms w ls sent r = record { member = ms; acceptor = λ a. w a r; leader = ls; sent = seen r sent }

stopped-sounds : (g : Group) (w : PaxosCommitWorld) (n : Name) → Sounds g w → Sounds g (process_stopped w n)
stopped-sounds g w n s r =
    if_holds (λ (ms : ℕ → ℕ → VotingMember). Sound g
    (made (λ i. ms i r) w.acceptor (λ l. (if n.kind == LEADER then forget stopped_leader w.leader n.number else w.leader) l r) w.sent r))
    (n.kind == MEMBER) (forget stopped_member w.member n.number) w.member
    (λ q. leaders (λ i. forget stopped_member w.member n.number i r)
    (subst (λ (ms : ℕ → VotingMember). Sound g (made ms w.acceptor (λ l. w.leader l r) w.sent r))
    (sym (fun_ext (forget-is stopped_member w.member n.number r))) (stopped_member-sound g (in_round r w) n.number (s r))))
    (λ q. leaders (λ i. w.member i r) (s r))
  where
    leaders : (ms : ℕ → VotingMember) → Sound g (made ms w.acceptor (λ l. w.leader l r) w.sent r)
        → Sound g (made ms w.acceptor (λ l. (if n.kind == LEADER then forget stopped_leader w.leader n.number else w.leader) l r) w.sent r)
    leaders ms t =
        if_holds (λ (ls : ℕ → ℕ → Leader). Sound g (made ms w.acceptor (λ l. ls l r) w.sent r)) (n.kind == LEADER)
        (forget stopped_leader w.leader n.number) w.leader
        (λ q. subst (λ (ls : ℕ → Leader). Sound g (made ms w.acceptor ls w.sent r)) (sym (fun_ext (forget-is stopped_leader w.leader n.number r)))
        (stopped_leader-sound g (made ms w.acceptor (λ l. w.leader l r) w.sent r) n.number t))
        (λ q. t)

-- ---- any line

leb_is : (m n : ℕ) → nat_le m n ≡ true → m ≤ n
leb_is m n e = grind (arith)

pub is-within : (n i : ℕ) → is_in_range n i ≡ true → IsWithin n i
is-within n i e =
    record {
      above = let k : 0 < i = ltb_is 0 i (and_left (nat_lt 0 i) (nat_le i n) e) in
          omega arith;
      most = leb_is i n (and_right (nat_lt 0 i) (nat_le i n) e);
    }

or_false : (c : Bool) → (c || false) ≡ true → c ≡ true
or_false true e = refl
or_false false e = e

pub member-named : (g : Group) (i : ℕ) → has_name g (member i) ≡ true → IsWithin g.members i
member-named g i e = is-within g.members i (or_false (is_in_range g.members i) e)

pub leader-named : (g : Group) (l : ℕ) → has_name g (leader l) ≡ true → IsWithin 3 l
leader-named g l e = is-within 3 l e

pub happens-sounds : (g : Group) (w : PaxosCommitWorld) (e : Happening) → UpNamed g w → Sounds g w → Sounds g (paxos_happens g w e)
happens-sounds g w (Votes i r p) n s = if_holds (Sounds g) (w.up (member i) && is_none (w.member i r).vote) _ _
    (λ q. member-lift g w i r (on_paxos_vote g i r p) (vote-all g i r p)
    (vote-step g (in_round r w) r i p (member-named g i (n (member i) (and_left (w.up (member i)) (is_none (w.member i r).vote) q)))
    (and_right (w.up (member i)) (is_none (w.member i r).vote) q) (s r)) s)
    (λ q. s)
happens-sounds g w (Leads l r) n s = if_holds (Sounds g) (w.up (leader l)) _ _
    (λ q. leader-lift g w l r (on_lead g l (w.leader l r) r) (lead-all g l (w.leader l r) r)
    (lead-step g (in_round r w) r l (leader-named g l (n (leader l) q)) (s r)) s)
    (λ q. s)
happens-sounds g w (Delivers from to k) n s =
    if_holds (Sounds g) (w.up to) _ _ (λ q. delivered-sounds g w from to (message_at w from to k) (λ m e. message-said w from to k m e) s) (λ q. s)
happens-sounds g w (Shows i r) n s = s
happens-sounds g w (Stops x) n s = if_holds (Sounds g) (w.up x) _ _ (λ q. stopped-sounds g w x s) (λ q. s)
happens-sounds g w (Starts x) n s = if_holds (Sounds g) (has_name g x) _ _ (λ q. s) (λ q. s)

-- ---- who is up

pub heard-up : (g : Group) (w : PaxosCommitWorld) (from to : Name) (m : PaxosMsg) → (message_heard g w from to m).up ≡ w.up
heard-up g w from to m =
    if_holds (λ (v : PaxosCommitWorld). v.up ≡ w.up) (to.kind == MEMBER) _ _ (λ q. refl)
    (λ q. if_holds (λ (v : PaxosCommitWorld). v.up ≡ w.up) (to.kind == ACCEPTOR) _ _ (λ t. refl) (λ t. refl))

pub delivered-up : (g : Group) (w : PaxosCommitWorld) (from to : Name) (o : Option PaxosMsg) → (paxos_delivered g w from to o).up ≡ w.up
delivered-up g w from to None = refl
delivered-up g w from to (Some m) = heard-up g w from to m

pub name-is : (m n : Name) → same_name m n ≡ true → m ≡ n
name-is m n e =
    let k : m.kind ≡ n.kind = eqb_is m.kind n.kind (and_left (m.kind == n.kind) (m.number == n.number) e) in
    let l : m.number ≡ n.number = eqb_is m.number n.number (and_right (m.kind == n.kind) (m.number == n.number) e) in
    ap (λ (z : ℕ). record { kind = z; number = m.number }) k ∙ ap (λ (z : ℕ). record { kind = n.kind; number = z }) l

pub happens-named : (g : Group) (w : PaxosCommitWorld) (e : Happening) → UpNamed g w → UpNamed g (paxos_happens g w e)
unfolding put_name
happens-named g w (Votes i r p) n = if_holds (UpNamed g) (w.up (member i) && is_none (w.member i r).vote) _ _ (λ q. n) (λ q. n)
happens-named g w (Leads l r) n = if_holds (UpNamed g) (w.up (leader l)) _ _ (λ q. n) (λ q. n)
happens-named g w (Delivers from to k) n =
    if_holds (UpNamed g) (w.up to) _ _
    (λ q. subst (λ (f : Name → Bool). (x : Name) → f x ≡ true → has_name g x ≡ true) (sym (delivered-up g w from to (message_at w from to k))) n) (λ q. n)
happens-named g w (Shows i r) n = n
happens-named g w (Stops x) n = if_holds (UpNamed g) (w.up x) _ _ (λ q. less) (λ q. n)
  where
    less : (y : Name) → put_name w.up x false y ≡ true → has_name g y ≡ true
    less y = if_holds (λ (c : Bool). c ≡ true → has_name g y ≡ true) (same_name y x) false (w.up y) (λ q e. cc) (λ q e. n y e)
happens-named g w (Starts x) n = if_holds (UpNamed g) (has_name g x) _ _ (λ q. more q) (λ q. n)
  where
    more : has_name g x ≡ true → (y : Name) → put_name w.up x true y ≡ true → has_name g y ≡ true
    more q y =
        if_holds (λ (c : Bool). c ≡ true → has_name g y ≡ true) (same_name y x) true (w.up y)
        (λ t e. subst (λ (z : Name). has_name g z ≡ true) (sym (name-is y x t)) q) (λ t e. n y e)

-- ---- runs

pub first-sounds : (g : Group) → Sounds g (first_paxos_world g)
first-sounds g r = record {
  pairs = λ a i x e. cc;
  given = λ a i b p u. absurd u;
  promised = λ a b y u. absurd u;
  ordered = λ i b p u. absurd u;
  opened = λ l o e. cc;
  counted = λ m x u. absurd u;
  decided = λ m d e. cc;
}

pub run-sounds : (g : Group) (w : PaxosCommitWorld) (es : List Happening) → UpNamed g w → Sounds g w → Sounds g (paxos_run g w es)
run-sounds g w [] n s = s
run-sounds g w (e ∷ es) n s = run-sounds g (paxos_happens g w e) es (happens-named g w e n) (happens-sounds g w e n s)

pub after-sounds : (g : Group) (es : List Happening) → Sounds g (paxos_world_after g es)
after-sounds g es = run-sounds g (first_paxos_world g) es (λ n e. e) (first-sounds g)

pub run-append : (g : Group) (w : PaxosCommitWorld) (es fs : List Happening) → paxos_run g w (es ++ fs) ≡ paxos_run g (paxos_run g w es) fs
run-append g w [] fs = refl
run-append g w (e ∷ es) fs = run-append g (paxos_happens g w e) es fs

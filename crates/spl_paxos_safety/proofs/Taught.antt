-- A leader begins a ballot, and learns from the answers what was promised.
use Rattle.std.{specs.Prelude.{Option, Some, None, nat_lt, ◌==◌, is_none, is_some}, proofs.Common.{◌≡◌, ℕ, ◌<◌, ◌≤◌, ◌^◌, Bool, true, ◌&&◌, List, [], ◌∷◌}}
use Rattle.std.proofs.Common.{◌++◌, length, inl, inr, refl, sym, subst, ◌∙◌, ap, arith}
use Rattle.spl_agree.{specs.World.put, proofs.Tests.{if_holds, if_true, ltb_is, ltb_not}}
use Rattle.spl_acceptor.specs.{Quorums.{IsWithin, acceptors, has_quorum}, Processes.{Pairs, PaxosBallot, Leader}, Rows.{PaxosPlan, acceptor, leader}}
use Rattle.spl_acceptor.specs.Rows.{to_acceptors, next_ballot, begin_plan, pair_among, counts_promise, on_promise, leader_row, leader_after}
use Rattle.spl_acceptor.specs.Worlds.{PaxosCommitWorld, paxos_on_pair, message_numbered, message_at, paxos_posted, at_leader, Happening, Leads, Delivers}
use Rattle.spl_acceptor.specs.{Worlds.{round_of, message_heard, paxos_happens, paxos_run}, declared.{group.Group.Group, message.Name.Name}}
use Rattle.spl_acceptor.specs.declared.message.PaxosMsg.{PaxosMsg}
use Rattle.spl_acceptor.specs.declared.message.PaxosMsg.TheVariants as msg
use Rattle.spl_paxos_safety.{specs.Settling.{last_on, hand_replies}, proofs.{Round.IsAmong, Changes.at_most_self, Lists.{numbered-last, pair-append}}}
use Rattle.spl_paxos_safety.proofs.{Lists.{acceptor-kind, pair-each}, Grows.{Grows, grows-self, grows-then, message-stays, hears-it, put_round-same}}
use Rattle.spl_paxos_safety.proofs.{Grows.each-stage, Asked.{IsReply, Replied}}

pub below-is : (m n : ℕ) → m < n → nat_lt m n ≡ true
below-is m n l = grind (arith)

-- ---- a ballot is begun

-- what there is after it
pub record Begun (l r b : ℕ) (w v : PaxosCommitWorld) : Type 0 where
  pub up : v.up ≡ w.up
  pub acceptors_same : v.acceptor ≡ w.acceptor
  pub leads : v.leader l r ≡ record { used = b; opened = Some (record { number = b; promises = λ a. None }) }
  pub grows : Grows w v

pub lead-begins : (g : Group) (w : PaxosCommitWorld) (l r : ℕ) → w.up (leader l) ≡ true → next_ballot l (w.leader l r).used < 2 ^ 64
    → paxos_happens g w (Leads l r) ≡ at_leader w l r (begin_plan g r (next_ballot l (w.leader l r).used))
lead-begins g w l r up room =
    if_true (λ (v : PaxosCommitWorld). v ≡ at_leader w l r (begin_plan g r (next_ballot l (w.leader l r).used))) (w.up (leader l)) _ _ up
    (if_true (λ (p : PaxosPlan). at_leader w l r p ≡ at_leader w l r (begin_plan g r (next_ballot l (w.leader l r).used)))
    (nat_lt (next_ballot l (w.leader l r).used) (2 ^ 64)) _ _ (below-is (next_ballot l (w.leader l r).used) (2 ^ 64) room) refl)

pub begun-is : (g : Group) (w : PaxosCommitWorld) (l r b : ℕ) → Begun l r b w (at_leader w l r (begin_plan g r b))
begun-is g w l r b = record {
  up = refl;
  acceptors_same = refl;
  leads = put_round-same w.leader l r (leader_after (w.leader l r) (begin_plan g r b));
  grows = (paxos_posted (leader l) (begin_plan g r b).sends, refl);
}

-- the ballot is what each acceptor is asked last
pub begun-asks : (g : Group) (w : PaxosCommitWorld) (l r b a : ℕ) → IsWithin (acceptors g.faults) a
    → message_at (at_leader w l r (begin_plan g r b)) (leader l) (acceptor a) (last_on (at_leader w l r (begin_plan g r b)) (leader l) (acceptor a))
    ≡ Some (msg.Ask r b)
begun-asks g w l r b a i =
    subst (λ (z : List PaxosMsg). message_numbered z (length z) ≡ Some (msg.Ask r b)) (sym same)
    (numbered-last (paxos_on_pair (leader l) (acceptor a) w.sent) (msg.Ask r b))
  where
    same : paxos_on_pair (leader l) (acceptor a) (w.sent ++ paxos_posted (leader l) (to_acceptors g (msg.Ask r b)))
        ≡ paxos_on_pair (leader l) (acceptor a) w.sent ++ msg.Ask r b ∷ []
    same = pair-append (leader l) (acceptor a) w.sent (paxos_posted (leader l) (to_acceptors g (msg.Ask r b)))
        ∙ ap (λ (z : List PaxosMsg). paxos_on_pair (leader l) (acceptor a) w.sent ++ z)
        (pair-each acceptor (leader l) (msg.Ask r b) (acceptors g.faults) a acceptor-kind i)

-- ---- the answers to it

-- what stays while the leader hears answers
pub record Hearing (l r b most : ℕ) (start w : PaxosCommitWorld) : Type 0 where
  pub grows : Grows start w
  pub up : w.up ≡ start.up
  pub acceptors_same : w.acceptor ≡ start.acceptor
  pub least : b ≤ (w.leader l r).used
  pub top : (w.leader l r).used ≤ most

abbrev Raised : Leader → PaxosPlan → ℕ → ℕ → Type 0
Raised x p q most = ((leader_after x p).used ≤ most) × (x.used ≤ (leader_after x p).used) × (q ≤ (leader_after x p).used)

promise-used : (g : Group) (x : Leader) (o : Option PaxosBallot) (r a b : ℕ) (pairs : Pairs) → (leader_after x (on_promise g o r a b pairs)).used ≡ x.used
promise-used g x None r a b pairs = refl
promise-used g x (Some o) r a b pairs = if_holds (λ (p : PaxosPlan). (leader_after x p).used ≡ x.used) (o.number == b && is_none (o.promises a)) _ _
    (λ q. counted (put o.promises a (Some pairs)))
    (λ q. refl)
  where
    counted : (heard : ℕ → Option Pairs) → (leader_after x (counts_promise g r b a pairs heard)).used ≡ x.used
    counted heard =
        if_holds (λ (p : PaxosPlan). (leader_after x p).used ≡ x.used) (has_quorum g.faults (λ (c : ℕ). is_some (heard c))) _ _ (λ t. refl) (λ t. refl)

-- an answer raises what is used to what was promised
reply-raises : (g : Group) (x : Leader) (from : Name) (r b q most : ℕ) (m : PaxosMsg) → IsReply r b q m → q ≤ most → x.used ≤ most → b ≤ x.used
    → Raised x (leader_row g x from m) q most
reply-raises g x from r b q most m (inl y) top up low = subst (λ (z : PaxosMsg). Raised x (leader_row g x from z) q most) (sym y.1)
    (let e : (leader_after x (on_promise g x.opened r from.number b (pair_among y.0))).used ≡ x.used =
    promise-used g x x.opened r from.number b (pair_among y.0) in
    let f : q ≡ b =
    y.2 in (
      subst (λ (z : ℕ). z ≤ most) (sym e) up,
      subst (λ (z : ℕ). x.used ≤ z) (sym e) (at_most_self x.used),
      subst (λ (z : ℕ). q ≤ z) (sym e) (omega arith),
    ))
reply-raises g x from r b q most m (inr y) top up low = subst (λ (z : PaxosMsg). Raised x (leader_row g x from z) q most) (sym y.0)
    (if_holds (λ (p : PaxosPlan). Raised x p q most) (nat_lt x.used q) _ _
    (λ t. (top, (let k : x.used < q = ltb_is x.used q t in omega arith), at_most_self q))
    (λ t. (up, at_most_self x.used, ltb_not x.used q t)))

abbrev reply_line : ℕ → (ℕ → ℕ) → ℕ → List Happening
reply_line l k a = Delivers (acceptor a) (leader l) (k a) ∷ []

abbrev Knows : ℕ → ℕ → PaxosCommitWorld → ℕ → PaxosCommitWorld → Type 0
Knows l r start a w = (start.acceptor a r).promised ≤ (w.leader l r).used

-- where the leader hears all answers, it has used what each of the acceptors promised, or more
pub replies-stage : (g : Group) (l r b most : ℕ) (those : List ℕ) (start : PaxosCommitWorld) → start.up (leader l) ≡ true → b ≤ (start.leader l r).used
    → (start.leader l r).used ≤ most
    → ((a : ℕ) → IsAmong a those → (start.acceptor a r).promised ≤ most) → ((a : ℕ) → IsAmong a those → Replied l r b a start)
    → Hearing l r b most start (paxos_run g start (hand_replies start l those))
    × ((a : ℕ) → IsAmong a those → (start.acceptor a r).promised ≤ ((paxos_run g start (hand_replies start l those)).leader l r).used)
replies-stage g l r b most those start up low top lows replied =
    each-stage g (reply_line l k) (Hearing l r b most start) (Knows l r start) those step keep start
    (record { grows = grows-self start; up = refl; acceptors_same = refl; least = low; top = top })
  where
    k : ℕ → ℕ
    k a = last_on start (acceptor a) (leader l)

    the : (a : ℕ) → IsAmong a those → PaxosMsg
    the a u = (replied a u).reply

    was-last : (a : ℕ) (u : IsAmong a those) → message_at start (acceptor a) (leader l) (k a) ≡ Some (the a u)
    was-last a u =
        subst (λ (z : List PaxosMsg). message_numbered z (length z) ≡ Some (the a u)) (sym (replied a u).last) (numbered-last (replied a u).prefix (the a u))

    of-round : (q : ℕ) (m : PaxosMsg) → IsReply r b q m → round_of m ≡ r
    of-round q m (inl y) = ap round_of y.1
    of-round q m (inr y) = ap round_of y.0

    heard-now : (a : ℕ) (w : PaxosCommitWorld) (u : IsAmong a those) → Hearing l r b most start w
        → paxos_happens g w (Delivers (acceptor a) (leader l) (k a)) ≡ at_leader w l r (leader_row g (w.leader l r) (acceptor a) (the a u))
    heard-now a w u i =
        hears-it g w (acceptor a) (leader l) (k a) (the a u) (ap (λ (f : Name → Bool). f (leader l)) i.up ∙ up)
        (message-stays start w (acceptor a) (leader l) (k a) (the a u) i.grows (was-last a u))
        ∙ ap (λ (z : ℕ). at_leader w l z (leader_row g (w.leader l z) (acceptor a) (the a u)))
        (of-round (start.acceptor a r).promised (the a u) (replied a u).says)

    raised : (a : ℕ) (w : PaxosCommitWorld) (u : IsAmong a those) → Hearing l r b most start w
        → Raised (w.leader l r) (leader_row g (w.leader l r) (acceptor a) (the a u)) (start.acceptor a r).promised most
    raised a w u i = reply-raises g (w.leader l r) (acceptor a) r b (start.acceptor a r).promised most (the a u) (replied a u).says (lows a u) i.top i.least

    after : (a : ℕ) (w : PaxosCommitWorld) (u : IsAmong a those) (P : Leader → Type 0)
        → P (leader_after (w.leader l r) (leader_row g (w.leader l r) (acceptor a) (the a u)))
        → P ((at_leader w l r (leader_row g (w.leader l r) (acceptor a) (the a u))).leader l r)
    after a w u P p = subst P (sym (put_round-same w.leader l r (leader_after (w.leader l r) (leader_row g (w.leader l r) (acceptor a) (the a u))))) p

    step : (a : ℕ) (w : PaxosCommitWorld) → IsAmong a those → Hearing l r b most start w
        → Hearing l r b most start (paxos_run g w (reply_line l k a)) × Knows l r start a (paxos_run g w (reply_line l k a))
    step a w u i = subst (λ (v : PaxosCommitWorld). Hearing l r b most start v × Knows l r start a v) (sym (heard-now a w u i)) (
      record {
        grows = grows-then start w (at_leader w l r (leader_row g (w.leader l r) (acceptor a) (the a u))) i.grows
            (paxos_posted (leader l) (leader_row g (w.leader l r) (acceptor a) (the a u)).sends, refl);
        up = i.up;
        acceptors_same = i.acceptors_same;
        least = after a w u (λ (z : Leader). b ≤ z.used)
            (let j : b ≤ (w.leader l r).used = i.least in
            let t : (w.leader l r).used ≤ (leader_after (w.leader l r) (leader_row g (w.leader l r) (acceptor a) (the a u))).used = (raised a w u i).1 in
            omega arith);
        top = after a w u (λ (z : Leader). z.used ≤ most) (raised a w u i).0;
      },
      after a w u (λ (z : Leader). (start.acceptor a r).promised ≤ z.used) (raised a w u i).2,
    )

    keep : (a c : ℕ) (w : PaxosCommitWorld) → IsAmong a those → Hearing l r b most start w → Knows l r start c w
        → Knows l r start c (paxos_run g w (reply_line l k a))
    keep a c w u i x = subst (Knows l r start c) (sym (heard-now a w u i))
        (after a w u (λ (z : Leader). (start.acceptor c r).promised ≤ z.used)
        (let t : (w.leader l r).used ≤ (leader_after (w.leader l r) (leader_row g (w.leader l r) (acceptor a) (the a u))).used =
        (raised a w u i).1 in omega arith))

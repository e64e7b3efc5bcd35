-- What holds of a world holds of each later one.
use Rattle.std.{specs.Prelude.Some, proofs.Common.{◌≡◌, ℕ, ◌<◌, ◌≤◌, ◌⊎◌, Bool, true, false, inl, inr, sym, arith}}
use Rattle.spl_acceptor.specs.{Quorums.{IsWithin, acceptors}, Processes.{Pair, Pairs, PaxosBallot}, Rows.leader_of, declared.group.Group.Group}
use Rattle.spl_acceptor.specs.declared.message.Acceptance.{Acceptance}
use Rattle.spl_paxos_safety.proofs.{Round.{Message, Ask, Accept, Promise, Accepted, Round, IsAmong}, Soundness.{Accepts, Chosen, Blocked, Covers, Given}}
use Rattle.spl_paxos_safety.proofs.Soundness.{Promised, Ordered, Opened, Reason, Sound}

-- the later world: messages and votes stay, numbers grow, what is accepted again isn't below the promise, what is opened again is above what was used
pub record Later (v w : Round) : Type 0 where
  pub sent : (x : Message) → IsAmong x v.sent → IsAmong x w.sent
  pub promised : (a : ℕ) → (v.acceptor a).promised ≤ (w.acceptor a).promised
  pub votes : (i : ℕ) (p : Bool) → (v.member i).vote ≡ Some p → (w.member i).vote ≡ Some p
  pub used : (l : ℕ) → (v.leader l).used ≤ (w.leader l).used
  pub accepted : (a i b : ℕ) (p : Bool) → Accepts w.sent a i b p → Accepts v.sent a i b p ⊎ ((v.acceptor a).promised ≤ b)
  pub kept : (a i b : ℕ) → b ≤ (v.acceptor a).promised → Covers ((v.acceptor a).accepted i) b → Covers ((w.acceptor a).accepted i) b
  pub opened : (l : ℕ) (o : PaxosBallot) → (w.leader l).opened ≡ Some o
      → ((k : PaxosBallot) × ((v.leader l).opened ≡ Some k) × (k.number ≡ o.number)) ⊎ ((v.leader l).used < o.number)

pub chosen-stays : (g : Group) (v w : Round) (i b : ℕ) (p : Bool) → Later v w → Chosen g v.sent i b p → Chosen g w.sent i b p
chosen-stays g v w i b p l c = (c.0, c.1, λ a k t. l.sent (Accepted a i b p) (c.2 a k t))

pub blocked-stays : (g : Group) (v w : Round) (i b : ℕ) (p : Bool) → Later v w → Blocked g v i b p → Blocked g w i b p
blocked-stays g v w i b p l x = (
  x.0,
  x.1,
  λ a j t. (
    let k : b < (v.acceptor a).promised = (x.2 a j t).0 in let m : (v.acceptor a).promised ≤ (w.acceptor a).promised = l.promised a in
        omega arith,
    λ y. go a j t (l.accepted a i b p y),
  ),
)
  where
    go : (a : ℕ) → IsWithin (acceptors g.faults) a → x.0 a ≡ true → Accepts v.sent a i b p ⊎ ((v.acceptor a).promised ≤ b) → ⊥
    go a j t (inl y) = (x.2 a j t).1 y
    go a j t (inr k) = let m : b < (v.acceptor a).promised = (x.2 a j t).0 in omega arith

pub given-stays : (v w : Round) (a i b : ℕ) (p : Bool) → Later v w → Given v a i b p → Given w a i b p
given-stays v w a i b p l x = record {
  asked = l.sent (Accept i b p) x.asked;
  below = let k : b ≤ (v.acceptor a).promised = x.below in let m : (v.acceptor a).promised ≤ (w.acceptor a).promised = l.promised a in omega arith;
  kept = l.kept a i b x.below x.kept;
}

pub promised-stays : (v w : Round) (a b : ℕ) (pairs : Pairs) → Later v w → Promised v a b pairs → Promised w a b pairs
promised-stays v w a b pairs l x = record {
  below = let k : b ≤ (v.acceptor a).promised = x.below in let m : (v.acceptor a).promised ≤ (w.acceptor a).promised = l.promised a in omega arith;
  true_pairs = λ i y e. ((x.true_pairs i y e).0, l.sent (Accepted a i y.0 y.1) (x.true_pairs i y e).1);
  all_pairs = λ i c p y k. go i c p k (l.accepted a i c p y);
}
  where
    go : (i c : ℕ) (p : Bool) → c < b → Accepts v.sent a i c p ⊎ ((v.acceptor a).promised ≤ c) → Covers (pairs i) c
    go i c p k (inl y) = x.all_pairs i c p y k
    go i c p k (inr m) = let n : b ≤ (v.acceptor a).promised = x.below in absurd (omega arith)

pub ordered-stays : (g : Group) (v w : Round) (i b : ℕ) (p : Bool) → Later v w → ((q : Bool) → IsAmong (Accept i b q) w.sent → p ≡ q) → Ordered g v i b p
    → Ordered g w i b p
ordered-stays g v w i b p l single x = record {
  member = x.member;
  first = λ e. l.votes i p (x.first e);
  yes = λ e. l.votes i true (x.yes e);
  asked = λ k. l.sent (Ask b) (x.asked k);
  begun = let k : b ≤ (v.leader (leader_of b)).used = x.begun in
      let m : (v.leader (leader_of b)).used ≤ (w.leader (leader_of b)).used = l.used (leader_of b) in omega arith;
  shut = λ o e. shut o (l.opened (leader_of b) o e);
  single = single;
  safe = λ c q k n. blocked-stays g v w i c q l (x.safe c q k n);
}
  where
    shut : (o : PaxosBallot)
        → ((k : PaxosBallot) × ((v.leader (leader_of b)).opened ≡ Some k) × (k.number ≡ o.number)) ⊎ ((v.leader (leader_of b)).used < o.number) → b < o.number
    shut o (inl y) = let k : b < y.0.number = x.shut y.0 y.1 in let e : y.0.number ≡ o.number = y.2 in omega arith
    shut o (inr y) = let k : b ≤ (v.leader (leader_of b)).used = x.begun in omega arith

pub opened-stays : (g : Group) (v w : Round) (l : ℕ) (o : PaxosBallot) → Later v w → Opened g v l o → Opened g w l o
opened-stays g v w l o t x = record {
  used = let k : o.number ≤ (v.leader l).used = x.used in let m : (v.leader l).used ≤ (w.leader l).used = t.used l in omega arith;
  own = x.own;
  above = x.above;
  asked = t.sent (Ask o.number) x.asked;
  heard = λ a pairs e. t.sent (Promise a o.number pairs) (x.heard a pairs e);
}

pub reason-stays : (g : Group) (v w : Round) (d : Bool) → Later v w → Reason g v d → Reason g w d
reason-stays g v w true l r = λ i k. ((r i k).0, chosen-stays g v w i (r i k).0 true l (r i k).1)
reason-stays g v w false l r = (r.0, r.1, chosen-stays g v w r.0 r.1 false l r.2)

-- what is new in the later world
pub record New (g : Group) (v w : Round) : Type 0 where
  pub pairs : (a i : ℕ) (x : Pair) → (w.acceptor a).accepted i ≡ Some x → ((v.acceptor a).accepted i ≡ Some x) ⊎ Accepts w.sent a i x.0 x.1
  pub given : (a i b : ℕ) (p : Bool) → Accepts w.sent a i b p → Accepts v.sent a i b p ⊎ Given w a i b p
  pub promised : (a b : ℕ) (pairs : Pairs) → IsAmong (Promise a b pairs) w.sent → IsAmong (Promise a b pairs) v.sent ⊎ Promised w a b pairs
  pub ordered : (i b : ℕ) (p : Bool) → IsAmong (Accept i b p) w.sent → IsAmong (Accept i b p) v.sent ⊎ Ordered g w i b p
  pub opened : (l : ℕ) (o : PaxosBallot) → (w.leader l).opened ≡ Some o → ((v.leader l).opened ≡ Some o) ⊎ Opened g w l o
  pub counted : (m : ℕ) (x : Acceptance) → IsAmong x (w.member m).counted
      → IsAmong x (v.member m).counted ⊎ Accepts w.sent x.acceptor x.member x.ballot x.prepared
  pub decided : (m : ℕ) (d : Bool) → (w.member m).decision ≡ Some d → ((v.member m).decision ≡ Some d) ⊎ Reason g w d

pub sound-later : (g : Group) (v w : Round) → Later v w → New g v w → Sound g v → Sound g w
sound-later g v w l n s = record {
  pairs = λ a i x e. pairs a i x (n.pairs a i x e);
  given = λ a i b p x. given a i b p (n.given a i b p x);
  promised = λ a b x y. promised a b x (n.promised a b x y);
  ordered = λ i b p x. ordered i b p x (n.ordered i b p x);
  opened = λ k o e. opened k o (n.opened k o e);
  counted = λ m x y. counted m x (n.counted m x y);
  decided = λ m d e. decided m d (n.decided m d e);
}
  where
    pairs : (a i : ℕ) (x : Pair) → ((v.acceptor a).accepted i ≡ Some x) ⊎ Accepts w.sent a i x.0 x.1 → Accepts w.sent a i x.0 x.1
    pairs a i x (inl e) = l.sent (Accepted a i x.0 x.1) (s.pairs a i x e)
    pairs a i x (inr y) = y

    given : (a i b : ℕ) (p : Bool) → Accepts v.sent a i b p ⊎ Given w a i b p → Given w a i b p
    given a i b p (inl x) = given-stays v w a i b p l (s.given a i b p x)
    given a i b p (inr x) = x

    promised : (a b : ℕ) (x : Pairs) → IsAmong (Promise a b x) v.sent ⊎ Promised w a b x → Promised w a b x
    promised a b x (inl y) = promised-stays v w a b x l (s.promised a b x y)
    promised a b x (inr y) = y

    single : (i b : ℕ) (p q : Bool) → IsAmong (Accept i b p) v.sent → IsAmong (Accept i b q) v.sent ⊎ Ordered g w i b q → p ≡ q
    single i b p q x (inl y) = (s.ordered i b p x).single q y
    single i b p q x (inr y) = sym (y.single p (l.sent (Accept i b p) x))

    ordered : (i b : ℕ) (p : Bool) → IsAmong (Accept i b p) w.sent → IsAmong (Accept i b p) v.sent ⊎ Ordered g w i b p → Ordered g w i b p
    ordered i b p x (inl y) = ordered-stays g v w i b p l (λ q z. single i b p q y (n.ordered i b q z)) (s.ordered i b p y)
    ordered i b p x (inr y) = y

    opened : (k : ℕ) (o : PaxosBallot) → ((v.leader k).opened ≡ Some o) ⊎ Opened g w k o → Opened g w k o
    opened k o (inl e) = opened-stays g v w k o l (s.opened k o e)
    opened k o (inr x) = x

    counted : (m : ℕ) (x : Acceptance) → IsAmong x (v.member m).counted ⊎ Accepts w.sent x.acceptor x.member x.ballot x.prepared
        → Accepts w.sent x.acceptor x.member x.ballot x.prepared
    counted m x (inl y) = l.sent (Accepted x.acceptor x.member x.ballot x.prepared) (s.counted m x y)
    counted m x (inr y) = y

    decided : (m : ℕ) (d : Bool) → ((v.member m).decision ≡ Some d) ⊎ Reason g w d → Reason g w d
    decided m d (inl e) = reason-stays g v w d l (s.decided m d e)
    decided m d (inr r) = r

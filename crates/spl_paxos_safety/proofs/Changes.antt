-- One process changes and sends.
use Rattle.std.{specs.Prelude.{List, Some}, proofs.Common.{◌≡◌, ℕ, ◌<◌, ◌≤◌, ◌⊎◌, Bool, ◌++◌, inl, inr, refl, arith}}
use Rattle.spl_acceptor.specs.{Processes.{Pair, Pairs, Acceptor, VotingMember, PaxosBallot, Leader}, Rows.orders, declared.group.Group.Group}
use Rattle.spl_acceptor.specs.declared.message.Acceptance.{Acceptance}
use Rattle.spl_paxos_safety.proofs.{Round.{Message, Accept, Promise, Accepted, Round, IsAmong, with_member, with_acceptor, with_leader}, Soundness.Accepts}
use Rattle.spl_paxos_safety.proofs.{Soundness.{Covers, Given, Promised, Ordered, Opened, Reason, Sound}, Later.{Later, sound-later}, Tests.put_holds}
use Rattle.spl_paxos_safety.proofs.Tests.{was-split, was-after}

pub at_most_self : (n : ℕ) → n ≤ n
at_most_self n = omega arith

-- of what is sent, what was sent before, or is new
pub came : {A : Type 0} (P : Type 0) (x : A) (s t : List A) → (IsAmong x s → P) → IsAmong x (s ++ t) → IsAmong x t ⊎ P
came P x s t f w = go (was-split x s t w)
  where
    go : IsAmong x s ⊎ IsAmong x t → IsAmong x t ⊎ P
    go (inl v) = inr (f v)
    go (inr v) = inl v

pub acceptor-sound : (g : Group) (w : Round) (a : ℕ) (x : Acceptor) (sends : List Message)
    → (w.acceptor a).promised ≤ x.promised
    → ((i b : ℕ) → b ≤ (w.acceptor a).promised → Covers ((w.acceptor a).accepted i) b → Covers (x.accepted i) b)
    → ((c i b : ℕ) (p : Bool) → IsAmong (Accepted c i b p) sends → ((w.acceptor c).promised ≤ b) × Given (with_acceptor w a x sends) c i b p)
    → ((c b : ℕ) (y : Pairs) → IsAmong (Promise c b y) sends → Promised (with_acceptor w a x sends) c b y)
    → ((i b : ℕ) (p : Bool) → IsAmong (Accept i b p) sends → ⊥)
    → ((i : ℕ) (y : Pair) → x.accepted i ≡ Some y → ((w.acceptor a).accepted i ≡ Some y) ⊎ Accepts (sends ++ w.sent) a i y.0 y.1)
    → Sound g w → Sound g (with_acceptor w a x sends)
acceptor-sound g w a x sends up kept given promised none pairs s = sound-later g w (with_acceptor w a x sends) (record {
  sent = λ y v. was-after y sends w.sent v;
  promised = λ c. put_holds (λ (c : ℕ) (z : Acceptor). (w.acceptor c).promised ≤ z.promised) w.acceptor a x c up (λ n. at_most_self _);
  votes = λ i p e. e;
  used = λ l. at_most_self _;
  accepted = λ c i b p v. came ((w.acceptor c).promised ≤ b) (Accepted c i b p) sends w.sent (λ u. (given c i b p u).0) v;
  kept = λ c i b. put_holds
      (λ (c : ℕ) (z : Acceptor). b ≤ (w.acceptor c).promised → Covers ((w.acceptor c).accepted i) b → Covers (z.accepted i) b) w.acceptor a x c (kept i b)
      (λ n k y. y);
  opened = λ l o e. inl (o, e, refl);
}) (record {
  pairs = λ c i y. put_holds
      (λ (c : ℕ) (z : Acceptor). z.accepted i ≡ Some y → ((w.acceptor c).accepted i ≡ Some y) ⊎ Accepts (sends ++ w.sent) c i y.0 y.1) w.acceptor a x c
      (pairs i y) (λ n e. inl e);
  given = λ c i b p v. came (Given (with_acceptor w a x sends) c i b p) (Accepted c i b p) sends w.sent (λ u. (given c i b p u).1) v;
  promised = λ c b y v. came (Promised (with_acceptor w a x sends) c b y) (Promise c b y) sends w.sent (promised c b y) v;
  ordered = λ i b p v. came (Ordered g (with_acceptor w a x sends) i b p) (Accept i b p) sends w.sent (λ u. absurd (none i b p u)) v;
  opened = λ l o e. inl e;
  counted = λ m y v. inl v;
  decided = λ m d e. inl e;
}) s

pub leader-sound : (g : Group) (w : Round) (l : ℕ) (x : Leader) (sends : List Message)
    → (w.leader l).used ≤ x.used
    → ((o : PaxosBallot) → x.opened ≡ Some o → ((k : PaxosBallot) × ((w.leader l).opened ≡ Some k) × (k.number ≡ o.number)) ⊎ ((w.leader l).used < o.number))
    → ((o : PaxosBallot) → x.opened ≡ Some o → ((w.leader l).opened ≡ Some o) ⊎ Opened g (with_leader w l x sends) l o)
    → ((c i b : ℕ) (p : Bool) → IsAmong (Accepted c i b p) sends → ⊥)
    → ((c b : ℕ) (y : Pairs) → IsAmong (Promise c b y) sends → ⊥)
    → (Later w (with_leader w l x sends) → (i b : ℕ) (p : Bool) → IsAmong (Accept i b p) sends → Ordered g (with_leader w l x sends) i b p)
    → Sound g w → Sound g (with_leader w l x sends)
leader-sound g w l x sends up reopened opened no_accepted no_promise orders s = sound-later g w v later (record {
  pairs = λ c i y e. inl e;
  given = λ c i b p u. came (Given v c i b p) (Accepted c i b p) sends w.sent (λ z. absurd (no_accepted c i b p z)) u;
  promised = λ c b y u. came (Promised v c b y) (Promise c b y) sends w.sent (λ z. absurd (no_promise c b y z)) u;
  ordered = λ i b p u. came (Ordered g v i b p) (Accept i b p) sends w.sent (orders later i b p) u;
  opened = λ k o. put_holds (λ (k : ℕ) (z : Leader). z.opened ≡ Some o → ((w.leader k).opened ≡ Some o) ⊎ Opened g v k o) w.leader l x k (opened o)
      (λ n e. inl e);
  counted = λ m y u. inl u;
  decided = λ m d e. inl e;
}) s
  where
    v : Round
    v = with_leader w l x sends

    later : Later w v
    later = record {
      sent = λ y u. was-after y sends w.sent u;
      promised = λ c. at_most_self _;
      votes = λ i p e. e;
      used = λ k. put_holds (λ (k : ℕ) (z : Leader). (w.leader k).used ≤ z.used) w.leader l x k up (λ n. at_most_self _);
      accepted = λ c i b p u. came ((w.acceptor c).promised ≤ b) (Accepted c i b p) sends w.sent (λ z. absurd (no_accepted c i b p z)) u;
      kept = λ c i b k y. y;
      opened = λ k o. put_holds
          (λ (k : ℕ) (z : Leader). z.opened ≡ Some o
          → ((j : PaxosBallot) × ((w.leader k).opened ≡ Some j) × (j.number ≡ o.number)) ⊎ ((w.leader k).used < o.number)) w.leader l x k (reopened o)
          (λ n e. inl (o, e, refl));
    }

pub member-sound : (g : Group) (w : Round) (m : ℕ) (x : VotingMember) (sends : List Message)
    → ((p : Bool) → (w.member m).vote ≡ Some p → x.vote ≡ Some p)
    → ((c i b : ℕ) (p : Bool) → IsAmong (Accepted c i b p) sends → ⊥)
    → ((c b : ℕ) (y : Pairs) → IsAmong (Promise c b y) sends → ⊥)
    → ((i b : ℕ) (p : Bool) → IsAmong (Accept i b p) sends → Ordered g (with_member w m x sends) i b p)
    → ((y : Acceptance) → IsAmong y x.counted → IsAmong y (w.member m).counted ⊎ Accepts (sends ++ w.sent) y.acceptor y.member y.ballot y.prepared)
    → ((d : Bool) → x.decision ≡ Some d → ((w.member m).decision ≡ Some d) ⊎ Reason g (with_member w m x sends) d)
    → Sound g w → Sound g (with_member w m x sends)
member-sound g w m x sends votes no_accepted no_promise orders counted decided s = sound-later g w v (record {
  sent = λ y u. was-after y sends w.sent u;
  promised = λ c. at_most_self _;
  votes = λ i p. put_holds (λ (i : ℕ) (z : VotingMember). (w.member i).vote ≡ Some p → z.vote ≡ Some p) w.member m x i (votes p) (λ n e. e);
  used = λ k. at_most_self _;
  accepted = λ c i b p u. came ((w.acceptor c).promised ≤ b) (Accepted c i b p) sends w.sent (λ z. absurd (no_accepted c i b p z)) u;
  kept = λ c i b k y. y;
  opened = λ l o e. inl (o, e, refl);
}) (record {
  pairs = λ c i y e. inl e;
  given = λ c i b p u. came (Given v c i b p) (Accepted c i b p) sends w.sent (λ z. absurd (no_accepted c i b p z)) u;
  promised = λ c b y u. came (Promised v c b y) (Promise c b y) sends w.sent (λ z. absurd (no_promise c b y z)) u;
  ordered = λ i b p u. came (Ordered g v i b p) (Accept i b p) sends w.sent (orders i b p) u;
  opened = λ l o e. inl e;
  counted = λ k y. put_holds
      (λ (k : ℕ) (z : VotingMember). IsAmong y z.counted
      → IsAmong y (w.member k).counted ⊎ Accepts (sends ++ w.sent) y.acceptor y.member y.ballot y.prepared) w.member m x k (counted y) (λ n e. inl e);
  decided = λ k d. put_holds (λ (k : ℕ) (z : VotingMember). z.decision ≡ Some d → ((w.member k).decision ≡ Some d) ⊎ Reason g v d) w.member m x k
      (decided d) (λ n e. inl e);
}) s
  where
    v : Round
    v = with_member w m x sends

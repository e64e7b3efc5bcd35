-- What holds after every event of a round.
use Rattle.std.specs.Prelude.{ℕ, zero, ◌<◌, ◌≤◌, ◌≡◌, ◌≢◌, Bool, true, false, List, Option, Some}
use Rattle.spl_acceptor.specs.{Quorums.{IsWithin, acceptors}, Processes.{Pair, Pairs, PaxosBallot}, Rows.leader_of, declared.group.Group.Group}
use Rattle.spl_acceptor.specs.declared.message.Acceptance.{Acceptance}
use Rattle.spl_paxos_safety.proofs.{Round.{Message, Ask, Accept, Promise, Accepted, Round, IsAmong}, Quorums.IsQuorum}

abbrev pub Accepts : List Message → ℕ → ℕ → ℕ → Bool → Type 0
Accepts sent a i b p = IsAmong (Accepted a i b p) sent

-- a quorum accepted this
abbrev pub Chosen : Group → List Message → ℕ → ℕ → Bool → Type 0
Chosen g sent i b p = (test : ℕ → Bool) × (IsQuorum g.faults test) × ((a : ℕ) → IsWithin (acceptors g.faults) a → test a ≡ true → Accepts sent a i b p)

-- a quorum has passed this ballot and didn't accept this
abbrev pub Blocked : Group → Round → ℕ → ℕ → Bool → Type 0
Blocked g w i b p =
    (test : ℕ → Bool) × (IsQuorum g.faults test)
    × ((a : ℕ) → IsWithin (acceptors g.faults) a → test a ≡ true → (b < (w.acceptor a).promised) × (Accepts w.sent a i b p → ⊥))

-- the pair is of this ballot or a later one
abbrev pub Covers : Option Pair → ℕ → Type 0
Covers pair b = (x : Pair) × (pair ≡ Some x) × (b ≤ x.0)

-- of an acceptance that was sent
pub record Given (w : Round) (a i b : ℕ) (p : Bool) : Type 0 where
  pub asked : IsAmong (Accept i b p) w.sent
  pub below : b ≤ (w.acceptor a).promised
  pub kept : Covers ((w.acceptor a).accepted i) b

-- of a promise that was sent
pub record Promised (w : Round) (a b : ℕ) (pairs : Pairs) : Type 0 where
  pub below : b ≤ (w.acceptor a).promised
  pub true_pairs : (i : ℕ) (x : Pair) → pairs i ≡ Some x → (x.0 ≤ b) × Accepts w.sent a i x.0 x.1
  pub all_pairs : (i c : ℕ) (p : Bool) → Accepts w.sent a i c p → c < b → Covers (pairs i) c

-- of an Accept that was sent
pub record Ordered (g : Group) (w : Round) (i b : ℕ) (p : Bool) : Type 0 where
  pub member : IsWithin g.members i
  pub first : b ≡ zero → (w.member i).vote ≡ Some p
  pub yes : p ≡ true → (w.member i).vote ≡ Some true
  pub asked : zero < b → IsAmong (Ask b) w.sent
  pub begun : b ≤ (w.leader (leader_of b)).used
  pub shut : (o : PaxosBallot) → (w.leader (leader_of b)).opened ≡ Some o → b < o.number
  pub single : (q : Bool) → IsAmong (Accept i b q) w.sent → p ≡ q
  pub safe : (c : ℕ) (q : Bool) → c < b → q ≢ p → Blocked g w i c q

-- of an open ballot
pub record Opened (g : Group) (w : Round) (l : ℕ) (o : PaxosBallot) : Type 0 where
  pub used : o.number ≤ (w.leader l).used
  pub own : leader_of o.number ≡ l
  pub above : zero < o.number
  pub asked : IsAmong (Ask o.number) w.sent
  pub heard : (a : ℕ) (pairs : Pairs) → o.promises a ≡ Some pairs → IsAmong (Promise a o.number pairs) w.sent

-- what a decision rests on
abbrev pub Reason : Group → Round → Bool → Type 0
Reason g w true = (i : ℕ) → IsWithin g.members i → (b : ℕ) × Chosen g w.sent i b true
Reason g w false = (i : ℕ) × (b : ℕ) × Chosen g w.sent i b false

pub record Sound (g : Group) (w : Round) : Type 0 where
  pub pairs : (a i : ℕ) (x : Pair) → (w.acceptor a).accepted i ≡ Some x → Accepts w.sent a i x.0 x.1
  pub given : (a i b : ℕ) (p : Bool) → Accepts w.sent a i b p → Given w a i b p
  pub promised : (a b : ℕ) (pairs : Pairs) → IsAmong (Promise a b pairs) w.sent → Promised w a b pairs
  pub ordered : (i b : ℕ) (p : Bool) → IsAmong (Accept i b p) w.sent → Ordered g w i b p
  pub opened : (l : ℕ) (o : PaxosBallot) → (w.leader l).opened ≡ Some o → Opened g w l o
  pub counted : (m : ℕ) (x : Acceptance) → IsAmong x (w.member m).counted → Accepts w.sent x.acceptor x.member x.ballot x.prepared
  pub decided : (m : ℕ) (d : Bool) → (w.member m).decision ≡ Some d → Reason g w d

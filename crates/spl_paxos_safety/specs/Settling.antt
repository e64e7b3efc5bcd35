-- The lines by which a leader settles a round (docs/RULES.md, Paxos Commit).
use Rattle.std.specs.Prelude.{◌≡◌, ◌⊎◌, ◌≤◌, ◌<◌, ◌+◌, ◌-◌, ◌^◌, ℕ, suc, true, List, [], ◌∷◌, ◌++◌, length}
use Rattle.spl_acceptor.specs.{Quorums.numbers, Rows.{member, acceptor, leader}, Worlds.{PaxosCommitWorld, Happening, Delivers, Leads, paxos_happens}}
use Rattle.spl_acceptor.specs.{Worlds.{paxos_run, paxos_on_pair}, declared.{group.Group.Group, message.Name.Name}}

-- one of the list is this
abbrev pub IsAmong : {A : Type 0} → A → List A → Type 0
IsAmong x [] = ⊥
IsAmong x (y ∷ ys) = (x ≡ y) ⊎ IsAmong x ys

abbrev pub Distinct : List ℕ → Type 0
Distinct [] = Unit {0}
Distinct (x ∷ xs) = (IsAmong x xs → ⊥) × Distinct xs

-- some lines for each of these, in order
abbrev pub for_each : {A : Type 0} → (A → List Happening) → List A → List Happening
for_each lines [] = []
for_each lines (x ∷ xs) = lines x ++ for_each lines xs

-- the number of the message that was sent last on a pair
abbrev pub last_on : PaxosCommitWorld → Name → Name → ℕ
last_on w from to = length (paxos_on_pair from to w.sent)

-- to each of these acceptors what the leader sent it last
abbrev pub hand_asks : PaxosCommitWorld → ℕ → List ℕ → List Happening
hand_asks w l those = for_each (λ a. Delivers (leader l) (acceptor a) (last_on w (leader l) (acceptor a)) ∷ []) those

-- to the leader what each of these acceptors sent it last
abbrev pub hand_replies : PaxosCommitWorld → ℕ → List ℕ → List Happening
hand_replies w l those = for_each (λ a. Delivers (acceptor a) (leader l) (last_on w (acceptor a) (leader l)) ∷ []) those

-- the last messages of a pair, one about each member, in order
abbrev pub hand_last : Group → PaxosCommitWorld → Name → Name → List Happening
hand_last g w from to = for_each (λ i. Delivers from to (last_on w from to - g.members + i) ∷ []) (numbers g.members)

-- to each of these acceptors the orders that the leader sent it last
abbrev pub hand_orders : Group → PaxosCommitWorld → ℕ → List ℕ → List Happening
hand_orders g w l those = for_each (λ a. hand_last g w (leader l) (acceptor a)) those

-- to each of these members what each of these acceptors accepted last
abbrev pub hand_accepted : Group → PaxosCommitWorld → List ℕ → List ℕ → List Happening
hand_accepted g w those ms = for_each (λ m. for_each (λ a. hand_last g w (acceptor a) (member m)) those) ms

-- the leader begins a ballot; each of the acceptors hears of it; and the leader hears what each answers
abbrev pub asking : Group → PaxosCommitWorld → ℕ → ℕ → List ℕ → List Happening
asking g w l r those = Leads l r ∷ hand_asks (paxos_happens g w (Leads l r)) l those

abbrev pub turn : Group → PaxosCommitWorld → ℕ → ℕ → List ℕ → List Happening
turn g w l r those = asking g w l r those ++ hand_replies (paxos_run g w (asking g w l r those)) l those

-- each of the acceptors hears each order, and each of the members what they accepted
abbrev pub closing : Group → PaxosCommitWorld → ℕ → List ℕ → List ℕ → List Happening
closing g w l those ms = hand_orders g w l those ++ hand_accepted g (paxos_run g w (hand_orders g w l those)) those ms

-- two turns, of which the first teaches the leader the greatest ballot of the acceptors; then the closing of the second
abbrev pub second_turn : Group → PaxosCommitWorld → ℕ → ℕ → List ℕ → List ℕ → List Happening
second_turn g w l r those ms = turn g w l r those ++ closing g (paxos_run g w (turn g w l r those)) l those ms

abbrev pub settling : Group → PaxosCommitWorld → ℕ → ℕ → List ℕ → List ℕ → List Happening
settling g w l r those ms = turn g w l r those ++ second_turn g (paxos_run g w (turn g w l r those)) l r those ms

-- the leader and F + 1 acceptors are up, and their numbers in the round leave room for two ballots
pub record CanSettle (g : Group) (w : PaxosCommitWorld) (l r : ℕ) (those : List ℕ) : Type 0 where
  pub members : 1 ≤ g.members
  pub led : w.up (leader l) ≡ true
  pub up : (a : ℕ) → IsAmong a those → w.up (acceptor a) ≡ true
  pub distinct : Distinct those
  pub enough : suc g.faults ≤ length those
  pub used : (w.leader l r).used + 6 < 2 ^ 64
  pub promised : (a : ℕ) → IsAmong a those → (w.acceptor a r).promised + 6 < 2 ^ 64

-- A calm: passes of ticks and deliveries over one group.
use Rattle.std.specs.Prelude.{◌≡◌, ◌≢◌, ℕ, zero, suc, ◌<◌, ◌⊎◌, true, ◌&&◌, ◌==◌, List, [], ◌∷◌, ◌++◌, if◌then◌else◌}
use Rattle.spl_agree.specs.{Member.{Group, below_but, has}, Rows.row, World.{World, carried_out}, declared.event.GroupEvent.GroupEvent}
use Rattle.spl_agree.specs.declared.message.CommitMsg.{CommitMsg}
use Rattle.spl_agree.specs.declared.event.GroupEvent.TheVariants as event

-- a group in a calm, with what was sent in this calm on each ordered pair and is not yet delivered, oldest first
pub record Calm (V : Type 0) : Type 0 where
  pub world : World V
  pub due : ℕ → ℕ → List (CommitMsg V)

-- what a plan sends to this position, in order
abbrev pub mail : {V : Type 0} → ℕ → List (ℕ × CommitMsg V) → List (CommitMsg V)
mail to [] = []
mail to (s ∷ ss) = if s.0 == to then s.1 ∷ mail to ss else mail to ss

-- what stands on the pairs, with the sends of this position
unfoldable pub mailed : {V : Type 0} → (ℕ → ℕ → List (CommitMsg V)) → ℕ → List (ℕ × CommitMsg V) → ℕ → ℕ → List (CommitMsg V)
mailed due here ss from to = if from == here then due from to ++ mail to ss else due from to

-- the same with another list on one pair
unfoldable pub left : {V : Type 0} → (ℕ → ℕ → List (CommitMsg V)) → ℕ → ℕ → List (CommitMsg V) → ℕ → ℕ → List (CommitMsg V)
left due a b ms from to = if from == a && to == b then ms else due from to

-- an event at a member, where this stands on the pairs
abbrev pub move : {V : Type 0} → Group V → Calm V → ℕ → GroupEvent V → (ℕ → ℕ → List (CommitMsg V)) → Calm V
move g k here e due = record {
  world = carried_out g k.world here (row g here (k.world.at here) e);
  due = mailed due here (row g here (k.world.at here) e).sends;
}

abbrev pub ticked : {V : Type 0} → Group V → ℕ → Calm V → Calm V
ticked g here k = move g k here event.Tick k.due

-- the first of what stands on a pair is delivered
abbrev pub first_delivered : {V : Type 0} → Group V → Calm V → ℕ → ℕ → List (CommitMsg V) → Calm V
first_delivered g k a b [] = k
first_delivered g k a b (m ∷ ms) = move g k b (event.From a m) (left k.due a b ms)

abbrev pub deliver_first : {V : Type 0} → Group V → ℕ → ℕ → Calm V → Calm V
deliver_first g a b k = first_delivered g k a b (k.due a b)

-- one delivery for each of these
abbrev pub turn_by : {V : Type 0} → Group V → ℕ → ℕ → List (CommitMsg V) → Calm V → Calm V
turn_by g a b [] k = k
turn_by g a b (m ∷ ms) k = turn_by g a b ms (deliver_first g a b k)

-- the turn of a pair: what stands on it is delivered
abbrev pub group_turn : {V : Type 0} → Group V → ℕ → ℕ → Calm V → Calm V
group_turn g a b k = turn_by g a b (k.due a b) k

abbrev pub group_ticks : {V : Type 0} → Group V → List ℕ → Calm V → Calm V
group_ticks g [] k = k
group_ticks g (i ∷ is) k = group_ticks g is (ticked g i k)

-- the turns of these pairs
abbrev pub group_turns : {V : Type 0} → Group V → List (ℕ × ℕ) → Calm V → Calm V
group_turns g [] k = k
group_turns g (p ∷ ps) k = group_turns g ps (group_turn g p.0 p.1 k)

-- who ticks in a pass, and which ordered pairs have their turn, in order
pub record Order : Type 0 where
  pub ticks : List ℕ
  pub pairs : List (ℕ × ℕ)

-- a pass: the ticks, and then the turns
abbrev pub group_pass : {V : Type 0} → Group V → Order → Calm V → Calm V
group_pass g o k = group_turns g o.pairs (group_ticks g o.ticks k)

abbrev pub group_passes : {V : Type 0} → Group V → List Order → Calm V → Calm V
group_passes g [] k = k
group_passes g (o ∷ os) k = group_passes g os (group_pass g o k)

-- nothing of a calm was sent yet
abbrev pub calm_beginning : {V : Type 0} → World V → Calm V
calm_beginning w = record { world = w; due = λ _ _. [] }

-- a calm whose passes have these orders
abbrev pub calm_by : {V : Type 0} → Group V → List Order → World V → World V
calm_by g os w = (group_passes g os (calm_beginning w)).world

-- the order by position: each member ticks, then each ordered pair by sender and then recipient
abbrev pub below : ℕ → List ℕ
below zero = []
below (suc n) = below n ++ n ∷ []

abbrev pub pairs_to : ℕ → List ℕ → List (ℕ × ℕ)
pairs_to a [] = []
pairs_to a (b ∷ bs) = (a, b) ∷ pairs_to a bs

abbrev pub pairs_of : ℕ → List ℕ → List (ℕ × ℕ)
pairs_of n [] = []
pairs_of n (a ∷ rest) = pairs_to a (below_but n a) ++ pairs_of n rest

abbrev pub by_position : ℕ → Order
by_position n = record { ticks = below n; pairs = pairs_of n (below n) }

abbrev pub as_often : {A : Type 0} → ℕ → A → List A
as_often zero x = []
as_often (suc n) x = x ∷ as_often n x

abbrev pub group_calm : {V : Type 0} → Group V → ℕ → World V → World V
group_calm g n w = calm_by g (as_often n (by_position g.members)) w

abbrev pub AllBelow : ℕ → List ℕ → Type 0
AllBelow n [] = Unit {0}
AllBelow n (i ∷ is) = (i < n) × AllBelow n is

abbrev pub AllPairs : ℕ → List (ℕ × ℕ) → Type 0
AllPairs n [] = Unit {0}
AllPairs n (p ∷ ps) = ((p.0 < n) × (p.1 < n) × (p.0 ≢ p.1)) × AllPairs n ps

abbrev pub HasPair : ℕ → ℕ → List (ℕ × ℕ) → Type 0
HasPair a b [] = ⊥
HasPair a b (p ∷ ps) = ((p.0 ≡ a) × (p.1 ≡ b)) ⊎ HasPair a b ps

-- each member ticks, and each ordered pair of members has a turn
pub record IsFull (n : ℕ) (o : Order) : Type 0 where
  pub members : AllBelow n o.ticks
  pub each : (i : ℕ) → i < n → has i o.ticks ≡ true
  pub among : AllPairs n o.pairs
  pub every : (a b : ℕ) → a < n → b < n → a ≢ b → HasPair a b o.pairs

abbrev pub AllFull : ℕ → List Order → Type 0
AllFull n [] = Unit {0}
AllFull n (o ∷ os) = IsFull n o × AllFull n os

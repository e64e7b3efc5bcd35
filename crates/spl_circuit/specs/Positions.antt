-- Laws of the positions of nodes among members.
use Rattle.std.{specs.{Prelude.slice_index_or, Str.bytes_eq}, proofs.Common.{◌≡◌, ◌≢◌, ◌⊎◌, ℕ, zero, suc, ◌<◌, ◌≤◌, true, false, List, [], ◌∷◌, length, refl}}
use Rattle.std.proofs.Common.{sym, ◌∙◌, inl, inr, arith}
use Rattle.spl_agree.proofs.Booleans.{bool_cases}
use Rattle.spl_circuit.specs.{Nodes.{Node, has_node, before_node, position, node_or}, Same.{node_is, node_same}}

-- two members before which as many stand are one
pub before_same : (ms : List Node) (a b : Node) → has_node ms a ≡ true → has_node ms b ≡ true → before_node ms a ≡ before_node ms b → a ≡ b
before_same [] a b p q e = cc
before_same (m ∷ ms) a b p q e = go (bool_cases (bytes_eq m a)) (bool_cases (bytes_eq m b)) (before_same ms a b)
  where
    go : (bytes_eq m a ≡ true) ⊎ (bytes_eq m a ≡ false) → (bytes_eq m b ≡ true) ⊎ (bytes_eq m b ≡ false)
        → (has_node ms a ≡ true → has_node ms b ≡ true → before_node ms a ≡ before_node ms b → a ≡ b) → a ≡ b
    go (inl x) (inl y) rest = sym (node_is m a x) ∙ node_is m b y
    go (inl x) (inr y) rest =
        let k : before_node (m ∷ ms) a ≡ 0 = rw x in
        let l : before_node (m ∷ ms) b ≡ suc (before_node ms b) = rw y in
        absurd (omega arith)
    go (inr x) (inl y) rest =
        let k : before_node (m ∷ ms) a ≡ suc (before_node ms a) = rw x in
        let l : before_node (m ∷ ms) b ≡ 0 = rw y in
        absurd (omega arith)
    go (inr x) (inr y) rest =
        let k : before_node (m ∷ ms) a ≡ suc (before_node ms a) = rw x in
        let l : before_node (m ∷ ms) b ≡ suc (before_node ms b) = rw y in
        rest (rw x at p) (rw y at q) (omega arith)

pub before_below : (ms : List Node) (a : Node) → has_node ms a ≡ true → before_node ms a < length ms
before_below [] a p = cc
before_below (m ∷ ms) a p = go (bool_cases (bytes_eq m a)) (before_below ms a)
  where
    go : (bytes_eq m a ≡ true) ⊎ (bytes_eq m a ≡ false) → (has_node ms a ≡ true → before_node ms a < length ms) → before_node (m ∷ ms) a < length (m ∷ ms)
    go (inl x) rest = let k : before_node (m ∷ ms) a ≡ 0 = rw x in omega arith
    go (inr x) rest = let k : before_node (m ∷ ms) a ≡ suc (before_node ms a) = rw x in let l : before_node ms a < length ms = rest (rw x at p) in omega arith

pub node_before : (ms : List Node) (back a : Node) → has_node ms a ≡ true → node_or ms back (before_node ms a) ≡ a
node_before [] back a p = cc
node_before (m ∷ ms) back a p = go (bool_cases (bytes_eq m a)) (node_before ms back a)
  where
    go : (bytes_eq m a ≡ true) ⊎ (bytes_eq m a ≡ false) → (has_node ms a ≡ true → node_or ms back (before_node ms a) ≡ a)
        → node_or (m ∷ ms) back (before_node (m ∷ ms) a) ≡ a
    go (inl x) rest = let k : before_node (m ∷ ms) a ≡ 0 = rw x in rw k (node_is m a x)
    go (inr x) rest = let k : before_node (m ∷ ms) a ≡ suc (before_node ms a) = rw x in rw k (rest (rw x at p))

pub position_member : (ms : List Node) (a : Node) → has_node ms a ≡ true → position ms a ≡ before_node ms a
position_member ms a h = rw h

-- a member's position is below their number
pub position_below : (ms : List Node) (a : Node) → has_node ms a ≡ true → position ms a < length ms
position_below ms a h =
    let k : position ms a ≡ before_node ms a = position_member ms a h in
    let l : before_node ms a < length ms = before_below ms a h in
    omega arith

-- a node whose position is below their number is a member
pub member_below : (ms : List Node) (a : Node) → length ms ≤ 8 → position ms a < length ms → has_node ms a ≡ true
member_below ms a few l = go (bool_cases (has_node ms a))
  where
    go : (has_node ms a ≡ true) ⊎ (has_node ms a ≡ false) → has_node ms a ≡ true
    go (inl q) = q
    go (inr q) = let k : position ms a ≡ 255 = rw q in absurd (omega arith)

-- another node than a member has another position
pub position_apart : (ms : List Node) (a b : Node) → length ms ≤ 8 → has_node ms a ≡ true → bytes_eq b a ≡ false → position ms b ≢ position ms a
position_apart ms a b few p d e =
    let below : position ms a < length ms = position_below ms a p in
    let q : has_node ms b ≡ true = member_below ms b few (omega arith) in
    let same : b ≡ a = before_same ms b a q p (sym (position_member ms b q) ∙ (e ∙ position_member ms a p)) in
    let yes : bytes_eq b a ≡ true = rw same (node_same a) in cc

-- a member stands at its position
pub node_at_position : (ms : List Node) (back a : Node) → has_node ms a ≡ true → node_or ms back (position ms a) ≡ a
node_at_position ms back a h = rw (position_member ms a h) (node_before ms back a h)

-- the node at a position
pub node_or_in : (ms : List Node) (back : Node) (p : ℕ) (x : Node) → p < length ms → node_or ms back p ≡ slice_index_or ms p x
node_or_in [] back p x l = absurd (omega (arith, l))
node_or_in (m ∷ ms) back zero x l = refl
node_or_in (m ∷ ms) back (suc p) x l = node_or_in ms back p x (omega (arith, l))

pub node_or_out : (ms : List Node) (back : Node) (p : ℕ) → length ms ≤ p → node_or ms back p ≡ back
node_or_out [] back p l = refl
node_or_out (m ∷ ms) back zero l = absurd (omega (arith, l))
node_or_out (m ∷ ms) back (suc p) l = node_or_out ms back p (omega (arith, l))

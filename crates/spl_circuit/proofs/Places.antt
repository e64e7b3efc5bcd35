-- Positions of nodes among members, found from the first on.
use Rattle.std.{specs.{Prelude.{if◌then◌else◌, slice_index_or}, Str.bytes_eq}, proofs.Common.{◌≡◌, ◌⊎◌, ℕ, zero, suc, ◌+◌, ◌<◌, ◌≤◌, true, false, cond, List}}
use Rattle.std.proofs.Common.{[], ◌∷◌, length, get_or, drop, refl, sym, ap, ◌∙◌, inl, inr, add-one, drop-cons, arith}
use Rattle.spl_agree.proofs.Tests.{bool_cases}
use Rattle.spl_circuit.specs.Nodes.{NodeId, has_node, before_node, position, node_or}

-- the position among members of which the first has this position
abbrev pub position_from : ℕ → List NodeId → NodeId → ℕ
position_from i [] n = 255
position_from i (m ∷ ms) n = if bytes_eq m n then i else position_from (suc i) ms n

position_from-is : (i : ℕ) (ms : List NodeId) (n : NodeId) → position_from i ms n ≡ (if has_node ms n then i + before_node ms n else 255)
position_from-is i [] n = refl
position_from-is i (m ∷ ms) n = go (bool_cases (bytes_eq m n)) (bool_cases (has_node ms n)) (position_from-is (suc i) ms n)
  where
    shift : (k : ℕ) → suc i + k ≡ i + suc k
    shift k = omega arith

    plain : i ≡ i + 0
    plain = omega arith

    go : (bytes_eq m n ≡ true) ⊎ (bytes_eq m n ≡ false) → (has_node ms n ≡ true) ⊎ (has_node ms n ≡ false)
        → position_from (suc i) ms n ≡ (if has_node ms n then suc i + before_node ms n else 255)
        → position_from i (m ∷ ms) n ≡ (if has_node (m ∷ ms) n then i + before_node (m ∷ ms) n else 255)
    go (inl e) h p = rw e plain
    go (inr e) (inl h) p = rw (e, p, h) (shift (before_node ms n))
    go (inr e) (inr h) p = rw (e, p, h)

zero_more : (k : ℕ) → 0 + k ≡ k
zero_more k = omega arith

pub position_start : (ms : List NodeId) (n : NodeId) → position_from 0 ms n ≡ position ms n
position_start ms n = position_from-is 0 ms n ∙ ap (λ k. if has_node ms n then k else 255) (zero_more (before_node ms n))

pub position_step : (ms : List NodeId) (n : NodeId) (i : ℕ) (m : NodeId) → i < length ms → m ≡ get_or ms i m
    → position_from i (drop i ms) n ≡ cond (bytes_eq m n) i (position_from (i + 1) (drop (i + 1) ms) n)
position_step ms n i m lt e = rw (add-one, drop-cons ms i m) (ap (λ x. position_from i (x ∷ drop (suc i) ms) n) (sym e))

pub ruleset position_facts = (position_start, position_step)

-- the node at a position
pub node_or_in : (ms : List NodeId) (back : NodeId) (p : ℕ) (x : NodeId) → p < length ms → node_or ms back p ≡ slice_index_or ms p x
node_or_in [] back p x l = absurd (omega (arith, l))
node_or_in (m ∷ ms) back zero x l = refl
node_or_in (m ∷ ms) back (suc p) x l = node_or_in ms back p x (omega (arith, l))

pub node_or_out : (ms : List NodeId) (back : NodeId) (p : ℕ) → length ms ≤ p → node_or ms back p ≡ back
node_or_out [] back p l = refl
node_or_out (m ∷ ms) back zero l = absurd (omega (arith, l))
node_or_out (m ∷ ms) back (suc p) l = node_or_out ms back p (omega (arith, l))

pub ruleset node_facts = (node_or_in, node_or_out)

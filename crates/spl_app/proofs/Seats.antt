-- The nodes of a registry, each with the pair at its position.
use Rattle.std.{specs.{List.position_from, Option.option_map_or, Prelude.option_map}, proofs.Common.{◌≡◌, ◌⊎◌, inl, inr, ℕ, suc, ◌+◌, ◌<◌, true, false, List}}
use Rattle.std.proofs.{Common.{[], ◌∷◌, length, slice_get, Option, Some, None, refl, ap, subst, ◌∙◌, arith}, lemmas.Option.slice_get-map}
use Rattle.spl_agree.proofs.Tests.{bool_cases}
use Rattle.spl_base.specs.Booleans.{bytes_are}
use Rattle.spl_circuit.{specs.Nodes.{Node, has_node, sorted}, proofs.Sorting.has_sorted}
use Rattle.spl_registry.specs.Nodes.{Entry, entry_ids, is_of, node_at}
use Rattle.spl_world.{specs.Links.seat_of, proofs.HoldingSeats.{node_below, node_index}}
use Rattle.spl_runs.specs.Run.{nodes_in, places_in}

-- the node is found first at this position
abbrev pub IsSeat : List Entry → Node → ℕ → Type 0
IsSeat es n k = position_from (is_of n) 0 es ≡ Some k

node-from : (es : List Entry) (n : Node) (k j : ℕ) → position_from (is_of n) k es ≡ Some j → (i : ℕ) × (j ≡ k + i) × (node_at es i ≡ Some n)
node-from [] n k j h = absurd cc
node-from (e ∷ es) n k j h = go (bool_cases (is_of n e)) (node-from es n (k + 1) j)
  where
    go : (is_of n e ≡ true) ⊎ (is_of n e ≡ false) → (position_from (is_of n) (k + 1) es ≡ Some j → (i : ℕ) × (j ≡ (k + 1) + i) × (node_at es i ≡ Some n))
        → (i : ℕ) × (j ≡ k + i) × (node_at (e ∷ es) i ≡ Some n)
    go (inl q) more =
        let here : Some k ≡ Some j = rw q at h in let same : k ≡ j = cc in let s : j ≡ k + 0 = omega (arith, same) in
        (0, s, ap Some (bytes_are e.identity n q))
    go (inr q) more = let r = more (rw q at h) in let s : j ≡ k + suc r.0 = omega (arith, r.1) in (suc r.0, s, r.2)

pub seat-node : (es : List Entry) (n : Node) (k : ℕ) → IsSeat es n k → node_at es k ≡ Some n
seat-node es n k at = let r = node-from es n 0 k at in let e : r.0 ≡ k = omega (arith, r.1) in subst (λ (i : ℕ). node_at es i ≡ Some n) e r.2

pub seat-below : (es : List Entry) (n : Node) (k : ℕ) → IsSeat es n k → k < length es
seat-below es n k at = node_below es k n (seat-node es n k at)

seated : (es : List Entry) (n : Node) (k j : ℕ) → position_from (is_of n) k es ≡ Some j → has_node (entry_ids es) n ≡ true
seated [] n k j h = absurd cc
seated (e ∷ es) n k j h = go (bool_cases (is_of n e)) (seated es n (k + 1) j)
  where
    go : (is_of n e ≡ true) ⊎ (is_of n e ≡ false) → (position_from (is_of n) (k + 1) es ≡ Some j → has_node (entry_ids es) n ≡ true)
        → has_node (entry_ids (e ∷ es)) n ≡ true
    go (inl q) more = rw q refl
    go (inr q) more = rw q (more (rw q at h))

unseated-from : (es : List Entry) (n : Node) (k : ℕ) → position_from (is_of n) k es ≡ None → has_node (entry_ids es) n ≡ false
unseated-from [] n k h = refl
unseated-from (e ∷ es) n k h = go (bool_cases (is_of n e)) (unseated-from es n (k + 1))
  where
    go : (is_of n e ≡ true) ⊎ (is_of n e ≡ false) → (position_from (is_of n) (k + 1) es ≡ None → has_node (entry_ids es) n ≡ false)
        → has_node (entry_ids (e ∷ es)) n ≡ false
    go (inl q) more = let no : Some k ≡ None = rw q at h in absurd cc
    go (inr q) more = rw q (more (rw q at h))

-- a node without one isn't of the registry
pub unseated : (es : List Entry) (n : Node) → position_from (is_of n) 0 es ≡ None → has_node (sorted (entry_ids es)) n ≡ false
unseated es n none = has_sorted (entry_ids es) n ∙ unseated-from es n 0 none

-- any other is one of the nodes in the order of their ids
pub seat-index : (es : List Entry) (n : Node) (k : ℕ) → IsSeat es n k → (i : ℕ) × (slice_get (nodes_in es) i ≡ Some n)
seat-index es n k at = node_index (nodes_in es) n (has_sorted (entry_ids es) n ∙ seated es n 0 k at)

-- and this is the place of that
pub seat-place : (es : List Entry) (n : Node) (k i : ℕ) → IsSeat es n k → slice_get (nodes_in es) i ≡ Some n → slice_get (places_in es) i ≡ Some k
seat-place es n k i at there =
    slice_get-map (seat_of es) (nodes_in es) i
    ∙ (ap (option_map (seat_of es)) there
    ∙ ap (λ (o : Option ℕ). Some (option_map_or (λ j. j) o 0)) at)

-- What was sent on a pair of nodes, as a node sends more.
use Rattle.std.{specs.{Prelude.{Some, if◌then◌else◌, slice_get}, Str.bytes_eq}, proofs.Common.{◌≡◌, ◌≢◌, ℕ, zero, suc, ◌<◌, ◌≤◌, ◌⊎◌, true, false, ◌&&◌}}
use Rattle.std.proofs.Common.{List, [], ◌∷◌, ◌++◌, drop, append-nil, length, refl, sym, ap, subst, ◌∙◌, inl, inr, arith}
use Rattle.spl_agree.proofs.Tests.{bool_cases}
use Rattle.spl_circuit.specs.{Nodes.{NodeId, has_node}, Same.{node_is, node_same}}
use Rattle.spl_wire.specs.declared.{message.Message.Message, plan.{Outgoing.Outgoing, Plan.Plan}}
use Rattle.spl_circuit_world.{specs.Worlds.{SentMessage, World, on_pair, messages, posted_outgoing, circuit_carried_out}, proofs.Nodes.node_other}
use Rattle.spl_circuit_world.proofs.Pairs.{on_pair-append}

-- what goes to a node, in order
abbrev pub to_node : NodeId → List Outgoing → List Message
to_node n [] = []
to_node n (o ∷ os) = if bytes_eq o.to n then o.message ∷ to_node n os else to_node n os

pub to_node-append : (n : NodeId) (xs ys : List Outgoing) → to_node n (xs ++ ys) ≡ to_node n xs ++ to_node n ys
to_node-append n [] ys = refl
to_node-append n (x ∷ xs) ys = go (bool_cases (bytes_eq x.to n)) (to_node-append n xs ys)
  where
    go : (bytes_eq x.to n ≡ true) ⊎ (bytes_eq x.to n ≡ false) → to_node n (xs ++ ys) ≡ to_node n xs ++ to_node n ys
        → to_node n ((x ∷ xs) ++ ys) ≡ to_node n (x ∷ xs) ++ to_node n ys
    go (inl q) hyp = rw q (ap (λ z. x.message ∷ z) hyp)
    go (inr q) hyp = rw q hyp

-- what a node posts to a registered one
pub posted-mine : (ns : List NodeId) (n y : NodeId) (os : List Outgoing) → has_node ns y ≡ true → on_pair n y (posted_outgoing ns n os) ≡ to_node y os
posted-mine ns n y [] h = refl
posted-mine ns n y (o ∷ os) h = go (bool_cases (bytes_eq o.to y)) (bool_cases (has_node ns o.to)) (posted-mine ns n y os h)
  where
    there : bytes_eq o.to y ≡ true → has_node ns o.to ≡ true
    there q = subst (λ (z : NodeId). has_node ns z ≡ true) (sym (node_is o.to y q)) h

    go : (bytes_eq o.to y ≡ true) ⊎ (bytes_eq o.to y ≡ false) → (has_node ns o.to ≡ true) ⊎ (has_node ns o.to ≡ false)
        → on_pair n y (posted_outgoing ns n os) ≡ to_node y os → on_pair n y (posted_outgoing ns n (o ∷ os)) ≡ to_node y (o ∷ os)
    go (inl q) k hyp = rw (there q) (rw (node_same n, q) (ap (λ z. o.message ∷ z) hyp))
    go (inr q) (inl k) hyp = rw (k, q) (rw (node_same n) hyp)
    go (inr q) (inr k) hyp = rw (k, q) hyp

-- no other node posts it
pub posted-other : (ns : List NodeId) (n x y : NodeId) (os : List Outgoing) → x ≢ n → on_pair x y (posted_outgoing ns n os) ≡ []
posted-other ns n x y [] d = refl
posted-other ns n x y (o ∷ os) d = go (bool_cases (has_node ns o.to)) (posted-other ns n x y os d)
  where
    go : (has_node ns o.to ≡ true) ⊎ (has_node ns o.to ≡ false) → on_pair x y (posted_outgoing ns n os) ≡ [] → on_pair x y (posted_outgoing ns n (o ∷ os)) ≡ []
    go (inl q) hyp = rw q (rw (node_other n x (λ e. d (sym e))) hyp)
    go (inr q) hyp = rw q hyp

-- after a plan that is carried out
pub messages-mine : (w : World) (n y : NodeId) (p : Plan) → n ≢ y → has_node w.nodes y ≡ true
    → messages (circuit_carried_out w n p) n y ≡ messages w n y ++ to_node y p.sends
messages-mine w n y p d h =
    rw (node_other n y d) (on_pair-append n y w.sent (posted_outgoing w.nodes n p.sends)
    ∙ ap (λ z. on_pair n y w.sent ++ z) (posted-mine w.nodes n y p.sends h))

pub messages-other : (w : World) (n x y : NodeId) (p : Plan) → x ≢ n → messages (circuit_carried_out w n p) x y ≡ messages w x y
messages-other w n x y p d = go (bool_cases (bytes_eq x y))
  where
    same : on_pair x y (w.sent ++ posted_outgoing w.nodes n p.sends) ≡ on_pair x y w.sent
    same = on_pair-append x y w.sent (posted_outgoing w.nodes n p.sends)
        ∙ (ap (λ z. on_pair x y w.sent ++ z) (posted-other w.nodes n x y p.sends d) ∙ append-nil _)

    go : (bytes_eq x y ≡ true) ⊎ (bytes_eq x y ≡ false) → messages (circuit_carried_out w n p) x y ≡ messages w x y
    go (inl q) = rw q
    go (inr q) = rw q same

-- no node sends to itself
pub messages-self : (w : World) (x : NodeId) → messages w x x ≡ []
messages-self w x = rw (node_same x)

-- ---- what stands after the first so many

pub drop-all : {A : Type 0} (xs : List A) → drop (length xs) xs ≡ []
drop-all [] = refl
drop-all (x ∷ xs) = drop-all xs

pub drop-prefix : {A : Type 0} (n : ℕ) (xs ys : List A) → n ≤ length xs → drop n (xs ++ ys) ≡ drop n xs ++ ys
drop-prefix zero xs ys l = refl
drop-prefix (suc n) [] ys l = absurd (omega (arith, l))
drop-prefix (suc n) (x ∷ xs) ys l = drop-prefix n xs ys (omega (arith, l))

-- the next one
pub drop-next : {A : Type 0} (n : ℕ) (xs : List A) → n < length xs → (x : A) × (slice_get xs n ≡ Some x) × (drop n xs ≡ x ∷ drop (suc n) xs)
drop-next n [] l = absurd (omega (arith, l))
drop-next zero (x ∷ xs) l = (x, refl, refl)
drop-next {A} (suc n) (x ∷ xs) l =
    let k : (y : A) × (slice_get xs n ≡ Some y) × (drop n xs ≡ y ∷ drop (suc n) xs) = drop-next n xs (omega (arith, l)) in (k.0, k.1, k.2)

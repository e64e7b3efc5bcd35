-- The circuits that are bound at a node.
use Rattle.std.{specs.{Prelude.{Option, Some, None}, List.filter, Str.bytes_eq}, proofs.Common.{◌≡◌, ◌⊎◌, Bool, true, false, ◌&&◌, ◌||◌, List, [], ◌∷◌, refl}}
use Rattle.std.proofs.{Common.{sym, ap, subst, ◌∙◌, inl, inr}, Math.Path.fun_ext}
use Rattle.spl_agree.proofs.Tests.{if_holds, bool_cases, and_left, and_right, or_left, or_right}
use Rattle.spl_circuit.specs.{Nodes.{NodeId, CircuitId, has_node, is_below, inserted, sorted}, Rules.{ascends, ascends_after}, Same.{node_is, node_same}}
use Rattle.spl_circuit.proofs.{Order.{same_from_ties, not_below_itself}, Sorting.{has_sorted, weaken, ascends_on}}
use Rattle.spl_sched.specs.Grammar.{line_circuit}
use Rattle.spl_cell_rules.specs.Cells.{Cell, Empty, is_bound}
use Rattle.spl_circuit_world.specs.{Worlds.{Origin, IsOrigin, World, first_world}, Projection.{Ran, lines_fit, names, names_circuit, own_among}}
use Rattle.spl_circuit_world.specs.{Answers.{lines_world, circuit_world, and_circuit, and_circuits, circuits_in, bound_at}, Whole.whole_world}
use Rattle.spl_circuit_world.proofs.{Nodes.node_not, Within.{IsCellWithin, within-empty}, Owns.{IsPair, pair-first, AllConcern, lines-pair, own-pair}}

-- ---- lists of ids

or_both : (a b : Bool) → a ≡ false → b ≡ false → (a || b) ≡ false
or_both a b h k = rw (h, k)

has_filter : (p : NodeId → Bool) (xs : List NodeId) (m : NodeId) → has_node (filter p xs) m ≡ (has_node xs m && p m)
has_filter p [] m = refl
has_filter p (x ∷ xs) m = go (bool_cases (p x)) (bool_cases (bytes_eq x m)) (has_filter p xs m)
  where
    at : bytes_eq x m ≡ true → p m ≡ p x
    at q = sym (ap p (node_is x m q))

    and_none : (b : Bool) → (b && false) ≡ false
    and_none true = refl
    and_none false = refl

    go : (p x ≡ true) ⊎ (p x ≡ false) → (bytes_eq x m ≡ true) ⊎ (bytes_eq x m ≡ false) → has_node (filter p xs) m ≡ (has_node xs m && p m)
        → has_node (filter p (x ∷ xs)) m ≡ (has_node (x ∷ xs) m && p m)
    go (inl q) (inl e) hyp = rw (q, e, at e, q)
    go (inl q) (inr e) hyp = rw (q, e) hyp
    go (inr q) (inl e) hyp =
        let none : p m ≡ false = at e ∙ q in rw (q, e, none) (hyp ∙ (ap (λ (b : Bool). has_node xs m && b) none ∙ and_none (has_node xs m)))
    go (inr q) (inr e) hyp = rw (q, e) hyp

-- ---- ids in order

filter-after : (p : NodeId → Bool) (m : NodeId) (xs : List NodeId) → ascends_after m xs ≡ true → ascends_after m (filter p xs) ≡ true
filter-after p m [] h = refl
filter-after p m (x ∷ xs) h = go (bool_cases (p x)) (filter-after p x xs (and_right (is_below m x) (ascends_after x xs) h))
  where
    below : is_below m x ≡ true
    below = and_left (is_below m x) (ascends_after x xs) h

    go : (p x ≡ true) ⊎ (p x ≡ false) → ascends_after x (filter p xs) ≡ true → ascends_after m (filter p (x ∷ xs)) ≡ true
    go (inl q) hyp = rw (q, below) hyp
    go (inr q) hyp = rw q (weaken m x (filter p xs) below hyp)

filter-ascends : (p : NodeId → Bool) (xs : List NodeId) → ascends xs ≡ true → ascends (filter p xs) ≡ true
filter-ascends p [] h = refl
filter-ascends p (x ∷ xs) h = go (bool_cases (p x)) (filter-after p x xs h)
  where
    go : (p x ≡ true) ⊎ (p x ≡ false) → ascends_after x (filter p xs) ≡ true → ascends (filter p (x ∷ xs)) ≡ true
    go (inl q) hyp = rw q hyp
    go (inr q) hyp = rw q (ascends_on x (filter p xs) hyp)

-- of two ids one is below the other
below_or : (x y : NodeId) → is_below y x ≡ false → bytes_eq y x ≡ false → is_below x y ≡ true
below_or x y h d = go (bool_cases (is_below x y))
  where
    go : (is_below x y ≡ true) ⊎ (is_below x y ≡ false) → is_below x y ≡ true
    go (inl q) = q
    go (inr q) = absurd (node_not y x d (same_from_ties y x h q))

inserted-after : (m x : NodeId) (ys : List NodeId) → is_below m x ≡ true → has_node ys x ≡ false → ascends_after m ys ≡ true
    → ascends_after m (inserted x ys) ≡ true
inserted-after m x [] b n h = rw b
inserted-after m x (y ∷ ys) b n h = go (bool_cases (is_below y x)) (λ q. inserted-after y x ys q (or_right (bytes_eq y x) (has_node ys x) n) rest)
  where
    first : is_below m y ≡ true
    first = and_left (is_below m y) (ascends_after y ys) h

    rest : ascends_after y ys ≡ true
    rest = and_right (is_below m y) (ascends_after y ys) h

    go : (is_below y x ≡ true) ⊎ (is_below y x ≡ false) → (is_below y x ≡ true → ascends_after y (inserted x ys) ≡ true)
        → ascends_after m (inserted x (y ∷ ys)) ≡ true
    go (inl q) hyp = rw (q, first) (hyp q)
    go (inr q) hyp = rw (q, b, below_or x y q (or_left (bytes_eq y x) (has_node ys x) n)) rest

inserted-ascends : (x : NodeId) (ys : List NodeId) → has_node ys x ≡ false → ascends ys ≡ true → ascends (inserted x ys) ≡ true
inserted-ascends x [] n h = refl
inserted-ascends x (y ∷ ys) n h = go (bool_cases (is_below y x))
  where
    go : (is_below y x ≡ true) ⊎ (is_below y x ≡ false) → ascends (inserted x (y ∷ ys)) ≡ true
    go (inl q) = rw q (inserted-after y x ys q (or_right (bytes_eq y x) (has_node ys x) n) h)
    go (inr q) = rw (q, below_or x y q (or_left (bytes_eq y x) (has_node ys x) n)) h

-- ids that are below all of a list aren't in it
not_in : (m : NodeId) (xs : List NodeId) → ascends_after m xs ≡ true → has_node xs m ≡ false
not_in m [] h = refl
not_in m (x ∷ xs) h =
    or_both (bytes_eq x m) (has_node xs m) (go (bool_cases (bytes_eq x m)))
    (not_in m xs (weaken m x xs below (and_right (is_below m x) (ascends_after x xs) h)))
  where
    below : is_below m x ≡ true
    below = and_left (is_below m x) (ascends_after x xs) h

    go : (bytes_eq x m ≡ true) ⊎ (bytes_eq x m ≡ false) → bytes_eq x m ≡ false
    go (inl q) =
        let e : is_below m m ≡ true = subst (λ (z : NodeId). is_below m z ≡ true) (node_is x m q) below in
        let f : is_below m m ≡ false = not_below_itself m in cc
    go (inr q) = q

-- two lists in order with the same ids are one
ascending-same : (xs ys : List NodeId) → ascends xs ≡ true → ascends ys ≡ true → ((m : NodeId) → has_node xs m ≡ has_node ys m) → xs ≡ ys
ascending-same [] [] h k e = refl
ascending-same [] (y ∷ ys) h k e =
    let p : false ≡ (bytes_eq y y || has_node ys y) = e y in let q : bytes_eq y y ≡ true = node_same y in
    absurd (no (p ∙ ap (λ (b : Bool). b || has_node ys y) q))
  where
    no : false ≡ true → ⊥
    no z = cc
ascending-same (x ∷ xs) [] h k e =
    let p : (bytes_eq x x || has_node xs x) ≡ false = e x in let q : bytes_eq x x ≡ true = node_same x in
    absurd (no (sym p ∙ ap (λ (b : Bool). b || has_node xs x) q))
  where
    no : false ≡ true → ⊥
    no z = cc
ascending-same (x ∷ xs) (y ∷ ys) h k e =
    ap (λ (z : NodeId). z ∷ xs) first ∙ ap (λ (zs : List NodeId). y ∷ zs) (ascending-same xs ys (ascends_on x xs h) (ascends_on y ys k) rest)
  where
    no : {b : Bool} → b ≡ true → b ≡ false → ⊥
    no p q = cc

    prefix : (a : NodeId) (as2 : List NodeId) → has_node (a ∷ as2) a ≡ true
    prefix a as2 = rw (node_same a)

    above : is_below x y ≡ true → ⊥
    above q = no (prefix x xs) (e x ∙ not_in x (y ∷ ys) (rw q k))

    below : is_below y x ≡ true → ⊥
    below q = no (prefix y ys) (sym (e y) ∙ not_in y (x ∷ xs) (rw q h))

    is_not : (b : Bool) → (b ≡ true → ⊥) → b ≡ false
    is_not true p = absurd (p refl)
    is_not false p = refl

    first : x ≡ y
    first = same_from_ties x y (is_not (is_below x y) above) (is_not (is_below y x) below)

    rest : (m : NodeId) → has_node xs m ≡ has_node ys m
    rest m = go (bool_cases (bytes_eq x m))
      where
        there : bytes_eq y m ≡ bytes_eq x m
        there = ap (λ (z : NodeId). bytes_eq z m) (sym first)

        go : (bytes_eq x m ≡ true) ⊎ (bytes_eq x m ≡ false) → has_node xs m ≡ has_node ys m
        go (inl q) =
            let is : x ≡ m = node_is x m q in
            subst (λ (z : NodeId). has_node xs z ≡ false) is (not_in x xs h)
            ∙ sym (subst (λ (z : NodeId). has_node ys z ≡ false) (sym first ∙ is) (not_in y ys k))
        go (inr q) = rw (there, q) at (e m)

-- ---- the circuits that lines name

has_and : (o : Option NodeId) (cs : List NodeId) (c : CircuitId) → has_node (and_circuit o cs) c ≡ (names_circuit c o || has_node cs c)
has_and None cs c = refl
has_and (Some i) cs c = go (bool_cases (has_node cs i))
  where
    twice : (b : Bool) → (b ≡ true → has_node cs c ≡ true) → has_node cs c ≡ (b || has_node cs c)
    twice true h = h refl
    twice false h = refl

    go : (has_node cs i ≡ true) ⊎ (has_node cs i ≡ false) → has_node (and_circuit (Some i) cs) c ≡ (bytes_eq i c || has_node cs c)
    go (inl q) = rw q (twice (bytes_eq i c) (λ e. subst (λ (z : NodeId). has_node cs z ≡ true) (node_is i c e) q))
    go (inr q) = rw q

-- each once
more-ascends : (i : Option NodeId) (cs : List NodeId) → ascends (sorted cs) ≡ true → ascends (sorted (and_circuit i cs)) ≡ true
more-ascends None cs h = h
more-ascends (Some i) cs h =
    if_holds (λ (xs : List NodeId). ascends (sorted xs) ≡ true) (has_node cs i) cs (i ∷ cs) (λ q. h)
    (λ q. inserted-ascends i (sorted cs) (has_sorted cs i ∙ q) h)

all-ascend : (ds cs : List NodeId) → ascends (sorted cs) ≡ true → ascends (sorted (and_circuits ds cs)) ≡ true
all-ascend [] cs h = h
all-ascend (d ∷ ds) cs h = more-ascends (Some d) (and_circuits ds cs) (all-ascend ds cs h)

circuits-ascend : (o : Origin) (rs : List Ran) → ascends (sorted (circuits_in o rs)) ≡ true
circuits-ascend o [] = all-ascend o.circuits [] refl
circuits-ascend o (r ∷ rs) = more-ascends (line_circuit r.line) (circuits_in o rs) (circuits-ascend o rs)

-- where no node keeps anything of a circuit at first and no line names it, its cells are empty
unnamed : (o : Origin) (c : CircuitId) (rs : List Ran) → has_node (circuits_in o rs) c ≡ false → AllConcern [] c rs
unnamed o c [] h = tt
unnamed o c (r ∷ rs) h = ((λ q. absurd (not_named q)), unnamed o c rs (or_right (names c r.line) (has_node (circuits_in o rs) c) none))
  where
    none : (names c r.line || has_node (circuits_in o rs) c) ≡ false
    none = sym (has_and (line_circuit r.line) (circuits_in o rs) c) ∙ h

    not_named : names c r.line ≡ true → ⊥
    not_named q = let p : names c r.line ≡ false = or_left (names c r.line) (has_node (circuits_in o rs) c) none in cc

unkept-all : (ds cs : List NodeId) (c : CircuitId) → has_node (and_circuits ds cs) c ≡ false → has_node ds c ≡ false
unkept-all [] cs c h = refl
unkept-all (d ∷ ds) cs c h =
    or_both (bytes_eq d c) (has_node ds c) (or_left (bytes_eq d c) (has_node (and_circuits ds cs) c) none)
    (unkept-all ds cs c (or_right (bytes_eq d c) (has_node (and_circuits ds cs) c) none))
  where
    none : (bytes_eq d c || has_node (and_circuits ds cs) c) ≡ false
    none = sym (has_and (Some d) (and_circuits ds cs) c) ∙ h

unkept : (o : Origin) (c : CircuitId) (rs : List Ran) → has_node (circuits_in o rs) c ≡ false → has_node o.circuits c ≡ false
unkept o c [] h = unkept-all o.circuits [] c h
unkept o c (r ∷ rs) h = unkept o c rs (or_right (names c r.line) (has_node (circuits_in o rs) c) (sym (has_and (line_circuit r.line) (circuits_in o rs) c) ∙ h))

unnamed-empty : (o : Origin) (c : CircuitId) (rs : List Ran) (n : NodeId) → IsOrigin o → lines_fit rs ≡ true → has_node (circuits_in o rs) c ≡ false
    → (whole_world o c rs).at n ≡ Empty
unnamed-empty o c rs n i f h = within-empty [] n ((whole_world o c rs).at n) refl (p.confined.cells n)
  where
    p : IsPair [] (lines_world (first_world o c) (own_among c [] rs)) (whole_world o c rs)
    p = lines-pair [] c (first_world o c) (first_world o c) rs f (unnamed o c rs h)
        (pair-first [] o c (λ m. subst (λ (k : Cell). IsCellWithin [] m k) (sym (i.listed c m (unkept o c rs h))) tt))

-- ---- the roll

-- the cell of a circuit is bound at a node
abbrev is_bound_there : Origin → List Ran → NodeId → NodeId → Bool
is_bound_there o rs n c = is_bound ((whole_world o c rs).at n)

pub bound-whole : (o : Origin) (rs : List Ran) (n : NodeId) → IsOrigin o → lines_fit rs ≡ true
    → bound_at o rs n ≡ filter (is_bound_there o rs n) (sorted (circuits_in o rs))
bound-whole o rs n i f =
    ap (λ (p : NodeId → Bool). filter p (sorted (circuits_in o rs))) (fun_ext (λ c. ap (λ (w : World). is_bound (w.at n)) ((own-pair o c rs i f).alike.is)))

pub bound-ascends : (o : Origin) (rs : List Ran) (n : NodeId) → ascends (bound_at o rs n) ≡ true
bound-ascends o rs n = filter-ascends (λ c. is_bound ((circuit_world o c rs).at n)) (sorted (circuits_in o rs)) (circuits-ascend o rs)

pub bound-has : (o : Origin) (rs : List Ran) (n : NodeId) (c : CircuitId) → IsOrigin o → lines_fit rs ≡ true
    → has_node (bound_at o rs n) c ≡ is_bound ((whole_world o c rs).at n)
bound-has o rs n c i f =
    ap (λ (xs : List NodeId). has_node xs c) (bound-whole o rs n i f)
    ∙ (has_filter (is_bound_there o rs n) (sorted (circuits_in o rs)) c
    ∙ (ap (λ (b : Bool). b && is_bound_there o rs n c) (has_sorted (circuits_in o rs) c)
    ∙ go (bool_cases (has_node (circuits_in o rs) c))))
  where
    go : (has_node (circuits_in o rs) c ≡ true) ⊎ (has_node (circuits_in o rs) c ≡ false)
        → (has_node (circuits_in o rs) c && is_bound_there o rs n c) ≡ is_bound_there o rs n c
    go (inl q) = rw q
    go (inr q) = rw (q, unnamed-empty o c rs n i f q)

-- a list in order that has these is the roll
pub bound-is : (o : Origin) (rs : List Ran) (n : NodeId) (xs : List CircuitId) → IsOrigin o → lines_fit rs ≡ true → ascends xs ≡ true
    → ((c : CircuitId) → has_node xs c ≡ is_bound ((whole_world o c rs).at n)) → xs ≡ bound_at o rs n
bound-is o rs n xs i f h k = ascending-same xs (bound_at o rs n) h (bound-ascends o rs n) (λ c. k c ∙ sym (bound-has o rs n c i f))

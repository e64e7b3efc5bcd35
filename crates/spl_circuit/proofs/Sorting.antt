-- Nodes in ascending order, and the test that the nodes of the services are the members.
use Rattle.std.{specs.{List.{list_all, list_any, All, AllPairs, Sorted.{IsPermutation, IsSortedBy}}, Str.bytes_eq, Cmp.both_ways}, proofs.Common.{◌≡◌, ◌≢◌}}
use Rattle.std.proofs.Common.{ℕ, zero, suc, ◌<◌, Bool, true, false, true≢false, if◌then◌else◌, ◌&&◌, ◌||◌, ◌==◌, List, [], ◌∷◌, length, get_or, refl, sym, ap}
use Rattle.std.proofs.{Common.{◌∙◌, add-one, arith}, lemmas.List.{Sorted.{All-permutation, length_permutation}, Sums.list_all-from_AllPass}}
use Rattle.std.proofs.lemmas.{Map.{Keys.IsDistinct-IsPermutation, Made.{AllPairs-from_IsDistinct, IsDistinct-from_AllPairs}}, Slice.Eq.bytes_eq-Decides}
use Rattle.std.proofs.lemmas.Bool.{eqb-true, eq-eqb, and_parts, and_from, or_left, or_right}
use Rattle.spl_circuit.specs.{Nodes.{Node, has_node, is_below, inserted, sorted, same_nodes, lowest_from}, Rules.{ascends, ascends_after, nodes_of, ids_of}}
use Rattle.spl_circuit.specs.{Rules.{serves, lowest_service}, Same.{node_is, node_same, nodes_are, nodes_same}, declared.definition.Service.Service}
use Rattle.spl_circuit.proofs.Order.{below_trans, below_turned, same_from_ties, below_from_not, not_below_itself}

-- ---- the order of two insertions

heads : (x y : Node) (zs : List Node) (p q : Bool) → is_below y x ≡ p → is_below x y ≡ q → inserted x zs ≡ x ∷ zs → inserted y zs ≡ y ∷ zs
    → inserted x (y ∷ zs) ≡ inserted y (x ∷ zs)
heads x y zs true q h k fx fy = rw (h, below_turned y x h, fx) refl
heads x y zs false true h k fx fy = rw (h, k, fy) refl
heads x y zs false false h k fx fy = let e = same_from_ties x y k h in ap (λ v. inserted v (y ∷ zs)) e ∙ ap (λ v. inserted y (v ∷ zs)) (sym e)

swap_step : (x y z : Node) (zs : List Node) (a b : Bool) → is_below z x ≡ a → is_below z y ≡ b → inserted x (inserted y zs) ≡ inserted y (inserted x zs)
    → inserted x (inserted y (z ∷ zs)) ≡ inserted y (inserted x (z ∷ zs))
swap_step x y z zs true true h k e = simp (h, k) (ap (λ r. z ∷ r) e)
swap_step x y z zs true false h k e = simp (h, k, below_from_not x y z k h) refl
swap_step x y z zs false true h k e = simp (h, k, below_from_not y x z h k) refl
swap_step x y z zs false false h k e =
    let fx : inserted x (z ∷ zs) ≡ x ∷ z ∷ zs = rw h refl in
    let fy : inserted y (z ∷ zs) ≡ y ∷ z ∷ zs = rw k refl in
    ap (inserted x) fy ∙ heads x y (z ∷ zs) (is_below y x) (is_below x y) refl refl fx fy ∙ ap (inserted y) (sym fx)

swaps : (x y : Node) (zs : List Node) → inserted x (inserted y zs) ≡ inserted y (inserted x zs)
swaps x y [] = heads x y [] (is_below y x) (is_below x y) refl refl refl refl
swaps x y (z ∷ zs) = swap_step x y z zs (is_below z x) (is_below z y) refl refl (swaps x y zs)

-- ---- what stands in a sorted list

pub or_swap : (a b c : Bool) → (a || (b || c)) ≡ (b || (a || c))
or_swap true true c = refl
or_swap true false c = refl
or_swap false b c = refl

has_inserted_by : (x y : Node) (ys : List Node) (m : Node) (b : Bool) → is_below y x ≡ b → has_node (inserted x ys) m ≡ (bytes_eq x m || has_node ys m)
    → has_node (inserted x (y ∷ ys)) m ≡ (bytes_eq x m || has_node (y ∷ ys) m)
has_inserted_by x y ys m true h e = rw (h, e) (or_swap (bytes_eq y m) (bytes_eq x m) (has_node ys m))
has_inserted_by x y ys m false h e = rw h refl

pub has_inserted : (x : Node) (ys : List Node) (m : Node) → has_node (inserted x ys) m ≡ (bytes_eq x m || has_node ys m)
has_inserted x [] m = refl
has_inserted x (y ∷ ys) m = has_inserted_by x y ys m (is_below y x) refl (has_inserted x ys m)

pub has_sorted : (xs : List Node) (m : Node) → has_node (sorted xs) m ≡ has_node xs m
has_sorted [] m = refl
has_sorted (x ∷ xs) m = has_inserted x (sorted xs) m ∙ ap (λ b. bytes_eq x m || b) (has_sorted xs m)

length_inserted_by : (x y : Node) (ys : List Node) (b : Bool) → is_below y x ≡ b → length (inserted x ys) ≡ suc (length ys)
    → length (inserted x (y ∷ ys)) ≡ suc (suc (length ys))
length_inserted_by x y ys true h e = rw h (ap suc e)
length_inserted_by x y ys false h e = rw h refl

length_inserted : (x : Node) (ys : List Node) → length (inserted x ys) ≡ suc (length ys)
length_inserted x [] = refl
length_inserted x (y ∷ ys) = length_inserted_by x y ys (is_below y x) refl (length_inserted x ys)

length_sorted : (xs : List Node) → length (sorted xs) ≡ length xs
length_sorted [] = refl
length_sorted (x ∷ xs) = length_inserted x (sorted xs) ∙ ap suc (length_sorted xs)

-- ---- what each node passes

-- a test that each of its nodes passes
all_pass : (p : Node → Bool) (ms : List Node) → ((m : Node) → has_node ms m ≡ true → p m ≡ true) → list_all p ms ≡ true
all_pass p [] h = refl
all_pass p (m ∷ ms) h =
    and_from (p m) (list_all p ms) (h m (or_left (bytes_eq m m) (has_node ms m) (node_same m)))
    (all_pass p ms (λ k e. h k (or_right (bytes_eq m k) (has_node ms k) e)))

-- ---- one node taken away

abbrev without : Node → List Node → List Node
without m [] = []
without m (x ∷ xs) = if bytes_eq x m then xs else x ∷ without m xs

sorted_without_by : (m x : Node) (xs : List Node) (b : Bool) → bytes_eq x m ≡ b → (b || has_node xs m) ≡ true
    → (has_node xs m ≡ true → sorted xs ≡ inserted m (sorted (without m xs))) → sorted (x ∷ xs) ≡ inserted m (sorted (without m (x ∷ xs)))
sorted_without_by m x xs true e h f = rw e (ap (λ v. inserted v (sorted xs)) (node_is x m e))
sorted_without_by m x xs false e h f = rw e (ap (λ v. inserted x v) (f h) ∙ swaps x m (sorted (without m xs)))

sorted_without : (m : Node) (xs : List Node) → has_node xs m ≡ true → sorted xs ≡ inserted m (sorted (without m xs))
sorted_without m [] h = absurd cc
sorted_without m (x ∷ xs) h = sorted_without_by m x xs (bytes_eq x m) refl h (sorted_without m xs)

length_without_by : (m x : Node) (xs : List Node) (b : Bool) → bytes_eq x m ≡ b → (b || has_node xs m) ≡ true
    → (has_node xs m ≡ true → length xs ≡ suc (length (without m xs))) → length (x ∷ xs) ≡ suc (length (without m (x ∷ xs)))
length_without_by m x xs true e h f = rw e refl
length_without_by m x xs false e h f = rw e (ap suc (f h))

length_without : (m : Node) (xs : List Node) → has_node xs m ≡ true → length xs ≡ suc (length (without m xs))
length_without m [] h = absurd cc
length_without m (x ∷ xs) h = length_without_by m x xs (bytes_eq x m) refl h (length_without m xs)

or_false : (a b : Bool) → a ≡ false → (a || b) ≡ true → b ≡ true
or_false true b e h = absurd (true≢false e)
or_false false b e h = h

or_step : (a b c : Bool) → (a || b) ≡ true → (b ≡ true → c ≡ true) → (a || c) ≡ true
or_step true b c h f = refl
or_step false b c h f = f h

has_without_by : (m k x : Node) (xs : List Node) (b : Bool) → bytes_eq x m ≡ b → bytes_eq m k ≡ false → has_node (x ∷ xs) k ≡ true
    → (has_node xs k ≡ true → has_node (without m xs) k ≡ true) → has_node (without m (x ∷ xs)) k ≡ true
has_without_by m k x xs true e n h f = rw e (or_false (bytes_eq x k) (has_node xs k) (ap (λ v. bytes_eq v k) (node_is x m e) ∙ n) h)
has_without_by m k x xs false e n h f = rw e (or_step (bytes_eq x k) (has_node xs k) (has_node (without m xs) k) h f)

has_without : (m k : Node) (xs : List Node) → bytes_eq m k ≡ false → has_node xs k ≡ true → has_node (without m xs) k ≡ true
has_without m k [] n h = h
has_without m k (x ∷ xs) n h = has_without_by m k x xs (bytes_eq x m) refl n h (has_without m k xs n)

-- ---- nodes that ascend

pub weaken : (m k : Node) (ks : List Node) → is_below m k ≡ true → ascends_after k ks ≡ true → ascends_after m ks ≡ true
weaken m k [] p h = refl
weaken m k (j ∷ js) p h = let b = and_parts (is_below k j) (ascends_after j js) h in and_from (is_below m j) (ascends_after j js) (below_trans m k j p b.0) b.1

differ_by : (m k : Node) (b : Bool) → bytes_eq m k ≡ b → is_below m k ≡ true → b ≡ false
differ_by m k false e p = refl
differ_by m k true e p = absurd (true≢false (sym p ∙ ap (λ v. is_below v k) (node_is m k e) ∙ not_below_itself k))

pub differ : (m k : Node) → is_below m k ≡ true → bytes_eq m k ≡ false
differ m k p = differ_by m k (bytes_eq m k) refl p

kept : (m : Node) (ns ms : List Node) → ascends_after m ms ≡ true → list_all (has_node ns) ms ≡ true → list_all (has_node (without m ns)) ms ≡ true
kept m ns [] a h = refl
kept m ns (k ∷ ks) a h =
    let p = and_parts (is_below m k) (ascends_after k ks) a in
    let b = and_parts (has_node ns k) (list_all (has_node ns) ks) h in
    and_from (has_node (without m ns) k) (list_all (has_node (without m ns)) ks) (has_without m k ns (differ m k p.0) b.0)
    (kept m ns ks (weaken m k ks p.0 p.1) b.1)

inserted_first : (m : Node) (ms : List Node) → ascends_after m ms ≡ true → inserted m ms ≡ m ∷ ms
inserted_first m [] a = refl
inserted_first m (k ∷ ks) a = rw (below_turned m k (and_parts (is_below m k) (ascends_after k ks) a).0) refl

pub ascends_on : (m : Node) (ms : List Node) → ascends_after m ms ≡ true → ascends ms ≡ true
ascends_on m [] a = refl
ascends_on m (k ∷ ks) a = (and_parts (is_below m k) (ascends_after k ks) a).1

all_served : (ms ns : List Node) → ascends ms ≡ true → length ns ≡ length ms → list_all (has_node ns) ms ≡ true → sorted ns ≡ ms
all_served [] [] a l h = refl
all_served [] (n ∷ ns) a l h = absurd (omega (arith, l))
all_served (m ∷ ms) ns a l h =
    let b = and_parts (has_node ns m) (list_all (has_node ns) ms) h in
    let l' : length (without m ns) ≡ length ms = omega (arith, l, length_without m ns b.0) in
    sorted_without m ns b.0 ∙ ap (inserted m) (all_served ms (without m ns) (ascends_on m ms a) l' (kept m ns ms a b.1)) ∙ inserted_first m ms a

-- ---- the test

tested : (ms ns : List Node) → ascends ms ≡ true → (length ns == length ms && list_all (has_node ns) ms) ≡ true → same_nodes (sorted ns) ms ≡ true
tested ms ns a h =
    let b = and_parts (length ns == length ms) (list_all (has_node ns) ms) h in
    ap (λ v. same_nodes v ms) (all_served ms ns a (eqb-true (length ns) (length ms) b.0) b.1) ∙ nodes_same ms

testing : (ms ns : List Node) → same_nodes (sorted ns) ms ≡ true → (length ns == length ms && list_all (has_node ns) ms) ≡ true
testing ms ns h =
    let e = nodes_are (sorted ns) ms h in
    and_from (length ns == length ms) (list_all (has_node ns) ms)
    (eq-eqb (length ns) (length ms) (sym (length_sorted ns) ∙ ap length e))
    (all_pass (has_node ns) ms (λ m k. sym (has_sorted ns m) ∙ ap (λ v. has_node v m) e ∙ k))

exactly : (ms ns : List Node) → ascends ms ≡ true → (length ns == length ms && list_all (has_node ns) ms) ≡ same_nodes (sorted ns) ms
exactly ms ns a = both_ways (length ns == length ms && list_all (has_node ns) ms) (same_nodes (sorted ns) ms) (tested ms ns a) (testing ms ns)

pub length_nodes : (ss : List Service) → length (nodes_of ss) ≡ length ss
length_nodes [] = refl
length_nodes (s ∷ ss) = ap suc (length_nodes ss)

pub any_node : (ss : List Service) (n : Node) → has_node (nodes_of ss) n ≡ serves ss n
any_node [] n = refl
any_node (s ∷ ss) n = ap (λ b. bytes_eq s.node n || b) (any_node ss n)

all_served_by : (ss : List Service) (ms : List Node) → list_all (has_node (nodes_of ss)) ms ≡ list_all (serves ss) ms
all_served_by ss [] = refl
all_served_by ss (m ∷ ms) = rw (any_node ss m, all_served_by ss ms) refl

-- as many services as members, and each member has one
pub served_exactly : (ss : List Service) (ms : List Node) → ascends ms ≡ true
    → (length ss == length ms && list_all (serves ss) ms) ≡ same_nodes (sorted (nodes_of ss)) ms
served_exactly ss ms a =
    ap (λ n. n == length ms && list_all (serves ss) ms) (sym (length_nodes ss))
    ∙ ap (λ b. length (nodes_of ss) == length ms && b) (sym (all_served_by ss ms)) ∙ exactly ms (nodes_of ss) a

pub any_member : (ms : List Node) (n : Node) → list_any (λ m. bytes_eq m n) ms ≡ has_node ms n
any_member [] n = refl
any_member (m ∷ ms) n = ap (λ b. bytes_eq m n || b) (any_member ms n)

pub length_served : (ss : List Service) (ms : List Node) → same_nodes (sorted (nodes_of ss)) ms ≡ true → length ss ≡ length ms
length_served ss ms e = sym (length_nodes ss) ∙ sym (length_sorted (nodes_of ss)) ∙ ap length (nodes_are (sorted (nodes_of ss)) ms e)

-- ---- the lowest of what ascends is the first

pub first_is_lowest : (x : Node) (ys : List Node) → ascends_after x ys ≡ true → lowest_from x ys ≡ x
first_is_lowest x [] a = refl
first_is_lowest x (y ∷ ys) a =
    let b = and_parts (is_below x y) (ascends_after y ys) a in
    rw (below_turned x y b.0) (first_is_lowest x ys (weaken x y ys b.0 b.1))

pub first_service_is_lowest : (s : Service) (ts : List Service) → ascends_after s.id (ids_of ts) ≡ true → lowest_service s ts ≡ s
first_service_is_lowest s [] a = refl
first_service_is_lowest s (t ∷ ts) a =
    let b = and_parts (is_below s.id t.id) (ascends_after t.id (ids_of ts)) a in
    rw (below_turned s.id t.id b.0) (first_service_is_lowest s ts (weaken s.id t.id (ids_of ts) b.0 b.1))

-- ---- what a sort gives

next_is_above : (x y : Node) (b : Bool) → is_below x y ≡ b → is_below y x ≡ false → x ≢ y → b ≡ true
next_is_above x y true e above differs = refl
next_is_above x y false e above differs = absurd (differs (same_from_ties x y e above))

-- none is below the one before it, and no two are equal
sorted_ascends : (xs : List Node) → IsSortedBy is_below xs → AllPairs (λ a b. a ≢ b) xs → ascends xs ≡ true
sorted_ascends [] up apart = refl
sorted_ascends (x ∷ []) up apart = refl
sorted_ascends (x ∷ y ∷ ys) up apart =
    and_from (is_below x y) (ascends_after y ys)
    (next_is_above x y (is_below x y) refl (up 0 x (omega arith) (omega arith)) (apart 0 1 x (omega arith) (omega arith)))
    (sorted_ascends (y ∷ ys) (λ k d low lt. simp add-one (simp add-one at (up (suc k) d (omega arith) (omega (arith, lt)))))
    (λ i j d lt end. apart (suc i) (suc j) d (omega (arith, lt)) (omega (arith, end))))

each_stands : (ns : List Node) (k : ℕ) (d : Node) → k < length ns → has_node ns (get_or ns k d) ≡ true
each_stands [] k d lt = absurd (omega (arith, lt))
each_stands (n ∷ ns) zero d lt = or_left (bytes_eq n n) (has_node ns n) (node_same n)
each_stands (n ∷ ns) (suc k) d lt = or_right (bytes_eq n (get_or ns k d)) (has_node ns (get_or ns k d)) (each_stands ns k d (omega (arith, lt)))

-- nodes of which no two are equal, sorted in whatever way, are the sorted list, and that ascends
pub sort_is_sorted : (ns ms : List Node) → AllPairs (λ a b. a ≢ b) ns → IsPermutation ns ms → IsSortedBy is_below ms → (sorted ns ≡ ms) × (ascends ms ≡ true)
sort_is_sorted ns ms apart moved up =
    let flips : (a b : Node) → bytes_eq a b ≡ bytes_eq b a =
    λ a b. both_ways (bytes_eq a b) (bytes_eq b a) (λ e. (bytes_eq-Decides b a).1 (sym ((bytes_eq-Decides a b).0 e)))
    (λ e. (bytes_eq-Decides a b).1 (sym ((bytes_eq-Decides b a).0 e))) in
    let kept_apart : AllPairs (λ a b. a ≢ b) ms =
    AllPairs-from_IsDistinct bytes_eq-Decides ms
    (IsDistinct-IsPermutation bytes_eq flips ns ms moved (IsDistinct-from_AllPairs bytes_eq-Decides ns apart)) in
    let rises : ascends ms ≡ true = sorted_ascends ms up kept_apart in
    let stand : All (λ m. has_node ns m ≡ true) ms = All-permutation (λ m. has_node ns m ≡ true) ns ms moved (each_stands ns) in
    (all_served ms ns rises (sym (length_permutation ns ms moved)) (list_all-from_AllPass (has_node ns) ms stand), rises)

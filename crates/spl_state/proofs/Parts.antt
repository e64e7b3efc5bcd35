-- A look-up goes to the part of the address's digit.
use Rattle.std.proofs.Common.{◌≡◌, ◌≢◌, ℕ, zero, suc, ◌+◌, ◌<◌, ◌≤◌, false, cond, List, [], ◌∷◌, ◌++◌, length, get_or, take, min, ◌-◌, ◌==◌, eq-eqb}
use Rattle.std.proofs.{Common.{length-append, append-nil, refl, sym, ap, subst, ◌∙◌, arith, zero-add}, lemmas.List.{take_more, Elements.filter-append}}
use Rattle.std.proofs.lemmas.Grind.{flat_map-append}
use Rattle.spl_state.specs.{Entries.Entry, Root.digit_of, Part.{Part, AllAt}, Kept.{AllDigit, Sorted, IsInner, all_entries}, Levels.{branch, node_of}}
use Rattle.spl_state.proofs.Nodes.{node_of-one}

pub depth_at : (d i : ℕ) (ss : List Part) (s0 : Part) → AllAt d ss → i < length ss → (get_or ss i s0).depth ≡ d
depth_at d i [] s0 h low = absurd (omega arith)
depth_at d zero (s ∷ ss) s0 h low = h.0
depth_at d (suc i) (s ∷ ss) s0 h low = depth_at d i ss s0 h.1 (omega arith)

-- the entries of one more part
pub all_entries_more : (ss : List Part) (i : ℕ) (s0 : Part) → i < length ss
    → all_entries (take (i + 1) ss) ≡ all_entries (take i ss) ++ (get_or ss i s0).entries
all_entries_more ss i s0 low =
    ap all_entries (take_more ss i s0 low) ∙ flat_map-append (λ s. s.entries) (take i ss) (get_or ss i s0 ∷ [])
    ∙ ap (λ r. all_entries (take i ss) ++ r) (append-nil (get_or ss i s0).entries)

pub min_more : (xs ys : List Entry) → min (min (length xs) 2 + min (length ys) 2) 2 ≡ min (length (xs ++ ys)) 2
min_more xs ys = omega (arith, length-append xs ys)

-- one entry has one digest, at any depth
pub node_of_single : (m n k l : ℕ) (es : List Entry) → length es ≡ 1 → node_of m k es ≡ node_of n l es
node_of_single m n k l [] h = absurd (omega arith)
node_of_single m n k l (e ∷ []) h = node_of-one m k e ∙ sym (node_of-one n l e)
node_of_single m n k l (e ∷ f ∷ es) h = absurd (omega arith)

pub branch_all : (d j : ℕ) (es : List Entry) → AllDigit d j es → branch d j es ≡ es
branch_all d j [] h = refl
branch_all d j (e ∷ es) h = ap (λ b. cond b (e ∷ branch d j es) (branch d j es)) (eq-eqb (digit_of e.0.0 d) j h.0) ∙ ap (λ r. e ∷ r) (branch_all d j es h.1)

pub not_equal : (a b : ℕ) → a ≢ b → (a == b) ≡ false
not_equal a b h = grind arith

pub branch_other : (d i j : ℕ) (es : List Entry) → AllDigit d j es → j ≢ i → branch d i es ≡ []
branch_other d i j [] h not = refl
branch_other d i j (e ∷ es) h not =
    let differ : digit_of e.0.0 d ≢ i = λ p. not (sym h.0 ∙ p) in
    ap (λ b. cond b (e ∷ branch d i es) (branch d i es)) (not_equal (digit_of e.0.0 d) i differ) ∙ branch_other d i j es h.1 not

branch_above : (d i k : ℕ) (ss : List Part) → Sorted d k ss → i < k → branch d i (all_entries ss) ≡ []
branch_above d i k [] h low = refl
branch_above d i k (s ∷ ss) h low =
    let not : k ≢ i = omega arith in
    filter-append (λ e. digit_of e.0.0 d == i) s.entries (all_entries ss)
    ∙ ap (λ r. r ++ branch d i (all_entries ss)) (branch_other d i k s.entries h.0 not) ∙ branch_above d i (k + 1) ss h.1 (omega arith)

-- the branch of a digit is the part of it
pub branch_parts : (d k i j : ℕ) (ss : List Part) (s0 : Part) → Sorted d k ss → j ≡ k + i → i < length ss
    → branch d j (all_entries ss) ≡ (get_or ss i s0).entries
branch_parts d k i j [] s0 h at low = absurd (omega arith)
branch_parts d k zero j (s ∷ ss) s0 h at low =
    let same : k ≡ j = omega arith in
    filter-append (λ e. digit_of e.0.0 d == j) s.entries (all_entries ss)
    ∙ ap (λ r. branch d j s.entries ++ r) (branch_above d j (k + 1) ss h.1 (omega arith)) ∙ append-nil (branch d j s.entries)
    ∙ ap (λ q. branch d q s.entries) (sym same) ∙ branch_all d k s.entries h.0
branch_parts d k (suc i) j (s ∷ ss) s0 h at low =
    let not : k ≢ j = omega arith in
    filter-append (λ e. digit_of e.0.0 d == j) s.entries (all_entries ss)
    ∙ ap (λ r. r ++ branch d j (all_entries ss)) (branch_other d j k s.entries h.0 not)
    ∙ branch_parts d (k + 1) i j ss s0 h.1 (omega arith) (omega arith)

no_entries : (xs : List Entry) → length xs ≡ 0 → xs ≡ []
no_entries [] h = refl
no_entries (x ∷ xs) h = absurd (omega arith)

part_within : (ss : List Part) (i : ℕ) (s0 : Part) → i < length ss → length (get_or ss i s0).entries ≤ length (all_entries ss)
part_within [] i s0 low = absurd (omega arith)
part_within (s ∷ ss) zero s0 low = omega (arith, length-append s.entries (all_entries ss))
part_within (s ∷ ss) (suc i) s0 low = omega (arith, length-append s.entries (all_entries ss), part_within ss i s0 (omega arith))

-- at most one entry, which stands in this part
few_same : (ss : List Part) (i : ℕ) (s0 : Part) → i < length ss → 0 < length (get_or ss i s0).entries → length (all_entries ss) < 2
    → all_entries ss ≡ (get_or ss i s0).entries
few_same [] i s0 low here few = absurd (omega arith)
few_same (s ∷ ss) zero s0 low here few =
    let rest : all_entries ss ≡ [] = no_entries (all_entries ss) (omega (arith, length-append s.entries (all_entries ss))) in
    ap (λ r. s.entries ++ r) rest ∙ append-nil s.entries
few_same (s ∷ ss) (suc i) s0 low here few =
    let lengths = length-append s.entries (all_entries ss) in
    let within = part_within ss i s0 (omega arith) in
    let first : s.entries ≡ [] = no_entries s.entries (omega arith) in
    ap (λ r. r ++ all_entries ss) first ∙ few_same ss i s0 (omega arith) here (omega (arith, lengths))

pub few_in : (ss : List Part) (i : ℕ) (p : Part) → p ≡ get_or ss i p → i < length ss → 0 < length p.entries → length (all_entries ss) < 2
    → all_entries ss ≡ p.entries
few_in ss i p is low here few = few_same ss i p low (subst (λ q. 0 < length q.entries) is here) few ∙ ap (λ q. q.entries) (sym is)

-- so the digest is that part's
pub few_digest : (ss : List Part) (i d : ℕ) (p : Part) → p ≡ get_or ss i p → i < length ss → 0 < length p.entries → length (all_entries ss) < 2
    → node_of (70 - p.depth) p.depth p.entries ≡ node_of (70 - d) d (all_entries ss)
few_digest ss i d p is low here few =
    let same = few_in ss i p is low here few in
    let one : length p.entries ≡ 1 = omega (arith, ap length same) in
    node_of_single _ (70 - d) _ d p.entries one ∙ ap (node_of (70 - d) d) (sym same)

-- a part's digest is that of its branch
pub many_digest : (ss : List Part) (i d : ℕ) (p : Part) → p ≡ get_or ss i p → IsInner d ss → i < length ss
    → node_of (70 - p.depth) p.depth p.entries ≡ node_of (70 - (d + 1)) (d + 1) (branch d i (all_entries ss))
many_digest ss i d p e h low =
    ap (λ q. node_of (70 - q.depth) q.depth q.entries) e
    ∙ ap (λ k. node_of (70 - k) k (get_or ss i p).entries) (depth_at (d + 1) i ss p h.below low)
    ∙ ap (node_of (70 - (d + 1)) (d + 1)) (sym (branch_parts d 0 i i ss p h.sorted (sym (zero-add i)) low))

-- Entries that have the digits of an address: what is done with them is done after these.
use Rattle.std.{specs.{Map.{lookup, remove_entry}, BTreeMap.{insert_entry, is_at}, Ordering.{is_eq, match_ordering}}, proofs.Common.{◌≡◌, ◌≢◌, ℕ, zero, suc}}
use Rattle.std.proofs.Common.{◌+◌, ◌-◌, ◌<◌, ◌≤◌, ◌==◌, ◌&&◌, Bool, true, false, cond, List, [], ◌∷◌, length, Ordering, Less, Equal, Greater, None, Some}
use Rattle.std.proofs.Common.{refl, sym, ap, ◌∙◌, arith, replicate}
use Rattle.sha2.specs.Sha256.{sha256}
use Rattle.spl_state.specs.{Entries.Entry, Root.{digit_of, joined}, Levels.{node_of, branch, lone}, Digits.{tail_cmp, same_digits, shares}, Runs.AllAlong}
use Rattle.spl_state.{specs.{Runs.raised, Kept.AllDigit, declared.address.Address.Address}, proofs.{Nodes.{node_of-none, node_of-many}, Parts.branch_all}}
use Rattle.spl_state.proofs.{Parts.branch_other, PlainRoot.joined_children, Digits.{same_at, same_above, same_below, same_digit, same_by, same_turned}}
use Rattle.spl_state.proofs.Digits.{tail_along, tail_apart}

-- Other runs of the same entries.

pub along_above : (d k m : ℕ) (p : Address) (es : List Entry) → d ≤ k → k ≤ m → AllAlong m d p es → AllAlong k d p es
along_above d k m p [] low high h = tt
along_above d k m p (e ∷ es) low high h = (same_above d k m p e.0 low high h.0, along_above d k m p es low high h.1)

pub along_below : (d k m : ℕ) (p : Address) (es : List Entry) → d ≤ k → k ≤ m → AllAlong m d p es → AllAlong m k p es
along_below d k m p [] low high h = tt
along_below d k m p (e ∷ es) low high h = (same_below d k m p e.0 low high h.0, along_below d k m p es low high h.1)

pub along_digit : (d k : ℕ) (p : Address) (es : List Entry) → d ≤ k → AllAlong (k + 1) d p es → AllDigit k (digit_of p.0 k) es
along_digit d k p [] low h = tt
along_digit d k p (e ∷ es) low h = (same_digit d k p e.0 low h.0, along_digit d k p es low h.1)

pub along_by : (d m : ℕ) (a p : Address) (es : List Entry) → same_digits (m - d) d a p ≡ true → AllAlong m d p es → AllAlong m d a es
along_by d m a p [] at h = tt
along_by d m a p (e ∷ es) at h = (same_by (m - d) d a p e.0 h.0 ∙ at, along_by d m a p es at h.1)

-- A look-up.

pub lookup_along : (d m : ℕ) (a : Address) (es : List Entry) → d ≤ m → m ≤ 70 → AllAlong m d a es
    → lookup (is_at (tail_cmp m a)) es ≡ lookup (is_at (tail_cmp d a)) es
lookup_along d m a [] low high h = refl
lookup_along d m a (e ∷ es) low high h =
    ap (λ o. cond (is_eq o) (Some e.1) (lookup (is_at (tail_cmp m a)) es)) (sym (tail_along d m a e.0 low high h.0))
    ∙ ap (λ r. cond (is_eq (tail_cmp d a e.0)) (Some e.1) r) (lookup_along d m a es low high h.1)

pub lookup_apart : (d m : ℕ) (a p : Address) (es : List Entry) → d ≤ m → m ≤ 70 → same_digits (m - d) d a p ≡ false → AllAlong m d p es
    → lookup (is_at (tail_cmp d a)) es ≡ None
lookup_apart d m a p [] low high not h = refl
lookup_apart d m a p (e ∷ es) low high not h =
    ap (λ b. cond b (Some e.1) (lookup (is_at (tail_cmp d a)) es)) (tail_apart d m a e.0 low high (same_by (m - d) d a p e.0 h.0 ∙ not))
    ∙ lookup_apart d m a p es low high not h.1

-- An insertion and a removal.

pub insert_along : (d m : ℕ) (a : Address) (v : List ℕ) (es : List Entry) → d ≤ m → m ≤ 70 → AllAlong m d a es
    → insert_entry (tail_cmp m) es a v ≡ insert_entry (tail_cmp d) es a v
insert_along d m a v [] low high h = refl
insert_along d m a v (e ∷ es) low high h =
    ap (λ o. match_ordering o ((a, v) ∷ e ∷ es) ((e.0, v) ∷ es) (e ∷ insert_entry (tail_cmp m) es a v)) (sym (tail_along d m a e.0 low high h.0))
    ∙ ap (λ r. match_ordering (tail_cmp d a e.0) ((a, v) ∷ e ∷ es) ((e.0, v) ∷ es) (e ∷ r)) (insert_along d m a v es low high h.1)

along_step : (d m : ℕ) (p : Address) (o : Ordering) (a : Address) (e : Entry) (v : List ℕ) (es rest : List Entry) → same_digits (m - d) d p a ≡ true
    → same_digits (m - d) d p e.0 ≡ true
    → AllAlong m d p es → AllAlong m d p rest → AllAlong m d p (match_ordering o ((a, v) ∷ e ∷ es) ((e.0, v) ∷ es) (e ∷ rest))
along_step d m p Less a e v es rest ha h hs hr = (ha, (h, hs))
along_step d m p Equal a e v es rest ha h hs hr = (h, hs)
along_step d m p Greater a e v es rest ha h hs hr = (h, hr)

pub along_inserted : (d m : ℕ) (p : Address) (cmp : Address → Address → Ordering) (a : Address) (es : List Entry) (v : List ℕ)
    → same_digits (m - d) d a p ≡ true → AllAlong m d p es → AllAlong m d p (insert_entry cmp es a v)
along_inserted d m p cmp a [] v at h = (same_turned (m - d) d a p at, tt)
along_inserted d m p cmp a (e ∷ es) v at h =
    along_step d m p (cmp a e.0) a e v es (insert_entry cmp es a v) (same_turned (m - d) d a p at) h.0 h.1 (along_inserted d m p cmp a es v at h.1)

pub remove_along : (d m : ℕ) (a : Address) (es : List Entry) → d ≤ m → m ≤ 70 → AllAlong m d a es
    → remove_entry (is_at (tail_cmp m a)) es ≡ remove_entry (is_at (tail_cmp d a)) es
remove_along d m a [] low high h = refl
remove_along d m a (e ∷ es) low high h =
    ap (λ o. cond (is_eq o) es (e ∷ remove_entry (is_at (tail_cmp m a)) es)) (sym (tail_along d m a e.0 low high h.0))
    ∙ ap (λ r. cond (is_eq (tail_cmp d a e.0)) es (e ∷ r)) (remove_along d m a es low high h.1)

drop_along : (d m : ℕ) (p : Address) (b : Bool) (e : Entry) (es rest : List Entry) → same_digits (m - d) d p e.0 ≡ true → AllAlong m d p es
    → AllAlong m d p rest → AllAlong m d p (cond b es (e ∷ rest))
drop_along d m p true e es rest h hs hr = hs
drop_along d m p false e es rest h hs hr = (h, hr)

pub along_removed : (d m : ℕ) (p : Address) (t : Address → Bool) (es : List Entry) → AllAlong m d p es → AllAlong m d p (remove_entry t es)
along_removed d m p t [] h = tt
along_removed d m p t (e ∷ es) h = drop_along d m p (t e.0) e es (remove_entry t es) h.0 h.1 (along_removed d m p t es h.1)

-- The entries that share an address's digits.

shares_by : (m d k : ℕ) (a : Address) (e : Entry) (es : List Entry) → same_digits (m - k) k a e.0 ≡ same_digits (m - d) d a e.0
    → shares m k a es ≡ shares m d a es
    → shares m k a (e ∷ es) ≡ shares m d a (e ∷ es)
unfolding shares
shares_by m d k a e es same rest =
    ap (λ b. cond b (e ∷ shares m k a es) (shares m k a es)) same ∙ ap (λ r. cond (same_digits (m - d) d a e.0) (e ∷ r) r) rest

shares_no : (m d k : ℕ) (a : Address) → shares m k a [] ≡ shares m d a []
unfolding shares
shares_no m d k a = refl

pub shares_along : (d k m : ℕ) (a : Address) (es : List Entry) → d ≤ k → k ≤ m → AllAlong k d a es → shares m k a es ≡ shares m d a es
shares_along d k m a [] low high h = shares_no m d k a
shares_along d k m a (e ∷ es) low high h =
    shares_by m d k a e es (sym (same_at d k m a e.0 low high ∙ ap (λ t. t && same_digits (m - k) k a e.0) h.0)) (shares_along d k m a es low high h.1)

pub shares_whole : (d m : ℕ) (a : Address) (es : List Entry) → AllAlong m d a es → shares m d a es ≡ es
unfolding shares
shares_whole d m a [] h = refl
shares_whole d m a (e ∷ es) h = ap (λ b. cond b (e ∷ shares m d a es) (shares m d a es)) h.0 ∙ ap (λ r. e ∷ r) (shares_whole d m a es h.1)

-- none where the address has another digit before
pub shares_none : (d k m : ℕ) (a p : Address) (es : List Entry) → d ≤ k → k ≤ m → same_digits (k - d) d a p ≡ false → AllAlong k d p es → shares m d a es ≡ []
unfolding shares
shares_none d k m a p [] low high not h = refl
shares_none d k m a p (e ∷ es) low high not h =
    ap (λ b. cond b (e ∷ shares m d a es) (shares m d a es))
    (same_at d k m a e.0 low high ∙ ap (λ t. t && same_digits (m - k) k a e.0) (same_by (k - d) d a p e.0 h.0 ∙ not))
    ∙ shares_none d k m a p es low high not h.1

-- The digest.

part_is : (d j i : ℕ) (es : List Entry) (below : List ℕ) → AllDigit d j es → below ≡ node_of (70 - (d + 1)) (d + 1) es
    → lone j below i ≡ node_of (70 - (d + 1)) (d + 1) (branch d i es)
part_is d j i es below h e = by (i == j) refl
  where
    by : (b : Bool) → (i == j) ≡ b → cond b below (replicate 32 0) ≡ node_of (70 - (d + 1)) (d + 1) (branch d i es)
    by true is =
        let same : i ≡ j = grind arith in
        e ∙ ap (node_of (70 - (d + 1)) (d + 1)) (sym (ap (λ k. branch d k es) same ∙ branch_all d j es h))
    by false is =
        let not : j ≢ i = grind arith in
        sym (ap (node_of (70 - (d + 1)) (d + 1)) (branch_other d i j es h not) ∙ node_of-none (70 - (d + 1)) (d + 1))

many_below : (d j : ℕ) (es : List Entry) (below : List ℕ) → d < 70 → AllDigit d j es → 2 ≤ length es → below ≡ node_of (70 - (d + 1)) (d + 1) es
    → sha256 (1 ∷ joined (lone j below) 16) ≡ node_of (70 - d) d es
many_below d j es below low h many e =
    let left : 70 - d ≡ 70 - (d + 1) + 1 = omega arith in
    ap (λ r. sha256 (1 ∷ r)) (joined_children (lone j below) (node_of (70 - (d + 1)) (d + 1)) d es (λ i. part_is d j i es below h e) 16)
    ∙ sym (node_of-many (70 - d) (70 - (d + 1)) d es left many)

raised_by : (n d m : ℕ) (p : Address) (es : List Entry) (below : List ℕ) → d + n ≡ m → m ≤ 70 → AllAlong m d p es → 2 ≤ length es
    → below ≡ node_of (70 - m) m es → raised n d p below ≡ node_of (70 - d) d es
unfolding raised
raised_by zero d m p es below at high h many e =
    let end : m ≡ d = omega arith in
    e ∙ ap (λ k. node_of (70 - k) k es) end
raised_by (suc n) d m p es below at high h many e =
    many_below d (digit_of p.0 d) es (raised n (d + 1) p below) (omega arith)
    (along_digit d d p es (omega arith) (along_above d (d + 1) m p es (omega arith) (omega arith) h)) many
    (raised_by n (d + 1) m p es below (omega arith) high (along_below d (d + 1) m p es (omega arith) (omega arith) h) many e)

pub raised_is : (d m : ℕ) (p : Address) (es : List Entry) (below : List ℕ) → d ≤ m → m ≤ 70 → AllAlong m d p es → 2 ≤ length es → below ≡ node_of (70 - m) m es
    → raised (m - d) d p below ≡ node_of (70 - d) d es
raised_is d m p es below low high h many e = raised_by (m - d) d m p es below (omega arith) high h many e

-- one level more
pub raised_none : (m d : ℕ) (p : Address) (below : List ℕ) → m ≤ d → raised (m - d) d p below ≡ below
unfolding raised
raised_none m d p below h =
    let none : m - d ≡ 0 = omega arith in
    ap (λ n. raised n d p below) none

pub raised_more : (m d : ℕ) (p : Address) (below : List ℕ) → d < m
    → raised (m - d) d p below ≡ sha256 (1 ∷ joined (lone (digit_of p.0 d) (raised (m - (d + 1)) (d + 1) p below)) 16)
unfolding raised
raised_more m d p below h =
    let left : m - d ≡ suc (m - (d + 1)) = omega arith in
    ap (λ n. raised n d p below) left

-- the run depends on its digits alone
pub raised_same : (n k : ℕ) (a b : Address) (below : List ℕ) → same_digits n k a b ≡ true → raised n k a below ≡ raised n k b below
unfolding raised same_digits
raised_same zero k a b below h = refl
raised_same (suc n) k a b below h =
    let both : ((digit_of b.0 k == digit_of a.0 k) && same_digits n (k + 1) a b) ≡ true = h in
    let here : digit_of b.0 k ≡ digit_of a.0 k = grind arith in
    let more : same_digits n (k + 1) a b ≡ true = grind arith in
    ap (λ j. sha256 (1 ∷ joined (lone j (raised n (k + 1) a below)) 16)) (sym here)
    ∙ ap (λ r. sha256 (1 ∷ joined (lone (digit_of b.0 k) r) 16)) (raised_same n (k + 1) a b below more)

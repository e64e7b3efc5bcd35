-- The entries that share an address's digits, level by level.
use Rattle.std.proofs.Common.{◌≡◌, ℕ, zero, suc, ◌+◌, ◌-◌, ◌<◌, ◌≤◌, ◌==◌, ◌&&◌, Bool, true, false, cond, List, [], ◌∷◌, length, get_or, filter, refl, sym}
use Rattle.std.proofs.Common.{ap, ◌∙◌, arith, zero-add, replicate}
use Rattle.spl_state.specs.{Entries.Entry, Root.{digit_of, node_at, digits_of, agrees, under}, Levels.{branch, node_of}, Digits.{same_digits, shares}}
use Rattle.spl_state.{specs.{Part.Part, Kept.{IsInner, all_entries}, declared.address.Address.Address}, proofs.{Nodes.node_of-none, Parts.branch_parts}}
use Rattle.spl_state.proofs.{Parts.node_of_single, PlainRoot.{filter_both, filter_same, node_at_is}, Digits.{same_more, same_none}, Steps.depth_of}

all_kept : (f : Entry → Bool) (es : List Entry) → ((e : Entry) → f e ≡ true) → filter f es ≡ es
all_kept f [] h = refl
all_kept f (e ∷ es) h = ap (λ b. cond b (e ∷ filter f es) (filter f es)) (h e) ∙ ap (λ r. e ∷ r) (all_kept f es h)

pub shares_all : (m d : ℕ) (a : Address) (es : List Entry) → m ≤ d → shares m d a es ≡ es
unfolding shares
shares_all m d a es h = all_kept (λ e. same_digits (m - d) d a e.0) es (λ e. same_none m d a e.0 h)

pub shares_branch : (m d j : ℕ) (a : Address) (es : List Entry) → d < m → j ≡ digit_of a.0 d → shares m d a es ≡ shares m (d + 1) a (branch d j es)
unfolding shares
shares_branch m d j a es h at =
    filter_same (λ e. same_digits (m - d) d a e.0) (λ e. (digit_of e.0.0 d == j) && same_digits (m - (d + 1)) (d + 1) a e.0)
    (λ e. same_more m d a e.0 h ∙ ap (λ x. (digit_of e.0.0 d == x) && same_digits (m - (d + 1)) (d + 1) a e.0) (sym at)) es
    ∙ filter_both (λ e. digit_of e.0.0 d == j) (λ e. same_digits (m - (d + 1)) (d + 1) a e.0) es

-- what lies below in a part is what does in the whole
pub shares_below : (m d i k : ℕ) (a : Address) (es : List Entry) (ss : List Part) (old : Part) → IsInner d ss → i ≡ digit_of a.0 d → i < length ss
    → old ≡ get_or ss i old → d < m → d ≡ k → all_entries ss ≡ es
    → shares m old.depth a old.entries ≡ shares m k a es
shares_below m d i k a es ss old h at low is deep depth all =
    ap (λ n. shares m n a old.entries) (depth_of d i ss old h low is) ∙ ap (λ s. shares m (d + 1) a s.entries) is
    ∙ ap (shares m (d + 1) a) (sym (branch_parts d 0 i i ss old h.sorted (sym (zero-add i)) low))
    ∙ sym (shares_branch m d i a (all_entries ss) deep at)
    ∙ ap (λ n. shares m n a (all_entries ss)) depth ∙ ap (λ xs. shares m k a xs) all

-- what a part answers is what the whole does
pub digest_below : (m d i k : ℕ) (a : Address) (es : List Entry) (ss : List Part) (old : Part) (r : List ℕ)
    → r ≡ node_of (70 - m) m (shares m old.depth a old.entries)
    → IsInner d ss → i ≡ digit_of a.0 d → i < length ss → old ≡ get_or ss i old → d < m → d ≡ k → all_entries ss ≡ es → r ≡ node_of (70 - m) m (shares m k a es)
digest_below m d i k a es ss old r e h at low is deep depth all = e ∙ ap (node_of (70 - m) m) (shares_below m d i k a es ss old h at low is deep depth all)

-- a lone entry with these digits, and one without
pub digest_one : (m d k n : ℕ) (a : Address) (e : Entry) (es : List Entry) (r : List ℕ) → r ≡ node_of (70 - n) n es → e ∷ [] ≡ es
    → same_digits (m - d) d a e.0 ≡ true → d ≡ k → r ≡ node_of (70 - m) m (shares m k a es)
unfolding shares
digest_one m d k n a e es r digest all same depth =
    digest ∙ ap (node_of (70 - n) n) (sym all) ∙ node_of_single (70 - n) (70 - m) n m (e ∷ []) refl
    ∙ ap (node_of (70 - m) m) (ap (λ b. cond b (e ∷ []) []) (sym same) ∙ ap (λ q. shares m q a (e ∷ [])) depth ∙ ap (shares m k a) all)

pub digest_other : (m d k : ℕ) (a : Address) (e : Entry) (es : List Entry) → e ∷ [] ≡ es → same_digits (m - d) d a e.0 ≡ false → d ≡ k
    → replicate 32 0 ≡ node_of (70 - m) m (shares m k a es)
unfolding shares
digest_other m d k a e es all same depth =
    sym (node_of-none (70 - m) m)
    ∙ ap (node_of (70 - m) m) (ap (λ b. cond b (e ∷ []) []) (sym same) ∙ ap (λ q. shares m q a (e ∷ [])) depth ∙ ap (shares m k a) all)

-- all entries, and none
pub digest_all : (m d : ℕ) (a : Address) (es : List Entry) (r : List ℕ) → r ≡ node_of (70 - d) d es → d ≡ m → r ≡ node_of (70 - m) m (shares m d a es)
digest_all m d a es r digest at =
    digest ∙ ap (λ n. node_of (70 - n) n es) at ∙ ap (node_of (70 - m) m) (sym (shares_all m d a es (omega arith)))

pub digest_none : (m d : ℕ) (a : Address) (es : List Entry) → [] ≡ es → replicate 32 0 ≡ node_of (70 - m) m (shares m d a es)
unfolding shares
digest_none m d a es none = sym (node_of-none (70 - m) m) ∙ ap (λ xs. node_of (70 - m) m (shares m d a xs)) none

-- The same in the root's own words: the digits of an address as a list.

agrees_same : (n k : ℕ) (a b : Address) → agrees k (digits_of n k a.0) b.0 ≡ same_digits n k a b
unfolding same_digits
agrees_same zero k a b = refl
agrees_same (suc n) k a b = ap (λ r. (digit_of b.0 k == digit_of a.0 k) && r) (agrees_same n (k + 1) a b)

digits_long : (n k : ℕ) (a : List ℕ) → length (digits_of n k a) ≡ n
digits_long zero k a = refl
digits_long (suc n) k a = ap suc (digits_long n (k + 1) a)

pub under_shares : (m : ℕ) (a : Address) (es : List Entry) → under (digits_of m 0 a.0) es ≡ shares m 0 a es
unfolding shares
under_shares m a es =
    let none : m ≡ m - 0 = omega arith in
    filter_same (λ e. agrees 0 (digits_of m 0 a.0) e.0.0) (λ e. same_digits (m - 0) 0 a e.0)
    (λ e. agrees_same m 0 a e.0 ∙ ap (λ n. same_digits n 0 a e.0) none) es

pub node_under : (m : ℕ) (a : Address) (es : List Entry) → node_at (70 - m) (digits_of m 0 a.0) es ≡ node_of (70 - m) m (shares m 0 a es)
node_under m a es =
    node_at_is (70 - m) (digits_of m 0 a.0) es ∙ ap (λ k. node_of (70 - m) k (under (digits_of m 0 a.0) es)) (digits_long m 0 a.0)
    ∙ ap (node_of (70 - m) m) (under_shares m a es)

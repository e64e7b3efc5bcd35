-- What a change of one part does to the whole, in the words of the code's goals.
use Rattle.std.{specs.{Prelude.if◌then◌else◌, Map.{lookup, remove_entry}, BTreeMap.{insert_entry, is_at}, Ordering.match_ordering}, proofs.Common.{◌≡◌, ◌≢◌}}
use Rattle.std.proofs.Common.{ℕ, zero, suc, ◌+◌, ◌<◌, ◌≤◌, Bool, true, false, List, [], ◌∷◌, ◌++◌, length, length-append, get_or, replicate, Ordering, Less}
use Rattle.std.proofs.Common.{Equal, Greater, min, Result, Ok, Err, IfOk, OnOk, OnErr, Option, None, Some, refl, sym, ap, subst, ◌∙◌, arith, slice_set}
use Rattle.std.proofs.Common.{zero-add, append-nil, add-one}
use Rattle.spl_state.specs.{Entries.Entry, Root.digit_of, Digits.tail_cmp, Part.{Part, AllAt}, Kept.{IsShaped, AllDigit, Sorted, IsInner, IsKept}}
use Rattle.spl_state.{specs.{Kept.{all_entries, entries_of, empty_part}, declared.{address.Address.Address, tree.Body.Body}}, proofs.Parts.depth_at}
use Rattle.spl_state.proofs.Writes.{inner_set, digits_at, digits_inserted, digits_removed, insert_parts, remove_parts, lookup_parts}

pub on_ok : {T E : Type 0} {A B : Type 0} (r : Result T E) → (A → B) → OnOk r A → OnOk r B
on_ok (Ok x) f h = f h
on_ok (Err x) f h = tt

pub on_err : {T E : Type 0} {A B : Type 0} (r : Result T E) → (A → B) → OnErr r A → OnErr r B
on_err (Ok x) f h = tt
on_err (Err x) f h = f h

pub where_err : {T E : Type 0} {A : Type 0} (r : Result T E) → A → OnErr r A
where_err (Ok x) h = tt
where_err (Err x) h = h

pub either : {T E : Type 0} {A B C : Type 0} (r : Result T E) → (A → C) → (B → C) → OnOk r A → OnErr r B → C
either (Ok x) f g h k = f h
either (Err x) f g h k = g k

inner_changed : (d i : ℕ) (ss : List Part) (p old : Part) → IsInner d ss → i < length ss → old ≡ get_or ss i old → p.depth ≡ old.depth
    → (AllDigit d i old.entries → AllDigit d i p.entries) → IsInner d (slice_set ss i p)
inner_changed d i ss p old h low is depth keeps =
    let digits = subst (λ s. AllDigit d i s.entries) (sym is) (digits_at d 0 i i ss old h.sorted (sym (zero-add i)) low) in
    inner_set d i ss p h (depth ∙ ap (λ s. s.depth) is ∙ depth_at (d + 1) i ss old h.below low) (keeps digits)

pub depth_of : (d i : ℕ) (ss : List Part) (old : Part) → IsInner d ss → i < length ss → old ≡ get_or ss i old → old.depth ≡ d + 1
depth_of d i ss old h low is = ap (λ s. s.depth) is ∙ depth_at (d + 1) i ss old h.below low

-- after an insertion, or a failure of one
pub inner_inserted : {T E : Type 0} (r : Result T E) (d i : ℕ) (a : Address) (v : List ℕ) (ss : List Part) (p old : Part) → IsInner d ss
    → i ≡ digit_of a.0 d → i < length ss → old ≡ get_or ss i old
    → p.depth ≡ old.depth → OnOk r (p.entries ≡ insert_entry (tail_cmp old.depth) old.entries a v) → OnErr r (p.entries ≡ old.entries)
    → IsInner d (slice_set ss i p)
inner_inserted r d i a v ss p old h at low is depth good bad =
    inner_changed d i ss p old h low is depth (λ q. either r
    (λ e. subst (AllDigit d i) (sym e) (digits_inserted d i (tail_cmp old.depth) a old.entries v (sym at) q))
    (λ e. subst (AllDigit d i) (sym e) q) good bad)

all_entries_same : (i : ℕ) (ss : List Part) (p s0 : Part) → p.entries ≡ (get_or ss i s0).entries → all_entries (slice_set ss i p) ≡ all_entries ss
all_entries_same i [] p s0 e = refl
all_entries_same zero (s ∷ ss) p s0 e = ap (λ r. r ++ all_entries ss) e
all_entries_same (suc i) (s ∷ ss) p s0 e = ap (λ r. s.entries ++ r) (all_entries_same i ss p s0 e)

pub entries_inserted : {T E : Type 0} (r : Result T E) (d i k : ℕ) (a : Address) (v : List ℕ) (es : List Entry) (ss : List Part) (p old : Part)
    → IsInner d ss → i ≡ digit_of a.0 d → i < length ss → old ≡ get_or ss i old
    → d ≡ k → all_entries ss ≡ es
    → OnOk r (p.entries ≡ insert_entry (tail_cmp old.depth) old.entries a v) → OnOk r (all_entries (slice_set ss i p) ≡ insert_entry (tail_cmp k) es a v)
entries_inserted r d i k a v es ss p old h at low is depth all =
    on_ok r (λ e.
    insert_parts d 0 i a ss p old v h.low h.sorted (sym at ∙ sym (zero-add i)) low
    (e ∙ ap (λ n. insert_entry (tail_cmp n) old.entries a v) (depth_of d i ss old h low is) ∙ ap (λ s. insert_entry (tail_cmp (d + 1)) s.entries a v) is)
    ∙ ap (λ n. insert_entry (tail_cmp n) (all_entries ss) a v) depth ∙ ap (λ xs. insert_entry (tail_cmp k) xs a v) all)

pub entries_kept : {T E : Type 0} (r : Result T E) (i : ℕ) (es : List Entry) (ss : List Part) (p old : Part) → old ≡ get_or ss i old → all_entries ss ≡ es
    → OnErr r (p.entries ≡ old.entries) → OnErr r (all_entries (slice_set ss i p) ≡ es)
entries_kept r i es ss p old is all = on_err r (λ e. all_entries_same i ss p old (e ∙ ap (λ s. s.entries) is) ∙ all)

-- a write makes no fewer entries

longer_step : (o : Ordering) (a : Address) (v : List ℕ) (e : Entry) (es rest : List Entry) → length es ≤ length rest
    → length (e ∷ es) ≤ length (match_ordering o ((a, v) ∷ e ∷ es) ((e.0, v) ∷ es) (e ∷ rest))
longer_step Less a v e es rest h = omega arith
longer_step Equal a v e es rest h = omega arith
longer_step Greater a v e es rest h = omega (arith, h)

longer_inserted : (cmp : Address → Address → Ordering) (a : Address) (v : List ℕ) (es : List Entry) → length es ≤ length (insert_entry cmp es a v)
longer_inserted cmp a v [] = omega arith
longer_inserted cmp a v (e ∷ es) = longer_step (cmp a e.0) a v e es (insert_entry cmp es a v) (longer_inserted cmp a v es)

longer_parts : (i : ℕ) (ss : List Part) (p s0 : Part) → length (get_or ss i s0).entries ≤ length p.entries
    → length (all_entries ss) ≤ length (all_entries (slice_set ss i p))
longer_parts i [] p s0 h = omega arith
longer_parts zero (s ∷ ss) p s0 h = omega (arith, h, length-append s.entries (all_entries ss), length-append p.entries (all_entries ss))
longer_parts (suc i) (s ∷ ss) p s0 h =
    omega (arith, longer_parts i ss p s0 h, length-append s.entries (all_entries ss), length-append s.entries (all_entries (slice_set ss i p)))

pub size_grown : {T E : Type 0} (r : Result T E) (cmp : Address → Address → Ordering) (size i : ℕ) (a : Address) (v : List ℕ) (ss : List Part)
    (p old : Part) → size ≡ min (length (all_entries ss)) 2 → old ≡ get_or ss i old
    → OnOk r (p.entries ≡ insert_entry cmp old.entries a v) → OnErr r (p.entries ≡ old.entries) → size ≤ length (all_entries (slice_set ss i p))
size_grown r cmp size i a v ss p old sized is good bad =
    let longer : length old.entries ≤ length p.entries = either r
    (λ e. subst (λ es. length old.entries ≤ length es) (sym e) (longer_inserted cmp a v old.entries))
    (λ e. subst (λ es. length old.entries ≤ length es) (sym e) (omega arith)) good bad in
    omega (arith, sized, longer_parts i ss p old (subst (λ s. length s.entries ≤ length p.entries) is longer))

-- after a removal
pub inner_removed : (d i : ℕ) (t : Address → Bool) (ss : List Part) (p old : Part) → IsInner d ss → i < length ss → old ≡ get_or ss i old
    → p.depth ≡ old.depth → p.entries ≡ remove_entry t old.entries → IsInner d (slice_set ss i p)
inner_removed d i t ss p old h low is depth e =
    inner_changed d i ss p old h low is depth (λ q. subst (AllDigit d i) (sym e) (digits_removed d i t old.entries q))

pub entries_removed : (d i k : ℕ) (a : Address) (es : List Entry) (ss : List Part) (p old : Part) → IsInner d ss → i ≡ digit_of a.0 d → i < length ss
    → old ≡ get_or ss i old
    → d ≡ k → all_entries ss ≡ es
    → p.entries ≡ remove_entry (is_at (tail_cmp old.depth a)) old.entries → all_entries (slice_set ss i p) ≡ remove_entry (is_at (tail_cmp k a)) es
entries_removed d i k a es ss p old h at low is depth all e =
    remove_parts d 0 i a ss p old h.low h.sorted (sym at ∙ sym (zero-add i)) low
    (e ∙ ap (λ n. remove_entry (is_at (tail_cmp n a)) old.entries) (depth_of d i ss old h low is)
    ∙ ap (λ s. remove_entry (is_at (tail_cmp (d + 1) a)) s.entries) is)
    ∙ ap (λ n. remove_entry (is_at (tail_cmp n a)) (all_entries ss)) depth ∙ ap (λ xs. remove_entry (is_at (tail_cmp k a)) xs) all

-- a look-up goes to one part
pub found_below : (d i k : ℕ) (a : Address) (es : List Entry) (ss : List Part) (old : Part) → IsInner d ss → i ≡ digit_of a.0 d → i < length ss
    → old ≡ get_or ss i old
    → d ≡ k → all_entries ss ≡ es → lookup (is_at (tail_cmp old.depth a)) old.entries ≡ lookup (is_at (tail_cmp k a)) es
found_below d i k a es ss old h at low is depth all =
    ap (λ n. lookup (is_at (tail_cmp n a)) old.entries) (depth_of d i ss old h low is) ∙ ap (λ s. lookup (is_at (tail_cmp (d + 1) a)) s.entries) is
    ∙ sym (lookup_parts d 0 i a ss old h.low h.sorted (sym at ∙ sym (zero-add i)) low)
    ∙ ap (λ n. lookup (is_at (tail_cmp n a)) (all_entries ss)) depth ∙ ap (λ xs. lookup (is_at (tail_cmp k a)) xs) all

pub former_by : {E X : Type 0} (r : Result Bool E) (v : X) (x y : Option X) → x ≡ y → IfOk r (λ b. (if b then Some v else None) ≡ x)
    → IfOk r (λ b. (if b then Some v else None) ≡ y)
former_by (Ok b) v x y e h = h ∙ e
former_by (Err f) v x y e h = tt

-- what a write replaces in one part, it replaces in all, and so where there is nothing
pub former_below : {E : Type 0} (r : Result Bool E) (v : List ℕ) (d i k : ℕ) (a : Address) (es : List Entry) (ss : List Part) (old : Part) → IsInner d ss
    → i ≡ digit_of a.0 d → i < length ss → old ≡ get_or ss i old
    → d ≡ k → all_entries ss ≡ es
    → IfOk r (λ b. (if b then Some v else None) ≡ lookup (is_at (tail_cmp old.depth a)) old.entries)
    → IfOk r (λ b. (if b then Some v else None) ≡ lookup (is_at (tail_cmp k a)) es)
former_below r v d i k a es ss old h at low is depth all = former_by r v _ _ (found_below d i k a es ss old h at low is depth all)

pub missing_below : {T E : Type 0} (r : Result T E) (d i k : ℕ) (a : Address) (es : List Entry) (ss : List Part) (old : Part) → IsInner d ss
    → i ≡ digit_of a.0 d → i < length ss → old ≡ get_or ss i old
    → d ≡ k → all_entries ss ≡ es
    → OnErr r (lookup (is_at (tail_cmp old.depth a)) old.entries ≡ None) → OnErr r (lookup (is_at (tail_cmp k a)) es ≡ None)
missing_below r d i k a es ss old h at low is depth all = on_err r (λ e. sym (found_below d i k a es ss old h at low is depth all) ∙ e)

-- A part moves among empty ones.

false_true : false ≢ true
false_true p = grind (arith, p)

-- a part whose digest is stale
pub kept_stale : (d size : ℕ) (digest : List ℕ) (body : Body) → size ≡ min (length (entries_of body)) 2 → IsShaped d body → IsKept d size false digest body
kept_stale d size digest body sized shaped = record { sized = sized; digested = λ f. absurd (false_true f); shaped = shaped }

no_parts : (n d : ℕ) → all_entries (replicate n (empty_part d)) ≡ []
no_parts zero d = refl
no_parts (suc n) d = no_parts n d

pub alone : (n d i : ℕ) (p : Part) → i < n → all_entries (slice_set (replicate n (empty_part d)) i p) ≡ p.entries
alone zero d i p low = absurd (omega arith)
alone (suc n) d zero p low = ap (λ r. p.entries ++ r) (no_parts n d) ∙ append-nil p.entries
alone (suc n) d (suc i) p low = alone n d i p (omega arith)

empty_at : (n d : ℕ) → AllAt d (replicate n (empty_part d))
empty_at zero d = tt
empty_at (suc n) d = (refl, empty_at n d)

empty_sorted : (n d e k : ℕ) → Sorted e k (replicate n (empty_part d))
empty_sorted zero d e k = tt
empty_sorted (suc n) d e k = (tt, empty_sorted n d e (k + 1))

empty_inner : (d : ℕ) → d < 70 → IsInner d (replicate 16 (empty_part (d + 1)))
empty_inner d low = record { low = low; sixteen = refl; below = empty_at 16 (d + 1); sorted = empty_sorted 16 (d + 1) d 0 }

pub inner_alone : (d i : ℕ) (ss : List Part) (p : Part) → d < 70 → ss ≡ replicate 16 (empty_part (d + 1)) → p.depth ≡ d + 1 → AllDigit d i p.entries
    → IsInner d (slice_set ss i p)
inner_alone d i ss p low e depth digits = inner_set d i ss p (subst (IsInner d) (sym e) (empty_inner d low)) depth digits

pub entries_alone : (d i : ℕ) (ss : List Part) (p : Part) → i < 16 → ss ≡ replicate 16 (empty_part d) → all_entries (slice_set ss i p) ≡ p.entries
entries_alone d i ss p low e = ap (λ xs. all_entries (slice_set xs i p)) e ∙ alone 16 d i p low

one_more : (d k : ℕ) → replicate k (empty_part d) ++ empty_part d ∷ [] ≡ replicate (suc k) (empty_part d)
one_more d zero = refl
one_more d (suc k) = ap (λ r. empty_part d ∷ r) (one_more d k)

pub replicate_more : (d n m : ℕ) (ss : List Part) → ss ≡ replicate n (empty_part d) → m ≡ n + 1 → ss ++ empty_part d ∷ [] ≡ replicate m (empty_part d)
replicate_more d n m ss e q = ap (λ xs. xs ++ empty_part d ∷ []) e ∙ one_more d n ∙ ap (λ k. replicate k (empty_part d)) (sym (q ∙ add-one n))

-- One part is written.
use Rattle.std.{specs.{Map.{lookup, remove_entry}, BTreeMap.{insert_entry, is_at}, Ordering.{is_eq, match_ordering}}, proofs.Common.{◌≡◌, ◌≢◌, ℕ, zero, suc}}
use Rattle.std.proofs.Common.{◌+◌, ◌<◌, Bool, true, false, cond, List, [], ◌∷◌, ◌++◌, length, get_or, length-set, Ordering, Less, Equal, Greater, None, Some}
use Rattle.std.proofs.Common.{refl, sym, ap, subst, ◌∙◌, arith, slice_set}
use Rattle.spl_state.specs.{Entries.Entry, Root.digit_of, Digits.tail_cmp, Part.{Part, AllAt}, Kept.{AllDigit, Sorted, IsInner, all_entries}}
use Rattle.spl_state.{specs.declared.address.Address.Address, proofs.Digits.{tail_less, tail_greater, tail_same, tail_differ}}

all_at_set : (d i : ℕ) (ss : List Part) (p : Part) → AllAt d ss → p.depth ≡ d → AllAt d (slice_set ss i p)
all_at_set d i [] p h e = tt
all_at_set d zero (s ∷ ss) p h e = (e, h.1)
all_at_set d (suc i) (s ∷ ss) p h e = (h.0, all_at_set d i ss p h.1 e)

sorted_set : (d k i j : ℕ) (ss : List Part) (p : Part) → Sorted d k ss → j ≡ k + i → AllDigit d j p.entries → Sorted d k (slice_set ss i p)
sorted_set d k i j [] p h e q = tt
sorted_set d k zero j (s ∷ ss) p h e q =
    let same : j ≡ k = omega arith in
    (subst (λ n. AllDigit d n p.entries) same q, h.1)
sorted_set d k (suc i) j (s ∷ ss) p h e q = (h.0, sorted_set d (k + 1) i j ss p h.1 (omega arith) q)

pub inner_set : (d i : ℕ) (ss : List Part) (p : Part) → IsInner d ss → p.depth ≡ d + 1 → AllDigit d i p.entries → IsInner d (slice_set ss i p)
inner_set d i ss p h e q = record {
  low = h.low;
  sixteen = length-set ss i p ∙ h.sixteen;
  below = all_at_set (d + 1) i ss p h.below e;
  sorted = sorted_set d 0 i i ss p h.sorted (omega arith) q;
}

pub digits_at : (d k i j : ℕ) (ss : List Part) (s0 : Part) → Sorted d k ss → j ≡ k + i → i < length ss → AllDigit d j (get_or ss i s0).entries
digits_at d k i j [] s0 h e low = absurd (omega arith)
digits_at d k zero j (s ∷ ss) s0 h e low =
    let same : k ≡ j = omega arith in
    subst (λ n. AllDigit d n s.entries) same h.0
digits_at d k (suc i) j (s ∷ ss) s0 h e low = digits_at d (k + 1) i j ss s0 h.1 (omega arith) (omega arith)

-- An insertion.

digits_step : (d j : ℕ) (o : Ordering) (a : Address) (e : Entry) (v : List ℕ) (es rest : List Entry) → digit_of a.0 d ≡ j → digit_of e.0.0 d ≡ j
    → AllDigit d j es → AllDigit d j rest
    → AllDigit d j (match_ordering o ((a, v) ∷ e ∷ es) ((e.0, v) ∷ es) (e ∷ rest))
digits_step d j Less a e v es rest ha h hs hr = (ha, (h, hs))
digits_step d j Equal a e v es rest ha h hs hr = (h, hs)
digits_step d j Greater a e v es rest ha h hs hr = (h, hr)

-- an insertion keeps the digits
pub digits_inserted : (d j : ℕ) (cmp : Address → Address → Ordering) (a : Address) (es : List Entry) (v : List ℕ) → digit_of a.0 d ≡ j → AllDigit d j es
    → AllDigit d j (insert_entry cmp es a v)
digits_inserted d j cmp a [] v ha h = (ha, tt)
digits_inserted d j cmp a (e ∷ es) v ha h = digits_step d j (cmp a e.0) a e v es (insert_entry cmp es a v) ha h.0 h.1 (digits_inserted d j cmp a es v ha h.1)

insert_later : (d j : ℕ) (a : Address) (xs ys : List Entry) (v : List ℕ) → d < 70 → AllDigit d j xs → j < digit_of a.0 d
    → insert_entry (tail_cmp d) (xs ++ ys) a v ≡ xs ++ insert_entry (tail_cmp d) ys a v
insert_later d j a [] ys v low h far = refl
insert_later d j a (e ∷ xs) ys v low h far =
    let after : digit_of e.0.0 d < digit_of a.0 d = omega (arith, h.0) in
    ap (λ o. match_ordering o ((a, v) ∷ e ∷ (xs ++ ys)) ((e.0, v) ∷ (xs ++ ys)) (e ∷ insert_entry (tail_cmp d) (xs ++ ys) a v)) (tail_greater d a e.0 low after)
    ∙ ap (λ r. e ∷ r) (insert_later d j a xs ys v low h.1 far)

insert_first : (d j : ℕ) (a : Address) (xs ys : List Entry) (v : List ℕ) → d < 70 → AllDigit d j xs → digit_of a.0 d < j
    → insert_entry (tail_cmp d) ys a v ≡ (a, v) ∷ ys → insert_entry (tail_cmp d) (xs ++ ys) a v ≡ (a, v) ∷ (xs ++ ys)
insert_first d j a [] ys v low h far next = next
insert_first d j a (e ∷ xs) ys v low h far next =
    let before : digit_of a.0 d < digit_of e.0.0 d = omega (arith, h.0) in
    ap (λ o. match_ordering o ((a, v) ∷ e ∷ (xs ++ ys)) ((e.0, v) ∷ (xs ++ ys)) (e ∷ insert_entry (tail_cmp d) (xs ++ ys) a v)) (tail_less d a e.0 low before)

insert_above : (d k : ℕ) (a : Address) (ss : List Part) (v : List ℕ) → d < 70 → Sorted d k ss → digit_of a.0 d < k
    → insert_entry (tail_cmp d) (all_entries ss) a v ≡ (a, v) ∷ all_entries ss
insert_above d k a [] v low h far = refl
insert_above d k a (s ∷ ss) v low h far = insert_first d k a s.entries (all_entries ss) v low h.0 far (insert_above d (k + 1) a ss v low h.1 (omega arith))

insert_step : (o : Ordering) (a : Address) (e : Entry) (v : List ℕ) (xs ys xs' all' : List Entry) → all' ≡ xs' ++ ys
    → match_ordering o ((a, v) ∷ e ∷ (xs ++ ys)) ((e.0, v) ∷ (xs ++ ys)) (e ∷ all') ≡ match_ordering o ((a, v) ∷ e ∷ xs) ((e.0, v) ∷ xs) (e ∷ xs') ++ ys
insert_step Less a e v xs ys xs' all' h = refl
insert_step Equal a e v xs ys xs' all' h = refl
insert_step Greater a e v xs ys xs' all' h = ap (λ r. e ∷ r) h

pub insert_here : (d : ℕ) (a : Address) (xs ys : List Entry) (v : List ℕ) → d < 70 → AllDigit d (digit_of a.0 d) xs
    → insert_entry (tail_cmp d) ys a v ≡ (a, v) ∷ ys
    → insert_entry (tail_cmp d) (xs ++ ys) a v ≡ insert_entry (tail_cmp (d + 1)) xs a v ++ ys
insert_here d a [] ys v low h next = next
insert_here d a (e ∷ xs) ys v low h next =
    ap (λ o. match_ordering o ((a, v) ∷ e ∷ (xs ++ ys)) ((e.0, v) ∷ (xs ++ ys)) (e ∷ insert_entry (tail_cmp d) (xs ++ ys) a v))
    (tail_same d a e.0 low (sym h.0))
    ∙ insert_step (tail_cmp (d + 1) a e.0) a e v xs ys (insert_entry (tail_cmp (d + 1)) xs a v) (insert_entry (tail_cmp d) (xs ++ ys) a v)
    (insert_here d a xs ys v low h.1 next)

-- an insertion into all parts is one into the part of the address's digit
pub insert_parts : (d k i : ℕ) (a : Address) (ss : List Part) (p s0 : Part) (v : List ℕ) → d < 70 → Sorted d k ss → digit_of a.0 d ≡ k + i → i < length ss
    → p.entries ≡ insert_entry (tail_cmp (d + 1)) (get_or ss i s0).entries a v → all_entries (slice_set ss i p) ≡ insert_entry (tail_cmp d) (all_entries ss) a v
insert_parts d k i a [] p s0 v low h at within e = absurd (omega arith)
insert_parts d k zero a (s ∷ ss) p s0 v low h at within e =
    let same : k ≡ digit_of a.0 d = omega arith in
    ap (λ r. r ++ all_entries ss) e
    ∙ sym (insert_here d a s.entries (all_entries ss) v low (subst (λ n. AllDigit d n s.entries) same h.0)
    (insert_above d (k + 1) a ss v low h.1 (omega arith)))
insert_parts d k (suc i) a (s ∷ ss) p s0 v low h at within e =
    ap (λ r. s.entries ++ r) (insert_parts d (k + 1) i a ss p s0 v low h.1 (omega arith) (omega arith) e)
    ∙ sym (insert_later d k a s.entries (all_entries ss) v low h.0 (omega arith))

-- A look-up and a removal.

other_digit : (d j : ℕ) (a : Address) (e : Entry) → d < 70 → digit_of e.0.0 d ≡ j → digit_of a.0 d ≢ j → is_at (tail_cmp d a) e.0 ≡ false
other_digit d j a e low at not = tail_differ d a e.0 low (λ p. not (p ∙ at))

pub lookup_later : (d j : ℕ) (a : Address) (xs ys : List Entry) → d < 70 → AllDigit d j xs → digit_of a.0 d ≢ j
    → lookup (is_at (tail_cmp d a)) (xs ++ ys) ≡ lookup (is_at (tail_cmp d a)) ys
lookup_later d j a [] ys low h not = refl
lookup_later d j a (e ∷ xs) ys low h not =
    ap (λ b. cond b (Some e.1) (lookup (is_at (tail_cmp d a)) (xs ++ ys))) (other_digit d j a e low h.0 not) ∙ lookup_later d j a xs ys low h.1 not

lookup_above : (d k : ℕ) (a : Address) (ss : List Part) → d < 70 → Sorted d k ss → digit_of a.0 d < k → lookup (is_at (tail_cmp d a)) (all_entries ss) ≡ None
lookup_above d k a [] low h far = refl
lookup_above d k a (s ∷ ss) low h far =
    let not : digit_of a.0 d ≢ k = omega arith in
    lookup_later d k a s.entries (all_entries ss) low h.0 not ∙ lookup_above d (k + 1) a ss low h.1 (omega arith)

pub lookup_here : (d : ℕ) (a : Address) (xs ys : List Entry) → d < 70 → AllDigit d (digit_of a.0 d) xs → lookup (is_at (tail_cmp d a)) ys ≡ None
    → lookup (is_at (tail_cmp d a)) (xs ++ ys) ≡ lookup (is_at (tail_cmp (d + 1) a)) xs
lookup_here d a [] ys low h next = next
lookup_here d a (e ∷ xs) ys low h next =
    ap (λ b. cond (is_eq b) (Some e.1) (lookup (is_at (tail_cmp d a)) (xs ++ ys))) (tail_same d a e.0 low (sym h.0))
    ∙ ap (λ r. cond (is_eq (tail_cmp (d + 1) a e.0)) (Some e.1) r) (lookup_here d a xs ys low h.1 next)

pub lookup_parts : (d k i : ℕ) (a : Address) (ss : List Part) (s0 : Part) → d < 70 → Sorted d k ss → digit_of a.0 d ≡ k + i → i < length ss
    → lookup (is_at (tail_cmp d a)) (all_entries ss) ≡ lookup (is_at (tail_cmp (d + 1) a)) (get_or ss i s0).entries
lookup_parts d k i a [] s0 low h at within = absurd (omega arith)
lookup_parts d k zero a (s ∷ ss) s0 low h at within =
    let same : k ≡ digit_of a.0 d = omega arith in
    lookup_here d a s.entries (all_entries ss) low (subst (λ n. AllDigit d n s.entries) same h.0) (lookup_above d (k + 1) a ss low h.1 (omega arith))
lookup_parts d k (suc i) a (s ∷ ss) s0 low h at within =
    let not : digit_of a.0 d ≢ k = omega arith in
    lookup_later d k a s.entries (all_entries ss) low h.0 not ∙ lookup_parts d (k + 1) i a ss s0 low h.1 (omega arith) (omega arith)

drop_digits : (d j : ℕ) (b : Bool) (e : Entry) (es rest : List Entry) → digit_of e.0.0 d ≡ j → AllDigit d j es → AllDigit d j rest
    → AllDigit d j (cond b es (e ∷ rest))
drop_digits d j true e es rest h hs hr = hs
drop_digits d j false e es rest h hs hr = (h, hr)

-- a removal keeps the digits
pub digits_removed : (d j : ℕ) (t : Address → Bool) (es : List Entry) → AllDigit d j es → AllDigit d j (remove_entry t es)
digits_removed d j t [] h = tt
digits_removed d j t (e ∷ es) h = drop_digits d j (t e.0) e es (remove_entry t es) h.0 h.1 (digits_removed d j t es h.1)

pub remove_later : (d j : ℕ) (a : Address) (xs ys : List Entry) → d < 70 → AllDigit d j xs → digit_of a.0 d ≢ j
    → remove_entry (is_at (tail_cmp d a)) (xs ++ ys) ≡ xs ++ remove_entry (is_at (tail_cmp d a)) ys
remove_later d j a [] ys low h not = refl
remove_later d j a (e ∷ xs) ys low h not =
    ap (λ b. cond b (xs ++ ys) (e ∷ remove_entry (is_at (tail_cmp d a)) (xs ++ ys))) (other_digit d j a e low h.0 not)
    ∙ ap (λ r. e ∷ r) (remove_later d j a xs ys low h.1 not)

remove_above : (d k : ℕ) (a : Address) (ss : List Part) → d < 70 → Sorted d k ss → digit_of a.0 d < k
    → remove_entry (is_at (tail_cmp d a)) (all_entries ss) ≡ all_entries ss
remove_above d k a [] low h far = refl
remove_above d k a (s ∷ ss) low h far =
    let not : digit_of a.0 d ≢ k = omega arith in
    remove_later d k a s.entries (all_entries ss) low h.0 not ∙ ap (λ r. s.entries ++ r) (remove_above d (k + 1) a ss low h.1 (omega arith))

remove_step : (b : Bool) (e : Entry) (xs ys xs' all' : List Entry) → all' ≡ xs' ++ ys → cond b (xs ++ ys) (e ∷ all') ≡ cond b xs (e ∷ xs') ++ ys
remove_step true e xs ys xs' all' h = refl
remove_step false e xs ys xs' all' h = ap (λ r. e ∷ r) h

pub remove_here : (d : ℕ) (a : Address) (xs ys : List Entry) → d < 70 → AllDigit d (digit_of a.0 d) xs → remove_entry (is_at (tail_cmp d a)) ys ≡ ys
    → remove_entry (is_at (tail_cmp d a)) (xs ++ ys) ≡ remove_entry (is_at (tail_cmp (d + 1) a)) xs ++ ys
remove_here d a [] ys low h next = next
remove_here d a (e ∷ xs) ys low h next =
    ap (λ b. cond (is_eq b) (xs ++ ys) (e ∷ remove_entry (is_at (tail_cmp d a)) (xs ++ ys))) (tail_same d a e.0 low (sym h.0))
    ∙ remove_step (is_eq (tail_cmp (d + 1) a e.0)) e xs ys (remove_entry (is_at (tail_cmp (d + 1) a)) xs) (remove_entry (is_at (tail_cmp d a)) (xs ++ ys))
    (remove_here d a xs ys low h.1 next)

pub remove_parts : (d k i : ℕ) (a : Address) (ss : List Part) (p s0 : Part) → d < 70 → Sorted d k ss → digit_of a.0 d ≡ k + i → i < length ss
    → p.entries ≡ remove_entry (is_at (tail_cmp (d + 1) a)) (get_or ss i s0).entries
    → all_entries (slice_set ss i p) ≡ remove_entry (is_at (tail_cmp d a)) (all_entries ss)
remove_parts d k i a [] p s0 low h at within e = absurd (omega arith)
remove_parts d k zero a (s ∷ ss) p s0 low h at within e =
    let same : k ≡ digit_of a.0 d = omega arith in
    ap (λ r. r ++ all_entries ss) e
    ∙ sym (remove_here d a s.entries (all_entries ss) low (subst (λ n. AllDigit d n s.entries) same h.0) (remove_above d (k + 1) a ss low h.1 (omega arith)))
remove_parts d k (suc i) a (s ∷ ss) p s0 low h at within e =
    let not : digit_of a.0 d ≢ k = omega arith in
    ap (λ r. s.entries ++ r) (remove_parts d (k + 1) i a ss p s0 low h.1 (omega arith) (omega arith) e)
    ∙ sym (remove_later d k a s.entries (all_entries ss) low h.0 not)

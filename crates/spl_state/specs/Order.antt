-- Entries that strictly rise by their addresses: what writes and removals leave of them.
use Rattle.std.specs.{Prelude.is_some, Map.{lookup, remove_entry}, BTreeMap.{insert_entry, is_at}, Ordering.{is_lt, is_eq, ordering_reverse, eq_by_cmp}}
use Rattle.std.specs.{Ordering.match_ordering, Cmp.{IsTotalOrder, tied_itself, alike_right, Lexicographic.on_texts}, FinMap.Entries.{put, where_key}}
use Rattle.std.specs.FinMap.Entries.{below_all, is_sorted, is_sorted-put, is_sorted-where_key, find-put, find-where_key, same_entries}
use Rattle.std.{specs.declared.cmp.Ordering.{Ordering, TheVariants.{Less, Equal, Greater}}, proofs.Common.{◌≡◌, ℕ, Bool, true, false, not, cond, ◌&&◌, T}}
use Rattle.std.proofs.{Common.{IsTrue, List, [], ◌∷◌, Option, Some, None, refl, sym, ap, subst, ◌∙◌}, lemmas.Map.Lookups.exact_bytes}
use Rattle.spl_state.specs.{Entries.{Entry, address_cmp}, Drafts.{over, with_former}, declared.address.Address.Address}

pub address_order : IsTotalOrder address_cmp
address_order = on_texts (λ (a : Address). a.0)

abbrev address_by : List ℕ → Address
address_by xs = record { 0 = xs }

pub one_address : (a b : Address) → address_cmp a b ≡ Equal → a ≡ b
one_address a b e = ap address_by (exact_bytes a.0 b.0 e)

is_true : (b : Bool) → T b → IsTrue b
is_true true h = refl
is_true false h = absurd h

held : (b : Bool) → IsTrue b → T b
held b h = subst T (sym h) tt

pub tied : (o : Ordering) → is_eq o ≡ true → o ≡ Equal
tied Less e = absurd cc
tied Equal e = refl
tied Greater e = absurd cc

-- Writes and removals are those of std's entries in order.

put_is : (k : Address) (v : List ℕ) (es : List Entry) → insert_entry address_cmp es k v ≡ put address_cmp k v es
put_is k v [] = refl
put_is k v (e ∷ es) = ap (λ r. match_ordering (address_cmp k e.0) ((k, v) ∷ e ∷ es) ((e.0, v) ∷ es) (e ∷ r)) (put_is k v es)

both : (a b : Bool) → T a → T b → T (a && b)
both true b p q = q
both false b p q = p

first : (a b : Bool) → T (a && b) → T a
first true b p = tt
first false b p = p

second : (a b : Bool) → T (a && b) → T b
second true b p = p
second false b p = absurd p

not_tied : (o : Ordering) → T (is_lt o) → is_eq o ≡ false
not_tied Less h = refl
not_tied Equal h = absurd h
not_tied Greater h = absurd h

turned : (o : Ordering) → is_eq (ordering_reverse o) ≡ is_eq o
turned Less = refl
turned Equal = refl
turned Greater = refl

ties_turned : (a b : Address) → eq_by_cmp address_cmp a b ≡ eq_by_cmp address_cmp b a
ties_turned a b = ap is_eq (address_order.antisymm a b) ∙ turned (address_cmp b a)

abbrev apart_from : Address → Address → Bool
apart_from k x = not (eq_by_cmp address_cmp k x)

all_apart : (k : Address) (es : List Entry) → T (below_all address_cmp k es) → where_key address_cmp (apart_from k) es ≡ es
all_apart k [] h = refl
all_apart k (e ∷ es) h =
    let rest = where_key address_cmp (apart_from k) es in
    ap (λ b. cond (not b) (e ∷ rest) rest) (not_tied (address_cmp k e.0) (first (is_lt (address_cmp k e.0)) (below_all address_cmp k es) h))
    ∙ ap (λ r. e ∷ r) (all_apart k es (second (is_lt (address_cmp k e.0)) (below_all address_cmp k es) h))

removed_is : (k : Address) (es : List Entry) → T (is_sorted address_cmp es) → remove_entry (is_at (address_cmp k)) es ≡ where_key address_cmp (apart_from k) es
removed_is k [] h = refl
removed_is k (e ∷ es) h =
    let kept = where_key address_cmp (apart_from k) es in
    let below = first (below_all address_cmp e.0 es) (is_sorted address_cmp es) h in
    let rest = removed_is k es (second (below_all address_cmp e.0 es) (is_sorted address_cmp es) h) in
    elim (eq_by_cmp address_cmp k e.0) as (λ b. eq_by_cmp address_cmp k e.0 ≡ b
    → cond b es (e ∷ remove_entry (is_at (address_cmp k)) es) ≡ cond (not b) (e ∷ kept) kept) [
      | true ↦ λ t. sym (all_apart k es (subst (λ a. T (below_all address_cmp a es)) (sym (one_address k e.0 (tied (address_cmp k e.0) t))) below))
      | false ↦ λ t. ap (λ r. e ∷ r) rest
    ] refl

-- ---- the entries still rise

abbrev pub Rises : List Entry → Type 0
Rises es = IsTrue (is_sorted address_cmp es)

pub insert_rises : (a : Address) (v : List ℕ) (es : List Entry) → Rises es → Rises (insert_entry address_cmp es a v)
insert_rises a v es h = is_true _ (subst (λ x. T (is_sorted address_cmp x)) (sym (put_is a v es)) (is_sorted-put address_cmp address_order a v es (held _ h)))

pub remove_rises : (a : Address) (es : List Entry) → Rises es → Rises (remove_entry (is_at (address_cmp a)) es)
remove_rises a es h = is_true _ (subst (λ x. T (is_sorted address_cmp x)) (sym (removed_is a es (held _ h)))
    (is_sorted-where_key address_cmp (apart_from a) es (held _ h)))

-- ---- the value at each address

abbrev pub value : Address → List Entry → Option (List ℕ)
value q es = lookup (is_at (address_cmp q)) es

abbrev pub same : Address → Address → Bool
same q a = eq_by_cmp address_cmp q a

pub value_inserted : (q a : Address) (v : List ℕ) (es : List Entry) → value q (insert_entry address_cmp es a v) ≡ cond (same q a) (Some v) (value q es)
value_inserted q a v es = ap (value q) (put_is a v es) ∙ find-put address_cmp address_order q a v es

crossed : {A : Type 0} (s t : Bool) (x y : A) → s ≡ t → cond (not s) x y ≡ cond t y x
crossed true true x y e = refl
crossed true false x y e = absurd cc
crossed false true x y e = absurd cc
crossed false false x y e = refl

pub value_removed : (q a : Address) (es : List Entry) → Rises es → value q (remove_entry (is_at (address_cmp a)) es) ≡ cond (same q a) None (value q es)
value_removed q a es h =
    ap (value q) (removed_is a es (held _ h))
    ∙ find-where_key address_cmp (apart_from a) q (λ x t. ap (λ r. not (is_eq r)) (sym (alike_right address_order q x a t))) es
    ∙ crossed (same a q) (same q a) (value q es) None (ties_turned a q)

-- entries that rise and have the same values are the same
pub one_map : (es fs : List Entry) → Rises es → Rises fs → ((q : Address) → value q es ≡ value q fs) → es ≡ fs
one_map es fs h g f = same_entries address_cmp address_order one_address es fs (held _ h) (held _ g) f

-- by whether two addresses are the same
pub by_same : (P : Bool → Type 0) (q a : Address) → (q ≡ a → P true) → P false → P (same q a)
by_same P q a here there = elim (same q a) as (λ b. same q a ≡ b → P b) [
  | true ↦ λ t. here (one_address q a (tied (address_cmp q a) t))
  | false ↦ λ t. there
] refl

itself : (a : Address) → same a a ≡ true
itself a = ap is_eq (tied_itself address_order a)

-- ---- a write undone

undone_new : (a : Address) (v : List ℕ) (es : List Entry) → Rises es → None ≡ value a es
    → remove_entry (is_at (address_cmp a)) (insert_entry address_cmp es a v) ≡ es
undone_new a v es h e =
    one_map _ es (remove_rises a _ (insert_rises a v es h)) h (λ q.
    value_removed q a (insert_entry address_cmp es a v) (insert_rises a v es h) ∙ ap (cond (same q a) None) (value_inserted q a v es)
    ∙ by_same (λ b. cond b None (cond b (Some v) (value q es)) ≡ value q es) q a (λ p. e ∙ ap (λ x. value x es) (sym p)) refl)

undone_old : (a : Address) (v w : List ℕ) (es : List Entry) → Rises es → Some w ≡ value a es → over (insert_entry address_cmp es a v) a w ≡ es
undone_old a v w es h e =
    let written = insert_entry address_cmp es a v in
    let there : is_some (value a written) ≡ true = ap is_some (value_inserted a a v es ∙ ap (λ b. cond b (Some v) (value a es)) (itself a)) in
    ap (λ b. cond b (insert_entry address_cmp written a w) written) there
    ∙ one_map _ es (insert_rises a w written (insert_rises a v es h)) h (λ q.
    value_inserted q a w written ∙ ap (cond (same q a) (Some w)) (value_inserted q a v es)
    ∙ by_same (λ b. cond b (Some w) (cond b (Some v) (value q es)) ≡ value q es) q a (λ p. e ∙ ap (λ x. value x es) (sym p)) refl)

pub write_undone : (o : Option (List ℕ)) (a : Address) (v : List ℕ) (es : List Entry) → Rises es → o ≡ value a es
    → with_former (insert_entry address_cmp es a v) a o ≡ es
write_undone None a v es h e = undone_new a v es h e
write_undone (Some w) a v es h e = undone_old a v w es h e

-- A change of a draft, in the words of what it keeps.
use Rattle.std.{specs.{Prelude.filter, List.list_any, Map.remove_entry, BTreeMap.{insert_entry, is_at}}, proofs.Common.{◌≡◌, ℕ, ◌+◌, ◌<◌, length, get_or}}
use Rattle.std.proofs.Common.{take, Bool, true, false, not, cond, ◌||◌, List, [], ◌∷◌, ◌++◌, Option, Some, None, refl, sym, ap, ◌∙◌}
use Rattle.std.proofs.lemmas.List.Sums.{fold_more}
use Rattle.spl_state.specs.{Entries.{Entry, address_cmp}, Drafts.{put_back, undone, without_one, without}, Order.{Rises, value, same, insert_rises}}
use Rattle.spl_state.specs.{Order.{remove_rises, value_inserted, value_removed, one_map, by_same, one_address, tied}, declared.address.Address.Address}
use Rattle.spl_state.specs.declared.state.Replaced.{Replaced}

-- the last write is put back first
pub undone_more : (es : List Entry) (rs : List Replaced) (r : Replaced) → undone es (rs ++ r ∷ []) ≡ undone (put_back es r) rs
undone_more es [] r = refl
undone_more es (q ∷ rs) r = ap (λ m. put_back m q) (undone_more es rs r)

-- a write kept with what undoes it
pub before_write : (es fs : List Entry) (rs all : List Replaced) (r : Replaced) → all ≡ rs ++ r ∷ [] → put_back fs r ≡ es → undone fs all ≡ undone es rs
before_write es fs rs all r a e = ap (undone fs) a ∙ undone_more fs rs r ∙ ap (λ m. undone m rs) e

without_rises : (gone : List Address) (es : List Entry) → Rises es → Rises (without es gone)
without_rises [] es h = h
without_rises (a ∷ gone) es h = without_rises gone (remove_entry (is_at (address_cmp a)) es) (remove_rises a es h)

joined : (s t : Bool) (o : Option (List ℕ)) → cond t None (cond s None o) ≡ cond (s || t) None o
joined true true o = refl
joined true false o = refl
joined false t o = refl

value_without : (q : Address) (gone : List Address) (es : List Entry) → Rises es → value q (without es gone) ≡ cond (list_any (same q) gone) None (value q es)
value_without q [] es h = refl
value_without q (a ∷ gone) es h =
    value_without q gone (remove_entry (is_at (address_cmp a)) es) (remove_rises a es h)
    ∙ ap (cond (list_any (same q) gone) None) (value_removed q a es h) ∙ joined (same q a) (list_any (same q) gone) (value q es)

-- those of the list that are not at an address
abbrev left_out : Address → List Address → List Address
left_out a gone = filter (λ b. not (is_at (address_cmp a) b)) gone

skipped : (s t : Bool) → cond s false t ≡ cond s false (s || t)
skipped true t = refl
skipped false t = refl

any_left_out : (q a : Address) (gone : List Address) → list_any (same q) (left_out a gone) ≡ cond (same q a) false (list_any (same q) gone)
any_left_out q a [] = by_same (λ b. false ≡ cond b false false) q a (λ p. refl) refl
any_left_out q a (b ∷ gone) = by (same a b) refl (any_left_out q a gone)
  where
    by : (t : Bool) → same a b ≡ t → list_any (same q) (left_out a gone) ≡ cond (same q a) false (list_any (same q) gone)
        → list_any (same q) (cond (not t) (b ∷ left_out a gone) (left_out a gone)) ≡ cond (same q a) false (same q b || list_any (same q) gone)
    by true t next =
        next ∙ skipped (same q a) (list_any (same q) gone)
        ∙ ap (λ x. cond (same q a) false (same q x || list_any (same q) gone)) (one_address a b (tied (address_cmp a b) t))
    by false t next =
        ap (λ r. same q b || r) next
        ∙ by_same (λ s. (same q b || cond s false (list_any (same q) gone)) ≡ cond s false (same q b || list_any (same q) gone)) q a
        (λ p. ap (λ x. same x b || false) p ∙ ap (λ s. s || false) t) refl

crossed : (s t : Bool) (x y : Option (List ℕ)) → cond (cond s false t) None (cond s x y) ≡ cond s x (cond t None y)
crossed true t x y = refl
crossed false t x y = refl

-- a write after removals is one before them, except that at its own address
pub write_after : (a : Address) (v : List ℕ) (gone : List Address) (es : List Entry) → Rises es
    → without (insert_entry address_cmp es a v) (left_out a gone) ≡ insert_entry address_cmp (without es gone) a v
write_after a v gone es h =
    let written = insert_entry address_cmp es a v in
    one_map _ _ (without_rises (left_out a gone) written (insert_rises a v es h)) (insert_rises a v (without es gone) (without_rises gone es h)) (λ q.
    value_without q (left_out a gone) written (insert_rises a v es h)
    ∙ ap (λ b. cond b None (value q written)) (any_left_out q a gone)
    ∙ ap (cond (cond (same q a) false (list_any (same q) gone)) None) (value_inserted q a v es)
    ∙ crossed (same q a) (list_any (same q) gone) (Some v) (value q es)
    ∙ sym (value_inserted q a v (without es gone) ∙ ap (cond (same q a) (Some v)) (value_without q gone es h)))

-- one removal more
pub without_next : (es m n : List Entry) (gone : List Address) (i : ℕ) (d : Address) → i < length gone → n ≡ without_one m (get_or gone i d)
    → m ≡ without es (take i gone) → n ≡ without es (take (i + 1) gone)
without_next es m n gone i d low e h = e ∙ ap (λ s. without_one s (get_or gone i d)) h ∙ sym (fold_more without_one es gone i d low)

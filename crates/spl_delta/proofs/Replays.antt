-- Deltas, replayed, give the state; and a list's first batches give its first deltas.
use Rattle.std.{specs.{Prelude.{fold, take, Option, Some, None, slice_get}, Option.option_map}, proofs.Common.{◌≡◌, ℕ, zero, suc, ◌+◌, ◌<◌, ◌≤◌, List, []}}
use Rattle.std.proofs.{Common.{◌∷◌, ◌++◌, length, refl, sym, ap, subst, ◌∙◌, arith}, lemmas.Option.slice_get_within}
use Rattle.spl_agree.specs.World.{IsPrefixOf}
use Rattle.spl_state.specs.Entries.{Entry}
use Rattle.spl_command.specs.{Lists.{with_change, with_receipt, with_receipts, receipts_after, after_batch, state_of}, declared.batch.Batch.Batch}
use Rattle.spl_command.specs.declared.receipt.Receipt.{Receipt}
use Rattle.spl_delta.specs.{Watches.{receipt_changes, delta_of, delta, and_deltas, deltas, with_delta, with_deltas, AreCut}, declared.delta.Delta.Delta}

-- ---- lists

fold-append : {A B : Type 0} (f : A → B → A) (z : A) (xs ys : List B) → fold f z (xs ++ ys) ≡ fold f (fold f z xs) ys
fold-append f z [] ys = refl
fold-append f z (x ∷ xs) ys = fold-append f (f z x) xs ys

-- one element more
take-next : {A : Type 0} (xs : List A) (n : ℕ) (x : A) → slice_get xs n ≡ Some x → take (suc n) xs ≡ take n xs ++ x ∷ []
take-next [] n x h = cc
take-next {A} (y ∷ ys) zero x h = let e : y ≡ x = cc in ap (λ (z : A). z ∷ []) e
take-next {A} (y ∷ ys) (suc n) x h = ap (λ (zs : List A). y ∷ zs) (take-next ys n x h)

get-prefix : {A : Type 0} (xs ys : List A) (n : ℕ) → n < length xs → slice_get (xs ++ ys) n ≡ slice_get xs n
get-prefix [] ys n h = absurd (none h)
  where
    none : n < 0 → ⊥
    none k = omega (arith, k)
get-prefix (x ∷ xs) ys zero h = refl
get-prefix (x ∷ xs) ys (suc n) h = get-prefix xs ys n (omega (arith, h))

take-prefix : {A : Type 0} (xs ys : List A) (n : ℕ) → n ≤ length xs → take n (xs ++ ys) ≡ take n xs
take-prefix xs ys zero h = refl
take-prefix [] ys (suc n) h = absurd (none h)
  where
    none : suc n ≤ 0 → ⊥
    none k = omega (arith, k)
take-prefix {A} (x ∷ xs) ys (suc n) h = ap (λ (zs : List A). x ∷ zs) (take-prefix xs ys n (omega (arith, h)))

-- ---- one delta

changed : (m : List Entry) (rs : List Receipt) → fold with_change m (receipt_changes rs) ≡ with_receipts m rs
changed m [] = refl
changed m (r ∷ rs) = fold-append with_change m r.changes (receipt_changes rs) ∙ changed (with_receipt m r) rs

one-delta : (bs : List Batch) (place : ℕ) (b : Batch) → slice_get bs place ≡ Some b
    → with_delta (state_of (take place bs)) (delta_of bs place b) ≡ state_of (take (suc place) bs)
one-delta bs place b h =
    changed (state_of (take place bs)) (receipts_after (take place bs) b)
    ∙ (sym (fold-append after_batch [] (take place bs) (b ∷ []))
    ∙ ap state_of (sym (take-next bs place b h)))

-- ---- all

there : {A : Type 0} (xs : List A) (n : ℕ) → n < length xs → (x : A) × (slice_get xs n ≡ Some x)
there [] n h = absurd (none h)
  where
    none : n < 0 → ⊥
    none k = omega (arith, k)
there (x ∷ xs) zero h = (x, refl)
there (x ∷ xs) (suc n) h = there xs n (omega (arith, h))

-- from a place on, replayed over the state of the batches before it, they give the state of all that were taken
pub replays : (bs : List Batch) (place count : ℕ) → place + count ≤ length bs
    → with_deltas (state_of (take place bs)) (deltas bs place count) ≡ state_of (take (place + count) bs)
replays bs place zero h = ap (λ (n : ℕ). state_of (take n bs)) same
  where
    same : place ≡ place + 0
    same = omega arith
replays bs place (suc count) h = next (there bs place here) (replays bs (place + 1) count more)
  where
    here : place < length bs
    here = omega (arith, h)

    more : (place + 1) + count ≤ length bs
    more = omega (arith, h)

    one : suc place ≡ place + 1
    one = omega arith

    all : (place + 1) + count ≡ place + suc count
    all = omega arith

    next : (b : Batch) × (slice_get bs place ≡ Some b)
        → with_deltas (state_of (take (place + 1) bs)) (deltas bs (place + 1) count) ≡ state_of (take ((place + 1) + count) bs)
        → with_deltas (state_of (take place bs)) (deltas bs place (suc count)) ≡ state_of (take (place + suc count) bs)
    next b rest =
        ap (λ (o : Option Batch). with_deltas (state_of (take place bs)) (and_deltas (option_map (delta_of bs place) o) (deltas bs (place + 1) count))) b.1
        ∙ (ap (λ (m : List Entry). with_deltas m (deltas bs (place + 1) count)) (one-delta bs place b.0 b.1 ∙ ap (λ (n : ℕ). state_of (take n bs)) one)
        ∙ (rest ∙ ap (λ (n : ℕ). state_of (take n bs)) all))

-- the deltas of a list's first batches are its first deltas
prefix-delta : (xs ys : List Batch) (place : ℕ) → place < length xs → delta xs place ≡ delta (xs ++ ys) place
prefix-delta xs ys place h = both (there xs place h)
  where
    both : (b : Batch) × (slice_get xs place ≡ Some b) → delta xs place ≡ delta (xs ++ ys) place
    both b =
        ap (λ (o : Option Batch). option_map (delta_of xs place) o) b.1
        ∙ (ap (λ (zs : List Batch). Some (record { place = place; batch = b.0.id; changes = receipt_changes (receipts_after zs b.0) }))
        (sym (take-prefix xs ys place (omega (arith, h))))
        ∙ sym (ap (λ (o : Option Batch). option_map (delta_of (xs ++ ys) place) o) (get-prefix xs ys place h ∙ b.1)))

pub prefix-deltas : (xs ys : List Batch) (place count : ℕ) → place + count ≤ length xs → deltas xs place count ≡ deltas (xs ++ ys) place count
prefix-deltas xs ys place zero h = refl
prefix-deltas xs ys place (suc count) h =
    ap (λ (o : Option Delta). and_deltas o (deltas xs (place + 1) count)) (prefix-delta xs ys place (omega (arith, h)))
    ∙ ap (λ (ds : List Delta). and_deltas (delta (xs ++ ys) place) ds) (prefix-deltas xs ys (place + 1) count (omega (arith, h)))

-- some deltas and then more
pub deltas-on : (bs : List Batch) (place first more : ℕ) → place + first ≤ length bs
    → deltas bs place (first + more) ≡ deltas bs place first ++ deltas bs (place + first) more
deltas-on bs place zero more h = ap (λ (n : ℕ). deltas bs place n) none ∙ ap (λ (n : ℕ). deltas bs n more) same
  where
    none : 0 + more ≡ more
    none = omega arith

    same : place ≡ place + 0
    same = omega arith
deltas-on bs place (suc first) more h = next (there bs place here) (deltas-on bs (place + 1) first more later)
  where
    here : place < length bs
    here = omega (arith, h)

    later : (place + 1) + first ≤ length bs
    later = omega (arith, h)

    count : suc first + more ≡ suc (first + more)
    count = omega arith

    after : (place + 1) + first ≡ place + suc first
    after = omega arith

    next : (b : Batch) × (slice_get bs place ≡ Some b)
        → deltas bs (place + 1) (first + more) ≡ deltas bs (place + 1) first ++ deltas bs ((place + 1) + first) more
        → deltas bs place (suc first + more) ≡ deltas bs place (suc first) ++ deltas bs (place + suc first) more
    next b rest =
        ap (λ (n : ℕ). deltas bs place n) count
        ∙ (ap (λ (o : Option Batch). and_deltas (option_map (delta_of bs place) o) (deltas bs (place + 1) (first + more))) b.1
        ∙ (ap (λ (ds : List Delta). delta_of bs place b.0 ∷ ds) (rest ∙ ap (λ (n : ℕ). deltas bs (place + 1) first ++ deltas bs n more) after)
        ∙ sym (ap (λ (o : Option Batch). and_deltas (option_map (delta_of bs place) o) (deltas bs (place + 1) first)
        ++ deltas bs (place + suc first) more) b.1)))

-- ---- how many there are

pub cut : (bs : List Batch) (place count : ℕ) → place ≤ length bs → AreCut bs place count (deltas bs place count)
cut bs place zero h = record { same = refl; within = omega (arith, h); few = omega arith }
cut bs place (suc count) h = go (slice_get bs place) refl (λ q. cut bs (place + 1) count q)
  where
    go : (o : Option Batch) → slice_get bs place ≡ o → (place + 1 ≤ length bs → AreCut bs (place + 1) count (deltas bs (place + 1) count))
        → AreCut bs place (suc count) (deltas bs place (suc count))
    go None e rest =
        subst (λ (ds : List Delta). AreCut bs place (suc count) ds) (sym none) (record { same = refl; within = omega (arith, h); few = omega arith })
      where
        none : deltas bs place (suc count) ≡ []
        none = ap (λ (o : Option Batch). and_deltas (option_map (delta_of bs place) o) (deltas bs (place + 1) count)) e
    go (Some b) e rest = subst (λ (ds : List Delta). AreCut bs place (suc count) ds) (sym some) (record {
      same = ap (λ (es : List Delta). delta_of bs place b ∷ es) r.same
          ∙ sym (ap (λ (o : Option Batch). and_deltas (option_map (delta_of bs place) o) (deltas bs (place + 1) (length later))) e);
      within = omega (arith, r.within);
      few = omega (arith, r.few);
    })
      where
        later : List Delta
        later = deltas bs (place + 1) count

        here : place < length bs
        here = slice_get_within bs place b e

        r : AreCut bs (place + 1) count later
        r = rest (omega (arith, here))

        some : deltas bs place (suc count) ≡ delta_of bs place b ∷ later
        some = ap (λ (o : Option Batch). and_deltas (option_map (delta_of bs place) o) later) e

-- what a member whose batches begin a list gives is the list's own, however far the member has come
pub pulled : (xs ys : List Batch) (place count : ℕ) → IsPrefixOf xs ys → deltas xs place count ≡ deltas ys place (length (deltas xs place count))
pulled xs ys place zero h = refl
pulled xs ys place (suc count) h = go (slice_get xs place) refl
  where
    go : (o : Option Batch) → slice_get xs place ≡ o → deltas xs place (suc count) ≡ deltas ys place (length (deltas xs place (suc count)))
    go None e = subst (λ (ds : List Delta). ds ≡ deltas ys place (length ds)) (sym none) refl
      where
        none : deltas xs place (suc count) ≡ []
        none = ap (λ (o : Option Batch). and_deltas (option_map (delta_of xs place) o) (deltas xs (place + 1) count)) e
    go (Some b) e =
        k.same ∙ (prefix-deltas xs h.0 place (length (deltas xs place (suc count))) k.within
        ∙ ap (λ (zs : List Batch). deltas zs place (length (deltas xs place (suc count)))) h.1)
      where
        here : place < length xs
        here = slice_get_within xs place b e

        k : AreCut xs place (suc count) (deltas xs place (suc count))
        k = cut xs place (suc count) (omega (arith, here))

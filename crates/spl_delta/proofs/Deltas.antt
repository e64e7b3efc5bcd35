-- One delta, and those from a place on, as they are made.
use Rattle.std.{specs.{Prelude.{Option, Some, None, slice_get, ◌==◌}, Option.{option_map, option_and_then}}, proofs.Common.{◌≡◌, ℕ, zero, suc, ◌+◌, ◌-◌, ◌<◌}}
use Rattle.std.proofs.{Common.{List, [], ◌∷◌, ◌++◌, append-nil, append_assoc, take, refl, sym, ap, ◌∙◌, arith}, lemmas.Bool.eqb-true}
use Rattle.std.proofs.lemmas.{List.Quantifiers.position-Some, Option.{slice_get-map, slice_get-get_or}}
use Rattle.spl_command.specs.{Lists.{receipts_at, receipts_after}, declared.{batch.Batch.Batch, receipt.Receipt.Receipt}}
use Rattle.spl_scabbard.specs.Readers.{ids_of, place_of, receipts_of}
use Rattle.spl_delta.specs.{Watches.{and_deltas, receipt_changes, delta, delta_of, deltas}, declared.delta.Delta.Delta}

some-is : {A : Type 0} (x y : A) → Some x ≡ Some y → x ≡ y
some-is x y e = cc

-- what is reported of the id at its place is the delta
pub told : (bs : List Batch) (place id : ℕ) (rs : List Receipt) → ((i : ℕ) → receipts_of bs i ≡ option_and_then (receipts_at bs) (place_of bs i))
    → place_of bs id ≡ Some place → receipts_of bs id ≡ Some rs
    → delta bs place ≡ Some (record { place = place; batch = id; changes = receipt_changes rs })
told bs place id rs law at found = go (slice_get bs place) refl
  where
    here : receipts_at bs place ≡ Some rs
    here = sym (law id ∙ ap (option_and_then (receipts_at bs)) at) ∙ found

    id-there : slice_get (ids_of bs) place ≡ Some id
    id-there =
        let k = position-Some (λ j. id == j) (ids_of bs) place 0 at in
        slice_get-get_or (ids_of bs) place 0 k.0 ∙ ap (λ (j : ℕ). Some j) (sym (eqb-true id _ k.1))

    go : (o : Option Batch) → slice_get bs place ≡ o → delta bs place ≡ Some (record { place = place; batch = id; changes = receipt_changes rs })
    go None e = absurd (no (sym (ap (option_map (receipts_after (take place bs))) e) ∙ here))
      where
        no : None ≡ Some rs → ⊥
        no q = cc
    go (Some b) e =
        let made : receipts_after (take place bs) b ≡ rs = some-is _ _ (sym (ap (option_map (receipts_after (take place bs))) e) ∙ here) in
        let named : b.id ≡ id = some-is _ _ (sym (slice_get-map (λ (x : Batch). x.id) bs place ∙ ap (option_map (λ (x : Batch). x.id)) e) ∙ id-there) in
        ap (option_map (delta_of bs place)) e ∙ ap (λ (rs : List Receipt). Some (record { place = place; batch = b.id; changes = receipt_changes rs })) made
        ∙ ap (λ (i : ℕ). Some (record { place = place; batch = i; changes = receipt_changes rs })) named

-- one more
pub one-more : (bs : List Batch) (out all : List Delta) (place left : ℕ) (d : Delta) → 0 < left → delta bs place ≡ Some d
    → out ++ deltas bs place left ≡ all → (out ++ d ∷ []) ++ deltas bs (place + 1) (left - 1) ≡ all
one-more bs out all place zero d low at h = absurd (off low)
  where
    off : 0 < 0 → ⊥
    off k = omega (arith, k)
one-more bs out all place (suc left) d low at h =
    append_assoc out (d ∷ []) (deltas bs (place + 1) (suc left - 1))
    ∙ (ap (λ (n : ℕ). out ++ d ∷ deltas bs (place + 1) n) same
    ∙ (ap (λ (o : Option Delta). out ++ and_deltas o (deltas bs (place + 1) left)) (sym at) ∙ h))
  where
    same : suc left - 1 ≡ left
    same = omega arith

-- after the end there are none
pub no-more : (bs : List Batch) (out all : List Delta) (place left : ℕ) → slice_get (ids_of bs) place ≡ None → out ++ deltas bs place left ≡ all → out ≡ all
no-more bs out all place zero e h = sym (append-nil out) ∙ h
no-more bs out all place (suc left) e h = sym (append-nil out) ∙ (ap (λ (ds : List Delta). out ++ ds) (sym nothing) ∙ h)
  where
    past : (o : Option Batch) → slice_get bs place ≡ o → slice_get bs place ≡ None
    past None q = q
    past (Some b) q = absurd (off (sym (slice_get-map (λ (x : Batch). x.id) bs place ∙ ap (option_map (λ (x : Batch). x.id)) q) ∙ e))
      where
        off : Some b.id ≡ None → ⊥
        off k = cc

    nothing : deltas bs place (suc left) ≡ []
    nothing = ap (λ (o : Option Batch). and_deltas (option_map (delta_of bs place) o) (deltas bs (place + 1) left)) (past (slice_get bs place) refl) ∙ refl

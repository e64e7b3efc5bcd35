-- What a service keeps, by ids, and one batch further.
use Rattle.std.{specs.{Prelude.{fold, is_some}, Map.{lookup, keys_of}}, proofs.Common.{◌≡◌, ◌↔◌, ℕ, suc, ◌-◌, ◌^◌, ◌<◌, ◌==◌, Bool, true, false, cond, ◌||◌}}
use Rattle.std.proofs.{Common.{IsTrue, List, [], ◌∷◌, ◌++◌, length, Option, Some, None, refl, sym, ap, ◌∙◌, arith}, lemmas.List.{map-append, length-append}}
use Rattle.spl_base.specs.Booleans.{none_of}
use Rattle.spl_agree.specs.declared.reason.Reason.{Reason}
use Rattle.spl_state.specs.Entries.{Entry}
use Rattle.spl_command.specs.{Rules.broken_batch, Execution.verdict_on, Lists.{receipts_in, with_receipts, after_batch, state_of, receipts_after}}
use Rattle.spl_command.specs.declared.{batch.Batch.Batch, receipt.Receipt.Receipt}
use Rattle.spl_scabbard.specs.{Checks.{is_taken, misfit_valid, unless_broken, misfit_batch}, Readers.{ids_of, receipts_from}, Kept.{kept_from, kept_of}}
use Rattle.spl_scabbard.specs.Kept.{IsKept}

-- two tests of one fact answer the same
pub alike : {P : Type 0} (r s : Bool) → (IsTrue r ↔ P) → ((s ≡ true) ↔ P) → r ≡ s
alike true true f g = refl
alike true false f g = sym (g.1 (f.0 refl))
alike false true f g = f.1 (g.0 refl)
alike false false f g = refl

pub found_kept : (i : ℕ) (bs : List Batch) (m : List Entry) → lookup (λ k. i == k) (kept_from m bs) ≡ receipts_from m bs i
found_kept i [] m = refl
found_kept i (b ∷ bs) m = ap (cond (i == b.id) (Some (receipts_in (verdict_on m b)))) (found_kept i bs (after_batch m b))

is_some-cond : {A : Type 0} (t : Bool) (x : A) (o : Option A) (r : Bool) → is_some o ≡ r → is_some (cond t (Some x) o) ≡ (t || r)
is_some-cond true x o r e = refl
is_some-cond false x o r e = e

pub has_kept : (i : ℕ) (bs : List Batch) (m : List Entry) → is_some (lookup (λ k. i == k) (kept_from m bs)) ≡ is_taken bs i
has_kept i [] m = refl
has_kept i (b ∷ bs) m =
    is_some-cond (i == b.id) (receipts_in (verdict_on m b)) (lookup (λ k. i == k) (kept_from (after_batch m b) bs)) (is_taken bs i)
    (has_kept i bs (after_batch m b))

pub keys_kept : (bs : List Batch) (m : List Entry) → keys_of (kept_from m bs) ≡ ids_of bs
keys_kept [] m = refl
keys_kept (b ∷ bs) m = ap (λ ks. b.id ∷ ks) (keys_kept bs (after_batch m b))

pub length_kept : (bs : List Batch) (m : List Entry) → length (kept_from m bs) ≡ length bs
length_kept [] m = refl
length_kept (b ∷ bs) m = ap suc (length_kept bs (after_batch m b))

state_more : (bs : List Batch) (m : List Entry) (b : Batch) → fold after_batch m (bs ++ b ∷ []) ≡ after_batch (fold after_batch m bs) b
state_more [] m b = refl
state_more (c ∷ bs) m b = state_more bs (after_batch m c) b

kept_more : (bs : List Batch) (m : List Entry) (b : Batch)
    → kept_from m (bs ++ b ∷ []) ≡ kept_from m bs ++ (b.id, receipts_in (verdict_on (fold after_batch m bs) b)) ∷ []
kept_more [] m b = refl
kept_more (c ∷ bs) m b = ap (λ es. (c.id, receipts_in (verdict_on m c)) ∷ es) (kept_more bs (after_batch m c) b)

unbroken : (o : Option ℕ) (next : Option Reason) → unless_broken o next ≡ None → (o ≡ None) × (next ≡ None)
unbroken None next e = (refl, e)
unbroken (Some rule) next e = absurd cc

untaken : (t : Bool) (r : Reason) (next : Option Reason) → cond t (Some r) next ≡ None → t ≡ false
untaken true r next e = absurd cc
untaken false r next e = refl

pub unbroken_where_good : (bs : List Batch) (b : Batch) → misfit_batch bs b ≡ None → broken_batch b ≡ None
unbroken_where_good bs b e = (unbroken (broken_batch b) (misfit_valid bs b) e).0

-- the id of a batch that can follow is a new one
pub new_where_good : (bs : List Batch) (b : Batch) (kept : List (ℕ × List Receipt)) → misfit_batch bs b ≡ None → kept ≡ kept_of bs
    → lookup (λ k. b.id == k) kept ≡ None
new_where_good bs b kept e k =
    let free : is_taken bs b.id ≡ false = untaken (is_taken bs b.id) _ _ (unbroken (broken_batch b) (misfit_valid bs b) e).1 in
    ap (lookup (λ j. b.id == j)) k ∙ none_of (lookup (λ j. b.id == j) (kept_of bs)) (has_kept b.id bs [] ∙ free)

-- one batch further
pub keeps : (bs all : List Batch) (b : Batch) (ids ids2 : List ℕ) (kept kept2 : List (ℕ × List Receipt)) (m m2 : List Entry) (rs : List Receipt)
    → ids ≡ ids_of bs → kept ≡ kept_of bs → m ≡ state_of bs → length bs < 2 ^ 32 - 1
    → all ≡ bs ++ b ∷ [] → ids2 ≡ ids ++ b.id ∷ [] → kept2 ≡ kept ++ (b.id, rs) ∷ [] → rs ≡ receipts_after bs b → m2 ≡ with_receipts m rs
    → IsKept all ids2 kept2 m2
keeps bs all b ids ids2 kept kept2 m m2 rs i k s room a i2 k2 r s2 = record {
  ids_are = i2 ∙ ap (λ xs. xs ++ b.id ∷ []) i ∙ sym (map-append (λ (c : Batch). c.id) bs (b ∷ [])) ∙ ap ids_of (sym a);
  kept_are = k2 ∙ ap (λ xs. xs ++ (b.id, rs) ∷ []) k ∙ ap (λ x. kept_of bs ++ (b.id, x) ∷ []) r ∙ sym (kept_more bs [] b) ∙ ap kept_of (sym a);
  state_is = s2 ∙ ap (λ x. with_receipts x rs) s ∙ ap (with_receipts (state_of bs)) r ∙ sym (state_more bs [] b) ∙ ap state_of (sym a);
  few = omega (arith, ap length a, length-append bs (b ∷ []));
}

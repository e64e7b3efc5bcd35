-- A beginning of a list, and what stands at a place of a list of batches.
use Rattle.std.{specs.{Prelude.{Some, ◌==◌, fold, get_or, slice_get}, Option.option_map}, proofs.Common.{◌≡◌, ℕ, zero, suc, ◌<◌, true, false, List, [], ◌∷◌}}
use Rattle.std.proofs.{Common.{length, take, refl, sym, ap, ◌∙◌, arith}, Math.Seq.take-append_seam, lemmas.List.Quantifiers.position-Some}
use Rattle.spl_agree.{specs.{Member.values, World.IsPrefixOf}, proofs.Tests.length-values}
use Rattle.spl_state.specs.Entries.{Entry}
use Rattle.spl_command.specs.{Execution.verdict_on, Lists.{receipts_in, after_batch, receipts_at}, declared.batch.Batch.Batch}
use Rattle.spl_scabbard.specs.Readers.{ids_of, place_of, receipts_from, receipts_of}

-- the beginning that a history is
pub take-prefix : {V : Type 0} (h : List (ℕ × V)) (list : List V) → IsPrefixOf (values h) list → take (length h) list ≡ values h
take-prefix {V} h list p =
    ap (λ (k : ℕ). take k list) (sym (length-values h))
    ∙ (ap (λ (xs : List V). take (length (values h)) xs) (sym p.1) ∙ take-append_seam (values h) p.0)

-- the batch of an id runs on the state of the batches before it
receipts-walk : (m : List Entry) (bs : List Batch) (i p : ℕ) → p < length (ids_of bs) → (i == get_or (ids_of bs) p 0) ≡ true
    → ((k : ℕ) → k < p → (i == get_or (ids_of bs) k 0) ≡ false)
    → receipts_from m bs i ≡ option_map (λ (b : Batch). receipts_in (verdict_on (fold after_batch m (take p bs)) b)) (slice_get bs p)
receipts-walk m [] i p below here before = absurd (omega (arith, below))
receipts-walk m (b ∷ bs) i zero below here before = let hit : (i == b.id) ≡ true = here in rw hit refl
receipts-walk m (b ∷ bs) i (suc p) below here before =
    let other : (i == b.id) ≡ false = before 0 (omega arith) in
    rw other (receipts-walk (after_batch m b) bs i p (omega (arith, below)) here (λ k less. before (suc k) (omega (arith, less))))

-- so the receipts of an id are those of its place
pub receipts-placed : (bs : List Batch) (i place : ℕ) → place_of bs i ≡ Some place → receipts_of bs i ≡ receipts_at bs place
receipts-placed bs i place h =
    let k : (place < length (ids_of bs)) × ((i == get_or (ids_of bs) place 0) ≡ true) × ((j : ℕ) → j < place → (i == get_or (ids_of bs) j 0) ≡ false) =
    position-Some (λ j. i == j) (ids_of bs) place 0 h in
    receipts-walk [] bs i place k.0 k.1 k.2

-- What a service keeps of its batches.
use Rattle.std.specs.Prelude.{◌≡◌, ◌<◌, ◌^◌, ℕ, List, [], ◌∷◌, length}
use Rattle.spl_state.specs.Entries.{Entry}
use Rattle.spl_command.specs.{Execution.verdict_on, Lists.{receipts_in, after_batch, state_of}, declared.{batch.Batch.Batch, receipt.Receipt.Receipt}}
use Rattle.spl_scabbard.specs.Readers.{ids_of}

-- the id of each batch with its receipts
abbrev pub kept_from : List Entry → List Batch → List (ℕ × List Receipt)
kept_from m [] = []
kept_from m (b ∷ bs) = (b.id, receipts_in (verdict_on m b)) ∷ kept_from (after_batch m b) bs

abbrev pub kept_of : List Batch → List (ℕ × List Receipt)
kept_of bs = kept_from [] bs

pub record IsKept (batches : List Batch) (ids : List ℕ) (kept : List (ℕ × List Receipt)) (state : List Entry) : Type 0 where
  pub ids_are : ids ≡ ids_of batches
  pub kept_are : kept ≡ kept_of batches
  pub state_is : state ≡ state_of batches
  pub few : length batches < 2 ^ 32

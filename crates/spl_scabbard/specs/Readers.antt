-- What is reported of a list of batches (docs/RULES.md, Batches).
use Rattle.std.specs.Prelude.{ℕ, ◌==◌, List, [], ◌∷◌, map, position, if◌then◌else◌, Option, Some, None}
use Rattle.spl_state.specs.Entries.{Entry}
use Rattle.spl_command.specs.{Execution.verdict_on, Lists.{receipts_in, after_batch}, declared.{batch.Batch.Batch, receipt.Receipt.Receipt}}

abbrev pub ids_of : List Batch → List ℕ
ids_of bs = map (λ b. b.id) bs

-- the place of the batch of an id, from 0
abbrev pub place_of : List Batch → ℕ → Option ℕ
place_of bs i = position (λ k. i == k) (ids_of bs)

-- the receipts of the batch of an id, where the first batch runs on this state
abbrev pub receipts_from : List Entry → List Batch → ℕ → Option (List Receipt)
receipts_from m [] i = None
receipts_from m (b ∷ bs) i = if i == b.id then Some (receipts_in (verdict_on m b)) else receipts_from (after_batch m b) bs i

abbrev pub receipts_of : List Batch → ℕ → Option (List Receipt)
receipts_of bs i = receipts_from [] bs i

-- What a list of batches leaves: the state, and the receipts of each (docs/RULES.md, Batches).
use Rattle.std.specs.{Prelude.{ℕ, List, [], fold, take, Option, slice_get}, Option.option_map, Map.remove_entry, BTreeMap.{insert_entry, is_at}}
use Rattle.spl_state.specs.Entries.{Entry, address_cmp}
use Rattle.spl_command.specs.{Execution.verdict_on, declared.{batch.Batch.Batch, receipt.{Receipt.Receipt, StateChange.{StateChange, TheVariants.Set}}}}
use Rattle.spl_command.specs.declared.receipt.{StateChange.TheVariants.Delete, Verdict.{Verdict, TheVariants.{Valid, Invalid}}}

abbrev pub with_change : List Entry → StateChange → List Entry
with_change m (Set a v) = insert_entry address_cmp m a v
with_change m (Delete a) = remove_entry (is_at (address_cmp a)) m

abbrev pub with_receipt : List Entry → Receipt → List Entry
with_receipt m r = fold with_change m r.changes

-- the state with the changes of receipts
abbrev pub with_receipts : List Entry → List Receipt → List Entry
with_receipts m rs = fold with_receipt m rs

-- an invalid batch changes nothing and has no receipts
abbrev pub receipts_in : Verdict → List Receipt
receipts_in (Valid rs) = rs
receipts_in (Invalid t cause) = []

abbrev pub after_verdict : List Entry → Verdict → List Entry
after_verdict m v = with_receipts m (receipts_in v)

abbrev pub after_batch : List Entry → Batch → List Entry
after_batch m b = after_verdict m (verdict_on m b)

-- the state of a list of batches
abbrev pub state_of : List Batch → List Entry
state_of bs = fold after_batch [] bs

-- the receipts of a batch after others
abbrev pub receipts_after : List Batch → Batch → List Receipt
receipts_after bs b = receipts_in (verdict_on (state_of bs) b)

-- the receipts of the batch at a place
abbrev pub receipts_at : List Batch → ℕ → Option (List Receipt)
receipts_at bs place = option_map (receipts_after (take place bs)) (slice_get bs place)

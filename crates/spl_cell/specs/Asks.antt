-- What a question about the committed batches does at an active circuit.
use Rattle.std.specs.{Prelude.{List, []}, Option.unwrap_or, Map.lookup, BTreeMap.is_at}
use Rattle.spl_agree.specs.Member.{Member}
use Rattle.spl_state.specs.{Entries.{Entry, address_cmp}, declared.address.Address.Address}
use Rattle.spl_wire.specs.declared.answer.Entry.{Entry as Told}
use Rattle.spl_command.specs.declared.batch.Batch.{Batch}
use Rattle.spl_cell_rules.specs.{Cells.{Deed, Tells}, Batches.{root_told, history_told, value_told, listed_entries, status_told, receipt_told}}
use Rattle.spl_cell.specs.declared.batches.Question.{Question}
use Rattle.spl_cell.specs.declared.batches.Question.TheVariants as question

abbrev pub asks : Member Batch → Question → Deed
asks b question.Root = Tells (root_told b)
asks b question.History = Tells (history_told b)
asks b (question.Value address) = Tells (value_told b address)
asks b (question.Listed prefix) = Tells (listed_entries b prefix)
asks b (question.Status i) = status_told b i
asks b (question.Receipt i) = receipt_told b i

-- the entry of a state at an address that has a value
abbrev pub told_at : List Entry → Address → Told
told_at es a = record { address = a; value = unwrap_or (lookup (is_at (address_cmp a)) es) [] }

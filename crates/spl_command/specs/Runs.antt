-- Runs without a cause: what they leave (docs/RULES.md, Batches).
use Rattle.std.specs.{Prelude.{ℕ, List, [], ◌∷◌, if◌then◌else◌, Option, Some, None, fold}, BTreeMap.is_at}
use Rattle.spl_state.specs.{Entries.{Entry, address_cmp}, declared.address.Address.Address}
use Rattle.spl_command.specs.{Execution.{Values, values_of, values_after, begun, ran}, declared.batch.Command.{Command, TheVariants.{Set, Delete}}}
use Rattle.spl_command.specs.declared.{batch.Transaction.Transaction, receipt.Receipt.Receipt}

-- the value at an address after a command
abbrev pub value_after : Address → Option (List ℕ) → Command → Option (List ℕ)
value_after a v (Set b w) = if is_at (address_cmp a) b then Some w else v
value_after a v (Delete b) = if is_at (address_cmp a) b then None else v
value_after a v _ = v

-- the state after transactions
abbrev pub values_after_all : Values → List Transaction → Values
values_after_all m ts = fold (λ m t. fold values_after m t.commands) m ts

-- the state after transactions and some commands of the next
abbrev pub values_before : List Entry → List Transaction → List Command → Values
values_before m ts cs = fold values_after (values_after_all (values_of m) ts) cs

-- the receipt of commands
abbrev pub receipt_of : Values → List Command → Receipt
receipt_of m cs = (fold ran (begun m) cs).receipt

abbrev pub receipts_of : Values → List Transaction → List Receipt
receipts_of m [] = []
receipts_of m (t ∷ ts) = receipt_of m t.commands ∷ receipts_of (fold values_after m t.commands) ts

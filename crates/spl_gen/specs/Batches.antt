-- The batches of a generated schedule (docs/RULES.md, Generated schedules).
use Rattle.std.specs.{Prelude.{ℕ, ◌%◌, [], ◌∷◌, ◌++◌, replicate}, Int.{w32, to_be_bytes}}
use Rattle.spl_state.specs.declared.address.Address.{Address}
use Rattle.spl_command.specs.declared.batch.{Batch.Batch, Command.TheVariants.Set, Transaction.Transaction}

-- 34 zero bytes, and one that tells 16 addresses apart
abbrev pub generated_address : ℕ → Address
generated_address d = record { 0 = replicate 34 0 ++ (d % 16) ∷ [] }

-- writes one number at one address
abbrev pub write : ℕ → ℕ → Transaction
write place value = record { inputs = []; outputs = [] ∷ []; commands = Set (generated_address place) (to_be_bytes w32 value) ∷ [] }

abbrev pub generated_batch : ℕ → ℕ → ℕ → Batch
generated_batch k place value = record { id = k; transactions = write place value ∷ [] }

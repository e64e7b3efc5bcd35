-- The six rules of a batch (docs/RULES.md, Batches).
use Rattle.std.specs.Prelude.{ℕ, Bool, nat_le, List, [], ◌∷◌, ◌++◌, length, Option}
use Rattle.spl_command.specs.{Forms.batch, declared.{batch.Batch.Batch, rules.TheConstants.LONGEST_BATCH}}
pub use Rattle.spl_base.specs.Rules.{first_false}
pub use Rattle.spl_command.specs.TransactionRules.{is_short, has_short_data, has_few_prefixes, has_few_commands, all_short, rules_but_length}

-- the length of the byte form
abbrev pub size_of : Batch → ℕ
size_of b = length (batch.spell b)

-- the rules in their order, the first of them rule 1
abbrev pub rules_of : Batch → List Bool
rules_of b = rules_but_length b.transactions ++ nat_le (size_of b) LONGEST_BATCH ∷ []

-- the least rule that is broken
abbrev pub broken_batch : Batch → Option ℕ
broken_batch b = first_false 1 (rules_of b)

-- The byte form of batches (docs/RULES.md, Byte forms).
use Rattle.std.specs.{Prelude.{◌^◌, refl}, Int.w64}
use Rattle.spl_base.specs.{Form.{Form, IsExact, number, ◌&◌, via}, FormLaws.{wide64, exact_number, exact_and, exact_via}}
use Rattle.spl_command.specs.declared.batch.Batch.{Batch}
pub use Rattle.spl_command.specs.TransactionForms.{address, label, piece, prefix, prefixes, commands, command_fields, command, transaction, transactions}
pub use Rattle.spl_command.specs.TransactionForms.{exact_address, exact_label, exact_piece, exact_prefix, exact_prefixes, exact_command, exact_transaction}
pub use Rattle.spl_command.specs.TransactionForms.{exact_transactions}

-- id and transactions
abbrev pub batch : Form Batch
batch = via (λ x. record { id = x.0; transactions = x.1 }) (λ b. (b.id, b.transactions)) (number w64 (2 ^ 64) & transactions)

-- it is read back and reads nothing else
pub exact_batch : IsExact batch
exact_batch = exact_via _ _ _ (λ _. refl) (λ _. refl) (exact_and _ _ (exact_number w64 (2 ^ 64) wide64) exact_transactions)

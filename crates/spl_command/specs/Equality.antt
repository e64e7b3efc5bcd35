-- Equality of batches (docs/RULES.md, Batches).
use Rattle.std.specs.{Prelude.{Bool, true, false, ◌&&◌, ◌==◌, List, [], ◌∷◌}, Str.bytes_eq}
use Rattle.spl_state.specs.declared.address.Address.{Address}
use Rattle.spl_command.specs.declared.batch.{Batch.Batch, Command.{Command, TheVariants.{Set, Get, Delete, Event, Data, Invalid, Error}}}
use Rattle.spl_command.specs.declared.batch.Transaction.{Transaction}

abbrev pub same_address : Address → Address → Bool
same_address a b = bytes_eq a.0 b.0

abbrev pub same_command : Command → Command → Bool
same_command (Set a v) (Set b w) = same_address a b && bytes_eq v w
same_command (Get a) (Get b) = same_address a b
same_command (Delete a) (Delete b) = same_address a b
same_command (Event k v) (Event l w) = bytes_eq k l && bytes_eq v w
same_command (Data v) (Data w) = bytes_eq v w
same_command (Invalid k) (Invalid l) = bytes_eq k l
same_command (Error k) (Error l) = bytes_eq k l
same_command c d = false

-- item by item
abbrev pub same_list : {A : Type 0} → (A → A → Bool) → List A → List A → Bool
same_list same [] [] = true
same_list same (x ∷ xs) (y ∷ ys) = same x y && same_list same xs ys
same_list same xs ys = false

abbrev pub same_transaction : Transaction → Transaction → Bool
same_transaction t u = same_list bytes_eq t.inputs u.inputs && (same_list bytes_eq t.outputs u.outputs && same_list same_command t.commands u.commands)

abbrev pub same_batch : Batch → Batch → Bool
same_batch b c = b.id == c.id && same_list same_transaction b.transactions c.transactions

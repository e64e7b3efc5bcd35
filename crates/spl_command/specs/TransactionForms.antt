-- The byte forms of commands and transactions (docs/RULES.md, Byte forms).
use Rattle.std.{specs.{Prelude.{ℕ, ◌^◌, Bool, true, List, [], ◌∷◌, refl}, Int.w8}, proofs.Common.lit<}
use Rattle.spl_base.specs.{Ids.is_label, Form.{Form, IsExact, raw, sized, text, string, ◌&◌, via, list_of, Case, case, Filled, filled, sum_of}}
use Rattle.spl_base.specs.{FormLaws.{wide8, exact_raw, exact_sized, exact_text, exact_string, exact_and, exact_via, exact_list}, SumLaws.{◌also◌, IsMade}}
use Rattle.spl_base.specs.{SumLaws.exact_sum, declared.piece.TheConstants.LONGEST_PIECE}
use Rattle.spl_state.specs.declared.address.Address.{Address}
use Rattle.spl_command.specs.declared.batch.{Command.{Command, TheVariants.{Set, Get, Delete, Event, Data, Invalid, Error}}, TheConstants.MOST_ITEMS}
use Rattle.spl_command.specs.declared.batch.Transaction.{Transaction}

abbrev any_bytes : List ℕ → Bool
any_bytes xs = true

-- the 35 bytes of an address
abbrev pub address : Form Address
address = via (λ xs. record { 0 = xs }) (λ a. a.0) (raw 35 any_bytes)

abbrev pub label : Form (List ℕ)
label = text 128 is_label

-- a byte string
abbrev pub piece : Form (List ℕ)
piece = string LONGEST_PIECE

-- one byte of length, at most 35, and that many bytes
abbrev pub prefix : Form (List ℕ)
prefix = sized w8 35 any_bytes

abbrev pub prefixes : Form (List (List ℕ))
prefixes = list_of MOST_ITEMS prefix

abbrev pub commands : List (Case Command)
commands =
    case 1 (address & piece) (λ x. Set x.0 x.1)
    ∷ case 2 address (λ a. Get a)
    ∷ case 3 address (λ a. Delete a)
    ∷ case 4 (label & piece) (λ x. Event x.0 x.1)
    ∷ case 5 piece (λ v. Data v)
    ∷ case 6 label (λ k. Invalid k)
    ∷ case 7 label (λ k. Error k)
    ∷ []

abbrev pub command_fields : Command → Filled commands
command_fields (Set a v) = filled 1 (a, v)
command_fields (Get a) = filled 2 a
command_fields (Delete a) = filled 3 a
command_fields (Event k v) = filled 4 (k, v)
command_fields (Data v) = filled 5 v
command_fields (Invalid k) = filled 6 k
command_fields (Error k) = filled 7 k

abbrev pub command : Form Command
command = sum_of commands command_fields

-- inputs, outputs and commands
abbrev pub transaction : Form Transaction
transaction =
    via (λ x. record { inputs = x.0; outputs = x.1.0; commands = x.1.1 })
    (λ t. (t.inputs, (t.outputs, t.commands)))
    (prefixes & prefixes & list_of MOST_ITEMS command)

abbrev pub transactions : Form (List Transaction)
transactions = list_of MOST_ITEMS transaction

-- ---- each of them is read back and reads nothing else

pub exact_address : IsExact address
exact_address = exact_via _ _ _ (λ _. refl) (λ _. refl) (exact_raw 35 any_bytes)

pub exact_label : IsExact label
exact_label = exact_text 128 is_label (lit< tt)

pub exact_piece : IsExact piece
exact_piece = exact_string LONGEST_PIECE (lit< tt)

pub exact_prefix : IsExact prefix
exact_prefix = exact_sized w8 (2 ^ 8) wide8 35 any_bytes (lit< tt)

pub exact_prefixes : IsExact prefixes
exact_prefixes = exact_list _ exact_prefix MOST_ITEMS (lit< tt)

command_made : (k : Command) → IsMade commands command_fields k
command_made (Set a v) = record { value = refl; small = refl }
command_made k = record { value = refl; small = refl }

pub exact_command : IsExact command
exact_command = exact_sum commands command_fields command_made (
    (exact_and _ _ exact_address exact_piece, λ _. refl)
    also (exact_address, λ _. refl)
    also (exact_address, λ _. refl)
    also (exact_and _ _ exact_label exact_piece, λ _. refl)
    also (exact_piece, λ _. refl)
    also (exact_label, λ _. refl)
    also (exact_label, λ _. refl)
    also tt)

pub exact_transaction : IsExact transaction
exact_transaction = exact_via _ _ _ (λ _. refl) (λ _. refl)
    (exact_and _ _ exact_prefixes (exact_and _ _ exact_prefixes (exact_list _ exact_command MOST_ITEMS (lit< tt))))

pub exact_transactions : IsExact transactions
exact_transactions = exact_list _ exact_transaction MOST_ITEMS (lit< tt)

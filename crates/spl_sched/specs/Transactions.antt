-- The transactions of a batch, as words of a schedule (docs/RULES.md, Schedules).
use Rattle.std.specs.Prelude.{ℕ, Bool, true, not, ◌&&◌, ◌==◌, nat_le, nat_lt, List, [], ◌∷◌, ◌++◌, length, map, Option, Some, None, ◌≡◌, Result, Ok, Err}
use Rattle.std.specs.{Prelude.{if◌then◌else◌, codes}, List.{list_all, flat_map}, Str.bytes_eq}
use Rattle.spl_base.specs.Ids.{is_graphic}
use Rattle.spl_state.specs.declared.address.Address.{Address}
use Rattle.spl_command.specs.declared.batch.{Command.Command, Transaction.Transaction}
use Rattle.spl_command.specs.declared.batch.Command.TheVariants as command
use Rattle.spl_sched.specs.declared.{command.TheConstants.LONGEST_TAG, transaction.Part.Part}
use Rattle.spl_sched.specs.declared.transaction.Part.TheVariants as part
use Rattle.spl_words.specs.Words.{Fails, Word, Words, Keyword, text, hex_string, joined, end, ◌&◌, ◌>>=◌, meaning, that, keyword, read_keyword}
use Rattle.spl_words.specs.declared.fault.LineFault.{LineFault}

-- ---- which values are within their bounds

abbrev pub is_bytes : List ℕ → Bool
is_bytes bs = list_all (λ b. nat_lt b 256) bs

abbrev pub is_address : Address → Bool
is_address a = length a.0 == 35 && is_bytes a.0

abbrev pub is_prefix : List ℕ → Bool
is_prefix p = nat_le (length p) 35 && is_bytes p

-- a graphic byte other than =
abbrev pub is_tag_byte : ℕ → Bool
is_tag_byte b = is_graphic b && not (b == 61)

-- at least one of them, and no more than a tag has
abbrev pub is_tag : List ℕ → Bool
is_tag xs = nat_le 1 (length xs) && nat_le (length xs) LONGEST_TAG && list_all is_tag_byte xs

abbrev pub is_command : Command → Bool
is_command (command.Set a value) = is_address a && is_bytes value
is_command (command.Get a) = is_address a
is_command (command.Delete a) = is_address a
is_command (command.Event kind value) = is_tag kind && is_bytes value
is_command (command.Data value) = is_bytes value
is_command (command.Invalid why) = is_tag why
is_command (command.Error why) = is_tag why

abbrev pub is_transaction : Transaction → Bool
is_transaction t = list_all is_prefix t.inputs && list_all is_prefix t.outputs && list_all is_command t.commands

-- ---- single words

-- 70 digits
abbrev pub address_word : Word Address
address_word = meaning (λ _. true) (λ bs. record { 0 = bs }) (λ a. a.0) (that (λ bs. length bs == 35) hex_string)

-- 0 to 70 digits
abbrev pub prefix_word : Word (List ℕ)
prefix_word = that (λ bs. nat_le (length bs) 35) hex_string

-- - for none, or 2 to 70 digits
abbrev pub dashed_text : List ℕ → List ℕ
dashed_text [] = codes "-"
dashed_text (b ∷ bs) = prefix_word.spell (b ∷ bs)

abbrev pub read_dashed : List ℕ → Option (List ℕ)
read_dashed xs = if bytes_eq xs (codes "-") then Some [] else (that (λ bs. nat_le 1 (length bs)) prefix_word).read xs

abbrev pub dashed : Word (List ℕ)
dashed = record { spell = dashed_text; read = read_dashed; fits = is_prefix }

-- TEXT
abbrev pub tag : Word (List ℕ)
tag = text is_tag

-- ADDRESS=HEX
abbrev pub entry : Word (Address × (List ℕ × Unit {0}))
entry = joined 61 (address_word & hex_string & end)

-- TYPE=HEX
abbrev pub told_word : Word (List ℕ × (List ℕ × Unit {0}))
told_word = joined 61 (tag & hex_string & end)

abbrev pub command_text : Command → List ℕ
command_text (command.Set a value) = codes "set:" ++ entry.spell (a, (value, tt))
command_text (command.Get a) = codes "get:" ++ address_word.spell a
command_text (command.Delete a) = codes "del:" ++ address_word.spell a
command_text (command.Event kind value) = codes "event:" ++ told_word.spell (kind, (value, tt))
command_text (command.Data value) = codes "data:" ++ hex_string.spell value
command_text (command.Invalid why) = codes "invalid:" ++ why
command_text (command.Error why) = codes "error:" ++ why

abbrev pub command_keywords : List (Keyword Command)
command_keywords =
    keyword (codes "set:") entry (λ x. command.Set x.0 x.1.0)
    ∷ keyword (codes "get:") address_word command.Get
    ∷ keyword (codes "del:") address_word command.Delete
    ∷ keyword (codes "event:") told_word (λ x. command.Event x.0 x.1.0)
    ∷ keyword (codes "data:") hex_string command.Data
    ∷ keyword (codes "invalid:") tag command.Invalid
    ∷ keyword (codes "error:") tag command.Error
    ∷ []

abbrev pub command_word : Word Command
command_word = record { spell = command_text; read = read_keyword command_keywords None; fits = is_command }

abbrev pub input_text : List ℕ → List ℕ
input_text p = codes "in:" ++ prefix_word.spell p

abbrev pub output_text : List ℕ → List ℕ
output_text p = codes "out:" ++ prefix_word.spell p

-- what one word of a transaction says
abbrev pub part_keywords : List (Keyword Part)
part_keywords = keyword (codes "in:") prefix_word part.Input ∷ keyword (codes "out:") prefix_word part.Output ∷ []

abbrev pub read_part : List ℕ → Option Part
read_part xs = read_keyword part_keywords (command_word.read xs >>= λ c. Some (part.Command c)) xs

-- ---- transactions

-- tx, its inputs, its outputs and its commands
abbrev pub words_of_transaction : Transaction → List (List ℕ)
words_of_transaction t = codes "tx" ∷ (map input_text t.inputs ++ (map output_text t.outputs ++ map command_text t.commands))

abbrev pub words_of_transactions : List Transaction → List (List ℕ)
words_of_transactions ts = flat_map words_of_transaction ts

abbrev pub no_parts : Transaction
no_parts = record { inputs = []; outputs = []; commands = [] }

-- a transaction with one part more: an input comes before each output, and both before each command
abbrev pub with_part : Transaction → Part → Option Transaction
with_part t (part.Input p) = if length t.outputs == 0 && length t.commands == 0 then Some (record t { inputs = t.inputs ++ p ∷ [] }) else None
with_part t (part.Output p) = if length t.commands == 0 then Some (record t { outputs = t.outputs ++ p ∷ [] }) else None
with_part t (part.Command c) = Some (record t { commands = t.commands ++ c ∷ [] })

-- A call makes of a value what is found, unless memory ran out.
abbrev pub Becomes : {A : Type 0} → Result (Unit {0}) LineFault → A → Option A → Type 0
Becomes (Ok _) new found = found ≡ Some new
Becomes (Err e) new found = Fails e found

abbrev pub with_word : Transaction → List ℕ → Option Transaction
with_word t word = read_part word >>= λ p. with_part t p

-- this transaction with the words that follow, and the transactions after it
abbrev pub read_open : Transaction → List (List ℕ) → Option (List Transaction)
read_open t [] = Some (t ∷ [])
read_open t (word ∷ words) =
    if bytes_eq word (codes "tx") then (read_open no_parts words >>= λ ts. Some (t ∷ ts)) else (with_word t word >>= λ u. read_open u words)

abbrev pub read_transactions : List (List ℕ) → Option (List Transaction)
read_transactions [] = Some []
read_transactions (word ∷ words) = if bytes_eq word (codes "tx") then read_open no_parts words else None

abbrev pub transactions_words : Words (List Transaction)
transactions_words = record { spell = words_of_transactions; read = read_transactions; fits = list_all is_transaction }

-- What the rules of a batch test of its transactions (docs/RULES.md, Batches).
use Rattle.std.specs.{Prelude.{ℕ, Bool, true, ◌&&◌, nat_le, List, [], ◌∷◌, length}, List.list_all}
use Rattle.spl_command.specs.declared.batch.{Command.{Command, TheVariants.{Set, Event, Data}}, Transaction.Transaction}
use Rattle.spl_command.specs.declared.rules.TheConstants.{MOST_TRANSACTIONS, MOST_COMMANDS, MOST_PREFIXES, LONGEST_DATA}

abbrev pub is_short : List ℕ → Bool
is_short v = nat_le (length v) LONGEST_DATA

-- a value, event data and receipt data are short
abbrev pub has_short_data : Command → Bool
has_short_data (Set a v) = is_short v
has_short_data (Event k v) = is_short v
has_short_data (Data v) = is_short v
has_short_data _ = true

abbrev pub has_few_prefixes : Transaction → Bool
has_few_prefixes t = nat_le (length t.inputs) MOST_PREFIXES && nat_le (length t.outputs) MOST_PREFIXES

abbrev pub has_few_commands : Transaction → Bool
has_few_commands t = nat_le 1 (length t.commands) && nat_le (length t.commands) MOST_COMMANDS

abbrev pub all_short : Transaction → Bool
all_short t = list_all has_short_data t.commands

-- the rules of a batch with these transactions but the last, which is about its length
abbrev pub rules_but_length : List Transaction → List Bool
rules_but_length ts =
    nat_le 1 (length ts)
    ∷ nat_le (length ts) MOST_TRANSACTIONS
    ∷ list_all has_few_prefixes ts
    ∷ list_all has_few_commands ts
    ∷ list_all all_short ts
    ∷ []

-- Why a batch is invalid, by its transactions (docs/RULES.md, Batches).
use Rattle.std.specs.{Prelude.{ℕ, ◌+◌, Bool, List, [], ◌∷◌, if◌then◌else◌, nat_eq, Option, Some, None, is_some}, List.{list_any, starts_with}}
use Rattle.spl_state.specs.declared.address.Address.{Address}
use Rattle.spl_command.specs.declared.batch.{Command.{Command, TheVariants.{Set, Get, Delete, Invalid, Error}}, Transaction.Transaction}
use Rattle.spl_command.specs.declared.cause.TheConstants.{WRITE_OUTSIDE_OUTPUTS, READ_OUTSIDE_INPUTS, INVALID_COMMAND, ERROR_COMMAND}

-- one of the prefixes begins the address
abbrev pub covered : List (List ℕ) → Address → Bool
covered ps a = list_any (λ p. starts_with nat_eq a.0 p) ps

-- why a command makes its batch invalid, if it does
abbrev pub cause_in : Transaction → Command → Option ℕ
cause_in t (Set a v) = if covered t.outputs a then None else Some WRITE_OUTSIDE_OUTPUTS
cause_in t (Get a) = if covered t.inputs a then None else Some READ_OUTSIDE_INPUTS
cause_in t (Delete a) = if covered t.outputs a then None else Some WRITE_OUTSIDE_OUTPUTS
cause_in t (Invalid k) = Some INVALID_COMMAND
cause_in t (Error k) = Some ERROR_COMMAND
cause_in t _ = None

-- the first cause among commands
abbrev pub cause_among : Transaction → List Command → Option ℕ
cause_among t [] = None
cause_among t (c ∷ cs) = if is_some (cause_in t c) then cause_in t c else cause_among t cs

abbrev pub numbered : ℕ → Option (ℕ × ℕ) → Option ℕ → Option (ℕ × ℕ)
numbered n later None = later
numbered n later (Some cause) = Some (n, cause)

abbrev pub cause_from : ℕ → List Transaction → Option (ℕ × ℕ)
cause_from n [] = None
cause_from n (t ∷ ts) = numbered n (cause_from (n + 1) ts) (cause_among t t.commands)

-- What is found of the transactions of a batch.
use Rattle.std.specs.Prelude.{◌≡◌, ◌++◌, ◌+◌, nat_le, length, ℕ, [], ◌∷◌, List, IsTrue, Option, Some, None}
use Rattle.spl_base.specs.Rules.{first_false}
use Rattle.spl_command.specs.{TransactionForms.transactions, TransactionRules.rules_but_length, Causes.cause_from, declared.batch.Transaction.Transaction}
use Rattle.spl_command.specs.declared.{checked.Findings.{Findings, TheVariants.{Broken, Sound, Unsought}}, rules.TheConstants.LONGEST_BATCH}

-- the least rule that a batch of them breaks; eight bytes of its form are its id
abbrev pub broken_among : List Transaction → Option ℕ
broken_among ts = first_false 1 (rules_but_length ts ++ nat_le (8 + length (transactions.spell ts)) LONGEST_BATCH ∷ [])

-- it breaks none, and these are the byte form of the list and the first cause
pub record IsSound (ts : List Transaction) (bytes : List ℕ) (found : Option (ℕ × ℕ)) : Type 0 where
  pub lawful : broken_among ts ≡ None
  pub form : bytes ≡ transactions.spell ts
  pub fits : IsTrue (transactions.fits ts)
  pub cause : found ≡ cause_from 1 ts

abbrev pub AreFindings : List Transaction → Findings → Type 0
AreFindings ts Unsought = Unit {0}
AreFindings ts (Broken rule) = broken_among ts ≡ Some rule
AreFindings ts (Sound form cause) = IsSound ts form cause

-- What is found of a definition.
use Rattle.std.specs.Prelude.{◌≡◌, ℕ, List, IsTrue, Some, None}
use Rattle.spl_circuit.specs.{DefinitionForms.definition, Rules.broken, declared.checked.Findings.{Findings, TheVariants.{Broken, Sound, Unsought}}}
use Rattle.spl_circuit.specs.declared.definition.Definition.{Definition}

-- it breaks no rule, and this is its byte form
pub record IsSound (d : Definition) (bytes : List ℕ) : Type 0 where
  pub lawful : broken d ≡ None
  pub form : bytes ≡ definition.spell d
  pub fits : IsTrue (definition.fits d)

abbrev pub AreFindings : Definition → Findings → Type 0
AreFindings d Unsought = Unit {0}
AreFindings d (Broken rule) = broken d ≡ Some rule
AreFindings d (Sound form) = IsSound d form

-- What a taker of batches' changes keeps (docs/RULES.md, Subscriptions).
use Rattle.std.specs.Prelude.{ℕ}
use Rattle.spl_circuit.specs.declared.definition.Definition.{Definition}

-- of which circuit it takes, and the place of what it takes next
pub record Taking : Type 0 where
  pub definition : Definition
  pub next : ℕ

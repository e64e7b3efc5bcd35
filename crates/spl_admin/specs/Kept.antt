-- An act ledger as its callers see it (docs/RULES.md, Lifecycle).
use Rattle.std.specs.{Prelude.List, List.filter}
use Rattle.spl_circuit.specs.{Nodes.{Node, has_node}, Lifecycle.{life, current}, declared.{act.Act.Act, definition.Definition.Definition}}

-- the circuit's definition, and the acts applied so far
pub record LedgerView : Type 0 where
  pub definition : Definition
  pub acts : List Act

-- the members that have accepted, in member order
abbrev pub accepted_members : LedgerView → List Node
accepted_members l = filter (has_node (current (life l.definition l.acts)).accepted) l.definition.members

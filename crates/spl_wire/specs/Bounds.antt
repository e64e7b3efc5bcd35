-- What a journal takes as a record, and a link as a message (docs/RULES.md, Byte forms).
use Rattle.std.specs.Prelude.{ℕ, ◌≤◌, Bool, true, ◌&&◌, IsTrue, List, [], ◌∷◌, length}
use Rattle.spl_circuit.specs.{Forms.{node_id, definition, kind}, declared.act.Act.Act}
use Rattle.spl_wire.specs.{Forms.{message_form, record_form}, Grouping.{most_bytes, record_of, meets, value_in}, declared.change.Change.Change}
use Rattle.spl_wire.specs.declared.{change.Change.TheVariants.{Bind, Admin}, message.{Message.Message, TheConstants.LONGEST_MESSAGE}, plan.Outgoing.Outgoing}
use Rattle.spl_wire.specs.declared.record.TheConstants.{MOST_CHANGES}

-- at most MOST_CHANGES changes, 1 to `most_bytes` bytes, and each change can be written
pub record IsWritable (c : List ℕ) (xs : List Change) : Type 0 where
  pub few : length xs ≤ MOST_CHANGES
  pub bounded : IsTrue (record_form.bounded (record_of c xs))
  pub some : 1 ≤ length (record_form.spell (record_of c xs))
  pub short : length (record_form.spell (record_of c xs)) ≤ most_bytes

-- at most LONGEST_MESSAGE bytes, and it can be written
pub record IsSendable (m : Message) : Type 0 where
  pub bounded : IsTrue (message_form.bounded m)
  pub short : length (message_form.spell m) ≤ LONGEST_MESSAGE

abbrev pub AllSendable : List Outgoing → Type 0
AllSendable [] = Unit {0}
AllSendable (o ∷ os) = IsSendable o.message × AllSendable os

-- the node of an act has a byte form, and so has what it does
abbrev pub has_form : Act → Bool
has_form v = node_id.fits v.node && kind.fits v.kind

-- the definition or the act in a change, if there is one, has a byte form
abbrev pub is_formed : Change → Bool
is_formed (Bind d) = definition.fits d
is_formed (Admin x) = meets has_form (value_in x)
is_formed _ = true

-- Which messages that were read a cell may hear (docs/RULES.md, Node processes).
use Rattle.std.specs.{Prelude.{Bool, true, not, ◌&&◌}, Str.bytes_eq}
use Rattle.spl_circuit.specs.Nodes.{NodeId}
use Rattle.spl_wire.specs.declared.message.Message.{Message}
use Rattle.spl_wire.specs.declared.message.Message.TheVariants as message
use Rattle.spl_cell_rules.specs.{Changes.may_serve, Valid.carries}

-- the batch in it, if there is one, breaks no rule
abbrev pub may_hear : Message → Bool
may_hear (message.Admin c x) = true
may_hear (message.Scabbard c s t x) = carries may_serve x

-- a message of a peer that a cell may hear
abbrev pub is_heard : NodeId → NodeId → Message → Bool
is_heard here from m = not (bytes_eq from here) && may_hear m

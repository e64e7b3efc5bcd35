-- What a message says of itself (docs/RULES.md, Messages).
use Rattle.std.specs.Prelude.{ℕ, List}
use Rattle.spl_wire.specs.declared.message.Message.{Message}
use Rattle.spl_wire.specs.declared.message.Message.TheVariants as message

-- the circuit that it is about
abbrev pub circuit_of : Message → List ℕ
circuit_of (message.Admin c x) = c
circuit_of (message.Scabbard c s t x) = c

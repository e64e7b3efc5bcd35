-- What is heard on a link (docs/RULES.md, Serving).
use Rattle.std.specs.Prelude.{ℕ, IsTrue, ⊤, List, Option, Some, None}
use Rattle.spl_wire.specs.{Forms.message_form, declared.message.Message.Message as MessageValue}
use Rattle.spl_ports.specs.declared.link.Heard.{Heard, TheVariants.{Nothing, Name, Message}}

-- a message is one that can be written
abbrev pub CanBeWritten : Heard → Type 0
CanBeWritten Nothing = ⊤
CanBeWritten (Name n) = ⊤
CanBeWritten (Message from m) = IsTrue (message_form.fits m)

-- likewise, of what came from a node
abbrev pub IsMessageWritable : Option (List ℕ × MessageValue) → Type 0
IsMessageWritable None = ⊤
IsMessageWritable (Some p) = IsTrue (message_form.fits p.1)

-- What a side of a handshake makes of a body (docs/RULES.md, Handshake).
use Rattle.std.specs.{Prelude.{ℕ, Bool, not, List, Option, Result, Ok, Err, if◌then◌else◌}, Option.option_map_or, Str.bytes_eq}
use Rattle.spl_registry.specs.Nodes.{Entry, knows}
use Rattle.spl_link.specs.{Sides.Side, Greetings.name_in, declared.fault.LinkFault.{LinkFault, TheVariants.{NotHello, Unknown, WrongName}}}

-- whether a node of this name is the peer
abbrev pub judged_peer : List Entry → List ℕ → List ℕ → Result (List ℕ) LinkFault
judged_peer es peer name = if knows es name then (if bytes_eq name peer then Ok name else Err (WrongName peer name)) else Err (Unknown name)

-- the peer, or why it isn't heard
abbrev pub heard : List Entry → Side → List ℕ → Result (List ℕ) LinkFault
heard es side body = option_map_or (judged_peer es side.peer) (name_in (not side.opens) body) (Err NotHello)

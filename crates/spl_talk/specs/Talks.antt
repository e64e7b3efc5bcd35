-- One end of a connection between two nodes, and what a body that comes says to it (docs/RULES.md, Node processes).
use Rattle.std.specs.Prelude.{◌≡◌, ℕ, Bool, true, false, nat_lt, IsTrue, List, ◌∷◌, Option, Some, None, Result, Ok, Err, if◌then◌else◌, ⊤}
use Rattle.std.specs.Option.{option_map_or}
use Rattle.spl_frame.specs.{Frames.{frame, frames_of, stream_of}, declared.fault.FrameFault.FrameFault}
use Rattle.spl_frame.specs.declared.fault.FrameFault.TheVariants as framing
use Rattle.spl_frame.specs.Frames as frames
use Rattle.spl_link.specs.{Greetings.{greeting, name_in}, declared.fault.LinkFault.{LinkFault, TheVariants.{NotHello, Unknown, WrongName}}}
use Rattle.spl_link.specs.Heard as link
use Rattle.spl_fragments.specs.{Joining.{Joining, join_answer, empty_joining}, declared.fault.JoinFault.JoinFault}
use Rattle.spl_fragments.specs.declared.fault.JoinFault.TheVariants as joining
use Rattle.spl_fragments.specs.Joining as parts
use Rattle.spl_registry.specs.Nodes.{Entry, knows, slot_of}
use Rattle.spl_wire.specs.{Forms.message_form, declared.message.Message.Message as MessageValue}
use Rattle.spl_talk.specs.declared.{fault.TalkFault.TalkFault, side.Side.{Side, TheVariants.{Expects, Listens, Knows, Failed}}, spoken.Spoken.Spoken}
use Rattle.spl_talk.specs.declared.spoken.Spoken.TheVariants.{Name, Message, Part}
use Rattle.spl_talk.specs.declared.fault.TalkFault.TheVariants as fault

-- ---- ends

-- an end: its node, whom it knows, and the message whose parts came
pub record End : Type 0 where
  pub here : List ℕ
  pub side : Side
  pub parts : Joining

-- an end, and the bytes that came and whose frames it hasn't heard yet
pub record Talking : Type 0 where
  pub end : End
  pub bytes : List ℕ

-- the end that opens: it has named itself, and expects this peer
abbrev pub opening : List ℕ → List ℕ → End
opening here peer = record { here = here; side = Expects peer; parts = empty_joining }

-- the end that was opened
abbrev pub listening : List ℕ → End
listening here = record { here = here; side = Listens; parts = empty_joining }

-- ---- names

-- the frame by which a node names itself
abbrev pub hello : Bool → List ℕ → List ℕ
hello opens name = frame (greeting opens name)

abbrev pub is_before : Option ℕ → Option ℕ → Bool
is_before (Some a) (Some b) = nat_lt a b
is_before (Some a) None = false
is_before None b = false

-- whether a node stands before another in the registry
abbrev pub is_lower_node : List Entry → List ℕ → List ℕ → Bool
is_lower_node es low high = is_before (slot_of es low) (slot_of es high)

-- the node that was found where another was expected
abbrev pub found_instead : LinkFault → Option (List ℕ)
found_instead (WrongName peer name) = Some name
found_instead (Unknown name) = None
found_instead NotHello = None

-- a node of the registry
abbrev pub known_node : List Entry → List ℕ → Result (List ℕ) LinkFault
known_node es name = if knows es name then Ok name else Err (Unknown name)

-- the node of the registry that names itself as the one that opened a connection
abbrev pub named_opener : List Entry → List ℕ → Result (List ℕ) LinkFault
named_opener es body = option_map_or (known_node es) (name_in true body) (Err NotHello)

-- it has to stand before this node
abbrev pub admitted_peer : List Entry → List ℕ → Result (List ℕ) LinkFault → Result (List ℕ) TalkFault
admitted_peer es here (Ok name) = if is_lower_node es name here then Ok name else Err fault.NotLower
admitted_peer es here (Err e) = Err (fault.Name e)

-- the peer of the end that was opened
abbrev pub opener : List Entry → List ℕ → List ℕ → Result (List ℕ) TalkFault
opener es here body = admitted_peer es here (named_opener es body)

abbrev pub of_link : Result (List ℕ) LinkFault → Result (List ℕ) TalkFault
of_link (Ok name) = Ok name
of_link (Err e) = Err (fault.Name e)

-- the peer of the end that opened
abbrev pub expected : List Entry → List ℕ → List ℕ → List ℕ → Result (List ℕ) TalkFault
expected es here peer body = of_link (link.heard es (record { here = here; peer = peer; opens = true }) body)

-- ---- what a body says

abbrev pub names_peer : Option (List ℕ) → Result (List ℕ) TalkFault → Result Spoken TalkFault
names_peer reply (Ok peer) = Ok (Name peer reply)
names_peer reply (Err e) = Err e

abbrev pub tells : List ℕ → Result (Option MessageValue) JoinFault → Result Spoken TalkFault
tells peer (Ok (Some m)) = Ok (Message peer m)
tells peer (Ok None) = Ok Part
tells peer (Err e) = Err (fault.Message e)

-- by whom the end knows: who its peer is, with its own greeting in turn where it was opened; a message of the peer, or a part of one
abbrev pub says_by : List Entry → List ℕ → Joining → List ℕ → Side → Result Spoken TalkFault
says_by es here parts body (Expects peer) = names_peer None (expected es here peer body)
says_by es here parts body Listens = names_peer (Some (hello false here)) (opener es here body)
says_by es here parts body (Knows peer) = tells peer (join_answer parts body)
says_by es here parts body (Failed e) = Err e

-- what a body says to an end
abbrev pub says : List Entry → End → List ℕ → Result Spoken TalkFault
says es t body = says_by es t.here t.parts body t.side

-- the end after what the body said
abbrev pub talk_end_after : End → List ℕ → Spoken → End
talk_end_after t body (Name peer reply) = record { here = t.here; side = Knows peer; parts = t.parts }
talk_end_after t body (Message from m) = record { here = t.here; side = t.side; parts = parts.joining_after t.parts body }
talk_end_after t body Part = record { here = t.here; side = t.side; parts = parts.joining_after t.parts body }

-- what the first whole frame says, which then is gone
pub record HearsFrame (es : List Entry) (old : Talking) (said : Spoken) (new : Talking) : Type 0 where
  pub body : List ℕ
  pub first : stream_of old.bytes ≡ frames.after body (stream_of new.bytes)
  pub says : says es old.end body ≡ Ok said
  pub end : new.end ≡ talk_end_after old.end body said

-- the first whole frame has this fault
abbrev pub FrameFails : List Entry → Talking → TalkFault → Type 0
FrameFails es t e = (body : List ℕ) × (more : List (List ℕ)) × (frames_of t.bytes ≡ body ∷ more) × (says es t.end body ≡ Err e)

-- a message has a byte form
abbrev pub HasForm : Spoken → Type 0
HasForm (Name peer reply) = ⊤
HasForm (Message from m) = IsTrue (message_form.fits m)
HasForm Part = ⊤

-- ---- faults of frames and of joined bodies

abbrev pub of_frame : FrameFault → TalkFault
of_frame framing.NoMemory = fault.NoMemory
of_frame (framing.BadVersion v) = fault.Frame (framing.BadVersion v)
of_frame (framing.TooLong n) = fault.Frame (framing.TooLong n)

abbrev pub of_joiner : JoinFault → TalkFault
of_joiner joining.NoMemory = fault.NoMemory
of_joiner joining.BadPart = fault.Message joining.BadPart
of_joiner (joining.TooLong n) = fault.Message (joining.TooLong n)
of_joiner (joining.Malformed at) = fault.Message (joining.Malformed at)

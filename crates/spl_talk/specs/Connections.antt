-- What is put on a connection, and what the other end hears (docs/RULES.md, Node processes).
use Rattle.std.specs.{Prelude.{◌≡◌, ◌≤◌, ℕ, Bool, IsTrue, List, [], ◌∷◌, ◌++◌, length, map, None, Result, Ok, Err, ⊤}, List.flat_map}
use Rattle.spl_agree.specs.World.{IsPrefixOf}
use Rattle.spl_base.specs.Ids.{is_node_id}
use Rattle.spl_frame.specs.Frames.{frame, frames_of, fault_of}
use Rattle.spl_fragments.specs.Parts.{message_bodies}
use Rattle.spl_registry.specs.Nodes.{Entry}
use Rattle.spl_wire.specs.{Forms.message_form, declared.message.{Message.Message as MessageValue, TheConstants.LONGEST_MESSAGE}}
use Rattle.spl_talk.specs.{Talks.{End, Talking, talk_end_after, hello, is_lower_node, says}, declared.{fault.TalkFault.TalkFault, spoken.Spoken.Spoken}}
use Rattle.spl_talk.specs.declared.spoken.Spoken.TheVariants.{Name, Message, Part}

-- ---- what is put

-- the frames of a message
abbrev pub message_frames : MessageValue → List ℕ
message_frames m = flat_map frame (message_bodies (message_form.spell m))

-- what a node puts on a connection: its greeting, and the frames of messages, in order
abbrev pub puts : Bool → List ℕ → List MessageValue → List ℕ
puts opens name ms = hello opens name ++ flat_map message_frames ms

-- a message that goes in frames: it has a byte form, of at most LONGEST_MESSAGE bytes
pub record HasFrames (m : MessageValue) : Type 0 where
  pub fits : IsTrue (message_form.fits m)
  pub short : length (message_form.spell m) ≤ LONGEST_MESSAGE

-- two nodes of a registry, of which the first may open a connection to the second
pub record MayConnect (es : List Entry) (low high : List ℕ) : Type 0 where
  pub low_id : IsTrue (is_node_id low)
  pub high_id : IsTrue (is_node_id high)
  pub order : IsTrue (is_lower_node es low high)

-- ---- what is heard

-- this was said, and then what was said after it
abbrev pub before : Spoken → Result (List Spoken) TalkFault → Result (List Spoken) TalkFault
before said (Ok more) = Ok (said ∷ more)
before said (Err e) = Err e

abbrev pub hears_on : Result Spoken TalkFault → (Spoken → Result (List Spoken) TalkFault) → Result (List Spoken) TalkFault
hears_on (Ok said) onward = before said (onward said)
hears_on (Err e) onward = Err e

-- what bodies say to an end, one after another, or the first fault
abbrev pub hears : List Entry → End → List (List ℕ) → Result (List Spoken) TalkFault
hears es t [] = Ok []
hears es t (body ∷ message_bodies) = hears_on (says es t body) (λ said. hears es (talk_end_after t body said) message_bodies)

-- these were said, and then what was said after them
abbrev pub before_all : List Spoken → Result (List Spoken) TalkFault → Result (List Spoken) TalkFault
before_all [] later = later
before_all (said ∷ more) later = before said (before_all more later)

-- since an end began, these bytes came to it and it said this: whatever comes next, it goes on as all bytes say
abbrev pub HasSaid : List Entry → End → List ℕ → List Spoken → Talking → Type 0
HasSaid es start came said now =
    (more : List ℕ) → hears es start (frames_of (came ++ more)) ≡ before_all said (hears es now.end (frames_of (now.bytes ++ more)))

-- ---- what is heard of what was put

-- the messages in what was said, each with the node from which it comes
abbrev pub messages_in : List Spoken → List (List ℕ × MessageValue)
messages_in [] = []
messages_in (Name peer reply ∷ more) = messages_in more
messages_in (Message from m ∷ more) = (from, m) ∷ messages_in more
messages_in (Part ∷ more) = messages_in more

-- messages, each from this node
abbrev pub all_from : List ℕ → List MessageValue → List (List ℕ × MessageValue)
all_from peer ms = map (λ m. (peer, m)) ms

-- an end to which these bytes came hears no fault, and messages of this peer: a prefix of these
pub record HearsPrefix (es : List Entry) (t : End) (peer : List ℕ) (ms : List MessageValue) (came : List ℕ) : Type 0 where
  pub said : List Spoken
  pub framed : fault_of came ≡ None
  pub heard : hears es t (frames_of came) ≡ Ok said
  pub messages : IsPrefixOf (messages_in said) (all_from peer ms)

-- and all of these
pub record HearsAll (es : List Entry) (t : End) (peer : List ℕ) (ms : List MessageValue) (came : List ℕ) : Type 0 where
  pub said : List Spoken
  pub framed : fault_of came ≡ None
  pub heard : hears es t (frames_of came) ≡ Ok said
  pub messages : messages_in said ≡ all_from peer ms

-- nothing but messages of this peer, and parts of them
abbrev pub IsOf : List ℕ → Spoken → Type 0
IsOf peer (Name other reply) = ⊥
IsOf peer (Message from m) = from ≡ peer
IsOf peer Part = ⊤

-- What is put on a fabric where messages are carried over it (docs/RULES.md, Links).
use Rattle.std.specs.Prelude.{◌≡◌, ◌≢◌, ◌⊎◌, ◌<◌, ◌≤◌, ℕ, IsTrue, min, max, ◌==◌, Bool, ◌&&◌, ◌||◌, nat_lt, List, [], ◌∷◌, ◌++◌, length, Option, IfSome}
use Rattle.std.specs.{Prelude.{if◌then◌else◌, ⊤}, List.{list_any, flat_map, filter}, Option.{IsSome, option_map_or}, Io.KnownBytes.append_known}
use Rattle.spl_edge.specs.Devices.{AreTaken, Streams}
use Rattle.spl_frame.specs.Frames.{frame}
use Rattle.spl_wire.specs.{Forms.message_form, declared.message.{Message.Message, TheConstants.LONGEST_MESSAGE}}
use Rattle.spl_fragments.specs.Parts.{message_bodies}
use Rattle.spl_registry.specs.Nodes.{Entry, node_at}
use Rattle.spl_link.specs.Greetings.{greeting}
use Rattle.spl_pump.specs.declared.fault.PumpFault.{PumpFault, TheVariants.{Link, Lied, NoMemory}}

-- a message from one node to another
pub record Carried : Type 0 where
  pub from : ℕ
  pub to : ℕ
  pub message : Message

-- this message alone
abbrev pub only : ℕ → ℕ → Message → List Carried
only from to m = record { from = from; to = to; message = m } ∷ []

-- it went from a to b
abbrev pub is_on : ℕ → ℕ → Carried → Bool
is_on a b c = a == c.from && b == c.to

-- it went between a and b
abbrev pub is_between : ℕ → ℕ → Carried → Bool
is_between a b c = is_on a b c || is_on b a c

-- the frame by which a names itself to b; the lower position opens
abbrev pub hand : List Entry → ℕ → ℕ → List ℕ
hand es a b = option_map_or (λ name. frame (greeting (nat_lt a b) name)) (node_at es a) []

-- as what a message is sent: the frames of its bodies, one after another
unfoldable pub sent_as : Message → List ℕ
sent_as m = flat_map frame (message_bodies (message_form.spell m))

-- these bytes are the byte form of a message
pub record IsSpelled (m : Message) (bytes : List ℕ) : Type 0 where
  pub fits : IsTrue (message_form.fits m)
  pub is : bytes ≡ message_form.spell m

-- these bytes are as what a message is sent
pub record IsSentAs (m : Message) (bytes : List ℕ) : Type 0 where
  pub fits : IsTrue (message_form.fits m)
  pub short : length (message_form.spell m) ≤ LONGEST_MESSAGE
  pub frames : bytes ≡ sent_as m

-- the frames of a message from one node to another
abbrev pub carried_frames : Carried → List ℕ
carried_frames c = sent_as c.message

-- these bytes on one pair of nodes, and none on the others
abbrev pub bytes_on_pair : ℕ → ℕ → List ℕ → ℕ → ℕ → List ℕ
bytes_on_pair from to bytes a b = if a == from && b == to then bytes else []

-- the frames by which two nodes name themselves to each other
abbrev pub hands : List Entry → ℕ → ℕ → ℕ → ℕ → List ℕ
hands es low high a b = bytes_on_pair low high (hand es low high) a b ++ bytes_on_pair high low (hand es high low) a b

-- and nothing where they have met
abbrev pub hands_if : List Entry → Bool → ℕ → ℕ → ℕ → ℕ → List ℕ
hands_if es met low high a b = if met then [] else hands es low high a b

-- whether two nodes have met
abbrev pub have_met : List (ℕ × ℕ) → ℕ → ℕ → Bool
have_met met low high = list_any (λ p. p.0 == low && p.1 == high) met

abbrev pub met_after : List (ℕ × ℕ) → ℕ → ℕ → List (ℕ × ℕ)
met_after met low high = if have_met met low high then met else met ++ (low, high) ∷ []

-- the frames of the messages that went from a to b, in order
abbrev pub pair_frames : List Carried → ℕ → ℕ → List ℕ
pair_frames sent a b = flat_map carried_frames (filter (is_on a b) sent)

-- what messages put on the pair from a to b: a frame by which a names itself, where one went between the two, and the
-- frames of those that went from a to b, in order
abbrev pub wire_of : List Entry → List Carried → ℕ → ℕ → List ℕ
wire_of es sent a b = (if list_any (is_between a b) sent then hand es a b else []) ++ pair_frames sent a b

-- and the latter alone, where the two have met before
abbrev pub wire_from : List Entry → List (ℕ × ℕ) → List Carried → ℕ → ℕ → List ℕ
wire_from es met sent a b = if have_met met (min a b) (max a b) then pair_frames sent a b else wire_of es sent a b

-- what messages put on the pair from one node to another
abbrev pub Wire : Type 0
Wire = List Carried → ℕ → ℕ → List ℕ

-- what carries messages
pub record CarryView : Type 0 where
  -- how many nodes there are
  pub slots : ℕ
  -- whether it has answered a fault
  pub failed : Bool
  -- the bytes that carrying messages, one after another, puts on the pair from one node to another
  pub wire : Wire
  -- the frame by which one node names itself to another
  pub hello : ℕ → ℕ → List ℕ

-- once these messages are carried, what others put comes after what they put
pub record WireGoesOn (sent : List Carried) (old new : Wire) : Type 0 where
  pub after : (later : List Carried) (a b : ℕ) → old (sent ++ later) a b ≡ old sent a b ++ new later a b

-- as many bytes were taken from each node to each as were put
abbrev pub AllBytesTaken : Streams → Streams → Type 0
AllBytesTaken put taken = (a b : ℕ) → a < 256 → b < 256 → AreTaken (put a b) (taken a b)

-- on each pair of nodes these bytes came after the others
abbrev pub Puts : (ℕ → ℕ → List ℕ) → Streams → Streams → Type 0
Puts bytes old new = (a b : ℕ) → a < 256 → b < 256 → new a b ≡ append_known (old a b) (bytes a b)

-- on each pair a prefix of these
abbrev pub PutsPart : (ℕ → ℕ → List ℕ) → Streams → Streams → Type 0
PutsPart bytes old new = (a b : ℕ) → a < 256 → b < 256
    → (done : List ℕ) × (more : List ℕ) × (bytes a b ≡ done ++ more) × (new a b ≡ append_known (old a b) done)

-- the bytes put and taken are reported
abbrev pub AreTold : Streams → Streams → Type 0
AreTold put taken = (a b : ℕ) → IsSome (put a b) × IsSome (taken a b)

-- these bytes are the last ones
abbrev pub AreLastBytes : List ℕ → Option (List ℕ) → Type 0
AreLastBytes bytes known = IfSome known (λ k. (before : List ℕ) × (k ≡ before ++ bytes))

-- ---- what is due on a pair of nodes

-- these bytes on this pair
abbrev pub IsOn : ℕ → ℕ → List ℕ → ℕ → ℕ → List ℕ → Type 0
IsOn from to bytes a b due = (a ≡ from) × (b ≡ to) × (due ≡ bytes)

-- where two nodes meet: the frame by which each names itself to the other
abbrev pub IsGreeting : (ℕ → ℕ → List ℕ) → ℕ → ℕ → ℕ → ℕ → List ℕ → Type 0
IsGreeting hello low high a b due = IsOn low high (hello low high) a b due ⊎ IsOn high low (hello high low) a b due

-- where a message goes from one node to another: on the way there its frames, or the greeting of its sender, and on the way back
-- that of its recipient
abbrev pub IsMessageDue : (ℕ → ℕ → List ℕ) → ℕ → ℕ → Message → ℕ → ℕ → List ℕ → Type 0
IsMessageDue hello from to m a b due = IsOn from to (sent_as m) a b due ⊎ IsGreeting hello from to a b due

-- ---- what is taken

-- On each pair all of the first bytes were taken, and then a prefix of what the second ones have after those. On one pair there came
-- other bytes then in place of those that were due there next, or of the first of these: no more than these
pub record TakesBetween (Due : ℕ → ℕ → List ℕ → Type 0) (least most : ℕ → ℕ → List ℕ) (old new : Streams) : Type 0 where
  pub from : ℕ
  pub to : ℕ
  pub next : List ℕ
  pub last : List ℕ
  pub due : (last ≡ []) ⊎ Due from to next
  pub short : length last ≤ length next
  pub each : (a b : ℕ) → a < 256 → b < 256 → (done : List ℕ) × (more : List ℕ)
      × (most a b ≡ (least a b ++ done) ++ (bytes_on_pair from to next a b ++ more))
      × (new a b ≡ append_known (old a b) ((least a b ++ done) ++ bytes_on_pair from to last a b))

-- a prefix of these bytes was taken on each pair, and on one pair then such others
abbrev pub TakesPart : (ℕ → ℕ → List ℕ → Type 0) → (ℕ → ℕ → List ℕ) → Streams → Streams → Type 0
TakesPart Due bytes old new = TakesBetween Due (λ a b. []) bytes old new

-- ---- lies

-- these were the last bytes put on the pair from a to b, and those, others and as many, the last ones taken there
pub record LiesOn (a b : ℕ) (sent got : List ℕ) (put taken : Streams) : Type 0 where
  pub differ : sent ≢ got
  pub long : length got ≡ length sent
  pub all : AreTaken (put a b) (taken a b)
  pub put_last : AreLastBytes sent (put a b)
  pub taken_last : AreLastBytes got (taken a b)

-- a lie: the bytes put were due on the pair on which others were taken
abbrev pub LiesOf : (ℕ → ℕ → List ℕ → Type 0) → PumpFault → Streams → Streams → Type 0
LiesOf Due Link put taken = ⊤
LiesOf Due NoMemory put taken = ⊤
LiesOf Due (Lied sent got) put taken = (a : ℕ) × (b : ℕ) × Due a b sent × LiesOn a b sent got put taken

-- which pairs have met, the lower position first, and whether a fault was answered
pub record Pumped : Type 0 where
  pub entries : List Entry
  pub met : List (ℕ × ℕ)
  pub failed : Bool

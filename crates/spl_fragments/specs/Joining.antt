-- How bodies are joined to messages (docs/RULES.md, Parts).
use Rattle.std.specs.Prelude.{◌≢◌, ◌≤◌, ℕ, ◌+◌, ◌==◌, nat_lt, nat_le, Bool, true, false, not, ◌||◌, List, [], ◌∷◌, ◌++◌, length, Option, Some, None, Result}
use Rattle.std.specs.Prelude.{Ok, Err, if◌then◌else◌}
use Rattle.spl_base.specs.{Prefix.prefix_of, declared.fault.Malformed.Malformed as Unread}
use Rattle.spl_base.specs.declared.fault.Malformed.TheVariants as unread
use Rattle.spl_frame.specs.declared.header.TheConstants.{LONGEST_BODY}
use Rattle.spl_wire.specs.{Forms.message_form, declared.message.{Message.Message, TheConstants.LONGEST_MESSAGE}}
use Rattle.spl_fragments.specs.declared.{bodies.TheConstants.{LONGEST_PART, MORE, LAST}, fault.JoinFault.{JoinFault, TheVariants.{BadPart, TooLong}}}
use Rattle.spl_fragments.specs.declared.fault.JoinFault.TheVariants.{Malformed, NoMemory}

-- what a message that can't be read is
abbrev pub join_fault : Unread → JoinFault
join_fault (unread.At at) = Malformed at
join_fault unread.NoMemory = NoMemory

-- of n bytes the message at the beginning is all, or they can't be read
abbrev pub all_of : ℕ → Result (Message × ℕ) ℕ → Result Message JoinFault
all_of n (Ok found) = if found.1 == n then Ok found.0 else Err (Malformed found.1)
all_of n (Err at) = Err (Malformed at)

-- the message that the bytes are exactly
unfoldable pub message_of : List ℕ → Result Message JoinFault
message_of bytes = all_of (length bytes) (prefix_of message_form bytes)

-- the bytes of a message in a body: those after the tag of a part, and all of a whole message
abbrev pub content : List ℕ → List ℕ
content [] = []
content (tag ∷ bytes) = if tag == MORE || tag == LAST then bytes else tag ∷ bytes

-- whether a body is a part that others follow
abbrev pub is_open_part : List ℕ → Bool
is_open_part [] = false
is_open_part (tag ∷ bytes) = tag == MORE

-- the first byte of a message: its lane
abbrev pub is_lane : ℕ → Bool
is_lane tag = tag == 1 || tag == 2

-- whether a body is neither a message nor a part, or doesn't come where it may, after parts with n bytes of a message
abbrev pub is_bad : ℕ → List ℕ → Bool
is_bad n [] = true
is_bad n (tag ∷ bytes) =
    if tag == MORE then not (length bytes == LONGEST_PART)
    else if tag == LAST then n == 0 || (length bytes == 0 || nat_le (n + length bytes) LONGEST_BODY)
    else not (is_lane tag) || not (n == 0)

abbrev pub some_of : Result Message JoinFault → Result (Option Message) JoinFault
some_of (Ok m) = Ok (Some m)
some_of (Err e) = Err e

-- what a body is answered after parts with these bytes of a message
abbrev pub judged_body : List ℕ → List ℕ → Result (Option Message) JoinFault
judged_body held body =
    if is_bad (length held) body then Err BadPart
    else if nat_lt LONGEST_MESSAGE (length held + length (content body)) then Err (TooLong (length held + length (content body)))
    else if is_open_part body then Ok None
    else some_of (message_of (held ++ content body))

-- a joiner: the bytes of the message whose parts came, and the fault that it answered
pub record Joining : Type 0 where
  pub held : List ℕ
  pub fault : Option JoinFault

abbrev pub empty_joining : Joining
empty_joining = record { held = []; fault = None }

-- a fault is answered again
abbrev pub answer_by : Option JoinFault → Result (Option Message) JoinFault → Result (Option Message) JoinFault
answer_by None found = found
answer_by (Some e) found = Err e

-- what a joiner answers to a body
abbrev pub join_answer : Joining → List ℕ → Result (Option Message) JoinFault
join_answer j body = answer_by j.fault (judged_body j.held body)

abbrev pub after_by : List ℕ → List ℕ → Result (Option Message) JoinFault → Joining
after_by held bytes (Ok None) = record { held = held ++ bytes; fault = None }
after_by held bytes (Ok (Some m)) = empty_joining
after_by held bytes (Err e) = record { held = held; fault = Some e }

-- the joiner after the body
abbrev pub joining_after : Joining → List ℕ → Joining
joining_after j body = after_by j.held (content body) (join_answer j body)

-- what the last of some bodies is answered, one after another
abbrev pub last_answer : Joining → Result (Option Message) JoinFault → List (List ℕ) → Result (Option Message) JoinFault
last_answer j last [] = last
last_answer j last (body ∷ more) = last_answer (joining_after j body) (join_answer j body) more

-- and from the beginning; None where there are none
abbrev pub joined_message : List (List ℕ) → Result (Option Message) JoinFault
joined_message bs = last_answer empty_joining (Ok None) bs

-- the fault that is answered again
abbrev pub lasting : Result (Option Message) JoinFault → Option JoinFault
lasting (Ok found) = None
lasting (Err NoMemory) = None
lasting (Err BadPart) = Some BadPart
lasting (Err (TooLong n)) = Some (TooLong n)
lasting (Err (Malformed at)) = Some (Malformed at)

-- what a joiner keeps: few bytes, and no fault that is answered once
pub record IsJoinerHeld (held : List ℕ) (fault : Option JoinFault) : Type 0 where
  pub few : length held ≤ LONGEST_MESSAGE
  pub lasts : fault ≢ Some NoMemory

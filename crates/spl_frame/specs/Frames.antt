-- Frames, and how a stream of bytes is cut into them (docs/RULES.md, Frames).
use Rattle.std.specs.Prelude.{◌≡◌, ◌≢◌, ◌≤◌, ◌<◌, ◌^◌, ℕ, zero, suc, ◌+◌, ◌==◌, nat_lt, List, [], ◌∷◌, ◌++◌, length, take, drop, Option, Some, None, Result}
use Rattle.std.specs.{Prelude.{Ok, Err, if◌then◌else◌}, List.{flat_map, All}, Int.{w16, w32, from_be_bytes, to_be_bytes}}
use Rattle.spl_frame.specs.declared.{fault.FrameFault.{FrameFault, TheVariants.{NoMemory, BadVersion, TooLong}}, header.TheConstants.LONGEST_BODY}

-- what begins the frame of a body with n bytes
abbrev pub header : ℕ → List ℕ
header n = to_be_bytes w16 1 ++ to_be_bytes w32 n

-- a frame: version 1, the length of the body, and the body
abbrev pub frame : List ℕ → List ℕ
frame body = to_be_bytes w16 1 ++ (to_be_bytes w32 (length body) ++ body)

abbrev pub IsBody : List ℕ → Type 0
IsBody body = length body ≤ LONGEST_BODY

-- the version in a header, and the length
abbrev pub version_of : List ℕ → ℕ
version_of bytes = from_be_bytes w16 (take 2 bytes)

abbrev pub length_of : List ℕ → ℕ
length_of bytes = from_be_bytes w32 (take 4 (drop 2 bytes))

-- how many bytes the frame at the beginning has, once all of them are there; the version is judged once two bytes are there, the length once six are there
abbrev pub first_frame : List ℕ → Result (Option ℕ) FrameFault
first_frame bytes =
    if nat_lt (length bytes) 2 then Ok None
    else if version_of bytes == 1 then
    (if nat_lt (length bytes) 6 then Ok None
    else if nat_lt LONGEST_BODY (length_of bytes) then Err (TooLong (length_of bytes))
    else if nat_lt (length bytes) (6 + length_of bytes) then Ok None
    else Ok (Some (6 + length_of bytes)))
    else Err (BadVersion (version_of bytes))

-- a stream: the bodies of its frames, the bytes after them, and the fault that these show, if they do
pub record Stream : Type 0 where
  pub frames : List (List ℕ)
  pub rest : List ℕ
  pub fault : Option FrameFault

abbrev pub after : List ℕ → Stream → Stream
after body s = record { frames = body ∷ s.frames; rest = s.rest; fault = s.fault }

-- by what the beginning is, and how to go on with the bytes after a frame
abbrev pub stream_by : Result (Option ℕ) FrameFault → (List ℕ → Stream) → List ℕ → Stream
stream_by (Err fault) onward bytes = record { frames = []; rest = bytes; fault = Some fault }
stream_by (Ok None) onward bytes = record { frames = []; rest = bytes; fault = None }
stream_by (Ok (Some n)) onward bytes = after (drop 6 (take n bytes)) (onward (drop n bytes))

-- at most so many frames are looked for
abbrev pub stream_within : ℕ → List ℕ → Stream
stream_within zero bytes = record { frames = []; rest = bytes; fault = None }
stream_within (suc k) bytes = stream_by (first_frame bytes) (stream_within k) bytes

-- how the bytes are cut into frames; there are fewer frames than bytes
abbrev pub stream_of : List ℕ → Stream
stream_of bytes = stream_within (length bytes) bytes

abbrev pub frames_of : List ℕ → List (List ℕ)
frames_of bytes = (stream_of bytes).frames

abbrev pub fault_of : List ℕ → Option FrameFault
fault_of bytes = (stream_of bytes).fault

-- ---- the same without a reading: which bytes are which stream

-- a header with the fault, and whatever follows it
abbrev pub Shows : FrameFault → List ℕ → Type 0
Shows NoMemory bytes = ⊥
Shows (BadVersion v) bytes = (v ≢ 1) × (v < 2 ^ 16) × ((more : List ℕ) × (bytes ≡ to_be_bytes w16 v ++ more))
Shows (TooLong n) bytes = (LONGEST_BODY < n) × (n < 2 ^ 32) × ((more : List ℕ) × (bytes ≡ to_be_bytes w16 1 ++ (to_be_bytes w32 n ++ more)))

-- no whole frame begins the bytes, and they show no fault
pub record IsPart (bytes : List ℕ) : Type 0 where
  pub no_frame : (body more : List ℕ) → IsBody body → bytes ≢ frame body ++ more
  pub no_fault : (e : FrameFault) → Shows e bytes → ⊥

abbrev pub EndsIn : Option FrameFault → List ℕ → Type 0
EndsIn None bytes = IsPart bytes
EndsIn (Some e) bytes = Shows e bytes

-- the bytes are these frames, and then a part of one or a header with a fault
pub record IsStream (bytes : List ℕ) (s : Stream) : Type 0 where
  pub whole : bytes ≡ flat_map frame s.frames ++ s.rest
  pub bodies : All IsBody s.frames
  pub ending : EndsIn s.fault s.rest

-- Bytes that were put on a fabric, and taken.
use Rattle.std.specs.{Prelude.{◌≡◌, ◌≢◌, ◌<◌, ◌≤◌, ◌+◌, ℕ, List, ◌++◌, length, Option, IfSome, Result, IsErrOf, ⊤}, Io.KnownBytes.append_known}
use Rattle.spl_edge.specs.{Devices.{Rose, AreTaken, IsOtherPair, Streams}, declared.fault.DeviceError.DeviceError}
use Rattle.spl_edge.specs.declared.fault.DeviceError.TheVariants as device
use Rattle.spl_pump.specs.declared.fault.PumpFault.{PumpFault, TheVariants.{Link, Lied, NoMemory}}

-- what a fault of the fabric is
abbrev pub pump_fault : DeviceError → PumpFault
pump_fault device.Failed = Link
pump_fault device.NoMemory = NoMemory

-- on one pair of nodes these bytes came after the others
pub record Grows (from to : ℕ) (bytes : List ℕ) (old new : Streams) : Type 0 where
  pub here : new from to ≡ append_known (old from to) bytes
  pub others : (a b : ℕ) → a < 256 → b < 256 → IsOtherPair a b from to → new a b ≡ old a b

-- so many bytes were put and not taken, where both are reported
abbrev pub AreDue : ℕ → Option (List ℕ) → Option (List ℕ) → Type 0
AreDue n put taken = IfSome put (λ p. IfSome taken (λ t. length t + n ≡ length p))

-- a count has not fallen, and `Link` is reported only where it rose
pub record LinkHasCause {T : Type 0} (before now : ℕ) (result : Result T PumpFault) : Type 0 where
  pub later : before ≤ now
  pub failed : IsErrOf result Link → Rose before now

-- a prefix of these bytes came on a pair
abbrev pub GrowsPart : ℕ → ℕ → List ℕ → Streams → Streams → Type 0
GrowsPart from to all old new = (done : List ℕ) × (more : List ℕ) × (all ≡ done ++ more) × Grows from to done old new

-- at most so many bytes, whatever they are, came on a pair
abbrev pub GrowsAtMost : ℕ → ℕ → ℕ → Streams → Streams → Type 0
GrowsAtMost from to most old new = (last : List ℕ) × (length last ≤ most) × Grows from to last old new

-- the fabric failed, or memory ran out
abbrev pub IsFault : PumpFault → Type 0
IsFault Link = ⊤
IsFault NoMemory = ⊤
IsFault (Lied sent got) = ⊥

-- a lie: all of some bytes were put on a pair, and as many others were taken there
abbrev pub IsLie : ℕ → ℕ → List ℕ → Streams → Streams → Streams → Streams → PumpFault → Type 0
IsLie from to bytes put put' taken taken' Link = ⊤
IsLie from to bytes put put' taken taken' NoMemory = ⊤
IsLie from to bytes put put' taken taken' (Lied sent got) = (sent ≡ bytes) × (sent ≢ got) × (length got ≡ length sent)
    × AreTaken (put' from to) (taken' from to) × Grows from to sent put put' × Grows from to got taken taken'

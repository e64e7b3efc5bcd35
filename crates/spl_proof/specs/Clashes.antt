-- Byte strings that show a fault of the hash.
use Rattle.std.specs.Prelude.{◌≡◌, ◌≢◌, replicate}
use Rattle.sha2.specs.Sha256.{sha256}
use Rattle.spl_proof.specs.declared.clash.Clash.{Clash, TheVariants.{Two, Zero}}

-- two different ones with one digest, or one whose digest is 32 zero bytes
abbrev pub IsClash : Clash → Type 0
IsClash (Two x y) = (x ≢ y) × (sha256 x ≡ sha256 y)
IsClash (Zero x) = sha256 x ≡ replicate 32 0

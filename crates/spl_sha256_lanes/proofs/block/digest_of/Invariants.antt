use Rattle.std.proofs.Common.{◌≡◌, ◌*◌, length, take}
use Rattle.sha2.specs.Sha256.{digest_bytes}
use Rattle.spl_sha256_lanes.specs.Lanes.{lane}
use Rattle.spl_sha256_lanes.proofs.block.digest_of.Given as goal

abbrev pub invariant-words : goal.invariant-words
invariant-words l = record { sized : length l.out ≡ 32; made : take (4 * l.i) l.out ≡ digest_bytes (lane l.j l.state) l.i }

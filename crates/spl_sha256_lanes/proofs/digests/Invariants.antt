use Rattle.std.proofs.Common.{◌≡◌, ℕ, ◌<◌, [], ◌∷◌, length, slice_index_or}
use Rattle.sha2.specs.Sha256.{hash_after, initial_hash_256, padded_message}
use Rattle.spl_sha256_lanes.specs.Lanes.{lane}
use Rattle.spl_sha256_lanes.proofs.digests.Given as goal

abbrev pub invariant-loop-n : goal.invariant-loop-n
invariant-loop-n l = record {
  hashed : (j : ℕ) → j < 4 → lane j l.state ≡ hash_after initial_hash_256 (padded_message (l.first ∷ slice_index_or l.rest j [])) l.n;
  sized : 0 < l.n → (j : ℕ) → j < 4 → length (slice_index_or l.rest j []) ≡ 512;
}

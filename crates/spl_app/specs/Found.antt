-- What is found on disks after a run (docs/RULES.md, Disks, Resuming).
use Rattle.std.specs.Prelude.{◌≡◌, ◌⊎◌, ◌<◌, ℕ, List, Option, Some}
use Rattle.spl_edge.specs.Devices.{Image, MayLeave}
use Rattle.spl_node.specs.Benches.{Images, images_at}

-- a crash may leave of one disk what another holds; both report
abbrev pub CrashLeaves : Option Image → Option Image → Type 0
CrashLeaves (Some i) (Some j) = MayLeave i j.bytes
CrashLeaves i j = ⊥

-- two disks hold what they held, or what a crash may leave of that
abbrev pub AreFound : Images → Images → Type 0
AreFound was now = (now ≡ was) ⊎ (CrashLeaves was.0 now.0 × CrashLeaves was.1 now.1)

-- so do those of each of the first so many pairs
abbrev pub AllFound : ℕ → List Images → List Images → Type 0
AllFound n was now = (k : ℕ) → k < n → AreFound (images_at was k) (images_at now k)

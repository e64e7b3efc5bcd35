-- Disks that hold no bytes (docs/RULES.md, Links).
use Rattle.std.specs.Prelude.{◌≡◌, ◌≢◌, ◌⊎◌, ◌<◌, ◌≤◌, ℕ, List, [], IfSome, map, slice_get}
use Rattle.spl_edge.specs.Devices.{PairView}
use Rattle.spl_snapshot.specs.Counting.{IfBoth}
use Rattle.spl_node.specs.Benches.{AllGoOn, Images, images_at, images_now}

-- neither of two disks holds bytes, where it reports
pub record AreEmpty (is : Images) : Type 0 where
  pub first : IfSome is.0 (λ i. i.bytes ≡ [])
  pub second : IfSome is.1 (λ i. i.bytes ≡ [])

-- one of the two does, where both report
abbrev pub HaveBytes : Images → Type 0
HaveBytes is = IfBoth is.0 is.1 (λ i j. (i.bytes ≢ []) ⊎ (j.bytes ≢ []))

-- none of the first n pairs holds bytes
abbrev pub AllEmpty : ℕ → List Images → Type 0
AllEmpty n is = (k : ℕ) → k < n → AreEmpty (images_at is k)

-- the pair at this position is the first that does
pub record IsFirstWithBytes (slot : ℕ) (is : List Images) : Type 0 where
  pub here : HaveBytes (images_at is slot)
  pub before : AllEmpty slot is

-- since then nothing was changed of the disks, and only the first n pairs were called
pub record IsSame (n : ℕ) (old new : List PairView) : Type 0 where
  pub same : map images_now new ≡ map images_now old
  pub onward : AllGoOn old new
  pub spared : (k : ℕ) → n ≤ k → slice_get new k ≡ slice_get old k

-- Disks that say what they hold.
use Rattle.spl_node.specs.Benches.{TellAs, images, AllTell, Images, Tell, images_at}
use Rattle.spl_world.proofs.Common.{ℕ, zero, suc, ◌<◌, ◌≤◌, List, [], ◌∷◌, length, ◌∙◌, arith, IsSome, image_now, DiskView, Pair}

-- disks that report as others did, which reported
pub told_as : (is js : Images) → TellAs is js → Tell is → Tell js
told_as is js same h = (same.0 ∙ h.0, same.1 ∙ h.1)

-- of disks each of which reports all pairs do
module _ {D : Type 0} (view : D → DiskView) (tells : (d : D) → IsSome (image_now (view d))) where
  each_tells : (ps : List (Pair D)) (i : ℕ) → i < length ps → Tell (images_at (images view ps) i)
  each_tells [] i below = absurd (omega (arith, below))
  each_tells (p ∷ ps) zero below = (tells p.first, tells p.second)
  each_tells (p ∷ ps) (suc i) below = let rest : i < length ps = omega (arith, below) in each_tells ps i rest

  pub all_tell : (ps : List (Pair D)) (n : ℕ) → n ≤ length ps → AllTell n (images view ps)
  all_tell ps n few i below = let within : i < length ps = omega (arith, few, below) in each_tells ps i within

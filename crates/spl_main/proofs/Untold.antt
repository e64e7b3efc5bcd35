-- Disks that report nothing.
use Rattle.std.proofs.Common.{ℕ, zero, suc, List, [], ◌∷◌}
use Rattle.spl_edge.specs.{Devices.{DiskView, untold_disk}, declared.bench.Pair.Pair}
use Rattle.spl_node.specs.Benches.{images, AreSettled, images_at}

module _ {D : Type 0} (moment faults : D → ℕ) where
  abbrev untold : D → DiskView
  untold d = untold_disk (moment d) (faults d)

  pub settled_untold : (ps : List (Pair D)) (i : ℕ) → AreSettled (images_at (images untold ps) i)
  settled_untold [] zero = record { first = tt; second = tt }
  settled_untold [] (suc i) = record { first = tt; second = tt }
  settled_untold (p ∷ ps) zero = record { first = tt; second = tt }
  settled_untold (p ∷ ps) (suc i) = settled_untold ps i

-- Disks to which nothing was done since a moment.
use Rattle.std.proofs.Common.{ℕ, List, refl}
use Rattle.spl_edge.specs.Devices.{PairView}
use Rattle.spl_node.{specs.Blank.IsSame, proofs.Benches.all_itself}

pub same_itself : (n : ℕ) (ps : List PairView) → IsSame n ps ps
same_itself n ps = record { same = refl; onward = all_itself ps; spared = λ k past. refl }

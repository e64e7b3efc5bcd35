use Rattle.std.proofs.Common.{◌≡◌, ◌≤◌, ℕ, slice_get}
use Rattle.spl_edge.specs.Devices.{bench}
use Rattle.spl_node.specs.{Benches.{AllGoOn, images}, Blank.AllEmpty}
use Rattle.spl_node.proofs.blank.check_blank.Given as goal

abbrev pub invariant-slots : goal.invariant-slots
invariant-slots g l = record {
  same : images g.E.Disk.view l.pairs.items ≡ images g.E.Disk.view l.fn.pairs.items;
  empty : AllEmpty l.slot (images g.E.Disk.view l.fn.pairs.items);
  onward : AllGoOn (bench g.E.Disk.view l.fn.pairs.items) (bench g.E.Disk.view l.pairs.items);
  spared : (k : ℕ) → l.fn.count ≤ k → slice_get (bench g.E.Disk.view l.pairs.items) k ≡ slice_get (bench g.E.Disk.view l.fn.pairs.items) k;
}

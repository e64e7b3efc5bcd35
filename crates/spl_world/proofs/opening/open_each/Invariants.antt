use Rattle.spl_node.specs.Benches.{images, AllGoOn}
use Rattle.spl_world.{specs.Opening.AreOpened, proofs.Common.{◌≡◌, ◌≤◌, ℕ, length, slice_get, bench}}
use Rattle.spl_world.proofs.opening.open_each.Given as goal

abbrev pub invariant-positions : goal.invariant-positions
invariant-positions g l = record {
  opened : AreOpened l.registry l.position l.slots.items (images g.D.Disk.view l.fn.pairs.items) (images g.D.Disk.view l.pairs.items);
  onward : AllGoOn (bench g.D.Disk.view l.fn.pairs.items) (bench g.D.Disk.view l.pairs.items);
  spare : (k : ℕ) → length l.registry ≤ k → slice_get (bench g.D.Disk.view l.pairs.items) k ≡ slice_get (bench g.D.Disk.view l.fn.pairs.items) k;
}

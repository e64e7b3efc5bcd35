use Rattle.std.proofs.Common.{◌≡◌, ◌≤◌, ℕ, length, slice_get}
use Rattle.spl_edge.specs.Devices.{bench}
use Rattle.spl_audit.{specs.Runs.AllStay, proofs.Peeks.Each}
use Rattle.spl_audit.proofs.peeking.peek_nodes.Given as goal

abbrev pub invariant-slots : goal.invariant-slots
invariant-slots g l = record {
  within : l.slot ≤ length l.fn.registry;
  many : length l.nodes.items ≡ l.slot;
  each : Each l.fn.registry (bench g.D.Disk.view l.fn.pairs.items) l.nodes.items;
  stays : AllStay (bench g.D.Disk.view l.fn.pairs.items) (bench g.D.Disk.view l.pairs.items);
  rest : (k : ℕ) → l.slot ≤ k → slice_get (bench g.D.Disk.view l.pairs.items) k ≡ slice_get (bench g.D.Disk.view l.fn.pairs.items) k;
}

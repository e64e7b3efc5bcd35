use Rattle.std.proofs.Common.{◌≤◌}
use Rattle.spl_edge.specs.Devices.{bench}
use Rattle.spl_paxos_run.{specs.Places.process_count, proofs.Begun.AreBegun}
use Rattle.spl_paxos_run.proofs.world.PaxosWorld.new.Given as goal

abbrev pub invariant-places : goal.invariant-places
invariant-places g l = record {
  few : l.place ≤ process_count l.fn.group;
  begun : AreBegun l.fn.group l.place l.seats.items (bench g.D.Disk.view l.fn.pairs.items) (bench g.D.Disk.view l.pairs.items);
}

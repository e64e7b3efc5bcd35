use Rattle.spl_edge.specs.Devices.{pair_view}
use Rattle.spl_snapshot.specs.Counting.{PairOnward}
use Rattle.spl_serve.{specs.{Processes.process_view, Servers.{server_served, server_here}}, proofs.Running.GoesUnasked}
use Rattle.spl_serve.proofs.process.serve.Given as goal

abbrev pub invariant-loop : goal.invariant-loop
invariant-loop g l = record {
  goes : GoesUnasked (server_here l.fn.server) l.nodes (server_served l.fn.server)
      (process_view (pair_view g.D.Disk.view l.fn.disks) (g.P.Ports.view l.fn.ports))
      (process_view (pair_view g.D.Disk.view l.disks) (g.P.Ports.view l.ports)) l.server l.counter;
  onward : PairOnward (pair_view g.D.Disk.view l.fn.disks) (pair_view g.D.Disk.view l.disks);
}

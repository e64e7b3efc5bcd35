use Rattle.std.proofs.Common.{◌≡◌, ◌≤◌, ◌-◌, ℕ, List, [], length}
use Rattle.spl_edge.specs.Devices.{bench}
use Rattle.spl_lines.specs.Feed.{Feeds}
use Rattle.spl_acceptor.specs.declared.group.Group.{Group}
use Rattle.spl_paxos_run.specs.{Run.{ArePaxosLines, PaxosDevices, paxos_devices}, Schedule.numbered_lines, Stages.AreLinesDone}
use Rattle.spl_paxos_run.proofs.run.Run.lines.Given as goal

abbrev pub invariant-lines : goal.invariant-lines
invariant-lines g l = record {
  lines : List (List ℕ);
  counted : l.count ≡ length lines;
  feeds : Feeds (g.S.Source.view l.initial.source).gave (g.S.Source.view l.initial.source).left lines (g.S.Source.view l.source).gave
      (g.S.Source.view l.source).left l.feed;
  done : (run : Group) × (x : PaxosDevices)
      × AreLinesDone run (numbered_lines 1 lines) l.self x (paxos_devices (g.W.Sink.view l.out) (bench g.D.Disk.view l.pairs.items));
  each : (run : Group) (x : PaxosDevices)
      → AreLinesDone run [] l.initial.self x (paxos_devices (g.W.Sink.view l.initial.out) (bench g.D.Disk.view l.initial.pairs.items))
      → ArePaxosLines run lines × AreLinesDone run (numbered_lines 1 lines) l.self x (paxos_devices (g.W.Sink.view l.out) (bench g.D.Disk.view l.pairs.items));
  later : (g.W.Sink.view l.initial.out).faults ≤ (g.W.Sink.view l.out).faults;
  source_later : (g.S.Source.view l.initial.source).faults ≤ (g.S.Source.view l.source).faults;
}

abbrev pub decreases-lines : goal.decreases-lines
decreases-lines g l = 67108865 - l.count

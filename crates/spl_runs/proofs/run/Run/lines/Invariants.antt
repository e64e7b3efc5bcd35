use Rattle.std.{specs.List.AllByRecursion, proofs.Common.{◌≡◌, ◌≤◌, ◌-◌, ◌+◌, ℕ, List, length}}
use Rattle.spl_edge.specs.Devices.{bench}
use Rattle.spl_lines.specs.Feed.{Feeds}
use Rattle.spl_world.specs.Links.{link_view}
use Rattle.spl_runs.{specs.{Run.{devices, IsAllowed, tasks, run_way}, Steps.Step}, proofs.Steps.well}
use Rattle.spl_runs.proofs.run.Run.lines.Given as goal

abbrev pub invariant-lines : goal.invariant-lines
invariant-lines g l = record {
  lines : List (List ℕ);
  counted : l.number ≡ length lines + 1;
  feeds : Feeds (g.S.Source.view l.initial.source).gave (g.S.Source.view l.initial.source).left lines (g.S.Source.view l.source).gave
      (g.S.Source.view l.source).left l.feed;
  good : AllByRecursion (IsAllowed (run_way g.H.Halt.linked l.initial.self.unanswered) l.initial.self.nodes.items) lines;
  step : Step g.H.Halt.linked (tasks (run_way g.H.Halt.linked l.initial.self.unanswered) lines) (well ℕ 0) l.initial.self l.self
      (devices (g.W.Sink.view l.initial.out) (bench g.D.Disk.view l.initial.pairs.items)
      (link_view (g.C.Carry.view l.initial.carrier) (g.F.Fabric.view l.initial.fabric)))
      (devices (g.W.Sink.view l.out) (bench g.D.Disk.view l.pairs.items) (link_view (g.C.Carry.view l.carrier) (g.F.Fabric.view l.fabric)));
  source_later : (g.S.Source.view l.initial.source).faults ≤ (g.S.Source.view l.source).faults;
}

abbrev pub decreases-lines : goal.decreases-lines
decreases-lines g l = 67108866 - l.number

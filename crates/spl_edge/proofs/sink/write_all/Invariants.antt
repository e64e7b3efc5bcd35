use Rattle.std.{specs.Io.KnownBytes.Appends, proofs.Common.{◌≤◌, ◌-◌, length, take}}
use Rattle.spl_edge.proofs.sink.write_all.Given as goal

abbrev pub invariant-loop-sent : goal.invariant-loop-sent
invariant-loop-sent g l = record {
  within : l.sent ≤ length l.piece;
  bytes : Appends (g.W.Sink.view l.initial.sink).written (g.W.Sink.view l.sink).written (take l.sent l.piece);
  later : (g.W.Sink.view l.initial.sink).faults ≤ (g.W.Sink.view l.sink).faults;
}

abbrev pub decreases-loop-sent : goal.decreases-loop-sent
decreases-loop-sent g l = length l.piece - l.sent

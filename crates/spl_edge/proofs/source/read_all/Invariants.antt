use Rattle.std.{specs.Io.KnownBytes.Consumes, proofs.Common.{◌≡◌, ◌≤◌, ◌+◌, ◌-◌, ◌++◌, vec_len}}
use Rattle.spl_edge.proofs.source.read_all.Given as goal

abbrev pub invariant-loop-buf : goal.invariant-loop-buf
invariant-loop-buf g l = record {
  taken : (g.S.Source.view l.source).gave ≡ (g.S.Source.view l.initial.source).gave ++ l.bytes.items;
  left : Consumes (g.S.Source.view l.initial.source).left (g.S.Source.view l.source).left l.bytes.items;
  later : (g.S.Source.view l.initial.source).faults ≤ (g.S.Source.view l.source).faults;
}

abbrev pub decreases-loop-buf : goal.decreases-loop-buf
decreases-loop-buf g l = l.limit + 1 - vec_len l.bytes

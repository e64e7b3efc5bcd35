use Rattle.std.proofs.Common.{◌≤◌, ◌<◌, ◌-◌, length}
use Rattle.spl_memory.{specs.Benches.FirstFails, proofs.Blanks.{AllBlank, told}}
use Rattle.spl_memory.proofs.bench.failing_bench.Given as goal
use Rattle.spl_node.specs.Benches.{AllUnpicked}

abbrev pub invariant-pairs : goal.invariant-pairs
invariant-pairs l = record {
  some : 0 < length l.pairs.items;
  few : length l.pairs.items ≤ 16;
  blank : AllBlank l.pairs.items;
  unpicked : AllUnpicked (told l.pairs.items);
  calls : FirstFails l.fn.failing.items l.pairs.items;
}

abbrev pub decreases-pairs : goal.decreases-pairs
decreases-pairs l = 16 - length l.pairs.items

use Rattle.std.proofs.Common.{◌≡◌, ◌++◌}
use Rattle.spl_gen.specs.Generated.{batches, state, text_of}
use Rattle.spl_gen.proofs.generate.put_batches.Given as goal

abbrev pub invariant-loop-before : goal.invariant-loop-before
invariant-loop-before l = record {
  text : l.w ≡ l.fn.w ++ text_of (batches l.before l.seed);
  state : l.draws ≡ state l.before l.seed;
}

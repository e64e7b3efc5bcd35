use Rattle.std.proofs.Common.{arith, rules}
use Rattle.spl_cli.proofs.Commands.{gens}
use Rattle.spl_cli.proofs.command.read_gen.Goals as goal

pub returns-then-batches-from-clause-spelled : goal.returns-then-batches-from-clause-spelled
returns-then-batches-from-clause-spelled c = record {
  spelled = gens c.args.words.now c.first-item.result c.batches-item.result c.seed-item.result _ _
      (omega arith) c.first-item.is c.batches-item.is c.seed-item.is (search rules) (search rules) (search rules);
  some = omega arith;
  few = omega arith;
  fits = search rules;
}

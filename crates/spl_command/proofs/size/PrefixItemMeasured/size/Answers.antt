use Rattle.std.proofs.Common.{length, ap, arith}
use Rattle.spl_command.proofs.Sizes.{prefix_size}
use Rattle.spl_command.proofs.size.PrefixItemMeasured.size.Goals as goal

pub returns : goal.returns
returns c = omega (arith, prefix_size c.args.self.now, ap length c.bytes.ensures)

use Rattle.std.{specs.List.flat_map, proofs.Common.{length, ap, arith}}
use Rattle.spl_command.{specs.Forms.prefix, proofs.Sizes.list_size}
use Rattle.spl_command.proofs.size.PrefixesMeasured.size.Goals as goal

pub returns : goal.returns
returns c = omega (arith, list_size prefix.spell c.args.self.now, ap (λ xs. length (flat_map prefix.spell xs)) c.items.ensures)

use Rattle.std.{specs.List.flat_map, proofs.Common.{length, ap, arith}}
use Rattle.spl_command.{specs.Forms.{prefix, command}, proofs.Sizes.{same_capped, list_size, transaction_size}}
use Rattle.spl_command.proofs.size.TransactionMeasured.size.Goals as goal

pub returns : goal.returns
returns c =
    let t = c.args.self.now in
    same_capped _ _ _ (transaction_size t)
    (omega (arith, list_size prefix.spell t.inputs, list_size prefix.spell t.outputs, ap (λ cs. length (flat_map command.spell cs)) c.as_slice.ensures))

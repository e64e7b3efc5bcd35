use Rattle.std.{specs.List.flat_map, proofs.Common.{◌≡◌, ◌+◌, length, take}}
use Rattle.spl_command.specs.Sizes.{capped}
use Rattle.spl_command.proofs.size.list_size.Given as goal

abbrev pub invariant-loop-x : goal.invariant-loop-x
invariant-loop-x g l = l.total ≡ capped (2 + length (flat_map g.T.Field.form.spell (take l.x-index l.items)))

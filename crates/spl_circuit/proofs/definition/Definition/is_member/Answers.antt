use Rattle.std.{specs.{List.list_any, Str.bytes_eq}, proofs.Common.{ap, ◌∙◌}}
use Rattle.spl_circuit.proofs.Sorting.{any_member}
use Rattle.spl_circuit.proofs.definition.Definition.is_member.Goals as goal

pub returns : goal.returns
returns c =
    c.contains.ensures.value ∙ ap (λ v. list_any (λ m. bytes_eq m c.args.node.now) v) c.as_slice.ensures ∙ any_member c.args.self.now.members c.args.node.now

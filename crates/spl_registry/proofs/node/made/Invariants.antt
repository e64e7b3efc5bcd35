use Rattle.std.proofs.Common.{◌≡◌, take}
use Rattle.spl_registry.specs.Nodes.{local_entries}
use Rattle.spl_registry.proofs.node.made.Given as goal

abbrev pub invariant-loop-id : goal.invariant-loop-id
invariant-loop-id l = l.made.items ≡ local_entries (take l.id-index l.ids)

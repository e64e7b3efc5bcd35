use Rattle.std.proofs.Common.{◌≡◌, take}
use Rattle.spl_registry.specs.Nodes.{entry_ids}
use Rattle.spl_registry.proofs.node.ids_of.Given as goal

abbrev pub invariant-loop-node : goal.invariant-loop-node
invariant-loop-node l = l.ids.items ≡ entry_ids (take l.node-index l.nodes)

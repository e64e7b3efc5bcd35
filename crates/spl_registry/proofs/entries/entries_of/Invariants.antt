-- What the whole list spells is what the rest spells after the nodes found.
use Rattle.std.proofs.Common.{◌≡◌, ◌+◌, [], drop}
use Rattle.toml.specs.View.{items_view}
use Rattle.spl_registry.specs.Nodes.{entries_from}
use Rattle.spl_registry.proofs.entries.entries_of.Given as goal

abbrev pub invariant-loop-i : goal.invariant-loop-i
invariant-loop-i l = entries_from [] 1 (items_view l.values) ≡ entries_from l.found.items (l.i + 1) (items_view (drop l.i l.values))

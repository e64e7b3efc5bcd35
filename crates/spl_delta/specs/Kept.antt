-- The watchers that are kept, by their circuits (docs/RULES.md, Subscriptions).
use Rattle.std.specs.{Prelude.{List, [], Option, Some, None}, Ordering.nat_cmp, Cmp.Lexicographic.slice_cmp, BTreeMap.is_at, Map.lookup}
use Rattle.spl_circuit.specs.Nodes.{CircuitId}
use Rattle.spl_delta.specs.Watches.{Watcher}

-- circuits and their watchers, in the order of the ids
abbrev pub Groups : Type 0
Groups = List (CircuitId × List Watcher)

abbrev pub group_or_none : Option (List Watcher) → List Watcher
group_or_none None = []
group_or_none (Some ts) = ts

-- the watchers of a circuit
abbrev pub watchers_of : Groups → CircuitId → List Watcher
watchers_of gs c = group_or_none (lookup (is_at (slice_cmp nat_cmp c)) gs)

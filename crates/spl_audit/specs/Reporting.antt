-- The report of an audit (docs/RULES.md, Audit).
use Rattle.std.specs.{Prelude.{ℕ, max, nat_lt, Bool, List, [], ◌∷◌, ◌++◌, length, map, if◌then◌else◌}, BTreeSet.insert_key, Cmp.Lexicographic.slice_cmp}
use Rattle.std.specs.{List.{filter, list_any}, Ordering.nat_cmp}
use Rattle.spl_agree.specs.Member.{values}
use Rattle.spl_circuit.specs.{Equality.same_definition, Nodes.CircuitId, declared.definition.Definition.Definition}
use Rattle.spl_cell_rules.specs.Cells.{Bound, Cell, Held}
use Rattle.spl_audit.specs.{Clashes.Keeper, declared.report.Found.Found}

-- ---- the circuits

-- ids in order, with others at their places, each once
abbrev pub with_ids : List CircuitId → List CircuitId → List CircuitId
with_ids ids [] = ids
with_ids ids (c ∷ cs) = with_ids (insert_key (slice_cmp nat_cmp) ids c) cs

-- and with those of the circuits that are bound at nodes
abbrev pub ids_with : List CircuitId → List Keeper → List CircuitId
ids_with ids [] = ids
ids_with ids (n ∷ ns) = ids_with (with_ids ids n.bound) ns

-- ---- one circuit

abbrev pub and_bound : Cell → List Bound → List Bound
and_bound (Held h) hs = h ∷ hs
and_bound k hs = hs

-- what nodes are bound to of this id, in their order
abbrev pub bound_to : CircuitId → List Keeper → List Bound
bound_to c [] = []
bound_to c (n ∷ ns) = and_bound (n.at c) (bound_to c ns)

-- a definition before the first of a higher generation
abbrev pub placed_by_generation : Definition → List Definition → List Definition
placed_by_generation d [] = d ∷ []
placed_by_generation d (e ∷ es) = if nat_lt d.generation e.generation then d ∷ e ∷ es else e ∷ placed_by_generation d es

-- definitions by generation, with those of bound cells, each once; those of one generation are in the order in which they are
-- bound first
abbrev pub definitions_with : List Definition → List Bound → List Definition
definitions_with ds [] = ds
definitions_with ds (h ∷ hs) =
    if list_any (same_definition h.definition) ds then definitions_with ds hs else definitions_with (placed_by_generation h.definition ds) hs

-- the greatest of a number and others
abbrev pub greatest_with : ℕ → List ℕ → ℕ
greatest_with m [] = m
greatest_with m (n ∷ ns) = greatest_with (max m n) ns

abbrev pub is_definition_of : Definition → Bound → Bool
is_definition_of d h = same_definition h.definition d

-- what is found of a definition: the lengths of the longest histories of the cells that are bound to it
abbrev pub definition_finding : CircuitId → List Bound → Definition → Found
definition_finding c hs d = record {
  circuit = c;
  generation = d.generation;
  acts = greatest_with 0 (map (λ h. length (values h.acts.history)) (filter (is_definition_of d) hs));
  batches = greatest_with 0 (map (λ h. length (values h.batches.history)) (filter (is_definition_of d) hs));
}

abbrev pub found_of : List Keeper → CircuitId → List Found
found_of ns c = map (definition_finding c (bound_to c ns)) (definitions_with [] (bound_to c ns))

-- ---- all circuits

abbrev pub found_in : List Keeper → List CircuitId → List Found
found_in ns [] = []
found_in ns (c ∷ cs) = found_of ns c ++ found_in ns cs

-- of each circuit, in the order of ids and generations, and then of the lowest node that is bound to it
abbrev pub report : List Keeper → List Found
report ns = found_in ns (ids_with [] ns)

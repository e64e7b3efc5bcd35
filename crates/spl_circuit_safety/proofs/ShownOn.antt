-- What is shown of a circuit in a run that goes on is of prefixes of the lists that it has in both runs as one.
use Rattle.std.proofs.{Common.{◌≡◌, true, List, [], ◌∷◌, ◌++◌, append_assoc, map, refl, sym, ap, subst, ◌∙◌}, lemmas.List.map-append}
use Rattle.spl_agree.specs.{Member.values, World.IsPrefixOf}
use Rattle.spl_circuit.specs.{Nodes.{NodeId, CircuitId}, Rules.{admin, service}, declared.definition.Definition.Definition}
use Rattle.spl_wire.specs.declared.change.Change.{Change}
use Rattle.spl_cell_rules.specs.Cells.{Bound, Held}
use Rattle.spl_circuit_world.specs.{Projection.{AllPlain, Ran, lines_fit}, Worlds.{IsOrigin, Origin, Occurrence, SentMessage, World, empty_world}}
use Rattle.spl_circuit_world.specs.{Worlds.{first_world, occur, world_after}, Whole.{happened_from, whole_happened, whole_from, whole_world}}
use Rattle.spl_circuit_world.proofs.{LinesAsOccurrences.plain-append, Happens.{happened-append, plain-whole, whole-run}}
use Rattle.spl_circuit_safety.specs.Agreement.{act_list, acts_in, batch_list, batches_in, list_from, asking_line, HasLeft, ShowsOn, gone_on_in, occurrence_on}
use Rattle.spl_circuit_safety.proofs.{GoesOn.{plain-on, run-on}, Occurrences.{begins-acts, begins-batches}, SameLists.list-append, Shown.{fits_before, held}}
use Rattle.spl_circuit_safety.proofs.Shown.{of-prefixes, prefix-on}

module _ (o : Origin) (left : CircuitId → List Occurrence) (plain : (c : CircuitId) → AllPlain (left c)) (has : (c : CircuitId) → HasLeft (left c) o c)
    (c : CircuitId) where
  abbrev old : List SentMessage
  old = (world_after o.nodes (left c)).sent

  -- what happens in lines that fit is plain
  pub plain-gone : (rs : List Ran) → lines_fit rs ≡ true → AllPlain (gone_on_in o left c rs)
  plain-gone rs fit =
      plain-append (left c) (map (occurrence_on old) (whole_happened o c rs)) (plain c)
      (plain-on old (whole_happened o c rs) (plain-whole c (first_world o c) rs fit))

  -- and leads to the cells of the run
  pub gone-at : (rs : List Ran) (n : NodeId) → (world_after o.nodes (gone_on_in o left c rs)).at n ≡ (whole_world o c rs).at n
  gone-at rs n =
      ap (λ (w : World). w.at n) (run-on o c (left c) (whole_happened o c rs) (has c)) ∙ sym (ap (λ (w : World). w.at n) (whole-run c (first_world o c) rs))

  -- a list of it grows from line to line
  grown : {V : Type 0} (values : List Change → List V) (none : values [] ≡ []) (leader : NodeId) (d : Definition) (xs ys : List Ran)
      → IsPrefixOf (list_from values leader d (empty_world o.nodes) (gone_on_in o left c xs))
      (list_from values leader d (empty_world o.nodes) (gone_on_in o left c (xs ++ ys)))
  grown values none leader d xs ys =
      let first = gone_on_in o left c xs in
      let later = map (occurrence_on old) (happened_from c (whole_from c (first_world o c) xs) ys) in
      let whole : gone_on_in o left c (xs ++ ys) ≡ first ++ later =
      ap (λ (es : List Occurrence). left c ++ map (occurrence_on old) es) (happened-append c (first_world o c) xs ys)
      ∙ (ap (λ (es : List Occurrence). left c ++ es)
      (map-append (occurrence_on old) (whole_happened o c xs) (happened_from c (whole_from c (first_world o c) xs) ys))
      ∙ sym (append_assoc (left c) (map (occurrence_on old) (whole_happened o c xs)) later)) in (
        list_from values leader d (occur (empty_world o.nodes) first) later,
        sym (list-append values none leader d (empty_world o.nodes) first later) ∙ sym (ap (list_from values leader d (empty_world o.nodes)) whole),
      )

  pub acts-grow : (d : Definition) (xs ys : List Ran)
      → IsPrefixOf (act_list o.nodes d (gone_on_in o left c xs)) (act_list o.nodes d (gone_on_in o left c (xs ++ ys)))
  acts-grow d xs ys = grown acts_in refl (admin d) d xs ys

  pub batches-grow : (d : Definition) (xs ys : List Ran)
      → IsPrefixOf (batch_list o.nodes d (gone_on_in o left c xs)) (batch_list o.nodes d (gone_on_in o left c (xs ++ ys)))
  batches-grow d xs ys = grown batches_in refl (service d) d xs ys

  -- the batches at a cell begin the list
  pub batches-begin : (rs : List Ran) → lines_fit rs ≡ true → (n : NodeId) (b : Bound) → (whole_world o c rs).at n ≡ Held b
      → IsPrefixOf (values b.batches.history) (batch_list o.nodes b.definition (gone_on_in o left c rs))
  batches-begin rs fit n b is = begins-batches o.nodes (gone_on_in o left c rs) b.definition (plain-gone rs fit) n b (gone-at rs n ∙ is) refl

pub shows-on : (o : Origin) (left : CircuitId → List Occurrence) (rs : List Ran) → IsOrigin o → lines_fit rs ≡ true → ((c : CircuitId) → AllPlain (left c))
    → ((c : CircuitId) → HasLeft (left c) o c) → ShowsOn o left rs
shows-on o left rs start fit plain has = λ c d e told t.
    let b = held o start rs fit c d e told t in
    let before = fits_before o start rs fit c d e told t in
    let here = gone-at o left plain has c t.before t.node ∙ b.is in
    let lines = ap (gone_on_in o left c) t.lines in
    of-prefixes o start rs fit c d e told t (act_list o.nodes d (gone_on_in o left c rs)) (batch_list o.nodes d (gone_on_in o left c rs))
    (prefix-on _ _ _ (begins-acts o.nodes (gone_on_in o left c t.before) d (plain-gone o left plain has c t.before before) t.node b.bound here b.same)
    (subst (λ (es : List Occurrence). IsPrefixOf (act_list o.nodes d (gone_on_in o left c t.before)) (act_list o.nodes d es)) lines
    (acts-grow o left plain has c d t.before (asking_line t.node c e ∷ t.after))))
    (prefix-on _ _ _ (begins-batches o.nodes (gone_on_in o left c t.before) d (plain-gone o left plain has c t.before before) t.node b.bound here b.same)
    (subst (λ (es : List Occurrence). IsPrefixOf (batch_list o.nodes d (gone_on_in o left c t.before)) (batch_list o.nodes d es)) lines
    (batches-grow o left plain has c d t.before (asking_line t.node c e ∷ t.after))))

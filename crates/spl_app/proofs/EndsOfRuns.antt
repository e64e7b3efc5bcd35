-- A run leaves one history with what happened before.
use Rattle.std.{specs.Prelude.if◌then◌else◌, proofs.Common.{◌≡◌, ◌≢◌, ◌⊎◌, inl, inr, ℕ, true, false, List, [], ◌++◌, append_assoc, length, slice_get, Option}}
use Rattle.std.proofs.Common.{Some, None, refl, sym, ap, subst, ◌∙◌}
use Rattle.spl_agree.{specs.World.IsPrefixOf, proofs.Tests.{bool_cases, if_holds}}
use Rattle.spl_circuit_safety.{specs.Agreement.AllHappenedAt, proofs.OwnLines.plain-prefix}
use Rattle.spl_circuit.specs.Nodes.{CircuitId, Node, has_node}
use Rattle.spl_lines.specs.Tasks.{Task, ran_by}
use Rattle.spl_lines.specs.declared.reading.Said.TheVariants as say
use Rattle.spl_circuit_world.specs.{Answers.occurrences_in, Projection.{AllPlain, Ran, lines_fit, names}, Worlds.{Occurrence, Origin, World, empty_world}}
use Rattle.spl_circuit_world.specs.{Worlds.{first_world, occur}, Whole.{happened_beside, whole_happened, whole_world}}
use Rattle.spl_circuit_world.proofs.{LinesAsOccurrences.{plain-append, plain-line, run-append}, Happens.{plain-whole, whole-run}}
use Rattle.spl_cell_rules.specs.{Cells.{Cell, Empty}, Changes.stopped_cell}
use Rattle.spl_runs.specs.Run.{Plan, ids, origin, places_in, HoldAfter, In, Stop}
use Rattle.spl_sched.specs.{Grammar.is_line, declared.line.Line.Line}
use Rattle.spl_node.specs.Benches.{AllTell, Images}
use Rattle.spl_world.specs.{Held.{EachAt, HoldFor, LeaveEither}, declared.fault.WorldFault.WorldFault}
use Rattle.spl_app.{specs.{Found.AllFound, Left.{HasLeftCells, history_on}, Runs.{IsOneHistory, happens_next}}, proofs.Ending.{AllMake, IsEventAt, all-make}}
use Rattle.spl_app.proofs.{Ending.{event-other, found-kept, one-or-other, outside-stays}, GoingOn.left-on, Places.{AllOf, IsOf, at-append, at-first, line-at}}
use Rattle.spl_app.proofs.{Places.{lines-at, nodes-stay}, Seats.{seat-index, seat-node, seat-place}}

-- the world after lines, and what happens in it
module _ (o : Origin) (rs : List Ran) (fit : lines_fit rs ≡ true) (known : AllOf o.nodes rs) where
  abbrev here : CircuitId → World
  here c = whole_world o c rs

  pub here-nodes : (c : CircuitId) → (here c).nodes ≡ o.nodes
  here-nodes c = ap (λ (w : World). w.nodes) (whole-run c (first_world o c) rs) ∙ nodes-stay (first_world o c) (whole_happened o c rs)

  -- what happens from there on
  module _ (before : CircuitId → List Occurrence) (left : HasLeftCells o before) (part : CircuitId → List Occurrence)
      (plain : (c : CircuitId) → AllPlain (part c)) (own : (c : CircuitId) → AllHappenedAt o.nodes (part c)) where
    abbrev all : CircuitId → List Occurrence
    all c = whole_happened o c rs ++ part c

    all-own : (c : CircuitId) → AllHappenedAt o.nodes (all c)
    all-own c = at-append o.nodes (whole_happened o c rs) (part c) (lines-at o.nodes c (first_world o c) rs refl known) (own c)

    same : (c : CircuitId) (n : Node) → (occur (first_world o c) (all c)).at n ≡ (occur (here c) (part c)).at n
    same c n =
        ap (λ (w : World). w.at n) (run-append (first_world o c) (whole_happened o c rs) (part c))
        ∙ ap (λ (w : World). (occur w (part c)).at n) (sym (whole-run c (first_world o c) rs))

    kept-none : (c : CircuitId) (n : Node) → has_node o.nodes n ≡ false → o.kept c n ≡ Empty
    kept-none c n away = left.cells c n ∙ ap stopped_cell (outside-stays o.nodes (empty_world o.nodes) (before c) n (left.own c) away)

    outside : (c : CircuitId) (n : Node) → has_node o.nodes n ≡ false → (occur (here c) (part c)).at n ≡ Empty
    outside c n away = sym (same c n) ∙ (outside-stays o.nodes (first_world o c) (all c) n (all-own c) away ∙ kept-none c n away)

    pub left-after : (kept : CircuitId → Node → Cell) (circuits : List CircuitId)
        → ((c : CircuitId) (n : Node) → kept c n ≡ stopped_cell ((occur (here c) (part c)).at n))
        → HasLeftCells (record { nodes = o.nodes; kept = kept; circuits = circuits }) (history_on o.nodes before all)
    left-after kept circuits cells = left-on o before left all
        (λ c. plain-append (whole_happened o c rs) (part c) (plain-whole c (first_world o c) rs fit) (plain c))
        all-own kept circuits (λ c n. cells c n ∙ sym (ap stopped_cell (same c n)))

-- ---- a run of a plan

module _ (p : Plan) (ts : List Task) (fit : lines_fit (ran_by ts) ≡ true) (known : AllOf (ids p) (ran_by ts)) (before : CircuitId → List Occurrence)
    (left : HasLeftCells (origin p) before) (found : List Images) where
  -- the world of each circuit after the tasks that ran
  abbrev now : CircuitId → World
  now c = whole_world (origin p) c (ran_by ts)

  -- what each node keeps after so much more
  abbrev cells_after : (CircuitId → List Occurrence) → Node → CircuitId → Cell
  cells_after part n c = (occur (now c) (part c)).at n

  -- what is found is left by it
  joined : (part : CircuitId → List Occurrence) → ((c : CircuitId) → AllPlain (part c)) → ((c : CircuitId) → AllHappenedAt (ids p) (part c))
      → (stop : Stop) → ((c : CircuitId) → IsPrefixOf (part c) (happens_next (origin p) ts stop c)) → AllMake p.nodes (cells_after part) found
      → IsOneHistory p before ts stop found
  joined part plain own stop begun make = record {
    part = part;
    begun = begun;
    cells = left-after (origin p) (ran_by ts) fit known before left part plain own _ _
        (found-kept p.nodes found (cells_after part) make (λ n c away. outside (origin p) (ran_by ts) fit known before left part plain own c n away));
  }

  module _ (was : List Images) (all : AllFound (length p.nodes) was found) (told : AllTell (length p.nodes) found) where
    -- it ended after them, or in a line of a watcher
    pub ended-after : (stop : Stop) → ((c : CircuitId) → happens_next (origin p) ts stop c ≡ []) → HoldAfter p ts was → IsOneHistory p before ts stop found
    ended-after stop none hold =
        joined (λ c. []) (λ c. tt) (λ c. tt) stop (λ c. ([], sym (none c)))
        (all-make p.nodes was found all told (cells_after (λ c. [])) (λ n k at. (hold k n (seat-node p.nodes n k at)).1))

    -- it ended in a line of the nodes, after some of what happens in it, before or in one event more
    module _ (number : Option ℕ) (l : Line) (e : WorldFault) (fits : is_line l ≡ true) (of : IsOf (ids p) l) where
      abbrev stop_in : Stop
      stop_in = In (record { number = number; line = say.Line l }) e

      -- they are the first of what happens in it
      abbrev AreFirst : List Occurrence → Type 0
      AreFirst es = (c : CircuitId) → names c l ≡ true → IsPrefixOf es (occurrences_in (now c) l true)

      abbrev part_of : List Occurrence → CircuitId → List Occurrence
      part_of es c = if names c l then es else []

      -- what a node keeps of each circuit after them
      abbrev so_far : List Occurrence → Node → CircuitId → Cell
      so_far es n c = if names c l then (occur (now c) es).at n else (now c).at n

      first-part : (P : List Occurrence → Type 0) → P [] → (es : List Occurrence) → ((c : CircuitId) → names c l ≡ true → P es) → (c : CircuitId)
          → P (part_of es c)
      first-part P none es some c = if_holds P (names c l) es [] (λ q. some c q) (λ q. none)

      as-so-far : (es : List Occurrence) (n : Node) (c : CircuitId) → (occur (now c) (part_of es c)).at n ≡ so_far es n c
      as-so-far es n c = if_holds (λ (k : Cell). (occur (now c) (part_of es c)).at n ≡ k) (names c l) _ _ (λ q. rw q refl) (λ q. rw q refl)

      begins : (es : List Occurrence) → AreFirst es → (c : CircuitId) → IsPrefixOf (part_of es c) (happens_next (origin p) ts stop_in c)
      begins es first c = go (bool_cases (names c l))
        where
          go : (names c l ≡ true) ⊎ (names c l ≡ false) → IsPrefixOf (part_of es c) (happens_next (origin p) ts stop_in c)
          go (inl q) = rw q (first c q)
          go (inr q) = rw q (happened_beside l, refl)

      ended-so-far : (es : List Occurrence) → AreFirst es → AllMake p.nodes (so_far es) found → IsOneHistory p before ts stop_in found
      ended-so-far es first make = joined (part_of es)
          (first-part AllPlain tt es (λ c q. let r = first c q in plain-prefix es r.0 (subst AllPlain (sym r.1) (plain-line (now c) l true fits))))
          (first-part (AllHappenedAt (ids p)) tt es
          (λ c q. let r = first c q in
          at-first (ids p) es r.0 (subst (AllHappenedAt (ids p)) (sym r.1)
          (line-at (ids p) (now c) l true (here-nodes (origin p) (ran_by ts) fit known c) of))))
          stop_in (begins es first) (λ n k at c. make n k at c ∙ ap stopped_cell (sym (as-so-far es n c)))

      module _ (done next rest : List Occurrence) (whole : (c : CircuitId) → names c l ≡ true → done ++ (next ++ rest) ≡ occurrences_in (now c) l true)
          (one : ℕ) (event : (n : Node) → slice_get (ids p) one ≡ Some n → IsEventAt n next)
          (others : EachAt (λ i n q. (i ≡ one → ⊥) → HoldFor n (so_far done n) q) (ids p) (places_in p.nodes) was)
          (own_disks : EachAt (λ i n q. i ≡ one → LeaveEither n (so_far done n) (so_far (done ++ next) n) q) (ids p) (places_in p.nodes) was) where
        first_done : AreFirst done
        first_done c q = (next ++ rest, whole c q)

        first_next : AreFirst (done ++ next)
        first_next c q = (rest, append_assoc done next rest ∙ whole c q)

        -- of any other node the event moves nothing
        elsewhere : (m : Node) → slice_get (ids p) one ≡ Some m → (n : Node) → n ≢ m → (c : CircuitId) → so_far (done ++ next) n c ≡ so_far done n c
        elsewhere m at n apart c = if_holds (λ (k : Cell). so_far (done ++ next) n c ≡ k) (names c l) _ _
            (λ q. rw q (ap (λ (w : World). w.at n) (run-append (now c) done next) ∙ event-other (occur (now c) done) next m n (event m at) apart))
            (λ q. rw q refl)

        by-one : (o : Option Node) → slice_get (ids p) one ≡ o → AllMake p.nodes (so_far done) found ⊎ AllMake p.nodes (so_far (done ++ next)) found
        by-one None none = inl (all-make p.nodes was found all told (so_far done) (λ n k at. let i = seat-index p.nodes n k at in
            others i.0 n k i.1 (seat-place p.nodes n k i.0 at i.1)
            (λ same. let both : None ≡ Some n = sym none ∙ subst (λ (j : ℕ). slice_get (ids p) j ≡ Some n) same i.1 in cc)))
        by-one (Some m) at = one-or-other p.nodes was found all told m (so_far done) (so_far (done ++ next))
            (λ n k seat apart. let i = seat-index p.nodes n k seat in
            others i.0 n k i.1 (seat-place p.nodes n k i.0 seat i.1)
            (λ same. apart (let both : Some n ≡ Some m = sym (subst (λ (j : ℕ). slice_get (ids p) j ≡ Some n) same i.1) ∙ at in cc)))
            (λ k seat. own_disks one m k at (seat-place p.nodes m k one seat at) refl)
            (elsewhere m at)

        pub ended-in-line : IsOneHistory p before ts stop_in found
        ended-in-line = go (by-one (slice_get (ids p) one) refl)
          where
            go : AllMake p.nodes (so_far done) found ⊎ AllMake p.nodes (so_far (done ++ next)) found → IsOneHistory p before ts stop_in found
            go (inl make) = ended-so-far done first_done make
            go (inr make) = ended-so-far (done ++ next) first_next make

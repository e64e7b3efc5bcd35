-- A calm, and its steps as lines.
use Rattle.std.proofs.Common.{append-nil}
use Rattle.spl_circuit_world.{specs.{Projection.plainly, Apart.{moves-own, whole_from-append}}, proofs.Owns.fits-left}
use Rattle.spl_trace.{specs.Traced.steps_in, proofs.CalmLines.{AllOf, calm-of, lines-own, lines-other}}
use Rattle.spl_world.specs.{Calms.due_at, Held.LineEnds, Views.{HoldsWorld, Nodes, Sits, StandsAfterLines, world_node_ids, nodes_over, places_of, slot_ids}}
use Rattle.spl_world.{specs.declared.{fault.WorldFault.{WorldFault, TheVariants.Disk}, slot.Slot.Slot, world.World.World}, proofs.Calms.stays_due}
use Rattle.spl_world.proofs.Common.{◌≡◌, ◌⊎◌, inl, inr, ℕ, ◌+◌, true, false, ◌<◌, ◌≤◌, List, [], ◌∷◌, ◌++◌, length, length-append, Some, map, append_assoc}
use Rattle.spl_world.proofs.Common.{refl, sym, ap, subst, ◌∙◌, arith, Vec, bytes_eq, bool_cases, bytes_are, NodeId, CircuitId, calm, events_of, stops_of}
use Rattle.spl_world.proofs.Common.{by_rule, Ran, lines_fit, IsOrigin, Occurrence, Origin, Steps, CircuitWorld, first_world, occur, step_world, MOST_EVENTS}
use Rattle.spl_world.proofs.{Common.{moves-beside, whole_world, events-more, is_line, Step}, EndingLines.{ended_between, ended_in_calm}}
use Rattle.spl_world.proofs.Standing.{counted_line, fits_after, stands_after, stops_after}
use Rattle.spl_node.specs.Benches.{Images}
use Rattle.spl_sched.specs.declared.line.Line.TheVariants as line
use Rattle.spl_sched.specs.declared.line.Step.TheVariants as step
use Rattle.spl_wire.specs.declared.event.Event.TheVariants as event

-- what happened so far of steps of one circuit, in its world and in any other
pub steps_own : (o : Origin) (before : List Ran) (c d : CircuitId) (es : List Occurrence) → bytes_eq c d ≡ true → AllOf c es
    → whole_world o d (before ++ map plainly (steps_in es)) ≡ occur (whole_world o d before) es
steps_own o before c d es q h =
    whole_from-append d (first_world o d) before (map plainly (steps_in es))
    ∙ lines-own d (whole_world o d before) es (subst (λ (i : CircuitId). AllOf i es) (bytes_are c d q) h)

pub steps_other : (o : Origin) (before : List Ran) (c d : CircuitId) (es : List Occurrence) → bytes_eq c d ≡ false → AllOf c es
    → whole_world o d (before ++ map plainly (steps_in es)) ≡ whole_world o d before
steps_other o before c d es q h = whole_from-append d (first_world o d) before (map plainly (steps_in es)) ∙ lines-other c d (whole_world o d before) es q h

-- each step is one event, and no stop
steps_events : (o : Origin) (before : List Ran) (c : CircuitId) (es : List Occurrence) → IsOrigin o → AllOf c es
    → lines_fit (before ++ map plainly (steps_in es)) ≡ true → events_of o (before ++ map plainly (steps_in es)) ≡ events_of o before + length es
steps_events o before c [] i h f = let none : events_of o before ≡ events_of o before + 0 = omega arith in ap (events_of o) (append-nil before) ∙ none
steps_events o before c (Steps s ∷ es) i h f =
    let r : Ran = plainly (line.Step s) in
    let split : (before ++ r ∷ []) ++ map plainly (steps_in es) ≡ before ++ (r ∷ map plainly (steps_in es)) =
    append_assoc before (r ∷ []) (map plainly (steps_in es)) in
    let fit : lines_fit ((before ++ r ∷ []) ++ map plainly (steps_in es)) ≡ true = subst (λ (xs : List Ran). lines_fit xs ≡ true) (sym split) f in
    let rest : events_of o ((before ++ r ∷ []) ++ map plainly (steps_in es)) ≡ events_of o (before ++ r ∷ []) + length es =
    steps_events o (before ++ r ∷ []) c es i h.1 fit in
    let one : events_of o (before ++ r ∷ []) ≡ events_of o before + 1 =
    events-more o before r i (fits-left (before ++ r ∷ []) (map plainly (steps_in es)) fit) in
    let sum : events_of o (before ++ r ∷ []) + length es ≡ events_of o before + length (Steps s ∷ es) = omega (arith, one) in
    ap (events_of o) (sym split) ∙ rest ∙ sum
steps_events o before c (_ ∷ es) i h f = absurd h.0

steps_stops : (before : List Ran) (c : CircuitId) (es : List Occurrence) → AllOf c es → stops_of (before ++ map plainly (steps_in es)) ≡ stops_of before
steps_stops before c [] h = ap stops_of (append-nil before)
steps_stops before c (Steps s ∷ es) h =
    let r : Ran = plainly (line.Step s) in
    let one : stops_of (before ++ r ∷ []) ≡ stops_of before = (let more = stops_after before r in omega (arith, more)) in
    ap stops_of (sym (append_assoc before (r ∷ []) (map plainly (steps_in es)))) ∙ steps_stops (before ++ r ∷ []) c es h.1 ∙ one
steps_stops before c (_ ∷ es) h = absurd h.0

-- the first of steps of a circuit are such
pub of_first : (c : CircuitId) (xs ys : List Occurrence) → AllOf c (xs ++ ys) → AllOf c xs × AllOf c ys
of_first c [] ys h = (tt, h)
of_first c (x ∷ xs) ys h = let rest = of_first c xs ys h.1 in ((h.0, rest.0), rest.1)

-- a calm has as many events as steps
pub calm_events : (o : Origin) (before : List Ran) (c : CircuitId) (k : ℕ) → IsOrigin o → lines_fit (before ++ by_rule (line.Calm c k) ∷ []) ≡ true
    → events_of o (before ++ by_rule (line.Calm c k) ∷ []) ≡ events_of o before + length (calm c (whole_world o c before) k).happened
calm_events o before c k i fit = events-more o before (by_rule (line.Calm c k)) i fit

-- nodes that stand after the first of these, of which the others do nothing, stand after the calm where those are counted too
pub stands_calm : (o : Origin) (others : ℕ) (before : List Ran) (c : CircuitId) (k : ℕ) (v w : World) (is : List Images) (es rest : List Occurrence)
    → is_line (line.Calm c k) ≡ true → es ++ rest ≡ (calm c (whole_world o c before) k).happened
    → (calm c (whole_world o c before) k).world ≡ occur (whole_world o c before) es → w.slots ≡ v.slots → w.stops ≡ v.stops
    → w.events ≡ v.events + length rest → StandsAfterLines o others (before ++ map plainly (steps_in es)) v is
    → StandsAfterLines o others (before ++ by_rule (line.Calm c k) ∷ []) w is
stands_calm o others before c k v w is es rest fits whole last slots stops events stands = record {
  begins = stands.begins;
  nodes = ap (λ (ss : Vec Slot). slot_ids ss.items) slots ∙ stands.nodes;
  fit = fit;
  counted =
      let steps = steps_events o before c es stands.begins (of_first c es rest of).0 stands.fit in
      let split : length (calm c (whole_world o c before) k).happened ≡ length es + length rest = ap length (sym whole) ∙ length-append es rest in
      omega (arith, steps, calm_events o before c k stands.begins fit, split, stands.counted, events);
  stopped = stops ∙ stands.stopped ∙ steps_stops before c es (of_first c es rest of).0
      ∙ (let none : stops_of before ≡ stops_of (before ++ r ∷ []) = (let more = stops_after before r in omega (arith, more)) in none);
  each = λ d. subst (λ (m : CircuitWorld). HoldsWorld d m (nodes_over w is)) (same d (bool_cases (bytes_eq c d)))
      (subst (λ (xs : Nodes). HoldsWorld d (whole_world o d (before ++ map plainly (steps_in es))) xs) (sym over_same) (stands.each d));
  sits = subst Sits (sym over_same) stands.sits;
}
  where
    r : Ran
    r = by_rule (line.Calm c k)

    of : AllOf c (es ++ rest)
    of = subst (AllOf c) (sym whole) (calm-of c (whole_world o c before) k)

    fit : lines_fit (before ++ r ∷ []) ≡ true
    fit = fits_after before (line.Calm c k) (fits-left before (map plainly (steps_in es)) stands.fit) fits

    over_same : nodes_over w is ≡ nodes_over v is
    over_same = ap (λ (ss : Vec Slot). record { slots = ss.items; disks = is }) slots

    same : (d : CircuitId) → (bytes_eq c d ≡ true) ⊎ (bytes_eq c d ≡ false)
        → whole_world o d (before ++ map plainly (steps_in es)) ≡ whole_world o d (before ++ r ∷ [])
    same d (inl q) =
        steps_own o before c d es q (of_first c es rest of).0
        ∙ ap (λ (i : CircuitId). occur (whole_world o i before) es) (sym (bytes_are c d q))
        ∙ sym last
        ∙ ap (λ (i : CircuitId). (calm c (whole_world o i before) k).world) (bytes_are c d q)
        ∙ sym (moves-own o before r d q)
    same d (inr q) = steps_other o before c d es q (of_first c es rest of).0 ∙ sym (moves-beside o before r d q)

-- nodes that stand before a tick with nothing to do stand after it, where it is counted
pub stands_idle : (o : Origin) (others : ℕ) (before : List Ran) (c n : CircuitId) (v w : World) (is : List Images)
    → is_line (line.Step (step.At n c event.Tick)) ≡ true → ((m : CircuitWorld) → HoldsWorld c m (nodes_over v is) → due_at c m n ≡ Some false)
    → w.slots ≡ v.slots → w.stops ≡ v.stops → w.events ≡ v.events + 1
    → StandsAfterLines o others before v is → StandsAfterLines o others (before ++ by_rule (line.Step (step.At n c event.Tick)) ∷ []) w is
stands_idle o others before c n v w is fits due slots stops events stands =
    let l = line.Step (step.At n c event.Tick) in
    let same : nodes_over w is ≡ nodes_over v is = ap (λ (ss : Vec Slot). record { slots = ss.items; disks = is }) slots in
    stands_after before l c v w is is refl fits (λ m. refl) refl stops (ap (λ (ss : Vec Slot). slot_ids ss.items) slots) stands
    (counted_line w.events v is before l 1 stands fits refl (omega (arith, events)))
    (record {
      own = λ m h. subst (HoldsWorld c (step_world m (step.At n c event.Tick))) (sym same)
          (subst (λ (u : CircuitWorld). HoldsWorld c u (nodes_over v is)) (sym (stays_due c n m (due m h))) h);
      others = λ e m off h. subst (HoldsWorld e m) (sym same) h;
    })
    (subst Sits (sym same) stands.sits)

-- ---- where one of them ended with an error

pub ended_calm : (o : Origin) (before : List Ran) (c : CircuitId) (k : ℕ) (es rest : List Occurrence) (s : Step) (e : WorldFault) (ids : List NodeId)
    (places : List ℕ) (is : List Images) → es ++ (Steps s ∷ rest) ≡ (calm c (whole_world o c before) k).happened
    → LineEnds (λ d. whole_world o d (before ++ map plainly (steps_in es))) (line.Step s) e ids places is
    → LineEnds (λ d. whole_world o d before) (line.Calm c k) e ids places is
ended_calm o before c k es rest s e ids places is all x =
    let of = of_first c es (Steps s ∷ rest) (subst (AllOf c) (sym all) (calm-of c (whole_world o c before) k)) in
    ended_in_calm (λ d. whole_world o d before) (λ d. whole_world o d (before ++ map plainly (steps_in es))) c k e ids places is es rest s of.1.0 all
    (λ d q. steps_own o before c d es q of.0) (λ d q. steps_other o before c d es q of.0) x

-- so it did before one of those that are left, where it names no disk
pub ended_so_far : (o : Origin) (others : ℕ) (before : List Ran) (c : CircuitId) (k : ℕ) (w : World) (is : List Images) (es rest : List Occurrence)
    (e : WorldFault) → es ++ rest ≡ (calm c (whole_world o c before) k).happened → ((j : ℕ) → e ≡ Disk j → ⊥)
    → StandsAfterLines o others (before ++ map plainly (steps_in es)) w is
    → LineEnds (λ d. whole_world o d before) (line.Calm c k) e (world_node_ids w) (places_of w) is
ended_so_far o others before c k w is es rest e all unnamed stands =
    let of = of_first c es rest (subst (AllOf c) (sym all) (calm-of c (whole_world o c before) k)) in
    ended_between (λ d. whole_world o d before) (λ d. whole_world o d (before ++ map plainly (steps_in es))) c k e
    (nodes_over w is) stands.sits stands.each es rest all
    (λ d q. steps_own o before c d es q of.0) (λ d q. steps_other o before c d es q of.0) unnamed

-- too many events with some of those that are left are too many in the calm
pub over_calm : (o : Origin) (others : ℕ) (before : List Ran) (c : CircuitId) (k : ℕ) (w : World) (is : List Images) (es rest : List Occurrence) (n : ℕ)
    → is_line (line.Calm c k) ≡ true → es ++ rest ≡ (calm c (whole_world o c before) k).happened → n ≤ length rest → MOST_EVENTS < w.events + n
    → StandsAfterLines o others (before ++ map plainly (steps_in es)) w is → MOST_EVENTS < events_of o (before ++ by_rule (line.Calm c k) ∷ []) + others
over_calm o others before c k w is es rest n fits whole few many stands =
    let of = of_first c es rest (subst (AllOf c) (sym whole) (calm-of c (whole_world o c before) k)) in
    let fit : lines_fit (before ++ by_rule (line.Calm c k) ∷ []) ≡ true =
    fits_after before (line.Calm c k) (fits-left before (map plainly (steps_in es)) stands.fit) fits in
    let split : length (calm c (whole_world o c before) k).happened ≡ length es + length rest = ap length (sym whole) ∙ length-append es rest in
    omega (arith, steps_events o before c es stands.begins of.0 stands.fit, calm_events o before c k stands.begins fit, split, stands.counted, few, many)

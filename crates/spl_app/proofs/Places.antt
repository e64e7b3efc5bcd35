-- What happens in lines takes place at the nodes of a run.
use Rattle.std.{specs.{List.{filter, list_all}, Str.bytes_eq}, proofs.Common.{◌≡◌, ◌⊎◌, inl, inr, ℕ, zero, suc, ◌+◌, ◌-◌, Bool, true, false, ◌&&◌, ◌||◌}}
use Rattle.std.proofs.Common.{List, [], ◌∷◌, ◌++◌, IsTrue, length, map, refl, sym, ap, ◌∙◌}
use Rattle.spl_agree.proofs.Tests.{bool_cases, if_holds, and_left, and_right}
use Rattle.spl_circuit.{specs.{Nodes.{CircuitId, Node, has_node, sorted}, Same.node_same}, proofs.Sorting.has_sorted}
use Rattle.spl_wire.specs.declared.event.Event.TheVariants as event
use Rattle.spl_sched.specs.{Grammar.{event_nodes, line_nodes, step_node, step_nodes}, declared.line.{Line.Line, Step.Step}}
use Rattle.spl_sched.specs.declared.line.Step.TheVariants as step
use Rattle.spl_sched.specs.declared.line.Line.TheVariants as line
use Rattle.spl_circuit_world.specs.Worlds.{World, SentMessage, Occurrence, Steps, Stops, Starts, Halts, circuit_happens, messages, occur}
use Rattle.spl_circuit_world.specs.{Answers.occurrences_in, Calm.{Calming, calming_step, calming, open_nodes, ticks, delivers, pair_turn, to_all, from_all}}
use Rattle.spl_circuit_world.specs.{Calm.{pass, passes, calm}, Projection.{Ran, names}, Whole.{happened_beside, happened_from, happened_in, world_after_line}}
use Rattle.spl_circuit_world.proofs.Happens.{after-run}
use Rattle.spl_circuit_safety.specs.Agreement.{AllHappenedAt, occurrence_on, restarts}

-- ---- lists of what happens

pub at-append : (ns : List Node) (xs ys : List Occurrence) → AllHappenedAt ns xs → AllHappenedAt ns ys → AllHappenedAt ns (xs ++ ys)
at-append ns [] ys h k = k
at-append ns (x ∷ xs) ys h k = (h.0, at-append ns xs ys h.1 k)

pub at-first : (ns : List Node) (xs ys : List Occurrence) → AllHappenedAt ns (xs ++ ys) → AllHappenedAt ns xs
at-first ns [] ys h = tt
at-first ns (x ∷ xs) ys h = (h.0, at-first ns xs ys h.1)

-- a node of one list is one of another
abbrev pub AreIn : List Node → List Node → Type 0
AreIn ms ns = (n : Node) → has_node ms n ≡ true → has_node ns n ≡ true

has-first : (m : Node) (ms : List Node) → has_node (m ∷ ms) m ≡ true
has-first m ms = rw (node_same m)

has-later : (m : Node) (ms : List Node) (n : Node) → has_node ms n ≡ true → has_node (m ∷ ms) n ≡ true
has-later m ms n h = either (bytes_eq m n)
  where
    either : (b : Bool) → (b || has_node ms n) ≡ true
    either true = refl
    either false = h

in-later : (m : Node) (ms ns : List Node) → AreIn (m ∷ ms) ns → AreIn ms ns
in-later m ms ns h n k = h n (has-later m ms n k)

or-more : (b x y : Bool) → (x ≡ true → y ≡ true) → (b || x) ≡ true → (b || y) ≡ true
or-more true x y h k = refl
or-more false x y h k = h k

-- those that pass a test are in the list
filter-in : (p : Node → Bool) (ms : List Node) → AreIn (filter p ms) ms
filter-in p [] n h = h
filter-in p (m ∷ ms) n h = go (bool_cases (p m)) (filter-in p ms n)
  where
    go : (p m ≡ true) ⊎ (p m ≡ false) → (has_node (filter p ms) n ≡ true → has_node ms n ≡ true) → has_node (m ∷ ms) n ≡ true
    go (inl q) more = or-more (bytes_eq m n) (has_node (filter p ms) n) (has_node ms n) more (rw q at h)
    go (inr q) more = has-later m ms n (more (rw q at h))

restarts-in : (ns ms : List Node) → AreIn ms ns → AllHappenedAt ns (restarts ms)
restarts-in ns [] h = tt
restarts-in ns (m ∷ ms) h = let here = h m (has-first m ms) in (here, (here, restarts-in ns ms (in-later m ms ns h)))

-- all nodes stop and start again
pub restarts-at : (ns : List Node) → AllHappenedAt ns (restarts ns)
restarts-at ns = restarts-in ns ns (λ n h. h)

-- and as if more was sent before
pub on-at : (ns : List Node) (old : List SentMessage) (es : List Occurrence) → AllHappenedAt ns es → AllHappenedAt ns (map (occurrence_on old) es)
on-at ns old [] h = tt
on-at ns old (Steps (step.At n c e) ∷ es) h = (h.0, on-at ns old es h.1)
on-at ns old (Steps (step.Deliver from to c k) ∷ es) h = (h.0, on-at ns old es h.1)
on-at ns old (Stops n ∷ es) h = (h.0, on-at ns old es h.1)
on-at ns old (Starts n ∷ es) h = (h.0, on-at ns old es h.1)
on-at ns old (Halts kept (step.At n c e) ∷ es) h = (h.0, on-at ns old es h.1)
on-at ns old (Halts kept (step.Deliver from to c k) ∷ es) h = (h.0, on-at ns old es h.1)

-- ---- a calm

module _ (ns : List Node) where
  abbrev CalmAt : Calming → Type 0
  CalmAt z = AllHappenedAt ns z.happened

  step-at : (z : Calming) (s : Step) → has_node ns (step_node s) ≡ true → CalmAt z → CalmAt (calming_step z s)
  step-at z s here h = at-append ns z.happened (Steps s ∷ []) h (here, tt)

  ticks-at : (c : CircuitId) (z : Calming) (ms : List Node) → AreIn ms ns → CalmAt z → CalmAt (ticks c z ms)
  ticks-at c z [] all h = h
  ticks-at c z (m ∷ ms) all h =
      ticks-at c (calming_step z (step.At m c event.Tick)) ms (in-later m ms ns all) (step-at z (step.At m c event.Tick) (all m (has-first m ms)) h)

  delivers-at : (c : CircuitId) (z : Calming) (from to : Node) (number k : ℕ) → has_node ns to ≡ true → CalmAt z → CalmAt (delivers c z from to number k)
  delivers-at c z from to number zero here h = h
  delivers-at c z from to number (suc k) here h =
      delivers-at c (calming_step z (step.Deliver from to c number)) from to (number + 1) k here (step-at z (step.Deliver from to c number) here h)

  pair-at : (c : CircuitId) (z : Calming) (from to : Node) → has_node ns to ≡ true → CalmAt z → CalmAt (pair_turn c z from to)
  pair-at c z from to here h =
      if_holds CalmAt (z.world.up to) _ _ (λ q. delivers-at c z from to (z.taken from to + 1) (length (messages z.world from to) - z.taken from to) here h)
      (λ q. h)

  to_all-at : (c : CircuitId) (z : Calming) (from : Node) (ms : List Node) → AreIn ms ns → CalmAt z → CalmAt (to_all c z from ms)
  to_all-at c z from [] all h = h
  to_all-at c z from (m ∷ ms) all h = to_all-at c (pair_turn c z from m) from ms (in-later m ms ns all) (pair-at c z from m (all m (has-first m ms)) h)

  from_all-at : (c : CircuitId) (z : Calming) (all ms : List Node) → AreIn all ns → CalmAt z → CalmAt (from_all c z all ms)
  from_all-at c z all [] known h = h
  from_all-at c z all (m ∷ ms) known h = from_all-at c (to_all c z m all) all ms known (to_all-at c z m all known h)

  open-in : (w : World) (ms : List Node) → AreIn ms ns → AreIn (open_nodes w ms) ns
  open-in w ms all n k = all n (filter-in _ ms n k)

  passes-at : (c : CircuitId) (ms : List Node) (k : ℕ) (z : Calming) → AreIn ms ns → CalmAt z → CalmAt (passes c ms k z)
  passes-at c ms zero z all h = h
  passes-at c ms (suc k) z all h =
      passes-at c ms k (pass c ms z) all
      (from_all-at c (ticks c z (open_nodes z.world ms)) ms ms all (ticks-at c z (open_nodes z.world ms) (open-in z.world ms all) h))

calm-at : (ns : List Node) (c : CircuitId) (w : World) (k : ℕ) → w.nodes ≡ ns → AllHappenedAt ns (calm c w k).happened
calm-at ns c w k same =
    passes-at ns c (sorted w.nodes) k (calming w) (λ n h. ap (λ (ms : List Node). has_node ms n) (sym same) ∙ (sym (has_sorted w.nodes n) ∙ h)) tt

-- ---- lines

-- a line names no other node
abbrev pub IsOf : List Node → Line → Type 0
IsOf ns l = IsTrue (list_all (has_node ns) (line_nodes l))

step-known : (ns : List Node) (s : Step) → IsTrue (list_all (has_node ns) (step_nodes s)) → has_node ns (step_node s) ≡ true
step-known ns (step.At n c e) h = and_left (has_node ns n) (list_all (has_node ns) (event_nodes e)) h
step-known ns (step.Deliver from to c k) h = and_left (has_node ns to) true (and_right (has_node ns from) (has_node ns to && true) h)

-- what happens in it, in the world of its circuit
pub line-at : (ns : List Node) (w : World) (l : Line) (kept : Bool) → w.nodes ≡ ns → IsOf ns l → AllHappenedAt ns (occurrences_in w l kept)
line-at ns w (line.Step s) kept same h = (step-known ns s h, tt)
line-at ns w (line.Calm c k) kept same h = calm-at ns c w k same
line-at ns w (line.Stop n) kept same h = (and_left (has_node ns n) true h, tt)
line-at ns w (line.Start n) kept same h = (and_left (has_node ns n) true h, tt)
line-at ns w (line.Roll n) kept same h = tt
line-at ns w (line.Check k) kept same h = tt
line-at ns w (line.Cut calls fill s) kept same h = (step-known ns s h, tt)
line-at ns w (line.Fail call s) kept same h = (step-known ns s h, tt)

-- and in any other
beside-at : (ns : List Node) (l : Line) → IsOf ns l → AllHappenedAt ns (happened_beside l)
beside-at ns (line.Step s) h = tt
beside-at ns (line.Calm c k) h = tt
beside-at ns (line.Stop n) h = (and_left (has_node ns n) true h, tt)
beside-at ns (line.Start n) h = (and_left (has_node ns n) true h, tt)
beside-at ns (line.Roll n) h = tt
beside-at ns (line.Check k) h = tt
beside-at ns (line.Cut calls fill s) h = (step-known ns s h, tt)
beside-at ns (line.Fail call s) h = (step-known ns s h, tt)

in-at : (ns : List Node) (c : CircuitId) (w : World) (r : Ran) → w.nodes ≡ ns → IsOf ns r.line → AllHappenedAt ns (happened_in c w r)
in-at ns c w r same h = if_holds (AllHappenedAt ns) (names c r.line) _ _ (λ q. line-at ns w r.line r.kept same h) (λ q. beside-at ns r.line h)

one-nodes : (w : World) (e : Occurrence) → (circuit_happens w e).nodes ≡ w.nodes
one-nodes w (Steps s) = refl
one-nodes w (Stops n) = if_holds (λ (v : World). v.nodes ≡ w.nodes) (w.up n) _ _ (λ q. refl) (λ q. refl)
one-nodes w (Starts n) = if_holds (λ (v : World). v.nodes ≡ w.nodes) (w.up n) _ _ (λ q. refl) (λ q. refl)
one-nodes w (Halts kept s) = if_holds (λ (v : World). v.nodes ≡ w.nodes) (w.up (step_node s)) _ _ (λ q. refl) (λ q. refl)

-- the nodes of a world stay
pub nodes-stay : (w : World) (es : List Occurrence) → (occur w es).nodes ≡ w.nodes
nodes-stay w [] = refl
nodes-stay w (e ∷ es) = nodes-stay (circuit_happens w e) es ∙ one-nodes w e

after-nodes : (c : CircuitId) (w : World) (r : Ran) → (world_after_line c w r).nodes ≡ w.nodes
after-nodes c w r = ap (λ (v : World). v.nodes) (after-run c w r) ∙ nodes-stay w (happened_in c w r)

-- each of these lines names no other node
abbrev pub AllOf : List Node → List Ran → Type 0
AllOf ns [] = Unit {0}
AllOf ns (r ∷ rs) = IsOf ns r.line × AllOf ns rs

-- what happens in them
pub lines-at : (ns : List Node) (c : CircuitId) (w : World) (rs : List Ran) → w.nodes ≡ ns → AllOf ns rs → AllHappenedAt ns (happened_from c w rs)
lines-at ns c w [] same h = tt
lines-at ns c w (r ∷ rs) same h =
    at-append ns (happened_in c w r) (happened_from c (world_after_line c w r) rs) (in-at ns c w r same h.0)
    (lines-at ns c (world_after_line c w r) rs (after-nodes c w r ∙ same) h.1)

-- All nodes stop and start again: what is left are the cells, each with no open round.
use Rattle.std.{specs.Str.bytes_eq, proofs.Common.{◌≡◌, ◌≢◌, ◌⊎◌, Bool, true, false, List, [], ◌∷◌, ◌++◌, append-nil, refl, sym, ap, subst, ◌∙◌, inl, inr}}
use Rattle.spl_agree.proofs.Tests.{if_holds, bool_cases}
use Rattle.spl_circuit.specs.{Nodes.{NodeId, CircuitId, has_node}, Same.node_same}
use Rattle.spl_sched.specs.{Grammar.step_node, declared.line.Step.Step}
use Rattle.spl_cell_rules.specs.{Cells.{Cell, Empty, Held, Purged}, Changes.{after_plan, stopped_cell}}
use Rattle.spl_circuit_world.specs.Worlds.{Origin, World, Occurrence, Steps, Stops, Starts, Halts, put_at, step_plan, step_world, node_stopped, started}
use Rattle.spl_circuit_world.{specs.Worlds.{halted, circuit_happens, occur, first_world, empty_world, world_after, node_of}, proofs.Nodes.node_cases}
use Rattle.spl_circuit_world.proofs.{Nodes.node_other, Puts.{put_at-same, put_at-other}, LinesAsOccurrences.run-append, Unmoved.unmoved-step}
use Rattle.spl_circuit_safety.specs.Agreement.{sent_before, HasLeft, restarts, AllHappenedAt}

-- ---- what a stop leaves, once more stopped

pub stopped-twice : (k : Cell) → stopped_cell (stopped_cell k) ≡ stopped_cell k
stopped-twice Empty = refl
stopped-twice (Held h) = refl
stopped-twice (Purged g) = refl

-- ---- what happens moves nothing elsewhere

record IsElsewhere (w v : World) (n : NodeId) : Type 0 where
  up : v.up n ≡ w.up n
  at : v.at n ≡ w.at n

elsewhere : (w : World) (e : Occurrence) (n : NodeId) → n ≢ node_of e → IsElsewhere w (circuit_happens w e) n
elsewhere w (Steps s) n d = record { up = refl; at = put_at-other w.at (step_node s) _ n d }
elsewhere w (Stops m) n d =
    if_holds (λ (v : World). IsElsewhere w v n) (w.up m) (node_stopped w m) w
    (λ q. record { up = put_at-other w.up m false n d; at = put_at-other w.at m _ n d }) (λ q. record { up = refl; at = refl })
elsewhere w (Starts m) n d =
    if_holds (λ (v : World). IsElsewhere w v n) (w.up m) w (started w m) (λ q. record { up = refl; at = refl })
    (λ q. record { up = put_at-other w.up m true n d; at = refl })
elsewhere w (Halts kept s) n d =
    if_holds (λ (v : World). IsElsewhere w v n) (w.up (step_node s)) (halted w (step_node s) kept (step_plan w s)) w
    (λ q. record { up = put_at-other w.up (step_node s) false n d; at = put_at-other w.at (step_node s) _ n d }) (λ q. record { up = refl; at = refl })

-- ---- a node that is down has no open round

abbrev IsDown : World → NodeId → Type 0
IsDown w n = w.up n ≡ false → w.at n ≡ stopped_cell (w.at n)

no : {A : Type 0} {b : Bool} → b ≡ true → b ≡ false → A
no p q = cc

down-step : (w : World) (s : Step) → IsDown w (step_node s) → IsDown (step_world w s) (step_node s)
down-step w s h q = subst (λ (k : Cell). k ≡ stopped_cell k) (sym (put_at-same w.at (step_node s) _ ∙ same)) (h q)
  where
    same : after_plan (step_node s) (w.at (step_node s)) (step_plan w s) ≡ w.at (step_node s)
    same = sym (put_at-same w.at (step_node s) (after_plan (step_node s) (w.at (step_node s)) (step_plan w s)))
        ∙ (unmoved-step w s Rattle.spl_wire.specs.declared.answer.Refusal.TheVariants.Down (rw q refl)).at (step_node s)

down-put : (w : World) (up : NodeId → Bool) (m : NodeId) (k : Cell) → put_at w.at m (stopped_cell k) m ≡ stopped_cell (put_at w.at m (stopped_cell k) m)
down-put w up m k = subst (λ (x : Cell). x ≡ stopped_cell x) (sym (put_at-same w.at m (stopped_cell k))) (sym (stopped-twice k))

down-here : (w : World) (e : Occurrence) → IsDown w (node_of e) → IsDown (circuit_happens w e) (node_of e)
down-here w (Steps s) h = down-step w s h
down-here w (Stops m) h = if_holds (λ (v : World). IsDown v m) (w.up m) (node_stopped w m) w (λ q x. down-put w w.up m (w.at m)) (λ q. h)
down-here w (Starts m) h = if_holds (λ (v : World). IsDown v m) (w.up m) w (started w m) (λ q. h) (λ q x. no (put_at-same w.up m true) x)
down-here w (Halts kept s) h =
    if_holds (λ (v : World). IsDown v (step_node s)) (w.up (step_node s)) (halted w (step_node s) kept (step_plan w s)) w
    (λ q x. down-put w w.up (step_node s) _) (λ q. h)

down-happens : (w : World) (e : Occurrence) (n : NodeId) → ((m : NodeId) → IsDown w m) → IsDown (circuit_happens w e) n
down-happens w e n h = go (node_cases n (node_of e))
  where
    go : (n ≡ node_of e) ⊎ (n ≢ node_of e) → IsDown (circuit_happens w e) n
    go (inl q) = subst (λ (m : NodeId). IsDown (circuit_happens w e) m) (sym q) (down-here w e (h (node_of e)))
    go (inr q) =
        λ x. let i : IsElsewhere w (circuit_happens w e) n = elsewhere w e n q in subst (λ (k : Cell). k ≡ stopped_cell k) (sym i.at) (h n (sym i.up ∙ x))

down-occur : (w : World) (es : List Occurrence) → ((m : NodeId) → IsDown w m) → (m : NodeId) → IsDown (occur w es) m
down-occur w [] h = h
down-occur w (e ∷ es) h = down-occur (circuit_happens w e) es (λ m. down-happens w e m h)

-- ---- what happens at registered nodes leaves any other as it was

not-there : (ns : List NodeId) (n m : NodeId) → has_node ns n ≡ false → has_node ns m ≡ true → n ≢ m
not-there ns n m h k e = no (subst (λ (z : NodeId). has_node ns z ≡ true) (sym e) k) h

others-stay : (ns : List NodeId) (w : World) (es : List Occurrence) (n : NodeId) → AllHappenedAt ns es → has_node ns n ≡ false → IsElsewhere w (occur w es) n
others-stay ns w [] n h k = record { up = refl; at = refl }
others-stay ns w (e ∷ es) n h k =
    let i : IsElsewhere w (circuit_happens w e) n = elsewhere w e n (not-there ns n (node_of e) k h.0) in
    let j : IsElsewhere (circuit_happens w e) (occur (circuit_happens w e) es) n = others-stay ns (circuit_happens w e) es n h.1 k in
    record { up = j.up ∙ i.up; at = j.at ∙ i.at }

-- ---- one node stops and starts

record IsAnew (w v : World) (n : NodeId) : Type 0 where
  up : v.up n ≡ true
  at : v.at n ≡ stopped_cell (w.at n)

abbrev again : World → NodeId → World
again w n = circuit_happens (circuit_happens w (Stops n)) (Starts n)

again-up : (w : World) (n : NodeId) → IsDown w n → (w.up n ≡ true) ⊎ (w.up n ≡ false) → IsAnew w (again w n) n
again-up w n h (inl q) =
    rw (q, put_at-same w.up n false) (record { up = put_at-same (put_at w.up n false) n true; at = put_at-same w.at n (stopped_cell (w.at n)) })
again-up w n h (inr q) = rw (q, q) (record { up = put_at-same w.up n true; at = h q })

again-here : (w : World) (n : NodeId) → IsDown w n → IsAnew w (again w n) n
again-here w n h = again-up w n h (bool_cases (w.up n))

again-other : (w : World) (n m : NodeId) → m ≢ n → IsElsewhere w (again w n) m
again-other w n m d =
    let i : IsElsewhere w (circuit_happens w (Stops n)) m = elsewhere w (Stops n) m d in
    let j : IsElsewhere (circuit_happens w (Stops n)) (again w n) m = elsewhere (circuit_happens w (Stops n)) (Starts n) m d in
    record { up = j.up ∙ i.up; at = j.at ∙ i.at }

again-rest : (w : World) (n : NodeId) → ((again w n).nodes ≡ w.nodes) × ((again w n).sent ≡ w.sent)
again-rest w n =
    if_holds (λ (v : World). (v.nodes ≡ w.nodes) × (v.sent ≡ w.sent)) ((circuit_happens w (Stops n)).up n) (circuit_happens w (Stops n))
    (started (circuit_happens w (Stops n)) n) (λ q. first) (λ q. first)
  where
    first : ((circuit_happens w (Stops n)).nodes ≡ w.nodes) × ((circuit_happens w (Stops n)).sent ≡ w.sent)
    first = if_holds (λ (v : World). (v.nodes ≡ w.nodes) × (v.sent ≡ w.sent)) (w.up n) (node_stopped w n) w (λ q. (refl, refl)) (λ q. (refl, refl))

-- ---- all nodes do

-- a node is up with no open round already, or is one of these
record IsBack (w v : World) (ns : List NodeId) : Type 0 where
  nodes : v.nodes ≡ w.nodes
  sent : v.sent ≡ w.sent
  there : (n : NodeId) → has_node ns n ≡ true → IsAnew w v n
  other : (n : NodeId) → has_node ns n ≡ false → IsElsewhere w v n

anew-twice : (w v u : World) (n : NodeId) → IsAnew w v n → IsAnew v u n → IsAnew w u n
anew-twice w v u n i j = record { up = j.up; at = j.at ∙ (ap stopped_cell i.at ∙ stopped-twice (w.at n)) }

restart-all : (w : World) (ns : List NodeId) → ((m : NodeId) → IsDown w m) → IsBack w (occur w (restarts ns)) ns
restart-all w [] h = record { nodes = refl; sent = refl; there = λ n k. cc; other = λ n k. record { up = refl; at = refl } }
restart-all w (n ∷ ns) h = more (restart-all (again w n) ns (λ m. down-happens (circuit_happens w (Stops n)) (Starts n) m (λ j. down-happens w (Stops n) j h)))
  where
    more : IsBack (again w n) (occur (again w n) (restarts ns)) ns → IsBack w (occur (again w n) (restarts ns)) (n ∷ ns)
    more b = record {
      nodes = b.nodes ∙ (again-rest w n).0;
      sent = b.sent ∙ (again-rest w n).1;
      there = λ m k. there m (node_cases m n) (bool_cases (has_node ns m)) k;
      other = λ m k. other m k;
    }
      where
        -- a node of the rest that isn't this one
        later : (m : NodeId) → IsAnew (again w n) (occur (again w n) (restarts ns)) m → IsElsewhere w (again w n) m
            → IsAnew w (occur (again w n) (restarts ns)) m
        later m i j = record { up = i.up; at = i.at ∙ ap stopped_cell j.at }

        this : (m : NodeId) → m ≡ n → IsAnew w (again w n) m
        this m q = subst (λ (j : NodeId). IsAnew w (again w n) j) (sym q) (again-here w n (h n))

        there : (m : NodeId) → (m ≡ n) ⊎ (m ≢ n) → (has_node ns m ≡ true) ⊎ (has_node ns m ≡ false) → has_node (n ∷ ns) m ≡ true
            → IsAnew w (occur (again w n) (restarts ns)) m
        there m (inl q) (inl r) k = anew-twice w (again w n) (occur (again w n) (restarts ns)) m (this m q) (b.there m r)
        there m (inl q) (inr r) k =
            let i : IsElsewhere (again w n) (occur (again w n) (restarts ns)) m = b.other m r in let j : IsAnew w (again w n) m = this m q in
            record { up = i.up ∙ j.up; at = i.at ∙ j.at }
        there m (inr q) (inl r) k = later m (b.there m r) (again-other w n m q)
        there m (inr q) (inr r) k = let x : bytes_eq n m ≡ false = node_other n m (λ e. q (sym e)) in no k (rw (x, r) refl)

        other : (m : NodeId) → has_node (n ∷ ns) m ≡ false → IsElsewhere w (occur (again w n) (restarts ns)) m
        other m k = go (bool_cases (bytes_eq n m)) (bool_cases (has_node ns m))
          where
            go : (bytes_eq n m ≡ true) ⊎ (bytes_eq n m ≡ false) → (has_node ns m ≡ true) ⊎ (has_node ns m ≡ false)
                → IsElsewhere w (occur (again w n) (restarts ns)) m
            go (inl q) r = no (rw q refl) k
            go (inr q) (inl r) = no (rw (q, r) refl) k
            go (inr q) (inr r) =
                let i : IsElsewhere (again w n) (occur (again w n) (restarts ns)) m = b.other m r in
                let j : IsElsewhere w (again w n) m = again-other w n m (λ e. no (subst (λ (z : NodeId). bytes_eq n z ≡ true) (sym e) (node_same n)) q) in
                record { up = i.up ∙ j.up; at = i.at ∙ j.at }

-- ---- what is left

world-is : (w v : World) → v.nodes ≡ w.nodes → ((n : NodeId) → v.up n ≡ w.up n) → ((n : NodeId) → v.at n ≡ w.at n) → v.sent ≡ w.sent → v ≡ w
world-is w v a b c d = λ i. record { nodes = a i; up = λ n. b n i; at = λ n. c n i; sent = d i }

occur-nodes : (w : World) (es : List Occurrence) → (occur w es).nodes ≡ w.nodes
occur-nodes w [] = refl
occur-nodes w (e ∷ es) = occur-nodes (circuit_happens w e) es ∙ one e
  where
    one : (e : Occurrence) → (circuit_happens w e).nodes ≡ w.nodes
    one (Steps s) = refl
    one (Stops n) = if_holds (λ (v : World). v.nodes ≡ w.nodes) (w.up n) (node_stopped w n) w (λ q. refl) (λ q. refl)
    one (Starts n) = if_holds (λ (v : World). v.nodes ≡ w.nodes) (w.up n) w (started w n) (λ q. refl) (λ q. refl)
    one (Halts kept s) =
        if_holds (λ (v : World). v.nodes ≡ w.nodes) (w.up (step_node s)) (halted w (step_node s) kept (step_plan w s)) w (λ q. refl) (λ q. refl)

pub restarts-leave : (o : Origin) (c : CircuitId) (es : List Occurrence) → AllHappenedAt o.nodes es
    → ((n : NodeId) → o.kept c n ≡ stopped_cell ((world_after o.nodes es).at n)) → HasLeft (es ++ restarts o.nodes) o c
restarts-leave o c es at kept = world-is (sent_before v.sent (first_world o c)) v nodes up cells sent
  where
    w : World
    w = world_after o.nodes es

    v : World
    v = world_after o.nodes (es ++ restarts o.nodes)

    same : v ≡ occur w (restarts o.nodes)
    same = run-append (empty_world o.nodes) es (restarts o.nodes)

    b : IsBack w (occur w (restarts o.nodes)) o.nodes
    b = restart-all w o.nodes (down-occur (empty_world o.nodes) es (λ m x. refl))

    nodes : v.nodes ≡ o.nodes
    nodes = occur-nodes (empty_world o.nodes) (es ++ restarts o.nodes)

    outside : (n : NodeId) → has_node o.nodes n ≡ false → IsElsewhere (empty_world o.nodes) w n
    outside n q = others-stay o.nodes (empty_world o.nodes) es n at q

    up : (n : NodeId) → v.up n ≡ true
    up n = ap (λ (x : World). x.up n) same ∙ go (bool_cases (has_node o.nodes n))
      where
        go : (has_node o.nodes n ≡ true) ⊎ (has_node o.nodes n ≡ false) → (occur w (restarts o.nodes)).up n ≡ true
        go (inl q) = (b.there n q).up
        go (inr q) = (b.other n q).up ∙ (outside n q).up

    cells : (n : NodeId) → v.at n ≡ o.kept c n
    cells n = ap (λ (x : World). x.at n) same ∙ (go (bool_cases (has_node o.nodes n)) ∙ sym (kept n))
      where
        go : (has_node o.nodes n ≡ true) ⊎ (has_node o.nodes n ≡ false) → (occur w (restarts o.nodes)).at n ≡ stopped_cell (w.at n)
        go (inl q) = (b.there n q).at
        go (inr q) = (b.other n q).at ∙ subst (λ (k : Cell). k ≡ stopped_cell k) (sym (outside n q).at) refl

    sent : v.sent ≡ v.sent ++ []
    sent = sym (append-nil v.sent)

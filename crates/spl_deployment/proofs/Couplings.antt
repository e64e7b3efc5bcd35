-- The world of a circuit beside what all processes keep and have sent.
use Rattle.std.{specs.{Prelude.{if◌then◌else◌, slice_get, Option, Some}, Str.bytes_eq}, proofs.Common.{◌≡◌, ◌≢◌, ◌⊎◌, ℕ, suc, ◌-◌, Bool, true, false, List}}
use Rattle.std.proofs.Common.{[], ◌∷◌, ◌++◌, append-nil, sym, ap, subst, ◌∙◌, inl, inr, arith}
use Rattle.spl_agree.proofs.Booleans.{bool_cases}
use Rattle.spl_circuit.specs.{Nodes.{NodeId, CircuitId}, Same.{node_is, node_same}}
use Rattle.spl_wire.specs.declared.{event.Event.Event, message.Message.Message}
use Rattle.spl_wire.specs.declared.event.Event.TheVariants as event
use Rattle.spl_wire.specs.declared.answer.Refusal.TheVariants as refusal
use Rattle.spl_wire.specs.declared.answer.Answer.TheVariants as answer
use Rattle.spl_sched.specs.declared.line.Step.{Step}
use Rattle.spl_sched.specs.declared.line.Step.TheVariants as step
use Rattle.spl_cell_rules.specs.{Cells.{Cell, site_at}, Changes.{after_plan, stopped_cell}, Plans.{plan_of, tells_only}}
use Rattle.spl_node.specs.Kept.{cells_after}
use Rattle.spl_circuit_world.specs.Worlds.{World, SentMessage, Occurrence, Steps, Stops, Starts, circuit_carried_out, delivery_plan, circuit_happens}
use Rattle.spl_circuit_world.specs.{Worlds.{messages, occur, on_pair, posted_outgoing, put_at, started, step_world, node_stopped}, Projection.AllPlain}
use Rattle.spl_circuit_world.proofs.{Nodes.node_cases, Puts.{put_at-same, put_at-other}, LinesAsOccurrences.{run-append, plain-append}}
use Rattle.spl_deployment.specs.{Doings.{Doing, Runs, Hears, Begins, sends_at}, Deployments.{History, MayBe, AllMayBe, Net, happened, net_after, net_by}}
use Rattle.spl_deployment.specs.Deployments.{occurred}

module _ (ns : List NodeId) (c : CircuitId) where
  -- the nodes of a world are up, and keep and have sent what the processes do and have
  pub record Couples (w : World) (z : Net) : Type 0 where
    pub nodes : w.nodes ≡ ns
    pub up : (n : NodeId) → w.up n ≡ true
    pub at : (n : NodeId) → w.at n ≡ z.cells n c
    pub sent : w.sent ≡ z.sent c

  -- ---- another thing at one node

  put-both : (w : World) (z : Net) (n : NodeId) (x : Cell) (f : CircuitId → Cell) → ((m : NodeId) → w.at m ≡ z.cells m c) → x ≡ f c → (m : NodeId)
      → put_at w.at n x m ≡ put_at z.cells n f m c
  put-both w z n x f h e m = go (node_cases m n)
    where
      go : (m ≡ n) ⊎ (m ≢ n) → put_at w.at n x m ≡ put_at z.cells n f m c
      go (inl q) =
          subst (λ (k : NodeId). put_at w.at n x k ≡ put_at z.cells n f k c) (sym q)
          (put_at-same w.at n x ∙ (e ∙ sym (ap (λ (g : CircuitId → Cell). g c) (put_at-same z.cells n f))))
      go (inr q) = put_at-other w.at n x m q ∙ (h m ∙ sym (ap (λ (g : CircuitId → Cell). g c) (put_at-other z.cells n f m q)))

  put-still : (z : Net) (n : NodeId) (f : CircuitId → Cell) → f c ≡ z.cells n c → (m : NodeId) → z.cells m c ≡ put_at z.cells n f m c
  put-still z n f e m = go (node_cases m n)
    where
      go : (m ≡ n) ⊎ (m ≢ n) → z.cells m c ≡ put_at z.cells n f m c
      go (inl q) =
          subst (λ (k : NodeId). z.cells k c ≡ put_at z.cells n f k c) (sym q) (sym e ∙ sym (ap (λ (g : CircuitId → Cell). g c) (put_at-same z.cells n f)))
      go (inr q) = sym (ap (λ (g : CircuitId → Cell). g c) (put_at-other z.cells n f m q))

  -- ---- an event

  -- what a process keeps and sends by an event at a circuit
  abbrev net_event : Net → NodeId → CircuitId → Event → Net
  net_event z n d e = record {
    cells = put_at z.cells n (cells_after n (z.cells n) d e);
    sent = λ id. z.sent id ++ posted_outgoing ns n (sends_at n (z.cells n) d e id);
  }

  event-here : (w : World) (z : Net) (n : NodeId) (e : Event) → Couples w z
      → Couples (circuit_carried_out w n (plan_of (site_at n c) (w.at n) e)) (net_event z n c e)
  event-here w z n e k = record {
    nodes = k.nodes;
    up = k.up;
    at = put-both w z n (after_plan n (w.at n) (plan_of (site_at n c) (w.at n) e)) (cells_after n (z.cells n) c e) k.at after;
    sent = sends;
  }
    where
      kept : Cell
      kept = z.cells n c

      after : after_plan n (w.at n) (plan_of (site_at n c) (w.at n) e) ≡ cells_after n (z.cells n) c e c
      after = ap (λ (x : Cell). after_plan n x (plan_of (site_at n c) x e)) (k.at n)
          ∙ sym (ap (λ (b : Bool). if b then after_plan n kept (plan_of (site_at n c) kept e) else kept) (node_same c))

      posts : Cell → List SentMessage
      posts x = posted_outgoing ns n (plan_of (site_at n c) x e).sends

      sends : (w.sent ++ posted_outgoing w.nodes n (plan_of (site_at n c) (w.at n) e).sends) ≡ (z.sent c ++ posted_outgoing ns n (sends_at n (z.cells n) c e c))
      sends =
          ap (λ (xs : List NodeId). w.sent ++ posted_outgoing xs n (plan_of (site_at n c) (w.at n) e).sends) k.nodes
          ∙ (ap (λ (ss : List SentMessage). ss ++ posts (w.at n)) k.sent
          ∙ (ap (λ (x : Cell). z.sent c ++ posts x) (k.at n)
          ∙ sym (ap (λ (b : Bool). z.sent c ++ posted_outgoing ns n (if b then (plan_of (site_at n c) kept e).sends else [])) (node_same c))))

  event-aside : (w : World) (z : Net) (n : NodeId) (d : CircuitId) (e : Event) → bytes_eq d c ≡ false → Couples w z → Couples w (net_event z n d e)
  event-aside w z n d e q k = record {
    nodes = k.nodes;
    up = k.up;
    at = λ m. k.at m ∙ put-still z n (cells_after n (z.cells n) d e)
        (ap (λ (b : Bool). if b then after_plan n (z.cells n d) (plan_of (site_at n d) (z.cells n d) e) else z.cells n c) q) m;
    sent = k.sent ∙ (sym (append-nil (z.sent c))
        ∙ sym (ap (λ (b : Bool). z.sent c ++ posted_outgoing ns n (if b then (plan_of (site_at n d) (z.cells n d) e).sends else [])) q));
  }

  -- ---- steps of the world

  step-run : (w : World) (n : NodeId) (e : Event) → w.up n ≡ true → step_world w (step.At n c e) ≡ circuit_carried_out w n (plan_of (site_at n c) (w.at n) e)
  step-run w n e h = ap (λ (b : Bool). circuit_carried_out w n (if b then plan_of (site_at n c) (w.at n) e else tells_only (answer.Refused refusal.Down))) h

  heard : (w : World) (n from : NodeId) (i : ℕ) (m : Message) → bytes_eq from n ≡ false → slice_get (on_pair from n w.sent) i ≡ Some m
      → slice_get (messages w from n) (suc i - 1) ≡ Some m
  heard w n from i m q h =
      ap (λ (b : Bool). slice_get (if b then [] else on_pair from n w.sent) (suc i - 1)) q
      ∙ (ap (λ (j : ℕ). slice_get (on_pair from n w.sent) j) (omega arith) ∙ h)

  step-hear : (w : World) (n from : NodeId) (i : ℕ) (m : Message) → w.up n ≡ true → bytes_eq from n ≡ false → slice_get (on_pair from n w.sent) i ≡ Some m
      → step_world w (step.Deliver from n c (suc i)) ≡ circuit_carried_out w n (plan_of (site_at n c) (w.at n) (event.Deliver from m))
  step-hear w n from i m h q is =
      ap (λ (b : Bool). circuit_carried_out w n
      (if b then delivery_plan c w from n (slice_get (messages w from n) (suc i - 1)) else tells_only (answer.Refused refusal.Down))) h
      ∙ ap (λ (o : Option Message). circuit_carried_out w n (delivery_plan c w from n o)) (heard w n from i m q is)

  -- ---- a beginning

  begin-world : (w : World) (n : NodeId) → w.up n ≡ true → occur w (Stops n ∷ Starts n ∷ []) ≡ started (node_stopped w n) n
  begin-world w n h =
      ap (λ (b : Bool). circuit_happens (if b then node_stopped w n else w) (Starts n)) h
      ∙ ap (λ (b : Bool). if b then node_stopped w n else started (node_stopped w n) n) (put_at-same w.up n false)

  begin-up : (w : World) (n : NodeId) → ((m : NodeId) → w.up m ≡ true) → (m : NodeId) → put_at (put_at w.up n false) n true m ≡ true
  begin-up w n h m = go (node_cases m n)
    where
      go : (m ≡ n) ⊎ (m ≢ n) → put_at (put_at w.up n false) n true m ≡ true
      go (inl q) = subst (λ (k : NodeId). put_at (put_at w.up n false) n true k ≡ true) (sym q) (put_at-same (put_at w.up n false) n true)
      go (inr q) = put_at-other (put_at w.up n false) n true m q ∙ (put_at-other w.up n false m q ∙ h m)

  begins : (w : World) (z : Net) (n : NodeId) → Couples w z → Couples (started (node_stopped w n) n) (net_by ns z n Begins)
  begins w z n k = record {
    nodes = k.nodes;
    up = begin-up w n k.up;
    at = put-both w z n (stopped_cell (w.at n)) (λ d. stopped_cell (z.cells n d)) k.at (ap stopped_cell (k.at n));
    sent = k.sent ∙ sym (append-nil (z.sent c));
  }

  -- ---- what a process does

  -- at the circuit of the event, or at another
  split : (w : World) (z : Net) (n : NodeId) (d : CircuitId) (e : Event) (s : Step)
      → (bytes_eq d c ≡ true → step_world w s ≡ circuit_carried_out w n (plan_of (site_at n c) (w.at n) e)) → Couples w z
      → Couples (occur w (if bytes_eq d c then Steps s ∷ [] else [])) (net_event z n d e)
  split w z n d e s h k = go (bool_cases (bytes_eq d c))
    where
      here : bytes_eq d c ≡ true → Couples (step_world w s) (net_event z n d e)
      here q = subst (λ (v : World). Couples v (net_event z n d e)) (sym (h q))
          (subst (λ (i : CircuitId). Couples (circuit_carried_out w n (plan_of (site_at n c) (w.at n) e)) (net_event z n i e)) (sym (node_is d c q))
          (event-here w z n e k))

      go : (bytes_eq d c ≡ true) ⊎ (bytes_eq d c ≡ false) → Couples (occur w (if bytes_eq d c then Steps s ∷ [] else [])) (net_event z n d e)
      go (inl q) = subst (λ (b : Bool). Couples (occur w (if b then Steps s ∷ [] else [])) (net_event z n d e)) (sym q) (here q)
      go (inr q) = subst (λ (b : Bool). Couples (occur w (if b then Steps s ∷ [] else [])) (net_event z n d e)) (sym q) (event-aside w z n d e q k)

  pub does : (w : World) (z : Net) (n : NodeId) (x : Doing) (i : ℕ) → MayBe z n x i → Couples w z → Couples (occur w (occurred c n x i)) (net_by ns z n x)
  does w z n (Runs d e) i may k = split w z n d e (step.At n c e) (λ q. step-run w n e (k.up n)) k
  does w z n (Hears from d m) i may k = split w z n d (event.Deliver from m) (step.Deliver from n c (suc i)) hear k
    where
      hear : bytes_eq d c ≡ true
          → step_world w (step.Deliver from n c (suc i)) ≡ circuit_carried_out w n (plan_of (site_at n c) (w.at n) (event.Deliver from m))
      hear q = step-hear w n from i m (k.up n) may.0
          (ap (λ (ss : List SentMessage). slice_get (on_pair from n ss) i) k.sent
          ∙ (ap (λ (id : CircuitId). slice_get (on_pair from n (z.sent id)) i) (sym (node_is d c q)) ∙ may.1))
  does w z n Begins i may k = subst (λ (v : World). Couples v (net_by ns z n Begins)) (sym (begin-world w n (k.up n))) (begins w z n k)

  -- ---- a history

  pub couples : (w : World) (z : Net) (h : History) → AllMayBe ns z h → Couples w z → Couples (occur w (happened c h)) (net_after ns z h)
  couples w z [] may k = k
  couples w z (e ∷ h) may k =
      subst (λ (v : World). Couples v (net_after ns (net_by ns z e.by e.doing) h)) (sym (run-append w (occurred c e.by e.doing e.number) (happened c h)))
      (couples (occur w (occurred c e.by e.doing e.number)) (net_by ns z e.by e.doing) h may.1 (does w z e.by e.doing e.number may.0 k))

  -- no delivery is made up

  if-plain : (b : Bool) (e : Occurrence) → AllPlain (e ∷ []) → AllPlain (if b then e ∷ [] else [])
  if-plain true e h = h
  if-plain false e h = tt

  plain-doing : (z : Net) (n : NodeId) (x : Doing) (i : ℕ) → MayBe z n x i → AllPlain (occurred c n x i)
  plain-doing z n (Runs d e) i may = if-plain (bytes_eq d c) (Steps (step.At n c e)) (may, tt)
  plain-doing z n (Hears from d m) i may = if-plain (bytes_eq d c) (Steps (step.Deliver from n c (suc i))) (tt, tt)
  plain-doing z n Begins i may = (tt, (tt, tt))

  pub plain : (z : Net) (h : History) → AllMayBe ns z h → AllPlain (happened c h)
  plain z [] may = tt
  plain z (e ∷ h) may =
      plain-append (occurred c e.by e.doing e.number) (happened c h) (plain-doing z e.by e.doing e.number may.0) (plain (net_by ns z e.by e.doing) h may.1)

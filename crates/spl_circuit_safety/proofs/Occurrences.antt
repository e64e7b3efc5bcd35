-- Whole runs: the coupling holds after each event, and gives the agreement of circuits.
use Rattle.std.{specs.{Prelude.{Option, Some, None, if◌then◌else◌, slice_get}, Str.bytes_eq}, proofs.Common.{◌≡◌, ◌≢◌, ℕ, zero, suc, ◌-◌, ◌⊎◌, Bool, true}}
use Rattle.std.proofs.Common.{false, ◌&&◌, List, [], ◌∷◌, ◌++◌, append-nil, append_assoc, refl, sym, ap, subst, ◌∙◌, inl, inr}
use Rattle.spl_agree.{specs.{Member.{Member, values}, World.IsPrefixOf, Fits.AllGood}, proofs.Tests.{if_holds, bool_cases, and_left, and_right}}
use Rattle.spl_circuit.specs.{Nodes.{NodeId, CircuitId, position}, Rules.{admin, service}, Acts.act_rules, Same.node_is, declared.act.Act.Act}
use Rattle.spl_circuit.specs.declared.definition.Definition.{Definition}
use Rattle.spl_circuit.specs.declared.act.ActKind.TheVariants as kind
use Rattle.spl_command.specs.declared.batch.Batch.{Batch}
use Rattle.spl_wire.specs.declared.{event.Event.Event, message.Message.Message, plan.Plan.Plan}
use Rattle.spl_wire.specs.declared.event.Event.TheVariants as event
use Rattle.spl_wire.specs.declared.answer.Refusal.TheVariants as refusal
use Rattle.spl_group_safety.proofs.Agreement.{prefix-agrees}
use Rattle.spl_cell_rules.specs.{Cells.{Cell, Empty, Held, Deed, Refuses, Bound, site_at}, Changes.{changes_made, stopped_cell, after_plan}, Events.does}
use Rattle.spl_cell_rules.specs.Plans.{planned}
use Rattle.spl_sched.specs.{Grammar.step_node, declared.line.Step.Step}
use Rattle.spl_sched.specs.declared.line.Step.TheVariants as step
use Rattle.spl_circuit_world.specs.Worlds.{SentMessage, World, empty_world, put_at, on_pair, messages, posted_outgoing, delivery_plan, step_plan}
use Rattle.spl_circuit_world.specs.Worlds.{node_stopped, started, halted, Occurrence, Steps, Stops, Starts, Halts, circuit_happens, occur, world_after}
use Rattle.spl_circuit_world.{specs.Projection.{IsPlainEvent, IsPlain, IsPlainStep, AllPlain}, proofs.{Nodes.node_not, Puts.{put_at-same, put_at-other}}}
use Rattle.spl_circuit_safety.specs.Agreement.{acts_in, batches_in, adds, acts_from, batches_from, act_list, batch_list, AtEach, FirstIsProposal, IsPast}
use Rattle.spl_circuit_safety.proofs.GroupOfDefinition.{GroupMessage, Presence, Away, There, Ever, IsQuiet, SomeWorld, InGroups, Groups, group_of}
use Rattle.spl_circuit_safety.proofs.GroupWorlds.{admin_said, service_said, admin_presence, service_presence, WasSent, IsValid, IsValidCell, InWorld, Others}
use Rattle.spl_circuit_safety.proofs.{GroupWorlds.{was-left, admin_groups, service_groups, first_act}, CoupledSteps.{Past, world-messages, world-stop}}
use Rattle.spl_circuit_safety.proofs.{DeedsAreSteps.{IsStepOf, IsDue, steps-does}, PendingActsDue.{Apt, apt-does}, CoupledDeeds.{stopped-moved, added}}
use Rattle.spl_circuit_safety.proofs.CoupledDeeds.{added-none, world-lists, SomePast, Planned, none-more, put-others, planned-deed}

-- what is on a pair was sent
pub pair-was : (from to : NodeId) (ss : List SentMessage) (k : ℕ) (m : Message) → slice_get (on_pair from to ss) k ≡ Some m
    → WasSent (record { from = from; to = to; message = m }) ss
pair-was from to [] k m h = cc
pair-was from to (s ∷ ss) k m h = go (bool_cases (bytes_eq s.from from && bytes_eq s.to to)) (λ j x. pair-was from to ss j m x)
  where
    built : NodeId → NodeId → Message → SentMessage
    built x y z = record { from = x; to = y; message = z }

    built_is : (x x2 y y2 : NodeId) (z z2 : Message) → x ≡ x2 → y ≡ y2 → z ≡ z2 → built x y z ≡ built x2 y2 z2
    built_is x x2 y y2 z z2 p q r = cc

    some_same : (x y : Message) → Some x ≡ Some y → x ≡ y
    some_same x y e = cc

    first : (j : ℕ) → (bytes_eq s.from from && bytes_eq s.to to) ≡ true
        → ((i : ℕ) → slice_get (on_pair from to ss) i ≡ Some m → WasSent (record { from = from; to = to; message = m }) ss)
        → slice_get (s.message ∷ on_pair from to ss) j ≡ Some m → WasSent (record { from = from; to = to; message = m }) (s ∷ ss)
    first zero q hyp x =
        inl (built_is from s.from to s.to m s.message (sym (node_is s.from from (and_left (bytes_eq s.from from) (bytes_eq s.to to) q)))
        (sym (node_is s.to to (and_right (bytes_eq s.from from) (bytes_eq s.to to) q))) (sym (some_same s.message m x)))
    first (suc j) q hyp x = inr (hyp j x)

    go : ((bytes_eq s.from from && bytes_eq s.to to) ≡ true) ⊎ ((bytes_eq s.from from && bytes_eq s.to to) ≡ false)
        → ((i : ℕ) → slice_get (on_pair from to ss) i ≡ Some m → WasSent (record { from = from; to = to; message = m }) ss)
        → WasSent (record { from = from; to = to; message = m }) (s ∷ ss)
    go (inl q) hyp = first k q hyp (rw q at h)
    go (inr q) hyp = inr (hyp k (rw q at h))

-- a plan that some deed gives which is a step
abbrev pub IsDeed : World → NodeId → Plan → Type 0
IsDeed w n p = (deed : Deed) × IsStepOf n w.sent (w.at n) deed × (c : CircuitId) × (p ≡ planned (site_at n c) deed) × Apt (admin_said w.sent) n deed

-- what an event at a node gives is one
pub due-at : (c : CircuitId) (w : World) (n : NodeId) (e : Event) → IsDue w.sent n e → IsDeed w n (planned (site_at n c) (does (site_at n c) (w.at n) e))
due-at c w n e due = (does (site_at n c) (w.at n) e, steps-does (site_at n c) w.sent (w.at n) e due, c, refl, apt-does (site_at n c) w.sent (w.at n) e due)

-- an event that is no delivery is due
pub plain-due : (sent : List SentMessage) (n : NodeId) (e : Event) → IsPlainEvent e → IsDue sent n e
plain-due sent n (event.Deliver from m) h = absurd h
plain-due sent n _ h = tt

-- a delivery is such a plan
pub delivery-deed : (c : CircuitId) (w : World) (from to : NodeId) (k : ℕ) (o : Option Message) → slice_get (messages w from to) k ≡ o
    → IsDeed w to (delivery_plan c w from to o)
delivery-deed c w from to k None h = (Refuses refusal.NoMessage, tt, c, refl, tt)
delivery-deed c w from to k (Some m) h = due-at c w to (event.Deliver from m) (go (bool_cases (bytes_eq from to)))
  where
    none_there : (xs : List Message) (j : ℕ) → xs ≡ [] → slice_get xs j ≡ Some m → ⊥
    none_there [] j e x = cc
    none_there (y ∷ ys) j e x = cc

    empty : bytes_eq from to ≡ true → messages w from to ≡ []
    empty q = rw q

    go : (bytes_eq from to ≡ true) ⊎ (bytes_eq from to ≡ false) → WasSent (record { from = from; to = to; message = m }) w.sent × (from ≢ to)
    go (inl q) = absurd (none_there (messages w from to) k (empty q) h)
    go (inr q) = (pair-was from to w.sent k m (rw q at h), node_not from to q)

-- a step is such a plan
pub step-deed : (w : World) (s : Step) → IsPlainStep s → IsDeed w (step_node s) (step_plan w s)
step-deed w (step.At n c e) h = if_holds (IsDeed w n) (w.up n) _ _ (λ q. due-at c w n e (plain-due w.sent n e h)) (λ q. (Refuses refusal.Down, tt, c, refl, tt))
step-deed w (step.Deliver from to c k) h =
    if_holds (IsDeed w to) (w.up to) _ _ (λ q. delivery-deed c w from to (k - 1) (slice_get (messages w from to) (k - 1)) refl)
    (λ q. (Refuses refusal.Down, tt, c, refl, tt))

-- a step keeps the coupling
pub step-planned : (base : Past) (w : World) (s : Step) (acts : Definition → List Act) (batches : Definition → List Batch) → IsPlainStep s
    → SomePast base w.at w.sent acts batches → Planned base w.nodes (step_node s) w.at w.sent acts batches (step_plan w s)
step-planned base w s acts batches h v =
    let d : IsDeed w (step_node s) (step_plan w s) = step-deed w s h in
    subst (λ (p : Plan). Planned base w.nodes (step_node s) w.at w.sent acts batches p) (sym d.3)
    (planned-deed base w.nodes d.2 (step_node s) w.at w.sent acts batches d.0 d.1 v)

-- nothing is added
pub unadded : (base : Past) (n : NodeId) (old at : NodeId → Cell) (sent : List SentMessage) (acts : Definition → List Act)
    (batches : Definition → List Batch) → SomePast base at sent acts batches
    → SomePast base at sent (λ f. acts f ++ added n (admin f) f old []) (λ f. batches f ++ added n (service f) f old [])
unadded base n old at sent acts batches v = (
  v.0,
  v.1,
  world-lists v.0 at sent acts (λ f. acts f ++ added n (admin f) f old []) batches (λ f. batches f ++ added n (service f) f old [])
      (λ f. none-more (acts f) _ (added-none n (admin f) f old [] refl)) (λ f. none-more (batches f) _ (added-none n (service f) f old [] refl)) v.2,
)

-- a stop
pub stops-keeps : (base : Past) (n : NodeId) (w : World) (acts : Definition → List Act) (batches : Definition → List Batch) (u : Bool)
    → SomePast base w.at w.sent acts batches → SomePast base (if u then node_stopped w n else w).at (if u then node_stopped w n else w).sent acts batches
stops-keeps base n w acts batches false v = v
stops-keeps base n w acts batches true v = (
  v.0,
  v.1,
  world-stop v.0 w.at (put_at w.at n (stopped_cell (w.at n))) w.sent acts batches n (w.at n) refl (put_at-same w.at n (stopped_cell (w.at n)))
      (put-others w.at n (stopped_cell (w.at n))) v.2,
)

-- a start
pub starts-keeps : (base : Past) (n : NodeId) (w : World) (acts : Definition → List Act) (batches : Definition → List Batch) (u : Bool)
    → SomePast base w.at w.sent acts batches → SomePast base (if u then w else started w n).at (if u then w else started w n).sent acts batches
starts-keeps base n w acts batches true v = v
starts-keeps base n w acts batches false v = v

-- a stop in a step, with its record or without
pub halts-keeps : (base : Past) (n : NodeId) (w : World) (p : Plan) (acts : Definition → List Act) (batches : Definition → List Batch) (kept u : Bool)
    → Planned base w.nodes n w.at w.sent acts batches p → SomePast base w.at w.sent acts batches
    → SomePast base (if u then halted w n kept p else w).at (if u then halted w n kept p else w).sent
    (λ f. acts f ++ added n (admin f) f w.at (acts_in (if u then (if kept then p.changes else []) else [])))
    (λ f. batches f ++ added n (service f) f w.at (batches_in (if u then (if kept then p.changes else []) else [])))
halts-keeps base n w p acts batches kept false q v = unadded base n w.at w.at w.sent acts batches v
halts-keeps base n w p acts batches false true q v =
    unadded base n w.at (put_at w.at n (stopped_cell (w.at n))) w.sent acts batches (stops-keeps base n w acts batches true v)
halts-keeps base n w p acts batches true true q v = (
  q.0,
  q.1,
  world-stop q.0 at1 at2 w.sent acts2 batches2 n (at1 n) refl now others
      (world-messages q.0 at1 at1 (w.sent ++ posted_outgoing w.nodes n p.sends) w.sent acts2 batches2 (λ k. refl)
      (λ x h. inl (was-left x w.sent (posted_outgoing w.nodes n p.sends) h)) q.2),
)
  where
    acts2 : Definition → List Act
    acts2 f = acts f ++ added n (admin f) f w.at (acts_in p.changes)

    batches2 : Definition → List Batch
    batches2 f = batches f ++ added n (service f) f w.at (batches_in p.changes)

    at1 : NodeId → Cell
    at1 = put_at w.at n (after_plan n (w.at n) p)

    at2 : NodeId → Cell
    at2 = put_at w.at n (stopped_cell (changes_made n (w.at n) p.changes))

    now : at2 n ≡ stopped_cell (at1 n)
    now = put_at-same w.at n _
        ∙ (sym (stopped-moved n (changes_made n (w.at n) p.changes) p.admin p.service) ∙ ap stopped_cell (sym (put_at-same w.at n (after_plan n (w.at n) p))))

    others : Others n at1 at2
    others j r = put_at-other w.at n _ j r ∙ sym (put_at-other w.at n _ j r)

-- any event
pub happens-keeps : (base : Past) (w : World) (e : Occurrence) (acts : Definition → List Act) (batches : Definition → List Batch) → IsPlain e
    → SomePast base w.at w.sent acts batches
    → SomePast base (circuit_happens w e).at (circuit_happens w e).sent (λ f. acts f ++ adds acts_in (admin f) f w e)
    (λ f. batches f ++ adds batches_in (service f) f w e)
happens-keeps base w (Steps s) acts batches h v = step-planned base w s acts batches h v
happens-keeps base w (Stops n) acts batches h v =
    unadded base n w.at (if w.up n then node_stopped w n else w).at (if w.up n then node_stopped w n else w).sent acts batches
    (stops-keeps base n w acts batches (w.up n) v)
happens-keeps base w (Starts n) acts batches h v =
    unadded base n w.at (if w.up n then w else started w n).at (if w.up n then w else started w n).sent acts batches
    (starts-keeps base n w acts batches (w.up n) v)
happens-keeps base w (Halts kept s) acts batches h v =
    halts-keeps base (step_node s) w (step_plan w s) acts batches kept (w.up (step_node s)) (step-planned base w s acts batches h v) v

-- any run
pub run-keeps : (base : Past) (w : World) (es : List Occurrence) (acts : Definition → List Act) (batches : Definition → List Batch) → AllPlain es
    → SomePast base w.at w.sent acts batches
    → SomePast base (occur w es).at (occur w es).sent (λ f. acts f ++ acts_from f w es) (λ f. batches f ++ batches_from f w es)
run-keeps base w [] acts batches h v =
    (v.0, v.1, world-lists v.0 w.at w.sent acts (λ f. acts f ++ []) batches (λ f. batches f ++ []) (λ f. sym (append-nil _)) (λ f. sym (append-nil _)) v.2)
run-keeps base w (e ∷ es) acts batches h v =
    let u : SomePast base (occur (circuit_happens w e) es).at (occur (circuit_happens w e) es).sent
    (λ f. (acts f ++ adds acts_in (admin f) f w e) ++ acts_from f (circuit_happens w e) es)
    (λ f. (batches f ++ adds batches_in (service f) f w e) ++ batches_from f (circuit_happens w e) es)
    = run-keeps base (circuit_happens w e) es (λ f. acts f ++ adds acts_in (admin f) f w e) (λ f. batches f ++ adds batches_in (service f) f w e) h.1
    (happens-keeps base w e acts batches h.0 v) in (
      u.0,
      u.1,
      world-lists u.0 (occur (circuit_happens w e) es).at (occur (circuit_happens w e) es).sent
          (λ f. (acts f ++ adds acts_in (admin f) f w e) ++ acts_from f (circuit_happens w e) es)
          (λ f. acts f ++ (adds acts_in (admin f) f w e ++ acts_from f (circuit_happens w e) es))
          (λ f. (batches f ++ adds batches_in (service f) f w e) ++ batches_from f (circuit_happens w e) es)
          (λ f. batches f ++ (adds batches_in (service f) f w e ++ batches_from f (circuit_happens w e) es))
          (λ f. append_assoc (acts f) (adds acts_in (admin f) f w e) (acts_from f (circuit_happens w e) es))
          (λ f. append_assoc (batches f) (adds batches_in (service f) f w e) (batches_from f (circuit_happens w e) es)) u.2,
    )

-- at first
pub groups-start : {V : Type 0} (groups : Groups V) (d : Definition) (said : GroupMessage V → Type 0) → ((l : GroupMessage V) → said l → ⊥)
    → InGroups groups d [] (λ n. Away) said []
groups-start {V} groups d said none = record {
  ever = λ n e m h. cc;
  quiet = λ n e m h. cc;
  placed = λ n e m h. cc;
  shows = λ l s. absurd (none l s);
  coupled = λ h. absurd h;
  empty = inl refl;
}

-- nothing is bound and nothing was sent
pub world-start : InWorld [] (λ n. Empty) [] (λ f. []) (λ f. [])
world-start = record {
  law = λ n d e h k g. absurd h;
  ruled = λ n e h. absurd h;
  since = λ n e h. h;
  valid = λ n. tt;
  admins = λ d. groups-start admin_groups d (admin_said []) (λ l s. s.1);
  services = λ d. groups-start service_groups d (service_said []) (λ l s. s.3);
}

-- after anything that happened
pub run-past : (ns : List NodeId) (es : List Occurrence) → AllPlain es
    → SomePast [] (occur (empty_world ns) es).at (occur (empty_world ns) es).sent (λ f. act_list ns f es) (λ f. batch_list ns f es)
run-past ns es h = run-keeps [] (empty_world ns) es (λ f. []) (λ f. []) h ([], (λ k f x. x), world-start)

-- a history is a beginning of the list
pub groups-prefix : {V : Type 0} (groups : Groups V) (d : Definition) (past : Past) (at : NodeId → Presence V) (said : GroupMessage V → Type 0)
    (list : List V) (n : NodeId) (m : Member V) → at n ≡ There d m → InGroups groups d past at said list → IsPrefixOf (values m.history) list
groups-prefix {V} groups d past at said list n m is c = go (c.quiet n d m is)
  where
    values-append : (xs ys : List (ℕ × V)) → values (xs ++ ys) ≡ values xs ++ values ys
    values-append [] ys = refl
    values-append (x ∷ xs) ys = ap (λ z. x.1 ∷ z) (values-append xs ys)

    by_world : SomeWorld groups d past at said list → IsPrefixOf (values m.history) list
    by_world w =
        let p : IsPrefixOf (w.0.at (position d.members n)).history (w.0.at (position d.members (groups.leader d))).history =
        prefix-agrees (group_of groups d) w.0 (position d.members n) (c.placed n d m is).here w.1.agrees in (
          values p.0,
          subst (λ (x : Member V). values x.history ++ values p.0 ≡ list) (w.1.there n m is)
              (sym (values-append (w.0.at (position d.members n)).history p.0) ∙ (ap (λ z. values z) p.1 ∙ w.1.listed)),
        )

    go : IsQuiet m ⊎ Ever (groups.leader d) d past → IsPrefixOf (values m.history) list
    go (inl q) = (list, ap (λ z. values z ++ list) q.0)
    go (inr q) = by_world (c.coupled q)

-- a cell that is bound to a definition is seen so
bound-acts : (k : Cell) (b : Bound) (d : Definition) → k ≡ Held b → b.definition ≡ d → admin_presence k ≡ There d b.acts
bound-acts k b d is same = ap admin_presence is ∙ ap (λ (z : Definition). There z b.acts) same

bound-batches : (k : Cell) (b : Bound) (d : Definition) → k ≡ Held b → b.definition ≡ d → service_presence k ≡ There d b.batches
bound-batches k b d is same = ap service_presence is ∙ ap (λ (z : Definition). There z b.batches) same

-- the histories begin the circuit's lists
pub begins-acts : (ns : List NodeId) (es : List Occurrence) (d : Definition) → AllPlain es
    → AtEach (world_after ns es) d (λ n b. IsPrefixOf (values b.acts.history) (act_list ns d es))
begins-acts ns es d h n b is same =
    let v : SomePast [] (world_after ns es).at (world_after ns es).sent (λ f. act_list ns f es) (λ f. batch_list ns f es) = run-past ns es h in
    groups-prefix admin_groups d v.0 (λ k. admin_presence ((world_after ns es).at k)) (admin_said (world_after ns es).sent) (act_list ns d es) n b.acts
    (bound-acts ((world_after ns es).at n) b d is same) (v.2.admins d)

pub begins-batches : (ns : List NodeId) (es : List Occurrence) (d : Definition) → AllPlain es
    → AtEach (world_after ns es) d (λ n b. IsPrefixOf (values b.batches.history) (batch_list ns d es))
begins-batches ns es d h n b is same =
    let v : SomePast [] (world_after ns es).at (world_after ns es).sent (λ f. act_list ns f es) (λ f. batch_list ns f es) = run-past ns es h in
    groups-prefix service_groups d v.0 (λ k. service_presence ((world_after ns es).at k)) (service_said (world_after ns es).sent)
    (batch_list ns d es) n b.batches (bound-batches ((world_after ns es).at n) b d is same) (v.2.services d)

-- what a cell was bound to is after it
pub stays-after : (ns : List NodeId) (es fs : List Occurrence) (d : Definition) → AllPlain es → AllPlain fs
    → AtEach (world_after ns es) d (λ n b. IsPast d ((occur (world_after ns es) fs).at n))
stays-after ns es fs d h k n b is same =
    let w1 : World = world_after ns es in
    let v : SomePast [] w1.at w1.sent (λ f. act_list ns f es) (λ f. batch_list ns f es) = run-past ns es h in
    let u : SomePast v.0 (occur w1 fs).at (occur w1 fs).sent (λ f. act_list ns f es ++ acts_from f w1 fs)
    (λ f. batch_list ns f es ++ batches_from f w1 fs) = run-keeps v.0 w1 fs (λ f. act_list ns f es) (λ f. batch_list ns f es) k
    (v.0, (λ k f x. x), v.2) in
    u.2.since n d (u.1 n d ((v.2.admins d).ever n d b.acts (bound-acts (w1.at n) b d is same)))

-- the first act is the proposal of the bound definition
pub first-proposal : (ns : List NodeId) (es : List Occurrence) (d : Definition) → AllPlain es → AtEach (world_after ns es) d (λ n b. FirstIsProposal d b.acts)
first-proposal ns es d h n b is same e rest first =
    let v : SomePast [] (world_after ns es).at (world_after ns es).sent (λ f. act_list ns f es) (λ f. batch_list ns f es) = run-past ns es h in
    let x : IsValid b.definition n b.acts b.batches = subst (λ (z : Cell). IsValidCell n z) is (v.2.valid n) in
    let y : AllGood (act_rules b.definition) [] (e.1 ∷ values rest) =
    subst (λ (z : List (ℕ × Act)). AllGood (act_rules b.definition) [] (values z)) first x.acts.good in
    let z : (x : Definition) × (e.1.kind ≡ kind.Propose x) × (x ≡ b.definition) = first_act b.definition e.1 y.0 in
    z.1 ∙ ap (λ (u : Definition). kind.Propose u) (z.2 ∙ same)

-- A run goes on from what another has left: messages that were sent before are never asked for.
use Rattle.std.{specs.{Prelude.{Option, Some, None, slice_get, if◌then◌else◌}, Str.bytes_eq}, proofs.Common.{◌≡◌, ℕ, suc, ◌+◌, ◌-◌, ◌⊎◌, true, false, ◌&&◌}}
use Rattle.std.proofs.Common.{List, [], ◌∷◌, ◌++◌, append_assoc, length, map, refl, sym, ap, subst, ◌∙◌, inl, inr, arith}
use Rattle.spl_agree.proofs.Tests.{if_holds, bool_cases}
use Rattle.spl_circuit.specs.Nodes.{NodeId, CircuitId}
use Rattle.spl_wire.specs.declared.{message.Message.Message, plan.Plan.Plan}
use Rattle.spl_sched.specs.{Grammar.step_node, declared.line.Step.Step}
use Rattle.spl_sched.specs.declared.line.Step.TheVariants as step
use Rattle.spl_circuit_world.specs.Worlds.{Origin, World, SentMessage, Occurrence, Steps, Stops, Starts, Halts, on_pair, messages, delivery_plan, step_plan}
use Rattle.spl_circuit_world.specs.{Worlds.{circuit_carried_out, halted, circuit_happens, occur, first_world, world_after, empty_world}, Projection.AllPlain}
use Rattle.spl_circuit_world.{specs.Projection.{Ran, lines_fit, concerned, own}, proofs.LinesAsOccurrences.{run-append, plain-append}}
use Rattle.spl_circuit_safety.{specs.Agreement.{sent_before, step_on, occurrence_on, HasLeft, gone_on, AgreeOn}, proofs.OwnLines.{lines-run, plain-lines}}
use Rattle.spl_circuit_safety.proofs.{OwnLines.{fit-own, plain-prefix}, Agreed.agreed-after}

-- ---- messages of a pair

pair-append : (from to : NodeId) (xs ys : List SentMessage) → on_pair from to (xs ++ ys) ≡ on_pair from to xs ++ on_pair from to ys
pair-append from to [] ys = refl
pair-append from to (x ∷ xs) ys = go (bool_cases (bytes_eq x.from from && bytes_eq x.to to)) (pair-append from to xs ys)
  where
    go : ((bytes_eq x.from from && bytes_eq x.to to) ≡ true) ⊎ ((bytes_eq x.from from && bytes_eq x.to to) ≡ false)
        → on_pair from to (xs ++ ys) ≡ on_pair from to xs ++ on_pair from to ys
        → on_pair from to ((x ∷ xs) ++ ys) ≡ on_pair from to (x ∷ xs) ++ on_pair from to ys
    go (inl q) rest = rw q (ap (λ (ms : List Message). x.message ∷ ms) rest)
    go (inr q) rest = rw q rest

-- an element after others
get-after : {A : Type 0} (xs ys : List A) (k : ℕ) → slice_get (xs ++ ys) (length xs + k) ≡ slice_get ys k
get-after {A} [] ys k = ap (λ (n : ℕ). slice_get ys n) none
  where
    none : 0 + k ≡ k
    none = omega arith
get-after {A} (x ∷ xs) ys k = ap (λ (n : ℕ). slice_get (x ∷ (xs ++ ys)) n) one ∙ get-after xs ys k
  where
    one : suc (length xs) + k ≡ suc (length xs + k)
    one = omega arith

message-on : (old : List SentMessage) (w : World) (from to : NodeId) (k : ℕ)
    → slice_get (messages (sent_before old w) from to) (length (on_pair from to old) + k) ≡ slice_get (messages w from to) k
message-on old w from to k = go (bool_cases (bytes_eq from to))
  where
    go : (bytes_eq from to ≡ true) ⊎ (bytes_eq from to ≡ false)
        → slice_get (messages (sent_before old w) from to) (length (on_pair from to old) + k) ≡ slice_get (messages w from to) k
    go (inl q) = rw q refl
    go (inr q) =
        rw q (ap (λ (ms : List Message). slice_get ms (length (on_pair from to old) + k)) (pair-append from to old w.sent)
        ∙ get-after (on_pair from to old) (on_pair from to w.sent) k)

-- ---- a step

node-on : (old : List SentMessage) (s : Step) → step_node (step_on old s) ≡ step_node s
node-on old (step.At n c e) = refl
node-on old (step.Deliver from to c k) = refl

delivery-on : (old : List SentMessage) (c : CircuitId) (w : World) (from to : NodeId) (m : Option Message)
    → delivery_plan c (sent_before old w) from to m ≡ delivery_plan c w from to m
delivery-on old c w from to None = refl
delivery-on old c w from to (Some m) = refl

-- the number of a message, from 0
number-on : (n : ℕ) → suc n - 1 ≡ n
number-on n = omega arith

plan-on : (old : List SentMessage) (w : World) (s : Step) → step_plan (sent_before old w) (step_on old s) ≡ step_plan w s
plan-on old w (step.At n c e) = refl
plan-on old w (step.Deliver from to c k) = if_holds (λ (p : Plan). step_plan (sent_before old w) (step_on old (step.Deliver from to c k)) ≡ p) (w.up to) _ _
    (λ q. rw q (ap (λ (n : ℕ). delivery_plan c (sent_before old w) from to (slice_get (messages (sent_before old w) from to) n))
    (number-on (length (on_pair from to old) + (k - 1)))
    ∙ (ap (λ (o : Option Message). delivery_plan c (sent_before old w) from to o) (message-on old w from to (k - 1))
    ∙ delivery-on old c w from to (slice_get (messages w from to) (k - 1)))))
    (λ q. rw q refl)

carried-on : (old : List SentMessage) (w : World) (n : NodeId) (p : Plan)
    → circuit_carried_out (sent_before old w) n p ≡ sent_before old (circuit_carried_out w n p)
carried-on old w n p =
    ap (λ (ss : List SentMessage). record { nodes = w.nodes; up = w.up; at = (circuit_carried_out w n p).at; sent = ss }) (append_assoc old w.sent _)

-- ---- what happens

happens-on : (old : List SentMessage) (w : World) (e : Occurrence)
    → circuit_happens (sent_before old w) (occurrence_on old e) ≡ sent_before old (circuit_happens w e)
happens-on old w (Steps (step.At n c e)) = carried-on old w n (step_plan w (step.At n c e))
happens-on old w (Steps (step.Deliver from to c k)) =
    ap (λ (p : Plan). circuit_carried_out (sent_before old w) to p) (plan-on old w (step.Deliver from to c k))
    ∙ carried-on old w to (step_plan w (step.Deliver from to c k))
happens-on old w (Stops n) =
    if_holds (λ (v : World). circuit_happens (sent_before old w) (Stops n) ≡ sent_before old v) (w.up n) _ _ (λ q. rw q refl) (λ q. rw q refl)
happens-on old w (Starts n) =
    if_holds (λ (v : World). circuit_happens (sent_before old w) (Starts n) ≡ sent_before old v) (w.up n) _ _ (λ q. rw q refl) (λ q. rw q refl)
happens-on old w (Halts kept (step.At n c e)) =
    if_holds (λ (v : World). circuit_happens (sent_before old w) (Halts kept (step.At n c e)) ≡ sent_before old v) (w.up n) _ _ (λ q. rw q refl)
    (λ q. rw q refl)
happens-on old w (Halts kept (step.Deliver from to c k)) =
    ap (λ (p : Plan). if w.up to then halted (sent_before old w) to kept p else sent_before old w) (plan-on old w (step.Deliver from to c k))
    ∙ if_holds (λ (v : World). (if w.up to then halted (sent_before old w) to kept (step_plan w (step.Deliver from to c k)) else sent_before old w)
    ≡ sent_before old v) (w.up to) _ _ (λ q. rw q refl) (λ q. rw q refl)

pub occur-on : (old : List SentMessage) (w : World) (es : List Occurrence)
    → occur (sent_before old w) (map (occurrence_on old) es) ≡ sent_before old (occur w es)
occur-on old w [] = refl
occur-on old w (e ∷ es) =
    ap (λ (v : World). occur v (map (occurrence_on old) es)) (happens-on old w e)
    ∙ occur-on old (circuit_happens w e) es

-- no delivery is made up
pub plain-on : (old : List SentMessage) (es : List Occurrence) → AllPlain es → AllPlain (map (occurrence_on old) es)
plain-on old [] h = tt
plain-on old (Steps (step.At n c e) ∷ es) h = (h.0, plain-on old es h.1)
plain-on old (Steps (step.Deliver from to c k) ∷ es) h = (tt, plain-on old es h.1)
plain-on old (Stops n ∷ es) h = (tt, plain-on old es h.1)
plain-on old (Starts n ∷ es) h = (tt, plain-on old es h.1)
plain-on old (Halts kept (step.At n c e) ∷ es) h = (h.0, plain-on old es h.1)
plain-on old (Halts kept (step.Deliver from to c k) ∷ es) h = (tt, plain-on old es h.1)

-- ---- a run

pub run-on : (o : Origin) (c : CircuitId) (es fs : List Occurrence) → HasLeft es o c
    → world_after o.nodes (gone_on o.nodes es fs) ≡ sent_before (world_after o.nodes es).sent (occur (first_world o c) fs)
run-on o c es fs h =
    run-append (empty_world o.nodes) es (map (occurrence_on old) fs)
    ∙ (ap (λ (v : World). occur v (map (occurrence_on old) fs)) h
    ∙ occur-on old (first_world o c) fs)
  where
    old : List SentMessage
    old = (world_after o.nodes es).sent

pub agree-on : (o : Origin) (left : CircuitId → List Occurrence) (rs : List Ran) → lines_fit rs ≡ true → ((c : CircuitId) → AllPlain (left c))
    → ((c : CircuitId) → HasLeft (left c) o c) → AgreeOn o left rs
agree-on o left rs fit plain has = record {
  happened = λ c. lines-run (first_world o c) (own o c rs);
  goes_on = λ c es fs e. run-on o c (left c) es (has c);
  agreed = λ c d es fs e. agreed-after o.nodes (gone_on o.nodes (left c) es) d
      (plain-append (left c) (map (occurrence_on (world_after o.nodes (left c)).sent) es) (plain c)
      (plain-on (world_after o.nodes (left c)).sent es
      (plain-prefix es fs (subst AllPlain (sym e) (plain-lines (first_world o c) (own o c rs) (fit-own c (concerned o c rs) rs fit))))));
}

-- How many messages are sent in the world of a circuit, for what happens there.
use Rattle.std.{specs.Str.bytes_eq, proofs.Common.{◌≡◌, suc, ◌+◌, ◌-◌, ◌*◌, ◌≤◌, ◌&&◌, List, [], ◌∷◌, length, length-append, Option, Some, None, slice_get}}
use Rattle.std.proofs.Common.{refl, ◌∙◌, if◌then◌else◌, arith}
use Rattle.spl_agree.proofs.Tests.{if_holds}
use Rattle.spl_circuit.specs.Nodes.{NodeId, has_node}
use Rattle.spl_wire.specs.declared.{answer.Answer.Answer, message.Message.Message, plan.{Outgoing.Outgoing, Plan.Plan}}
use Rattle.spl_wire.specs.declared.event.Event.TheVariants as event
use Rattle.spl_sched.specs.{Grammar.step_node, declared.line.Step.Step}
use Rattle.spl_sched.specs.declared.line.Step.TheVariants as step
use Rattle.spl_cell_rules.specs.{Cells.{Cell, site_at}, Changes.{changes_made, after_plan, stopped_cell}, Plans.tells_only}
use Rattle.spl_circuit_world.specs.Worlds.{World, SentMessage, Occurrence, Steps, Stops, Starts, Halts, put_at, posted_outgoing, messages, on_pair}
use Rattle.spl_circuit_world.specs.Worlds.{delivery_plan, plan_up, step_plan, step_world, circuit_happens, occur}
use Rattle.spl_trace.proofs.SmallCells.{IsSmall, IsSmallPlan, made-small, after-small, stopped-small, plan-small}

-- all cells are small
abbrev pub IsSmallWorld : World → Type 0
IsSmallWorld w = (n : NodeId) → IsSmall (w.at n)

put-small : (f : NodeId → Cell) (here : NodeId) (x : Cell) → ((n : NodeId) → IsSmall (f n)) → IsSmall x → (n : NodeId) → IsSmall (put_at f here x n)
unfolding put_at
put-small f here x h k n = if_holds IsSmall (bytes_eq n here) _ _ (λ q. k) (λ q. h n)

posted-few : (ns : List NodeId) (here : NodeId) (os : List Outgoing) → length (posted_outgoing ns here os) ≤ length os
posted-few ns here [] = omega arith
posted-few ns here (o ∷ os) =
    if_holds (λ (ss : List SentMessage). length ss ≤ suc (length os)) (has_node ns o.to) _ _ (λ q. omega (arith, posted-few ns here os))
    (λ q. omega (arith, posted-few ns here os))

-- ---- a step

tells-small : (a : Answer) → IsSmallPlan (tells_only a)
tells-small a = record { sends = omega arith; changes = tt }

plan-up-small : (w : World) (s : Step) → IsSmallWorld w → IsSmallPlan (plan_up w s)
plan-up-small w (step.At n c e) h = plan-small (site_at n c) (w.at n) e (h n)
plan-up-small w (step.Deliver from to c k) h = delivered (slice_get (messages w from to) (k - 1))
  where
    delivered : (o : Option Message) → IsSmallPlan (delivery_plan c w from to o)
    delivered None = tells-small _
    delivered (Some m) = plan-small (site_at to c) (w.at to) (event.Deliver from m) (h to)

step-plan-small : (w : World) (s : Step) → IsSmallWorld w → IsSmallPlan (step_plan w s)
step-plan-small w s h = if_holds IsSmallPlan (w.up (step_node s)) _ _ (λ q. plan-up-small w s h) (λ q. tells-small _)

pub step-small : (w : World) (s : Step) → IsSmallWorld w → IsSmallWorld (step_world w s)
step-small w s h =
    put-small w.at (step_node s) (after_plan (step_node s) (w.at (step_node s)) (step_plan w s)) h
    (after-small (step_node s) (w.at (step_node s)) (step_plan w s) (step-plan-small w s h) (h (step_node s)))

pub step-sent : (w : World) (s : Step) → IsSmallWorld w → length (step_world w s).sent ≤ length w.sent + 32
step-sent w s h =
    let p : Plan = step_plan w s in
    let sends = (step-plan-small w s h).sends in
    let both : length (step_world w s).sent ≡ length w.sent + length (posted_outgoing w.nodes (step_node s) p.sends) =
    length-append w.sent (posted_outgoing w.nodes (step_node s) p.sends) in
    omega (arith, both, sends, posted-few w.nodes (step_node s) p.sends)

-- ---- what happens

happens-small : (w : World) (e : Occurrence) → IsSmallWorld w → IsSmallWorld (circuit_happens w e)
happens-small w (Steps s) h = step-small w s h
happens-small w (Stops n) h = if_holds IsSmallWorld (w.up n) _ _ (λ q. put-small w.at n (stopped_cell (w.at n)) h (stopped-small (w.at n) (h n))) (λ q. h)
happens-small w (Starts n) h = if_holds IsSmallWorld (w.up n) _ _ (λ q. h) (λ q. h)
happens-small w (Halts kept s) h =
    let n : NodeId = step_node s in
    let p : Plan = step_plan w s in
    if_holds IsSmallWorld (w.up n) _ _
    (λ q. put-small w.at n (stopped_cell (if kept then changes_made n (w.at n) p.changes else w.at n)) h
    (stopped-small (if kept then changes_made n (w.at n) p.changes else w.at n)
    (if_holds IsSmall kept _ _ (λ k. made-small n (w.at n) p.changes (step-plan-small w s h).changes (h n)) (λ k. h n))))
    (λ q. h)

happens-sent : (w : World) (e : Occurrence) → IsSmallWorld w → length (circuit_happens w e).sent ≤ length w.sent + 32
happens-sent w (Steps s) h = step-sent w s h
happens-sent w (Stops n) h = if_holds (λ (v : World). length v.sent ≤ length w.sent + 32) (w.up n) _ _ (λ q. omega arith) (λ q. omega arith)
happens-sent w (Starts n) h = if_holds (λ (v : World). length v.sent ≤ length w.sent + 32) (w.up n) _ _ (λ q. omega arith) (λ q. omega arith)
happens-sent w (Halts kept s) h = if_holds (λ (v : World). length v.sent ≤ length w.sent + 32) (w.up (step_node s)) _ _ (λ q. omega arith) (λ q. omega arith)

happens-nodes : (w : World) (e : Occurrence) → (circuit_happens w e).nodes ≡ w.nodes
happens-nodes w (Steps s) = refl
happens-nodes w (Stops n) = if_holds (λ (v : World). v.nodes ≡ w.nodes) (w.up n) _ _ (λ q. refl) (λ q. refl)
happens-nodes w (Starts n) = if_holds (λ (v : World). v.nodes ≡ w.nodes) (w.up n) _ _ (λ q. refl) (λ q. refl)
happens-nodes w (Halts kept s) = if_holds (λ (v : World). v.nodes ≡ w.nodes) (w.up (step_node s)) _ _ (λ q. refl) (λ q. refl)

pub occur-small : (w : World) (es : List Occurrence) → IsSmallWorld w → IsSmallWorld (occur w es)
occur-small w [] h = h
occur-small w (e ∷ es) h = occur-small (circuit_happens w e) es (happens-small w e h)

-- at most 32 messages for each
pub occur-sent : (w : World) (es : List Occurrence) → IsSmallWorld w → length (occur w es).sent ≤ length w.sent + 32 * length es
occur-sent w [] h = omega arith
occur-sent w (e ∷ es) h =
    let rest = occur-sent (circuit_happens w e) es (happens-small w e h) in
    let one = happens-sent w e h in
    omega (arith, rest, one)

pub occur-nodes : (w : World) (es : List Occurrence) → (occur w es).nodes ≡ w.nodes
occur-nodes w [] = refl
occur-nodes w (e ∷ es) = occur-nodes (circuit_happens w e) es ∙ happens-nodes w e

-- ---- the messages of a pair

on-pair-few : (a b : NodeId) (ss : List SentMessage) → length (on_pair a b ss) ≤ length ss
on-pair-few a b [] = omega arith
on-pair-few a b (s ∷ ss) =
    if_holds (λ (ms : List Message). length ms ≤ suc (length ss)) (bytes_eq s.from a && bytes_eq s.to b) _ _ (λ q. omega (arith, on-pair-few a b ss))
    (λ q. omega (arith, on-pair-few a b ss))

pub messages-few : (w : World) (a b : NodeId) → length (messages w a b) ≤ length w.sent
messages-few w a b = if_holds (λ (ms : List Message). length ms ≤ length w.sent) (bytes_eq a b) _ _ (λ q. omega arith) (λ q. on-pair-few a b w.sent)

-- What processes did is one world of each circuit.
use Rattle.std.{specs.Prelude.if◌then◌else◌, proofs.Common.{◌≡◌, Bool, List, [], ◌∷◌, ◌++◌, append_assoc, refl, sym, ap, ◌∙◌}}
use Rattle.spl_circuit.specs.Nodes.{NodeId, CircuitId}
use Rattle.spl_wire.specs.declared.event.Event.{Event}
use Rattle.spl_wire.specs.declared.answer.Refusal.TheVariants as refusal
use Rattle.spl_wire.specs.declared.answer.Answer.TheVariants as answer
use Rattle.spl_sched.specs.Grammar.{step_node}
use Rattle.spl_sched.specs.declared.line.Step.TheVariants as step
use Rattle.spl_cell_rules.specs.{Cells.{Cell, site_at}, Plans.{plan_of, tells_only}}
use Rattle.spl_agree.proofs.Booleans.{if_holds}
use Rattle.spl_circuit_world.specs.{Projection.AllPlain, Worlds.{World, Occurrence, Steps, Stops, Starts, Halts, empty_world, halted, circuit_happens, occur}}
use Rattle.spl_circuit_world.{specs.Worlds.{plan_up, started, step_plan, node_stopped, world_after}, proofs.LinesAsOccurrences.{run-append, plain-append}}
use Rattle.spl_circuit_safety.proofs.Agreed.{agreed-after}
use Rattle.spl_deployment.specs.{Doings.cells_of, Deployments.{AllMayBe, WorldGoesOn, History, IsLeftRunning, IsOneWorld, IsPossible, empty_net, happened}}
use Rattle.spl_deployment.{specs.Deployments.{left_by, net_after, occurred, own_doings}, proofs.{Couplings.{Couples, couples, plain}, Own.own-cells}}

nodes-happen : (w : World) (e : Occurrence) → (circuit_happens w e).nodes ≡ w.nodes
nodes-happen w (Steps s) = refl
nodes-happen w (Stops n) = if_holds (λ (v : World). v.nodes ≡ w.nodes) (w.up n) (node_stopped w n) w (λ q. refl) (λ q. refl)
nodes-happen w (Starts n) = if_holds (λ (v : World). v.nodes ≡ w.nodes) (w.up n) w (started w n) (λ q. refl) (λ q. refl)
nodes-happen w (Halts kept s) =
    if_holds (λ (v : World). v.nodes ≡ w.nodes) (w.up (step_node s)) (halted w (step_node s) kept (step_plan w s)) w (λ q. refl) (λ q. refl)

pub one-world : (ns : List NodeId) (h : History) → IsPossible ns h → (c : CircuitId) → IsOneWorld ns h c
one-world ns h may c = record {
  plain = is-plain;
  up = all.up;
  cells = kept;
  sent = all.sent;
  answers = told;
  agreed = λ d. agreed-after ns (happened c h) d is-plain;
}
  where
    first : Couples ns c (empty_world ns) empty_net
    first = record { nodes = refl; up = λ n. refl; at = λ n. refl; sent = refl }

    all : Couples ns c (world_after ns (happened c h)) (net_after ns empty_net h)
    all = couples ns c (empty_world ns) empty_net h may first

    is-plain : AllPlain (happened c h)
    is-plain = plain ns c empty_net h may

    kept : (n : NodeId) → (world_after ns (happened c h)).at n ≡ cells_of n (own_doings n h) c
    kept n = all.at n ∙ ap (λ (f : CircuitId → Cell). f c) (own-cells ns n empty_net h)

    told : (n : NodeId) (e : Event)
        → (plan_of (site_at n c) (cells_of n (own_doings n h) c) e).answer ≡ (step_plan (world_after ns (happened c h)) (step.At n c e)).answer
    told n e =
        ap (λ (k : Cell). (plan_of (site_at n c) k e).answer) (sym (kept n))
        ∙ sym (ap (λ (b : Bool). (if b then plan_up (world_after ns (happened c h)) (step.At n c e) else tells_only (answer.Refused refusal.Down)).answer)
        (all.up n))

pub goes-on : (c : CircuitId) (h later : History) → happened c (h ++ later) ≡ happened c h ++ happened c later
goes-on c [] later = refl
goes-on c (e ∷ h) later =
    ap (λ es. occurred c e.by e.doing e.number ++ es) (goes-on c h later)
    ∙ sym (append_assoc (occurred c e.by e.doing e.number) (happened c h) (happened c later))

-- from what happened before
pub goes-on_from : (ns : List NodeId) (before : CircuitId → List Occurrence) (h : History) → IsLeftRunning ns before → AllMayBe ns (left_by ns before) h
    → (c : CircuitId) → WorldGoesOn ns before h c
goes-on_from ns before h left may c = record {
  plain = is-plain;
  cells = λ n. ap (λ (w : World). w.at n) (run-append (empty_world ns) (before c) (happened c h))
      ∙ (all.at n ∙ ap (λ (f : CircuitId → Cell). f c) (own-cells ns n (left_by ns before) h));
  agreed = λ d. agreed-after ns (before c ++ happened c h) d is-plain;
}
  where
    nodes-stay : (w : World) (es : List Occurrence) → (occur w es).nodes ≡ w.nodes
    nodes-stay w [] = refl
    nodes-stay w (e ∷ es) = nodes-stay (circuit_happens w e) es ∙ nodes-happen w e

    all : Couples ns c (occur (world_after ns (before c)) (happened c h)) (net_after ns (left_by ns before) h)
    all = couples ns c (world_after ns (before c)) (left_by ns before) h may
        (record { nodes = nodes-stay (empty_world ns) (before c); up = left.up c; at = λ n. refl; sent = refl })

    is-plain : AllPlain (before c ++ happened c h)
    is-plain = plain-append (before c) (happened c h) (left.plain c) (plain ns c (left_by ns before) h may)

-- What a line asks is an event that may come.
use Rattle.std.{proofs.Common.{◌≡◌, Bool, true, false, Option, Some, None, refl, subst}, specs.{Prelude.{IfSome, if◌then◌else◌}, Str.bytes_eq}}
use Rattle.spl_circuit.specs.Nodes.{NodeId, CircuitId}
use Rattle.spl_wire.specs.declared.event.Event.{Event}
use Rattle.spl_sched.specs.{Grammar.{is_line, is_step}, declared.line.Line.Line}
use Rattle.spl_sched.specs.declared.line.Line.TheVariants as line
use Rattle.spl_sched.specs.declared.line.Step.TheVariants as step
use Rattle.spl_serve.specs.{Asking.{IsAskedFor, asked_of, is_tick}, declared.line.Asked.Asked}
use Rattle.spl_serve.specs.declared.line.Asked.TheVariants as asked
use Rattle.spl_circuit_world.proofs.Defined.{step_for}

abbrev IsAskedIn : NodeId → Option Asked → Type 0
IsAskedIn here None = Unit {0}
IsAskedIn here (Some x) = IsAskedFor here x

at-for : (here n : NodeId) (c : CircuitId) (e : Event) (own tick : Bool) (a : Asked) → is_step (step.At n c e) ≡ true
    → (if own then (if tick then None else Some (asked.At c e)) else None) ≡ Some a → IsAskedFor here a
at-for here n c e true false a h is = subst (λ (o : Option Asked). IsAskedIn here o) is (step_for here n c e h)
at-for here n c e true true a h is = cc
at-for here n c e false tick a h is = cc

roll-for : (here : NodeId) (own : Bool) (a : Asked) → (if own then Some asked.Roll else None) ≡ Some a → IsAskedFor here a
roll-for here true asked.Roll is = tt
roll-for here true (asked.At c e) is = cc
roll-for here true (asked.Waits c) is = cc
roll-for here true (asked.OfWatcher l) is = cc
roll-for here false a is = cc

pub asked_for : (here : NodeId) (l : Line) (a : Asked) → is_line l ≡ true → asked_of here l ≡ Some a → IsAskedFor here a
asked_for here (line.Step (step.At n c e)) a h is = at-for here n c e (bytes_eq n here) (is_tick e) a h is
asked_for here (line.Step (step.Deliver from to c k)) a h is = cc
asked_for here (line.Roll n) a h is = roll-for here (bytes_eq n here) a is
asked_for here l a h is = cc

own_by : (here : NodeId) (l : Line) (o : Option Asked) → is_line l ≡ true → asked_of here l ≡ o → IfSome o (IsAskedFor here)
own_by here l None h is = tt
own_by here l (Some a) h is = asked_for here l a h is

-- what a line of a schedule asks may come
pub asked_own : (here : NodeId) (l : Line) → is_line l ≡ true → IfSome (asked_of here l) (IsAskedFor here)
asked_own here l h = own_by here l (asked_of here l) h refl

-- What a node that stops in a step answers, and the event that it has there (docs/RULES.md, Stops in an event).
use Rattle.std.specs.Prelude.{◌≡◌, Bool, Option, Some, None, if◌then◌else◌}
use Rattle.spl_circuit.specs.Nodes.{NodeId}
use Rattle.spl_circuit_world.specs.{Answers.bit_of, Worlds.{World as CircuitWorld, step_plan}}
use Rattle.spl_node.specs.Stopping.{event_changes}
use Rattle.spl_sched.specs.{Grammar.{step_circuit, step_node}, declared.line.Step.Step}
use Rattle.spl_wire.specs.declared.{answer.{Answer.Answer, Bit.Bit}, event.Event.Event, message.Message.Message}
use Rattle.spl_wire.specs.declared.answer.Answer.TheVariants as answer
use Rattle.spl_wire.specs.declared.answer.Refusal.TheVariants as refusal
use Rattle.spl_wire.specs.declared.event.Event.TheVariants as event

-- what became of the record of a step in which its node stopped; nothing is reported of a node that was down
abbrev pub bit_in : CircuitWorld → Step → Bool → Option Bit
bit_in m s kept = if m.up (step_node s) then Some (bit_of kept (step_plan m s).changes) else None

-- so it is answered
abbrev pub bit_answer : (Bit → Answer) → Option Bit → Answer
bit_answer say None = answer.Refused refusal.Down
bit_answer say (Some b) = say b

-- a message, where there is one, comes from this node
abbrev pub delivery_of : NodeId → Option Message → Option Event
delivery_of from None = None
delivery_of from (Some x) = Some (event.Deliver from x)

-- an event, or none, changes at the node of a step what the step changes in this world
abbrev pub IsEventOf : Option Event → CircuitWorld → Step → Type 0
IsEventOf e m s = event_changes (step_node s) (λ c. m.at (step_node s)) (step_circuit s) e ≡ (step_plan m s).changes

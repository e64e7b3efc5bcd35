-- Where a message between services may go (docs/RULES.md, Routing).
use Rattle.std.specs.{Prelude.{Bool, if◌then◌else◌, Option, Some, None, Result, Ok, Err}, Str.bytes_eq}
use Rattle.spl_circuit.specs.{Nodes.Node, Rules.node_of_service, declared.{definition.Definition.Definition, lifecycle.RouteFault.RouteFault}}
use Rattle.spl_circuit.specs.declared.lifecycle.RouteFault.TheVariants as fault

-- it goes on, or is stopped by a fault
abbrev pub Way : Type 0
Way = Result (Unit {0}) RouteFault

-- by the nodes that the two services stand on, where they are services of the circuit
abbrev pub way_between : Node → Option Node → Option Node → Node → Way
way_between from_node None recipient here = Err fault.SenderNotInRoster
way_between from_node (Some s) None here = Err fault.RecipientNotInRoster
way_between from_node (Some s) (Some r) here =
    if bytes_eq s from_node then (if bytes_eq r here then Ok tt else Err fault.RecipientNotHere)
    else Err fault.SenderNotOnNode

-- a message that comes from a node, from one service to another, at the node here, which has bound this definition, if any:
-- the first test that fails
abbrev pub route : Option Definition → Bool → Node → Node → Node → Node → Way
route None active from_node from to here = Err fault.CircuitDoesNotExist
route (Some d) active from_node from to here =
    if active then way_between from_node (node_of_service d.services from) (node_of_service d.services to) here
    else Err fault.CircuitDoesNotExist

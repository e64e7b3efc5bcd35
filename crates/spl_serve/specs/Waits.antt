-- What waits at a circuit of a node, and for which member (docs/RULES.md, Serving).
use Rattle.std.specs.{Prelude.{ℕ, List, [], ◌++◌, Option, Some, None, if◌then◌else◌, codes, decimal}, List.flat_map}
use Rattle.spl_agree.specs.declared.message.CommitMsg.{CommitMsg}
use Rattle.spl_agree.specs.declared.message.CommitMsg.TheVariants as msg
use Rattle.spl_answer.specs.Texts.{answer_spelling}
use Rattle.spl_cell.specs.Reading.{bound_definition}
use Rattle.spl_circuit.specs.{Nodes.{NodeId, has_node}, declared.{act.Act.Act, definition.Definition.Definition, lifecycle.Lifecycle.Lifecycle}}
use Rattle.spl_circuit.specs.declared.lifecycle.Lifecycle.TheVariants as lifecycle
use Rattle.spl_command.specs.declared.batch.Batch.{Batch}
use Rattle.spl_cell_rules.specs.{Cells.{Cell, Site}, Plans.plan_of}
use Rattle.spl_wire.specs.declared.{answer.Answer.Answer, message.Message.Message, plan.Outgoing.Outgoing}
use Rattle.spl_wire.specs.declared.answer.Answer.TheVariants as answer
use Rattle.spl_wire.specs.declared.event.Event.TheVariants as event
use Rattle.spl_wire.specs.declared.message.Message.TheVariants as message

-- a node, unless it has accepted
abbrev pub unless_accepted : List ℕ → List NodeId → NodeId → List ℕ
unless_accepted words accepted n = if has_node accepted n then [] else words ++ n

-- the members whose acceptance is missing, where the circuit or its disband is asked for
abbrev pub acceptances : Lifecycle → List NodeId → List NodeId → List ℕ
acceptances lifecycle.Proposed accepted members = flat_map (unless_accepted (codes " circuit:proposal:accept:") accepted) members
acceptances lifecycle.Disbanding accepted members = flat_map (unless_accepted (codes " circuit:disband:accept:") accepted) members
acceptances _ accepted members = []

-- an act that a member has to vote for, one that this node voted for and the coordinator decides, and one that the coordinator
-- has to take up
abbrev pub act_waits : NodeId → CommitMsg Act → List ℕ
act_waits to (msg.VoteRequest g r p v) = codes " act:" ++ (v.node ++ (codes ":vote:" ++ to))
act_waits to (msg.DecisionRequest g r) = codes " act:-:decision:" ++ to
act_waits to (msg.Forward g v) = codes " act:" ++ (v.node ++ (codes ":round:" ++ to))
act_waits to x = []

-- likewise a batch
abbrev pub batch_waits : NodeId → CommitMsg Batch → List ℕ
batch_waits to (msg.VoteRequest g r p v) = codes " batch:" ++ (decimal v.id ++ (codes ":vote:" ++ to))
batch_waits to (msg.DecisionRequest g r) = codes " batch:-:decision:" ++ to
batch_waits to (msg.Forward g v) = codes " batch:" ++ (decimal v.id ++ (codes ":round:" ++ to))
batch_waits to x = []

abbrev pub message_waits : NodeId → Message → List ℕ
message_waits to (message.Admin c x) = act_waits to x
message_waits to (message.Scabbard c s t x) = batch_waits to x

abbrev pub send_waits : Outgoing → List ℕ
send_waits s = message_waits s.to s.message

abbrev pub definition_members : Option Definition → List NodeId
definition_members None = []
definition_members (Some d) = d.members

-- by what show answers, and what a tick would send
abbrev pub waits_text : List NodeId → Answer → List Outgoing → List ℕ
waits_text members (answer.Show g life m accepted a ap b bp) sends = codes "ok waits" ++ (acceptances life accepted members ++ flat_map send_waits sends)
waits_text members a sends = answer_spelling a

-- what a node tells that waits at its cell of a circuit: for whose acceptance, and whom its next tick would ask for what
abbrev pub waits_at : Site → Cell → List ℕ
waits_at site k = waits_text (definition_members (bound_definition k)) (plan_of site k event.Show).answer (plan_of site k event.Tick).sends

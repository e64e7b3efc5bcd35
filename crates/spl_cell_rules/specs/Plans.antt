-- What an event gives at a cell: an answer, durable changes, a move of the open round of each group, and messages
-- (docs/RULES.md, Cells).
use Rattle.std.specs.Prelude.{ℕ, true, false, List, [], ◌∷◌, ◌++◌, map, Option, Some, None}
use Rattle.spl_agree.specs.{Member.{Group, Member, new_member}, Rows.row, declared.event.{GroupChange.GroupChange, GroupEvent.GroupEvent, OpenMove.OpenMove}}
use Rattle.spl_agree.specs.declared.{message.CommitMsg.CommitMsg, plan.GroupPlan.GroupPlan}
use Rattle.spl_agree.specs.declared.event.OpenMove.TheVariants as move
use Rattle.spl_circuit.specs.{Nodes.{NodeId, ServiceId, position, node_or}, Rules.service_of_node, declared.{act.Act.Act, definition.Definition.Definition}}
use Rattle.spl_command.specs.declared.batch.Batch.{Batch}
use Rattle.spl_wire.specs.declared.{answer.Answer.Answer, change.Change.Change, event.Event.Event, message.Message.Message, plan.Outgoing.Outgoing}
use Rattle.spl_wire.specs.declared.plan.Plan.{Plan}
use Rattle.spl_wire.specs.declared.message.Message.TheVariants as message
use Rattle.spl_wire.specs.declared.change.Change.TheVariants as durable
use Rattle.spl_wire.specs.declared.answer.Answer.TheVariants as answer
use Rattle.spl_cell_rules.specs.Cells.{Cell, Site, Deed, Refuses, Tells, Replies, Binds, Acts, Serves, Turns, Abandons, Purges, Say, said, admin_group}
use Rattle.spl_cell_rules.specs.{Cells.service_group, Events.does}

-- an answer alone
abbrev pub tells_only : Answer → Plan
tells_only a = record { answer = a; changes = []; admin = move.Keep; service = move.Keep; sends = [] }

-- ---- the two groups of a cell

-- one of them, at a site: the group, the position of the node and the members, how a change and a message to a node go out,
-- and its move among those of the admin group and of the service group
pub record Lane (V : Type 0) : Type 0 where
  pub group : Group V
  pub here : ℕ
  pub members : List NodeId
  pub change : GroupChange V → Change
  pub message : NodeId → CommitMsg V → Message
  pub moves : OpenMove → OpenMove × OpenMove

abbrev pub admin_lane : Site → Definition → Lane Act
admin_lane site d = record {
  group = admin_group d;
  here = position d.members site.here;
  members = d.members;
  change = durable.Admin;
  message = λ to x. message.Admin site.circuit x;
  moves = λ x. (x, move.Keep);
}

-- the service on a node; every member has one
abbrev pub or_none : Option ServiceId → ServiceId
or_none None = []
or_none (Some s) = s

abbrev pub service_on : Definition → NodeId → ServiceId
service_on d n = or_none (service_of_node d.services n)

-- its messages go from the service here to that on the other node
abbrev pub service_lane : Site → Definition → Lane Batch
service_lane site d = record {
  group = service_group d;
  here = position d.members site.here;
  members = d.members;
  change = durable.Service;
  message = λ to x. message.Scabbard site.circuit (service_on d site.here) (service_on d to) x;
  moves = λ x. (move.Keep, x);
}

-- what an event gives in a group
abbrev pub group_row : {V : Type 0} → Lane V → Member V → GroupEvent V → GroupPlan V
group_row lane m e = row lane.group lane.here m e

abbrev pub lane_changes : {V : Type 0} → Lane V → List (GroupChange V) → List Change
lane_changes lane xs = map lane.change xs

-- a message of a group goes to the node at its position, or back to where the event's message came from
abbrev pub outgoing : {V : Type 0} → Lane V → NodeId → ℕ × CommitMsg V → Outgoing
outgoing lane back s = record { to = node_or lane.members back s.0; message = lane.message (node_or lane.members back s.0) s.1 }

abbrev pub group_sends : {V : Type 0} → Lane V → NodeId → List (ℕ × CommitMsg V) → List Outgoing
group_sends lane back ss = map (outgoing lane back) ss

-- what a group gives, after first changes
abbrev pub group_plan : {V : Type 0} → Lane V → Say → List Change → NodeId → GroupPlan V → Plan
group_plan lane say first back p = record {
  answer = said say p.note;
  changes = first ++ lane_changes lane p.changes;
  admin = (lane.moves p.opening).0;
  service = (lane.moves p.opening).1;
  sends = group_sends lane back p.sends;
}

-- what both groups give, the admin group first
abbrev pub both_plans : Site → Definition → GroupPlan Act → GroupPlan Batch → Plan
both_plans site d p q = record {
  answer = answer.Notes p.note q.note;
  changes = lane_changes (admin_lane site d) p.changes ++ lane_changes (service_lane site d) q.changes;
  admin = p.opening;
  service = q.opening;
  sends = group_sends (admin_lane site d) site.here p.sends ++ group_sends (service_lane site d) site.here q.sends;
}

-- ---- any deed

abbrev pub planned : Site → Deed → Plan
planned site (Refuses r) = tells_only (answer.Refused r)
planned site (Tells a) = tells_only a
planned site (Replies n to m) = record (tells_only (answer.Delivered n)) { sends = record { to = to; message = m } ∷ [] }
planned site (Binds say d back e) = group_plan (admin_lane site d) say (durable.Bind d ∷ []) back (group_row (admin_lane site d) new_member e)
planned site (Acts say h back e) = group_plan (admin_lane site h.definition) say [] back (group_row (admin_lane site h.definition) h.acts e)
planned site (Serves say h back e) = group_plan (service_lane site h.definition) say [] back (group_row (service_lane site h.definition) h.batches e)
planned site (Turns h x y) =
    both_plans site h.definition (group_row (admin_lane site h.definition) h.acts x) (group_row (service_lane site h.definition) h.batches y)
planned site Abandons = record { answer = answer.Left false; changes = durable.Abandon ∷ []; admin = move.Close; service = move.Close; sends = [] }
planned site Purges = record { answer = answer.Left true; changes = durable.Purge ∷ []; admin = move.Keep; service = move.Keep; sends = [] }

-- what an event gives at a cell
abbrev pub plan_of : Site → Cell → Event → Plan
plan_of site k e = planned site (does site k e)

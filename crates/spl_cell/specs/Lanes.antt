-- The two groups of a cell by what is their own.
use Rattle.std.specs.Prelude.{Bool, true, false, if◌then◌else◌, [], length}
use Rattle.spl_agree.specs.{Member.{Rules, Member}, Fits.IsDue, declared.event.{GroupChange.GroupChange, GroupEvent.GroupEvent, OpenMove.OpenMove}}
use Rattle.spl_agree.specs.declared.{message.CommitMsg.CommitMsg, plan.GroupPlan.GroupPlan}
use Rattle.spl_agree.specs.declared.event.OpenMove.TheVariants as move
use Rattle.spl_circuit.specs.{Nodes.{NodeId, position}, Rules.{admin, service, is_member}, Acts.act_rules, declared.act.Act.Act}
use Rattle.spl_circuit.specs.declared.definition.Definition.{Definition}
use Rattle.spl_scabbard.specs.Checks.{batch_rules}
use Rattle.spl_command.specs.declared.batch.Batch.{Batch}
use Rattle.spl_wire.specs.declared.{change.Change.Change, message.Message.Message, plan.Plan.Plan}
use Rattle.spl_wire.specs.declared.message.Message.TheVariants as message
use Rattle.spl_wire.specs.declared.change.Change.TheVariants as durable
use Rattle.spl_cell_rules.specs.{Cells.{Bound, Site, Say}, Plans.{Lane, service_on, group_row, group_plan}}
use Rattle.spl_cell.specs.Views.{HeldView}

-- what is a group's own: its rules and its coordinator by the definition, what a cell keeps of it, how a change and a message
-- to a node go out, whether its messages go among members alone, and its move among those of both groups
pub record LaneKind (V : Type 0) : Type 0 where
  pub rules : Definition → Rules V
  pub coordinator : Definition → NodeId
  pub kept : Bound → Member V
  pub change : GroupChange V → Change
  pub message : Site → Definition → NodeId → CommitMsg V → Message
  pub among : Bool
  pub moves : OpenMove → OpenMove × OpenMove

abbrev pub admin_kind : LaneKind Act
admin_kind = record {
  rules = act_rules;
  coordinator = admin;
  kept = λ h. h.acts;
  change = durable.Admin;
  message = λ site d to x. message.Admin site.circuit x;
  among = false;
  moves = λ x. (x, move.Keep);
}

-- its messages go between services, which members alone have
abbrev pub service_kind : LaneKind Batch
service_kind = record {
  rules = λ d. batch_rules;
  coordinator = service;
  kept = λ h. h.batches;
  change = durable.Service;
  message = λ site d to x. message.Scabbard site.circuit (service_on d site.here) (service_on d to) x;
  among = true;
  moves = λ x. (move.Keep, x);
}

-- a group of a definition at a site; by these kinds it is the admin lane and the service lane
abbrev pub lane_of : {V : Type 0} → LaneKind V → Site → Definition → Lane V
lane_of kind site d = record {
  group = record { rules = kind.rules d; generation = d.generation; members = length d.members; coordinator = position d.members (kind.coordinator d) };
  here = position d.members site.here;
  members = d.members;
  change = kind.change;
  message = kind.message site d;
  moves = kind.moves;
}

-- whether its messages can go to a node
abbrev pub reaches : {V : Type 0} → LaneKind V → Definition → NodeId → Bool
reaches kind d n = if kind.among then is_member d n else true

-- ---- at a bound cell

abbrev pub lane_at : {V : Type 0} → LaneKind V → HeldView → Lane V
lane_at kind h = lane_of kind h.site h.bound.definition

abbrev pub IsDueAt : {V : Type 0} → LaneKind V → HeldView → GroupEvent V → Type 0
IsDueAt kind h e = IsDue (lane_at kind h).group (lane_at kind h).here (kind.kept h.bound) e

abbrev pub row_at : {V : Type 0} → LaneKind V → HeldView → GroupEvent V → GroupPlan V
row_at kind h e = group_row (lane_at kind h) (kind.kept h.bound) e

-- a group goes on by an event
abbrev pub goes_on : {V : Type 0} → LaneKind V → HeldView → Say → NodeId → GroupEvent V → Plan
goes_on kind h say back e = group_plan (lane_at kind h) say [] back (row_at kind h e)

-- What any event does at a cell (docs/RULES.md, Cells).
use Rattle.std.specs.Prelude.{false, ◌&&◌, ◌==◌, if◌then◌else◌, Option, Some, None}
use Rattle.spl_agree.specs.{Fits.generation_of, declared.{event.GroupEvent.GroupEvent, message.CommitMsg.CommitMsg}}
use Rattle.spl_agree.specs.declared.event.GroupEvent.TheVariants as group
use Rattle.spl_circuit.specs.{Nodes.{NodeId, position}, Rules.broken, Lifecycle.Life, Routing.route, declared.act.{Act.Act, ActKind.ActKind}}
use Rattle.spl_circuit.specs.declared.act.ActKind.TheVariants as kind
use Rattle.spl_command.specs.declared.batch.Batch.{Batch}
use Rattle.spl_wire.specs.declared.{event.Event.Event, message.Message.Message}
use Rattle.spl_wire.specs.declared.message.Message.TheVariants as message
use Rattle.spl_wire.specs.declared.event.Event.TheVariants as event
use Rattle.spl_wire.specs.declared.answer.Refusal.TheVariants as refusal
use Rattle.spl_wire.specs.declared.answer.Answer.TheVariants as answer
use Rattle.spl_cell_rules.specs.Cells.{Bound, Cell, Held, Site, Deed, Refuses, Tells, Acts, Turns, Delivered, Alone, is_open_mark, runs, own_life, proposes}
use Rattle.spl_cell_rules.specs.{Cells.{vote_kind, removal_kind, votes, removes, disbands, abandons, purges, shows, details, hears_first}, Batches.submits}
use Rattle.spl_cell_rules.specs.Batches.{when_active, root_told, proof_told, history_told, value_told, listed_entries, status_told, receipt_told, routed, way}
use Rattle.spl_cell_rules.specs.Batches.{hears_service}

-- ---- tick, expire

-- the service group goes on where it runs here
abbrev pub turns : Site → Bound → GroupEvent Act → GroupEvent Batch → Deed
turns site h x y =
    if is_open_mark h.mark then (if runs h then Turns h x y else Acts Alone h site.here x)
    else Refuses refusal.Closed

-- ---- messages

-- a message of the admin group at a bound cell
abbrev pub hears_admin : Site → Bound → NodeId → CommitMsg Act → Deed
hears_admin site h from x =
    if is_open_mark h.mark && generation_of x == h.definition.generation
    then Acts Delivered h from (group.From (position h.definition.members from) x)
    else hears_first site (Held h) from x

-- a message from a node, at a bound cell
abbrev pub held_hears : Site → Bound → NodeId → Message → Deed
held_hears site h from (message.Admin i x) = hears_admin site h from x
held_hears site h from (message.Scabbard i s t x) = hears_service site h from s t x

-- at any other cell
abbrev pub other_hears : Site → Cell → NodeId → Message → Deed
other_hears site k from (message.Admin i x) = hears_first site k from x
other_hears site k from (message.Scabbard i s t x) = routed (route None false from s t site.here) (Tells answer.Routed)

-- ---- events

-- the kind of the node's next act, where an event asks for one
abbrev pub next_kind : Life → Event → Option ActKind
next_kind l (event.Vote accept) = Some (vote_kind l accept)
next_kind l event.Remove = Some (removal_kind l)
next_kind l event.Disband = Some kind.Disband
next_kind l _ = None

-- at a bound cell
abbrev pub held_does : Site → Bound → Event → Deed
held_does site h (event.Propose e) = proposes site e (Held h) (broken e)
held_does site h (event.Vote accept) = votes site h (vote_kind (own_life h) accept)
held_does site h event.Remove = removes site h (removal_kind (own_life h))
held_does site h event.Disband = disbands site h
held_does site h event.Abandon = abandons h
held_does site h event.Purge = purges h
held_does site h (event.Submit v) = submits site h v
held_does site h event.Show = Tells (shows h)
held_does site h event.Detail = Tells (details h)
held_does site h event.Root = when_active h (Tells (root_told h.batches))
held_does site h (event.Prove address) = when_active h (Tells (proof_told h.batches address))
held_does site h event.History = when_active h (Tells (history_told h.batches))
held_does site h (event.Get address) = when_active h (Tells (value_told h.batches address))
held_does site h (event.List prefix) = when_active h (Tells (listed_entries h.batches prefix))
held_does site h (event.Status i) = when_active h (status_told h.batches i)
held_does site h (event.Receipt i) = when_active h (receipt_told h.batches i)
held_does site h (event.Route from s t) = routed (way site h from s t) (Tells answer.Routed)
held_does site h event.Tick = turns site h group.Tick group.Tick
held_does site h event.Expire = turns site h group.Expire group.Expire
held_does site h (event.Deliver from x) = held_hears site h from x

-- at any other cell
abbrev pub other_does : Site → Cell → Event → Deed
other_does site k (event.Propose e) = proposes site e k (broken e)
other_does site k (event.Route from s t) = routed (route None false from s t site.here) (Tells answer.Routed)
other_does site k (event.Deliver from x) = other_hears site k from x
other_does site k _ = Refuses refusal.NoCircuit

-- what an event does at a cell
abbrev pub does : Site → Cell → Event → Deed
does site (Held h) e = held_does site h e
does site k e = other_does site k e

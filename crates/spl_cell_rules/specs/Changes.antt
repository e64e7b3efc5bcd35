-- Durable changes of a cell (docs/RULES.md, Cells).
use Rattle.std.specs.{Prelude.{ℕ, Bool, true, false, not, ◌&&◌, nat_lt, nat_le, List, [], ◌∷◌, if◌then◌else◌, is_none}, List.list_any, Str.bytes_eq}
use Rattle.spl_agree.specs.{Member.{changed, moved, restarted}, Fits.{is_new, fits as fits_group}, declared.event.GroupChange.GroupChange}
use Rattle.spl_agree.specs.declared.event.OpenMove.{OpenMove}
use Rattle.spl_agree.specs.declared.event.GroupChange.TheVariants as change
use Rattle.spl_circuit.specs.{Nodes.{NodeId, position}, Rules.{broken, is_member}, Acts.act_rules, declared.act.Act.Act}
use Rattle.spl_circuit.specs.declared.lifecycle.Mark.TheVariants as mark
use Rattle.spl_command.specs.{Rules.broken_batch, declared.batch.Batch.Batch}
use Rattle.spl_scabbard.specs.Checks.{batch_rules}
use Rattle.spl_wire.specs.declared.{change.Change.Change, plan.Plan.Plan}
use Rattle.spl_wire.specs.declared.change.Change.TheVariants as durable
use Rattle.spl_cell_rules.specs.Cells.{Bound, Cell, Held, Purged, Site, fresh, is_empty_cell, admin_group, service_group, is_open_mark, is_free, runs}
use Rattle.spl_cell_rules.specs.Cells.{keeps_batches}

-- ---- the effect of a change

-- an own act that is queued sets the node's turn
abbrev pub turn_after : NodeId → ℕ → GroupChange Act → ℕ
turn_after here turn (change.Queue v) = if bytes_eq v.node here then v.turn else turn
turn_after here turn _ = turn

abbrev pub held_after : NodeId → Bound → Change → Cell
held_after here h (durable.Bind d) = Held (fresh d)
held_after here h (durable.Admin x) = Held (record h { turn = turn_after here h.turn x; acts = changed (act_rules h.definition) h.acts x })
held_after here h (durable.Service x) = Held (record h { batches = changed batch_rules h.batches x })
held_after here h durable.Abandon = Held (record h { mark = mark.Abandoned })
held_after here h durable.Purge = Purged h.definition.generation
held_after here h (durable.Turn t) = Held (record h { turn = t })
held_after here h (durable.Gone old) = Purged old

abbrev pub free_after : Cell → Change → Cell
free_after k (durable.Bind d) = Held (fresh d)
free_after k (durable.Gone old) = Purged old
free_after k _ = k

abbrev pub made_one : NodeId → Cell → Change → Cell
made_one here (Held h) x = held_after here h x
made_one here k x = free_after k x

-- changes that are made
abbrev pub changes_made : NodeId → Cell → List Change → Cell
changes_made here k [] = k
changes_made here k (x ∷ xs) = changes_made here (made_one here k x) xs

-- ---- where a change fits

-- an act of this node is queued alone, and with no turn after
abbrev pub may_queue : NodeId → ℕ → List Act → Act → Bool
may_queue here turn pending v =
    if bytes_eq v.node here then not (list_any (λ u. bytes_eq u.node here) pending) && nat_le turn v.turn else true

-- a batch that breaks a rule is never queued
abbrev pub may_serve : Batch → Bool
may_serve v = is_none (broken_batch v)

-- nor kept among the refused ones
abbrev pub may_keep : GroupChange Batch → Bool
may_keep (change.Kept v why) = may_serve v
may_keep _ = true

abbrev pub fits_held : Site → Bound → Change → Bool
fits_held site h (durable.Admin x) = is_open_mark h.mark && fits_group (act_rules h.definition) (may_queue site.here h.turn h.acts.pending) h.acts x
fits_held site h (durable.Service x) = is_open_mark h.mark && (keeps_batches h && (may_keep x && fits_group batch_rules may_serve h.batches x))
fits_held site h durable.Abandon = is_open_mark h.mark && runs h
fits_held site h durable.Purge = true
fits_held site h (durable.Turn t) = is_new h.acts
fits_held site h _ = false

abbrev pub fits_free : Site → Cell → Change → Bool
fits_free site k (durable.Bind d) = is_free k d.generation && (bytes_eq d.id site.circuit && (is_none (broken d) && is_member d site.here))
fits_free site k (durable.Gone old) = is_empty_cell k && nat_lt 0 old
fits_free site k _ = false

abbrev pub fits_cell : Site → Cell → Change → Bool
fits_cell site (Held h) x = fits_held site h x
fits_cell site k x = fits_free site k x

-- a change that does not fit changes nothing
abbrev pub applied_one : Site → Cell → Change → Cell
applied_one site k x = if fits_cell site k x then made_one site.here k x else k

-- changes as they are read
abbrev pub applied : Site → Cell → List Change → Cell
applied site k [] = k
applied site k (x ∷ xs) = applied site (applied_one site k x) xs

-- ---- moves

-- the open rounds of the admin group and of the service group
abbrev pub moved_cell : NodeId → Cell → OpenMove → OpenMove → Cell
moved_cell here (Held h) x y = Held (record h {
  acts = moved (admin_group h.definition) (position h.definition.members here) h.acts x;
  batches = moved (service_group h.definition) (position h.definition.members here) h.batches y;
})
moved_cell here k x y = k

-- a stop forgets the open rounds
abbrev pub stopped_cell : Cell → Cell
stopped_cell (Held h) = Held (record h { acts = restarted h.acts; batches = restarted h.batches })
stopped_cell k = k

-- the cell after a plan: its changes and its moves are made
abbrev pub after_plan : NodeId → Cell → Plan → Cell
after_plan here k p = moved_cell here (changes_made here k p.changes) p.admin p.service

-- A stop forgets the open rounds, on which no durable change depends.
use Rattle.std.proofs.Common.{◌≡◌, ℕ, List, [], ◌∷◌, Bool, true, false, ◌&&◌, refl, sym, ◌∙◌, ap, inl, inr, ◌⊎◌}
use Rattle.spl_agree.specs.{Member.{Group, Member, Rules, changed, moved, restarted}, Fits.fits as fits_group, declared.event.GroupChange.GroupChange}
use Rattle.spl_agree.{specs.declared.event.OpenMove.OpenMove, proofs.Tests.bool_cases}
use Rattle.spl_agree.specs.declared.event.GroupChange.TheVariants as change
use Rattle.spl_agree.specs.declared.event.OpenMove.TheVariants as move
use Rattle.spl_circuit.specs.{Nodes.{NodeId, position}, Acts.act_rules, declared.act.Act.Act}
use Rattle.spl_command.specs.declared.batch.Batch.{Batch}
use Rattle.spl_scabbard.specs.Checks.{batch_rules}
use Rattle.spl_wire.specs.declared.change.Change.{Change}
use Rattle.spl_wire.specs.declared.change.Change.TheVariants as durable
use Rattle.spl_cell_rules.specs.{Cells.{Cell, Empty, Held, Purged, Site, admin_group, service_group, is_open_mark, keeps_batches}, Changes.made_one}
use Rattle.spl_cell_rules.specs.Changes.{fits_cell, applied_one, applied, moved_cell, stopped_cell, turn_after, may_queue, may_serve, may_keep}

restarted-moved : {V : Type 0} (g : Group V) (i : ℕ) (m : Member V) (o : OpenMove) → restarted (moved g i m o) ≡ restarted m
restarted-moved g i m move.Keep = refl
restarted-moved g i m (move.Begin r) = refl
restarted-moved g i m (move.Yes j) = refl
restarted-moved g i m move.Close = refl

pub stopped-moved : (here : NodeId) (k : Cell) (x y : OpenMove) → stopped_cell (moved_cell here k x y) ≡ stopped_cell k
stopped-moved here Empty x y = refl
stopped-moved here (Purged old) x y = refl
stopped-moved here (Held h) x y =
    ap (λ (z : Member Act). Held
    (record h { acts = z; batches = restarted (moved (service_group h.definition) (position h.definition.members here) h.batches y) }))
    (restarted-moved (admin_group h.definition) (position h.definition.members here) h.acts x)
    ∙ ap (λ (z : Member Batch). Held (record h { acts = restarted h.acts; batches = z }))
    (restarted-moved (service_group h.definition) (position h.definition.members here) h.batches y)

fits-restarted : {V : Type 0} (rules : Rules V) (may : V → Bool) (m : Member V) (x : GroupChange V)
    → fits_group rules may (restarted m) x ≡ fits_group rules may m x
fits-restarted rules may m (change.Queue v) = refl
fits-restarted rules may m (change.Refuse v why) = refl
fits-restarted rules may m (change.Begin r) = refl
fits-restarted rules may m (change.Seen r) = refl
fits-restarted rules may m (change.Promise r v) = refl
fits-restarted rules may m change.Abort = refl
fits-restarted rules may m (change.Commit r v) = refl
fits-restarted rules may m (change.Restore next seen) = refl
fits-restarted rules may m (change.Kept v why) = refl

changed-restarted : {V : Type 0} (rules : Rules V) (m : Member V) (x : GroupChange V) → changed rules (restarted m) x ≡ restarted (changed rules m x)
changed-restarted rules m (change.Queue v) = refl
changed-restarted rules m (change.Refuse v why) = refl
changed-restarted rules m (change.Begin r) = refl
changed-restarted rules m (change.Seen r) = refl
changed-restarted rules m (change.Promise r v) = refl
changed-restarted rules m change.Abort = refl
changed-restarted rules m (change.Commit r v) = refl
changed-restarted rules m (change.Restore next seen) = refl
changed-restarted rules m (change.Kept v why) = refl

fits-stopped : (site : Site) (k : Cell) (x : Change) → fits_cell site (stopped_cell k) x ≡ fits_cell site k x
fits-stopped site Empty x = refl
fits-stopped site (Purged old) x = refl
fits-stopped site (Held h) (durable.Bind e) = refl
fits-stopped site (Held h) (durable.Admin x) =
    ap (λ (z : Bool). is_open_mark h.mark && z) (fits-restarted (act_rules h.definition) (may_queue site.here h.turn h.acts.pending) h.acts x)
fits-stopped site (Held h) (durable.Service x) =
    ap (λ (z : Bool). is_open_mark h.mark && (keeps_batches h && (may_keep x && z))) (fits-restarted batch_rules may_serve h.batches x)
fits-stopped site (Held h) durable.Abandon = refl
fits-stopped site (Held h) durable.Purge = refl
fits-stopped site (Held h) (durable.Turn n) = refl
fits-stopped site (Held h) (durable.Gone old) = refl

made-stopped : (here : NodeId) (k : Cell) (x : Change) → made_one here (stopped_cell k) x ≡ stopped_cell (made_one here k x)
made-stopped here Empty (durable.Bind d) = refl
made-stopped here Empty (durable.Admin x) = refl
made-stopped here Empty (durable.Service x) = refl
made-stopped here Empty durable.Abandon = refl
made-stopped here Empty durable.Purge = refl
made-stopped here Empty (durable.Turn n) = refl
made-stopped here Empty (durable.Gone old) = refl
made-stopped here (Purged k) (durable.Bind d) = refl
made-stopped here (Purged k) (durable.Admin x) = refl
made-stopped here (Purged k) (durable.Service x) = refl
made-stopped here (Purged k) durable.Abandon = refl
made-stopped here (Purged k) durable.Purge = refl
made-stopped here (Purged k) (durable.Turn n) = refl
made-stopped here (Purged k) (durable.Gone old) = refl
made-stopped here (Held h) (durable.Bind e) = refl
made-stopped here (Held h) (durable.Admin x) =
    ap (λ (z : Member Act). Held (record h { turn = turn_after here h.turn x; acts = z; batches = restarted h.batches }))
    (changed-restarted (act_rules h.definition) h.acts x)
made-stopped here (Held h) (durable.Service x) =
    ap (λ (z : Member Batch). Held (record h { acts = restarted h.acts; batches = z })) (changed-restarted batch_rules h.batches x)
made-stopped here (Held h) durable.Abandon = refl
made-stopped here (Held h) durable.Purge = refl
made-stopped here (Held h) (durable.Turn n) = refl
made-stopped here (Held h) (durable.Gone old) = refl

one-stopped : (site : Site) (k : Cell) (x : Change) → applied_one site (stopped_cell k) x ≡ stopped_cell (applied_one site k x)
one-stopped site k x = by (bool_cases (fits_cell site k x))
  where
    by : (fits_cell site k x ≡ true) ⊎ (fits_cell site k x ≡ false) → applied_one site (stopped_cell k) x ≡ stopped_cell (applied_one site k x)
    by (inl e) = rw (fits-stopped site k x, e) (made-stopped site.here k x)
    by (inr e) = rw (fits-stopped site k x, e) refl

pub applied-stopped : (site : Site) (k : Cell) (xs : List Change) → applied site (stopped_cell k) xs ≡ stopped_cell (applied site k xs)
applied-stopped site k [] = refl
applied-stopped site k (x ∷ xs) = ap (λ (z : Cell). applied site z xs) (one-stopped site k x) ∙ applied-stopped site (applied_one site k x) xs

-- what changes make of an empty cell has no open round
pub applied-still : (site : Site) (xs : List Change) → stopped_cell (applied site Empty xs) ≡ applied site Empty xs
applied-still site xs = sym (applied-stopped site Empty xs)

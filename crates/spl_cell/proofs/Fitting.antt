-- Each change of a plan fits behind those before it.
use Rattle.std.{proofs.Common.{◌≡◌, ℕ, true, ◌&&◌, List, [], ◌∷◌, ◌++◌, refl, sym, subst}, specs.Prelude.map}
use Rattle.spl_agree.specs.{Fits.AllFit, Member.{values, changed, changed_by}}
use Rattle.spl_agree.specs.declared.event.{GroupChange.GroupChange, GroupEvent.GroupEvent}
use Rattle.spl_group_safety.proofs.Singles.{IsSingle, single-row}
use Rattle.spl_circuit.specs.{Acts.act_rules, Lifecycle.{life, has_run}, Nodes.position, Same.act_same, declared.act.Act.Act}
use Rattle.spl_circuit.specs.declared.definition.Definition.{Definition}
use Rattle.spl_command.specs.declared.batch.Batch.{Batch}
use Rattle.spl_scabbard.specs.{Checks.batch_rules, Same.same_batches}
use Rattle.spl_wire.specs.declared.{change.Change.Change, event.Event.Event}
use Rattle.spl_wire.specs.declared.change.Change.TheVariants as durable
use Rattle.spl_cell_rules.specs.Cells.{Bound, Cell, Held, Site, Deed, Binds, Acts, Serves, Turns, Abandons, Purges, fresh, admin_group, service_group}
use Rattle.spl_cell_rules.specs.{Cells.{is_open_mark, runs, keeps_batches}, Changes.{turn_after, may_queue, may_serve, fits_free}, Events.does}
use Rattle.spl_cell_rules.specs.{Plans.{admin_lane, service_lane, group_row, planned, plan_of}, Valid.{IsKeptMember, IsNamed, IsFor, IsValid, IsSettledCell}}
use Rattle.spl_cell_rules.proofs.{Deeds.{FitsEvent, FitsServed, TurnsAt, FitsDeed}, Events.fits-does, Members.checked-new, Plans.sound}
use Rattle.spl_cell_rules.proofs.{Plans.{row-fits, keep-planned}, Running.running-keeps}
use Rattle.spl_cell.specs.Fits.{all_fit}

-- ---- a row at a member of any group

batch_same : (v : Batch) → batch_rules.same v v ≡ true
batch_same v = (same_batches v v).1 refl

-- ---- changes of the two groups at a cell

admin-fit : (site : Site) (h : Bound) (xs : List (GroupChange Act)) → IsSingle xs → is_open_mark h.mark ≡ true
    → AllFit (act_rules h.definition) (may_queue site.here h.turn h.acts.pending) h.acts xs → all_fit site (Held h) (map durable.Admin xs) ≡ true
admin-fit site h [] single unclosed fit = refl
admin-fit site h (x ∷ []) single unclosed fit = rw (unclosed, fit.0)
admin-fit site h (x ∷ y ∷ zs) single unclosed fit = absurd single

service-fit : (site : Site) (h : Bound) (xs : List (GroupChange Batch)) → IsSingle xs → is_open_mark h.mark ≡ true → keeps_batches h ≡ true
    → AllFit batch_rules may_serve h.batches xs → all_fit site (Held h) (map durable.Service xs) ≡ true
service-fit site h [] single unclosed active fit = refl
service-fit site h (x ∷ []) single unclosed active fit = rw (unclosed, active, keep-planned x single, fit.0)
service-fit site h (x ∷ y ∷ zs) single unclosed active fit = absurd single

-- the admin group goes first, and leaves the acts as they are
both-fit : (site : Site) (h : Bound) (xs : List (GroupChange Act)) (ys : List (GroupChange Batch)) → IsSingle xs → IsSingle ys → is_open_mark h.mark ≡ true
    → keeps_batches h ≡ true → (changed_by (act_rules h.definition) h.acts xs).history ≡ h.acts.history
    → AllFit (act_rules h.definition) (may_queue site.here h.turn h.acts.pending) h.acts xs → AllFit batch_rules may_serve h.batches ys
    → all_fit site (Held h) (map durable.Admin xs ++ map durable.Service ys) ≡ true
both-fit site h [] ys single other unclosed active still fit serves = service-fit site h ys other unclosed active serves
both-fit site h (x ∷ []) ys single other unclosed active still fit serves =
    let after : Bound = record h { turn = turn_after site.here h.turn x; acts = changed (act_rules h.definition) h.acts x } in
    let keeps : keeps_batches after ≡ true = subst (λ (z : List (ℕ × Act)). has_run (life h.definition (values z)).state ≡ true) (sym still) active in
    rw (unclosed, fit.0) (service-fit site after ys other unclosed keeps serves)
both-fit site h (x ∷ y ∷ zs) ys single other unclosed active still fit serves = absurd single

-- ---- rows at a cell

module _ (site : Site) (h : Bound) where
  abbrev spot : ℕ
  spot = position h.definition.members site.here

  act-row : IsKeptMember (act_rules h.definition) h.acts → IsSettledCell site.here (Held h) → (e : GroupEvent Act) → FitsEvent site h e
      → AllFit (act_rules h.definition) (may_queue site.here h.turn h.acts.pending) h.acts (group_row (admin_lane site h.definition) h.acts e).changes
  act-row k s e f =
      row-fits (admin_group h.definition) (may_queue site.here h.turn h.acts.pending) spot h.acts e act_same
      (sound (admin_group h.definition) spot h.acts k s.0) k.roomy f

  batch-row : IsKeptMember batch_rules h.batches → IsSettledCell site.here (Held h) → (e : GroupEvent Batch) → FitsServed site h e
      → AllFit batch_rules may_serve h.batches (group_row (service_lane site h.definition) h.batches e).changes
  batch-row k s e f =
      row-fits (service_group h.definition) may_serve spot h.batches e batch_same (sound (service_group h.definition) spot h.batches k s.1) k.roomy f

  acts-fit : IsKeptMember (act_rules h.definition) h.acts → IsSettledCell site.here (Held h) → is_open_mark h.mark ≡ true → (e : GroupEvent Act)
      → FitsEvent site h e → all_fit site (Held h) (map durable.Admin (group_row (admin_lane site h.definition) h.acts e).changes) ≡ true
  acts-fit k s unclosed e f =
      admin-fit site h (group_row (admin_lane site h.definition) h.acts e).changes (single-row (admin_group h.definition) spot h.acts e) unclosed
      (act-row k s e f)

  serves-fit : IsKeptMember batch_rules h.batches → IsSettledCell site.here (Held h) → is_open_mark h.mark ≡ true → runs h ≡ true → (e : GroupEvent Batch)
      → FitsServed site h e → all_fit site (Held h) (map durable.Service (group_row (service_lane site h.definition) h.batches e).changes) ≡ true
  serves-fit k s unclosed active e f =
      service-fit site h (group_row (service_lane site h.definition) h.batches e).changes
      (single-row (service_group h.definition) spot h.batches e) unclosed (running-keeps h active) (batch-row k s e f)

  turns-fit : (x : GroupEvent Act) (y : GroupEvent Batch) → IsValid site (Held h) → TurnsAt site (Held h) h x y
      → all_fit site (Held h) (planned site (Turns h x y)).changes ≡ true
  turns-fit x y v f =
      both-fit site h (group_row (admin_lane site h.definition) h.acts x).changes (group_row (service_lane site h.definition) h.batches y).changes
      (single-row (admin_group h.definition) spot h.acts x) (single-row (service_group h.definition) spot h.batches y)
      f.unclosed (running-keeps h f.active) f.still (act-row v.kept.acts v.settled x f.fit) (batch-row v.kept.batches v.settled y f.serves)

-- ---- one deed

bound-fit : (site : Site) (k : Cell) (d : Definition) (xs : List Change) → fits_free site k (durable.Bind d) ≡ true
    → all_fit site (Held (fresh d)) xs ≡ true → all_fit site k (durable.Bind d ∷ xs) ≡ true
bound-fit site (Held e) d xs h f = cc
bound-fit site k d xs h f = rw h f

abandon-fit : (site : Site) (h : Bound) → (is_open_mark h.mark && runs h) ≡ true → all_fit site (Held h) (durable.Abandon ∷ []) ≡ true
abandon-fit site h active = rw active

-- a plan for the bound cell fits the cell, which is that one
at-held : (site : Site) (k : Cell) (h : Bound) (xs : List Change) → k ≡ Held h → all_fit site (Held h) xs ≡ true → all_fit site k xs ≡ true
at-held site k h xs held f = subst (λ (z : Cell). all_fit site z xs ≡ true) (sym held) f

deed-fit : (site : Site) (k : Cell) (deed : Deed) → IsValid site k → FitsDeed site k deed → all_fit site k (planned site deed).changes ≡ true
deed-fit site k (Binds say d back e) s f =
    bound-fit site k d _ f.free (acts-fit site (fresh d) (checked-new (act_rules d)) ((λ o p. cc), (λ o p. cc)) refl e f.fit)
deed-fit site k (Acts say h back e) s f =
    let v : IsValid site (Held h) = subst (IsValid site) f.held s in
    at-held site k h _ f.held (acts-fit site h v.kept.acts v.settled f.unclosed e f.fit)
deed-fit site k (Serves say h back e) s f =
    let v : IsValid site (Held h) = subst (IsValid site) f.held s in
    at-held site k h _ f.held (serves-fit site h v.kept.batches v.settled f.unclosed f.active e f.fit)
deed-fit site k (Turns h x y) s f =
    at-held site k h _ f.held (turns-fit site h x y (subst (IsValid site) f.held s) (subst (λ (z : Cell). TurnsAt site z h x y) f.held f))
deed-fit site k Abandons s f = at-held site k f.bound (durable.Abandon ∷ []) f.held (abandon-fit site f.bound f.active)
deed-fit site k Purges s f = at-held site k f.bound (durable.Purge ∷ []) f.held refl
deed-fit site k _ s f = refl

pub plan-fits : (site : Site) (k : Cell) (e : Event) → IsNamed site → IsFor site e → IsValid site k → all_fit site k (plan_of site k e).changes ≡ true
plan-fits site k e n own s = deed-fit site k (does site k e) s (fits-does site k e n own s.kept)

-- The plan of a deed that fits.
use Rattle.std.{specs.{Prelude.map, List.list_all}, proofs.Common.{◌≡◌, ◌⊎◌, ℕ, Bool, true, List, [], ◌∷◌, ◌++◌, refl, sym, ap, subst, ◌∙◌, inl, inr}}
use Rattle.spl_agree.specs.{Member.{Group, Member, new_member, values, changed, changed_by}, Rows.row, Fits.{IsSound, IsRoomy, IsSettled, AllFit, MayQueue}}
use Rattle.spl_agree.specs.{Fits.{FitsMove, any_value}, declared.event.{GroupChange.GroupChange, GroupEvent.GroupEvent, OpenMove.OpenMove}}
use Rattle.spl_agree.{specs.declared.message.CommitMsg.CommitMsg, proofs.Tests.{and_left, and_right}}
use Rattle.spl_agree.specs.declared.event.GroupChange.TheVariants as change
use Rattle.spl_agree.specs.declared.event.OpenMove.TheVariants as move
use Rattle.spl_group_safety.proofs.{Fits.{good-row, may-any}, Sound.sound-row, Singles.{IsPlanned, IsSingle, single-row}}
use Rattle.spl_circuit.specs.{Nodes.{NodeId, position, node_or}, Acts.act_rules, Lifecycle.{life, has_run}, Same.act_same, declared.act.Act.Act}
use Rattle.spl_circuit.specs.declared.definition.Definition.{Definition}
use Rattle.spl_command.specs.declared.batch.Batch.{Batch}
use Rattle.spl_scabbard.specs.{Checks.batch_rules, Same.same_batches}
use Rattle.spl_wire.specs.{Bounds.has_form, declared.{change.Change.Change, plan.Outgoing.Outgoing}}
use Rattle.spl_wire.specs.declared.change.Change.TheVariants as durable
use Rattle.spl_cell_rules.specs.Cells.{Bound, Cell, Held, Site, Deed, Replies, Binds, Acts, Serves, Turns, Abandons, Purges, fresh, admin_group}
use Rattle.spl_cell_rules.specs.{Cells.{service_group, is_open_mark, runs, keeps_batches}, Plans.{Lane, admin_lane, service_lane, group_row, lane_changes}}
use Rattle.spl_cell_rules.specs.{Plans.{group_sends, both_plans, planned}, Changes.{turn_after, may_queue, may_serve, may_keep, fits_free, made_one}}
use Rattle.spl_cell_rules.specs.{Changes.{changes_made, applied_one, applied}, Valid.{IsKeptMember, AllMeet, IsBoundHeld, IsNamed, IsSettledCell, IsValid}}
use Rattle.spl_cell_rules.{specs.Valid.{FitsMoveAt, carries, is_legal, are_legal}, proofs.{Members.{checked-new, meets-new}, Services.short-service_on}}
use Rattle.spl_cell_rules.proofs.{Events.short-circuit, Carried.{AllCarry, Brings, send_carries, carry-row}, Running.running-keeps, Deeds.FitsRow}
use Rattle.spl_cell_rules.proofs.Deeds.{FitsEvent, FitsServed, ActsAt, ServesAt, TurnsAt, AbandonsAt, PurgesAt, FitsDeed}

-- each change of a plan fits after those before it, and the moves fit after them
pub record PlanFits (site : Site) (k : Cell) (xs : List Change) (x y : OpenMove) : Type 0 where
  pub changes : applied site k xs ≡ changes_made site.here k xs
  pub moves : FitsMoveAt site.here (changes_made site.here k xs) x y

-- ---- a row at a member of any group

pub sound : {V : Type 0} (g : Group V) (here : ℕ) (m : Member V) → IsKeptMember g.rules m → IsSettled g here m → IsSound g here m
sound g here m k s = record { good = k.good; held = k.promised; settled = s }

pub row-fits : {V : Type 0} (g : Group V) (may : V → Bool) (here : ℕ) (m : Member V) (e : GroupEvent V) → ((v : V) → g.rules.same v v ≡ true)
    → IsSound g here m → IsRoomy m → FitsRow g may here m e → AllFit g.rules may m (row g here m e).changes
row-fits {V} g may here m e same well roomy t = go t.queues
  where
    go : MayQueue g may e ⊎ ((row g here m e).changes ≡ []) → AllFit g.rules may m (row g here m e).changes
    go (inl q) = (good-row g may here m e same t.due q well roomy).0
    go (inr none) = subst (λ (xs : List (GroupChange V)). AllFit g.rules may m xs) (sym none) tt

row-moves : {V : Type 0} (g : Group V) (may : V → Bool) (here : ℕ) (m : Member V) (e : GroupEvent V) → ((v : V) → g.rules.same v v ≡ true)
    → IsSound g here m → IsRoomy m → FitsRow g may here m e → FitsMove g here (changed_by g.rules m (row g here m e).changes) (row g here m e).opening
row-moves g may here m e same well roomy t = record {
  can = (good-row g any_value here m e same t.due (may-any g e) well roomy).2;
  settled = (sound-row g here m e t.due roomy well).settled;
}

-- a move that isn't made
kept-settled : {V : Type 0} (g : Group V) (here : ℕ) (m : Member V) → IsSettled g here m → FitsMove g here m move.Keep
kept-settled g here m s = record { can = tt; settled = s }

batch_same : (v : Batch) → batch_rules.same v v ≡ true
batch_same v = (same_batches v v).1 refl

-- ---- changes of the two groups at a cell

admin-made : (site : Site) (xs : List (GroupChange Act)) (h : Bound)
    → (t : ℕ) × (changes_made site.here (Held h) (map durable.Admin xs) ≡ Held (record h { turn = t; acts = changed_by (act_rules h.definition) h.acts xs }))
admin-made site [] h = (h.turn, refl)
admin-made site (x ∷ xs) h = admin-made site xs (record h { turn = turn_after site.here h.turn x; acts = changed (act_rules h.definition) h.acts x })

service-made : (site : Site) (xs : List (GroupChange Batch)) (h : Bound)
    → changes_made site.here (Held h) (map durable.Service xs) ≡ Held (record h { batches = changed_by batch_rules h.batches xs })
service-made site [] h = refl
service-made site (x ∷ xs) h = service-made site xs (record h { batches = changed batch_rules h.batches x })

made-append : (site : Site) (k : Cell) (xs ys : List Change) → changes_made site.here k (xs ++ ys) ≡ changes_made site.here (changes_made site.here k xs) ys
made-append site k [] ys = refl
made-append site k (x ∷ xs) ys = made-append site (made_one site.here k x) xs ys

pub applied-append : (site : Site) (k : Cell) (xs ys : List Change) → applied site k (xs ++ ys) ≡ applied site (applied site k xs) ys
applied-append site k [] ys = refl
applied-append site k (x ∷ xs) ys = applied-append site (applied_one site k x) xs ys

admin-applied : (site : Site) (h : Bound) (xs : List (GroupChange Act)) → IsSingle xs → is_open_mark h.mark ≡ true
    → AllFit (act_rules h.definition) (may_queue site.here h.turn h.acts.pending) h.acts xs
    → applied site (Held h) (map durable.Admin xs) ≡ changes_made site.here (Held h) (map durable.Admin xs)
admin-applied site h [] single unclosed fit = refl
admin-applied site h (x ∷ []) single unclosed fit = rw (unclosed, fit.0)
admin-applied site h (x ∷ y ∷ zs) single unclosed fit = absurd single

-- no row keeps a refused batch
pub keep-planned : (x : GroupChange Batch) → IsPlanned x → may_keep x ≡ true
keep-planned (change.Kept v why) p = absurd p
keep-planned _ p = refl

service-applied : (site : Site) (h : Bound) (xs : List (GroupChange Batch)) → IsSingle xs → is_open_mark h.mark ≡ true → keeps_batches h ≡ true
    → AllFit batch_rules may_serve h.batches xs → applied site (Held h) (map durable.Service xs) ≡ changes_made site.here (Held h) (map durable.Service xs)
service-applied site h [] single unclosed active fit = refl
service-applied site h (x ∷ []) single unclosed active fit = rw (unclosed, active, keep-planned x single, fit.0)
service-applied site h (x ∷ y ∷ zs) single unclosed active fit = absurd single

-- ---- rows at a cell

module _ (site : Site) (h : Bound) where
  abbrev spot : ℕ
  spot = position h.definition.members site.here

  abbrev act_changes : GroupEvent Act → List (GroupChange Act)
  act_changes e = (group_row (admin_lane site h.definition) h.acts e).changes

  abbrev batch_changes : GroupEvent Batch → List (GroupChange Batch)
  batch_changes e = (group_row (service_lane site h.definition) h.batches e).changes

  -- the cell after changes of acts
  abbrev with_acts : List (GroupChange Act) → ℕ → Bound
  with_acts xs t = record h { turn = t; acts = changed_by (act_rules h.definition) h.acts xs }

  acts-fit : IsKeptMember (act_rules h.definition) h.acts → IsSettledCell site.here (Held h) → is_open_mark h.mark ≡ true → (e : GroupEvent Act)
      → FitsEvent site h e → PlanFits site (Held h) (map durable.Admin (act_changes e)) (group_row (admin_lane site h.definition) h.acts e).opening move.Keep
  acts-fit k s unclosed e f = record {
    changes = admin-applied site h (act_changes e) (single-row (admin_group h.definition) spot h.acts e) unclosed
        (row-fits (admin_group h.definition) (may_queue site.here h.turn h.acts.pending) spot h.acts e act_same
        (sound (admin_group h.definition) spot h.acts k s.0) k.roomy f);
    moves = subst (λ (z : Cell). FitsMoveAt site.here z (group_row (admin_lane site h.definition) h.acts e).opening move.Keep)
        (sym (admin-made site (act_changes e) h).1) (
          row-moves (admin_group h.definition) (may_queue site.here h.turn h.acts.pending) spot h.acts e act_same
              (sound (admin_group h.definition) spot h.acts k s.0) k.roomy f,
          kept-settled (service_group h.definition) spot h.batches s.1,
        );
  }

  serves-fit : IsKeptMember batch_rules h.batches → IsSettledCell site.here (Held h) → is_open_mark h.mark ≡ true → runs h ≡ true → (e : GroupEvent Batch)
      → FitsServed site h e → PlanFits site (Held h) (map durable.Service (batch_changes e)) move.Keep
      (group_row (service_lane site h.definition) h.batches e).opening
  serves-fit k s unclosed active e f = record {
    changes = service-applied site h (batch_changes e) (single-row (service_group h.definition) spot h.batches e) unclosed (running-keeps h active)
        (row-fits (service_group h.definition) may_serve spot h.batches e batch_same (sound (service_group h.definition) spot h.batches k s.1) k.roomy f);
    moves = subst (λ (z : Cell). FitsMoveAt site.here z move.Keep (group_row (service_lane site h.definition) h.batches e).opening)
        (sym (service-made site (batch_changes e) h)) (
          kept-settled (admin_group h.definition) spot h.acts s.0,
          row-moves (service_group h.definition) may_serve spot h.batches e batch_same (sound (service_group h.definition) spot h.batches k s.1) k.roomy f,
        );
  }

  -- the admin group goes first, and leaves the acts as they are
  turns-fit : (x : GroupEvent Act) (y : GroupEvent Batch) → IsValid site (Held h) → TurnsAt site (Held h) h x y
      → PlanFits site (Held h) (map durable.Admin (act_changes x) ++ map durable.Service (batch_changes y))
      (group_row (admin_lane site h.definition) h.acts x).opening (group_row (service_lane site h.definition) h.batches y).opening
  turns-fit x y v f =
      let xs : List (GroupChange Act) = act_changes x in
      let ys : List (GroupChange Batch) = batch_changes y in
      let first : PlanFits site (Held h) (map durable.Admin xs) (group_row (admin_lane site h.definition) h.acts x).opening move.Keep =
      acts-fit v.kept.acts v.settled f.unclosed x f.fit in
      let after : (t : ℕ) × (changes_made site.here (Held h) (map durable.Admin xs) ≡ Held (with_acts xs t)) = admin-made site xs h in
      let still_keeps : keeps_batches (with_acts xs after.0) ≡ true =
      subst (λ (z : List (ℕ × Act)). has_run (life h.definition (values z)).state ≡ true) (sym f.still) (running-keeps h f.active) in
      let ready : IsSound (service_group h.definition) spot h.batches = sound (service_group h.definition) spot h.batches v.kept.batches v.settled.1 in
      let all : AllFit batch_rules may_serve h.batches ys =
      row-fits (service_group h.definition) may_serve spot h.batches y batch_same ready v.kept.batches.roomy f.serves in
      let last : applied site (Held (with_acts xs after.0)) (map durable.Service ys)
      ≡ changes_made site.here (Held (with_acts xs after.0)) (map durable.Service ys)
      = service-applied site (with_acts xs after.0) ys (single-row (service_group h.definition) spot h.batches y) f.unclosed still_keeps all in
      let final : changes_made site.here (Held h) (map durable.Admin xs ++ map durable.Service ys)
      ≡ Held (record h { turn = after.0; acts = changed_by (act_rules h.definition) h.acts xs; batches = changed_by batch_rules h.batches ys })
      = made-append site (Held h) (map durable.Admin xs) (map durable.Service ys)
      ∙ (ap (λ (k : Cell). changes_made site.here k (map durable.Service ys)) after.1 ∙ service-made site ys (with_acts xs after.0)) in
      record {
        changes = applied-append site (Held h) (map durable.Admin xs) (map durable.Service ys)
            ∙ (ap (λ (k : Cell). applied site k (map durable.Service ys)) (first.changes ∙ after.1)
            ∙ (last ∙ (service-made site ys (with_acts xs after.0) ∙ sym final)));
        moves = subst (λ (k : Cell). FitsMoveAt site.here k (group_row (admin_lane site h.definition) h.acts x).opening
            (group_row (service_lane site h.definition) h.batches y).opening) (sym final) (
              row-moves (admin_group h.definition) (may_queue site.here h.turn h.acts.pending) spot h.acts x act_same
                  (sound (admin_group h.definition) spot h.acts v.kept.acts v.settled.0) v.kept.acts.roomy f.fit,
              row-moves (service_group h.definition) may_serve spot h.batches y batch_same ready v.kept.batches.roomy f.serves,
            );
      }

-- ---- one deed

-- the cell is bound, and the rest fits the cell that is bound
fitting-bound : (site : Site) (k : Cell) (d : Definition) (xs : List Change) (x y : OpenMove) → fits_free site k (durable.Bind d) ≡ true
    → PlanFits site (Held (fresh d)) xs x y → PlanFits site k (durable.Bind d ∷ xs) x y
fitting-bound site (Held e) d xs x y h f = cc
fitting-bound site k d xs x y h f = record { changes = rw h f.changes; moves = f.moves }

fitting-new : (site : Site) (d : Definition) (e : GroupEvent Act) → FitsEvent site (fresh d) e
    → PlanFits site (Held (fresh d)) (lane_changes (admin_lane site d) (group_row (admin_lane site d) new_member e).changes)
    (group_row (admin_lane site d) new_member e).opening move.Keep
fitting-new site d e t = acts-fit site (fresh d) (checked-new (act_rules d)) ((λ o p. cc), (λ o p. cc)) refl e t

-- nothing changes, and nothing moves
fitting-none : (site : Site) (k : Cell) → IsValid site k → PlanFits site k [] move.Keep move.Keep
fitting-none site (Held h) s = record { changes = refl; moves = (record { can = tt; settled = s.settled.0 }, record { can = tt; settled = s.settled.1 }) }
fitting-none site k s = record { changes = refl; moves = (refl, refl) }

-- a plan for the bound cell fits the cell, which is that one
at-held : (site : Site) (k : Cell) (h : Bound) (xs : List Change) (x y : OpenMove) → k ≡ Held h → PlanFits site (Held h) xs x y → PlanFits site k xs x y
at-held site k h xs x y held f = subst (λ (z : Cell). PlanFits site z xs x y) (sym held) f

fitting-acts : (site : Site) (k : Cell) (h : Bound) (e : GroupEvent Act) → IsValid site k → ActsAt site k h e
    → PlanFits site k (lane_changes (admin_lane site h.definition) (group_row (admin_lane site h.definition) h.acts e).changes)
    (group_row (admin_lane site h.definition) h.acts e).opening move.Keep
fitting-acts site k h e s f =
    let v : IsValid site (Held h) = subst (IsValid site) f.held s in
    at-held site k h _ _ _ f.held (acts-fit site h v.kept.acts v.settled f.unclosed e f.fit)

fitting-serves : (site : Site) (k : Cell) (h : Bound) (e : GroupEvent Batch) → IsValid site k → ServesAt site k h e
    → PlanFits site k (lane_changes (service_lane site h.definition) (group_row (service_lane site h.definition) h.batches e).changes) move.Keep
    (group_row (service_lane site h.definition) h.batches e).opening
fitting-serves site k h e s f =
    let v : IsValid site (Held h) = subst (IsValid site) f.held s in
    at-held site k h _ _ _ f.held (serves-fit site h v.kept.batches v.settled f.unclosed f.active e f.fit)

fitting-turns : (site : Site) (k : Cell) (h : Bound) (x : GroupEvent Act) (y : GroupEvent Batch) → IsValid site k → TurnsAt site k h x y
    → PlanFits site k (both_plans site h.definition (group_row (admin_lane site h.definition) h.acts x)
    (group_row (service_lane site h.definition) h.batches y)).changes (group_row (admin_lane site h.definition) h.acts x).opening
    (group_row (service_lane site h.definition) h.batches y).opening
fitting-turns site k h x y s f =
    at-held site k h _ _ _ f.held (turns-fit site h x y (subst (IsValid site) f.held s) (subst (λ (z : Cell). TurnsAt site z h x y) f.held f))

fitting-abandons : (site : Site) (k : Cell) → AbandonsAt k → PlanFits site k (durable.Abandon ∷ []) move.Close move.Close
fitting-abandons site k f =
    at-held site k f.bound _ _ _ f.held
    (record { changes = rw f.active; moves = (record { can = tt; settled = λ o e. cc }, record { can = tt; settled = λ o e. cc }) })

fitting-purges : (site : Site) (k : Cell) → PurgesAt k → PlanFits site k (durable.Purge ∷ []) move.Keep move.Keep
fitting-purges site k f = at-held site k f.bound _ _ _ f.held (record { changes = refl; moves = (refl, refl) })

pub fitting-planned : (site : Site) (k : Cell) (deed : Deed) → IsValid site k → FitsDeed site k deed
    → PlanFits site k (planned site deed).changes (planned site deed).admin (planned site deed).service
fitting-planned site k (Binds say d back e) s f = fitting-bound site k d _ _ _ f.free (fitting-new site d e f.fit)
fitting-planned site k (Acts say h back e) s f = fitting-acts site k h e s f
fitting-planned site k (Serves say h back e) s f = fitting-serves site k h e s f
fitting-planned site k (Turns h x y) s f = fitting-turns site k h x y s f
fitting-planned site k Abandons s f = fitting-abandons site k f
fitting-planned site k Purges s f = fitting-purges site k f
fitting-planned site k _ s f = fitting-none site k s

-- ---- what a plan sends

-- the messages of a group are legal where those of the values that may go out are
legal-group : {V : Type 0} (lane : Lane V) (may : V → Bool) (back : NodeId) (ss : List (ℕ × CommitMsg V))
    → ((to : NodeId) (x : CommitMsg V) → carries may x ≡ true → is_legal (lane.message to x) ≡ true) → AllCarry may ss
    → are_legal (group_sends lane back ss) ≡ true
legal-group lane may back [] f h = refl
legal-group lane may back (s ∷ ss) f h =
    rw (
      f (node_or lane.members back s.0) s.1 (and_left (send_carries may s) (list_all (send_carries may) ss) h),
      legal-group lane may back ss f (and_right (send_carries may s) (list_all (send_carries may) ss) h),
    )

legal-append : (xs ys : List Outgoing) → are_legal xs ≡ true → are_legal ys ≡ true → are_legal (xs ++ ys) ≡ true
legal-append [] ys h k = k
legal-append (x ∷ xs) ys h k = rw (and_left (is_legal x.message) (are_legal xs) h, legal-append xs ys (and_right (is_legal x.message) (are_legal xs) h) k)

acted-legal : (site : Site) (h : Bound) (back : NodeId) (e : GroupEvent Act) → IsNamed site → AllMeet has_form h.acts → Brings has_form e
    → are_legal (group_sends (admin_lane site h.definition) back (group_row (admin_lane site h.definition) h.acts e).sends) ≡ true
acted-legal site h back e n f brings = legal-group (admin_lane site h.definition) has_form back (group_row (admin_lane site h.definition) h.acts e).sends
    (λ to x c. rw (short-circuit site n, c))
    (carry-row has_form (admin_group h.definition) (position h.definition.members site.here) h.acts e f.pending brings)

served-legal : (site : Site) (h : Bound) (back : NodeId) (e : GroupEvent Batch) → IsNamed site → IsBoundHeld site h → Brings may_serve e
    → are_legal (group_sends (service_lane site h.definition) back (group_row (service_lane site h.definition) h.batches e).sends) ≡ true
served-legal site h back e n v brings =
    legal-group (service_lane site h.definition) may_serve back (group_row (service_lane site h.definition) h.batches e).sends
    (λ to x c. rw (short-circuit site n, short-service_on h.definition site.here v.defined, short-service_on h.definition to v.defined, c))
    (carry-row may_serve (service_group h.definition) (position h.definition.members site.here) h.batches e v.lawful.pending brings)

pub legal-planned : (site : Site) (k : Cell) (deed : Deed) → IsNamed site → IsValid site k → FitsDeed site k deed → are_legal (planned site deed).sends ≡ true
legal-planned site k (Replies note to m) n s f = rw f
legal-planned site k (Binds say d back e) n s f = acted-legal site (fresh d) back e n (meets-new has_form) f.brings
legal-planned site k (Acts say h back e) n s f = acted-legal site h back e n (subst (IsValid site) f.held s).kept.formed f.brings
legal-planned site k (Serves say h back e) n s f = served-legal site h back e n (subst (IsValid site) f.held s).kept f.brings
legal-planned site k (Turns h x y) n s f =
    let v : IsBoundHeld site h = (subst (IsValid site) f.held s).kept in
    legal-append (group_sends (admin_lane site h.definition) site.here (group_row (admin_lane site h.definition) h.acts x).sends) _
    (acted-legal site h site.here x n v.formed f.asks) (served-legal site h site.here y n v f.brings)
legal-planned site k _ n s f = refl

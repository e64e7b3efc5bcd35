-- What the changes of a node bind.
use Rattle.std.{specs.{Prelude.if◌then◌else◌, List.list_any}, proofs.Common.{◌≡◌, Bool, true, false, not, ◌||◌, List, [], ◌∷◌, ◌++◌, map, refl, ◌∙◌, ap}}
use Rattle.std.proofs.lemmas.List.Folds.{list_any-append}
use Rattle.spl_agree.specs.{Member.new_member, Pack.packed_member, declared.event.GroupChange.GroupChange}
use Rattle.spl_circuit.specs.{Nodes.NodeId, Rules.is_member, declared.{act.Act.Act, definition.Definition.Definition, lifecycle.Mark.Mark}}
use Rattle.spl_circuit.specs.declared.lifecycle.Mark.TheVariants as mark
use Rattle.spl_command.specs.declared.batch.Batch.{Batch}
use Rattle.spl_wire.specs.declared.{change.Change.Change, event.Event.Event}
use Rattle.spl_wire.specs.declared.change.Change.TheVariants as durable
use Rattle.spl_cell_rules.specs.Cells.{Bound, Cell, Empty, Held, Purged, Site, Deed, Refuses, Tells, Replies, Binds, Acts, Serves, Turns, Abandons, Purges}
use Rattle.spl_cell_rules.specs.{Cells.keeps_batches, Pack.{packed, packed_batches, packed_mark}, Plans.{admin_lane, group_row, planned, service_lane}}
use Rattle.spl_cell_rules.{specs.Valid.IsKept, proofs.Does.{Does, Proposed, Asked, Handed}}
use Rattle.spl_look.specs.Owners.{binds_without}

-- none of the changes binds a definition without the node
abbrev pub BindWith : NodeId → List Change → Type 0
BindWith here xs = list_any (binds_without here) xs ≡ false

acts-bind : (here : NodeId) (xs : List (GroupChange Act)) → BindWith here (map durable.Admin xs)
acts-bind here [] = refl
acts-bind here (x ∷ xs) = acts-bind here xs

batches-bind : (here : NodeId) (xs : List (GroupChange Batch)) → BindWith here (map durable.Service xs)
batches-bind here [] = refl
batches-bind here (x ∷ xs) = batches-bind here xs

both-bind : (here : NodeId) (xs ys : List Change) → BindWith here xs → BindWith here ys → BindWith here (xs ++ ys)
both-bind here xs ys first second =
    list_any-append (binds_without here) xs ys ∙ (ap (λ (b : Bool). b || list_any (binds_without here) ys) first ∙ second)

bound-with : (here : NodeId) (d : Definition) (xs : List Change) → is_member d here ≡ true → BindWith here xs → BindWith here (durable.Bind d ∷ xs)
bound-with here d xs member rest = ap (λ (b : Bool). not b || list_any (binds_without here) xs) member ∙ rest

-- a deed binds the cell only to a definition of which the node is a member
abbrev BindsMember : Site → Deed → Type 0
BindsMember site (Binds say d back e) = is_member d site.here ≡ true
BindsMember site _ = Unit {0}

binds-member : (site : Site) (k : Cell) (e : Event) (deed : Deed) → Does site k e deed → BindsMember site deed
binds-member site k e deed (Proposed d may) = may.member
binds-member site k e deed (Asked d from i gen r place v is can leads) = can.bind.member
binds-member site k e deed (Handed d from i gen v is can leads its) = can.bind.member
binds-member site k e deed _ = tt

deed-binds : (site : Site) (deed : Deed) → BindsMember site deed → BindWith site.here (planned site deed).changes
deed-binds site (Refuses why) member = refl
deed-binds site (Tells a) member = refl
deed-binds site (Replies n to m) member = refl
deed-binds site (Binds say d back e) member =
    let changes = (group_row (admin_lane site d) new_member e).changes in
    bound-with site.here d (map durable.Admin changes) member (acts-bind site.here changes)
deed-binds site (Acts say h back e) member = acts-bind site.here (group_row (admin_lane site h.definition) h.acts e).changes
deed-binds site (Serves say h back e) member = batches-bind site.here (group_row (service_lane site h.definition) h.batches e).changes
deed-binds site (Turns h x y) member =
    let acts = (group_row (admin_lane site h.definition) h.acts x).changes in
    let batches = (group_row (service_lane site h.definition) h.batches y).changes in
    both-bind site.here (map durable.Admin acts) (map durable.Service batches) (acts-bind site.here acts) (batches-bind site.here batches)
deed-binds site Abandons member = refl
deed-binds site Purges member = refl

pub planned-binds : (site : Site) (k : Cell) (e : Event) (deed : Deed) → Does site k e deed → BindWith site.here (planned site deed).changes
planned-binds site k e deed is = deed-binds site deed (binds-member site k e deed is)

-- ---- packed cells

mark-binds : (here : NodeId) (m : Mark) → BindWith here (packed_mark m)
mark-binds here mark.Open = refl
mark-binds here mark.Abandoned = refl
mark-binds here mark.Purged = refl

kept-batches-bind : (here : NodeId) (h : Bound) → BindWith here (packed_batches h)
kept-batches-bind here h = by (keeps_batches h)
  where
    by : (keeps : Bool) → BindWith here (if keeps then map durable.Service (packed_member h.batches) else [])
    by true = batches-bind here (packed_member h.batches)
    by false = refl

pub packed-binds : (site : Site) (k : Cell) → IsKept site k → BindWith site.here (packed k)
packed-binds site Empty kept = refl
packed-binds site (Held h) kept =
    bound-with site.here h.definition (durable.Turn h.turn ∷ map durable.Admin (packed_member h.acts) ++ (packed_batches h ++ packed_mark h.mark)) kept.member
    (both-bind site.here (map durable.Admin (packed_member h.acts)) (packed_batches h ++ packed_mark h.mark) (acts-bind site.here (packed_member h.acts))
    (both-bind site.here (packed_batches h) (packed_mark h.mark) (kept-batches-bind site.here h) (mark-binds site.here h.mark)))
packed-binds site (Purged old) kept = refl

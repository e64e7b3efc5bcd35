-- A plan's changes make a record that can be written, and the packed form of a cell can be written.
use Rattle.std.{specs.{Prelude.map, List.list_all}, proofs.Common.{◌≡◌, ◌⊎◌, ◌≤◌, true, false, IsTrue, List, [], ◌∷◌, ◌++◌, length, refl, subst, inl, inr}}
use Rattle.std.proofs.{Common.arith, lemmas.Bool.leb-true}
use Rattle.spl_base.specs.FormLaws.{both_true, and_true}
use Rattle.spl_agree.{specs.{Member.new_member, Pack.packed_member, declared.event.GroupChange.GroupChange}, proofs.Tests.{bool_cases, and_left, and_right}}
use Rattle.spl_group_safety.proofs.Singles.{IsSingle, single-row}
use Rattle.spl_circuit.specs.{Forms.definition, Nodes.{CircuitId, position}, declared.{act.Act.Act, definition.Definition.Definition, lifecycle.Mark.Mark}}
use Rattle.spl_circuit.specs.declared.lifecycle.Mark.TheVariants as mark
use Rattle.spl_command.specs.declared.batch.Batch.{Batch}
use Rattle.spl_wire.{specs.{Changes.change_form, Bounds.{IsWritable, has_form, is_formed}, declared.change.Change.Change}, proofs.Bounds.IsBrief}
use Rattle.spl_wire.proofs.Bounds.{brief-bind, brief-admin, brief-service, brief-abandon, brief-purge, writable-none, writable-one, writable-two}
use Rattle.spl_wire.specs.declared.change.Change.TheVariants as durable
use Rattle.spl_cell_rules.specs.Cells.{Cell, Held, Site, Deed, Binds, Acts, Serves, Turns, Abandons, Purges, admin_group, service_group, keeps_batches}
use Rattle.spl_cell_rules.specs.{Plans.{admin_lane, service_lane, group_row, planned}, Changes.may_serve, Pack.{packed_batches, packed_mark, packed}}
use Rattle.spl_cell_rules.{specs.Valid.{IsKept, IsNamed, IsValid, are_formed}, proofs.{Members.meets-new, Brought.{change_meets, ChangesMeet, meet-row}}}
use Rattle.spl_cell_rules.proofs.{Brought.meet-packed, Deeds.FitsDeed, Events.short-circuit}

-- ---- the record

module _ (c : CircuitId) (l : length c ≤ 11) where
  acts-writable : (xs : List (GroupChange Act)) → IsSingle xs → ChangesMeet has_form xs → IsWritable c (map durable.Admin xs)
  acts-writable [] s h = writable-none c l
  acts-writable (x ∷ []) s h = writable-one c l 3569 (durable.Admin x) (brief-admin x (and_left (change_meets has_form x) true h)) (omega arith)
  acts-writable (x ∷ y ∷ zs) s h = absurd s

  bind-writable : (d : Definition) (xs : List (GroupChange Act)) → IsTrue (definition.fits d) → IsSingle xs → ChangesMeet has_form xs
      → IsWritable c (durable.Bind d ∷ map durable.Admin xs)
  bind-writable d [] w s h = writable-one c l 3513 (durable.Bind d) (brief-bind d w) (omega arith)
  bind-writable d (x ∷ []) w s h =
      writable-two c l 3513 3569 (durable.Bind d) (durable.Admin x) (brief-bind d w) (brief-admin x (and_left (change_meets has_form x) true h)) (omega arith)
  bind-writable d (x ∷ y ∷ zs) w s h = absurd s

  batches-writable : (ys : List (GroupChange Batch)) → IsSingle ys → ChangesMeet may_serve ys → IsWritable c (map durable.Service ys)
  batches-writable [] s h = writable-none c l
  batches-writable (y ∷ []) s h = writable-one c l 32786 (durable.Service y) (brief-service y (and_left (change_meets may_serve y) true h)) (omega arith)
  batches-writable (y ∷ z ∷ zs) s h = absurd s

  both-writable : (xs : List (GroupChange Act)) (ys : List (GroupChange Batch)) → IsSingle xs → ChangesMeet has_form xs → IsSingle ys
      → ChangesMeet may_serve ys → IsWritable c (map durable.Admin xs ++ map durable.Service ys)
  both-writable [] ys s h t k = batches-writable ys t k
  both-writable (x ∷ []) [] s h t k = acts-writable (x ∷ []) s h
  both-writable (x ∷ []) (y ∷ []) s h t k =
      writable-two c l 3569 32786 (durable.Admin x) (durable.Service y) (brief-admin x (and_left (change_meets has_form x) true h))
      (brief-service y (and_left (change_meets may_serve y) true k)) (omega arith)
  both-writable (x ∷ []) (y ∷ z ∷ zs) s h t k = absurd t
  both-writable (x ∷ y ∷ zs) ys s h t k = absurd s

-- ---- the changes have byte forms

formed-acts : (xs : List (GroupChange Act)) → ChangesMeet has_form xs → are_formed (map durable.Admin xs) ≡ true
formed-acts [] h = refl
formed-acts (x ∷ xs) h =
    rw (
      and_left (change_meets has_form x) (list_all (change_meets has_form) xs) h,
      formed-acts xs (and_right (change_meets has_form x) (list_all (change_meets has_form) xs) h),
    )

formed-batches : (ys : List (GroupChange Batch)) → are_formed (map durable.Service ys) ≡ true
formed-batches [] = refl
formed-batches (y ∷ ys) = formed-batches ys

formed-both : (xs : List (GroupChange Act)) (ys : List (GroupChange Batch)) → ChangesMeet has_form xs
    → are_formed (map durable.Admin xs ++ map durable.Service ys) ≡ true
formed-both [] ys h = formed-batches ys
formed-both (x ∷ xs) ys h =
    rw (
      and_left (change_meets has_form x) (list_all (change_meets has_form) xs) h,
      formed-both xs ys (and_right (change_meets has_form x) (list_all (change_meets has_form) xs) h),
    )

-- ---- any deed

pub record IsLimited (c : CircuitId) (xs : List Change) : Type 0 where
  pub writable : IsWritable c xs
  pub formed : are_formed xs ≡ true

short-id : (site : Site) → IsNamed site → length site.circuit ≤ 11
short-id site n = leb-true (length site.circuit) 11 (short-circuit site n)

limited-none : (site : Site) → IsNamed site → IsLimited site.circuit []
limited-none site n = record { writable = writable-none site.circuit (short-id site n); formed = refl }

limited-one : (site : Site) (x : Change) → IsNamed site → IsBrief 1 x → is_formed x ≡ true → IsLimited site.circuit (x ∷ [])
limited-one site x n b f = record { writable = writable-one site.circuit (short-id site n) 1 x b (omega arith); formed = rw f }

pub limited-planned : (site : Site) (k : Cell) (deed : Deed) → IsNamed site → IsValid site k → FitsDeed site k deed
    → IsLimited site.circuit (planned site deed).changes
limited-planned site k (Binds say d back e) n s f =
    let meet = meet-row has_form (admin_group d) (position d.members site.here) new_member e (meets-new has_form) f.brings in
    let xs : List (GroupChange Act) = (group_row (admin_lane site d) new_member e).changes in
    record {
      writable = bind-writable site.circuit (short-id site n) d xs f.defined (single-row (admin_group d) (position d.members site.here) new_member e) meet;
      formed = rw (f.defined, formed-acts xs meet);
    }
limited-planned site k (Acts say h back e) n s f =
    let v : IsValid site (Held h) = subst (IsValid site) f.held s in
    let meet = meet-row has_form (admin_group h.definition) (position h.definition.members site.here) h.acts e v.kept.formed f.brings in
    let xs : List (GroupChange Act) = (group_row (admin_lane site h.definition) h.acts e).changes in
    record {
      writable =
          acts-writable site.circuit (short-id site n) xs (single-row (admin_group h.definition) (position h.definition.members site.here) h.acts e) meet;
      formed = formed-acts xs meet;
    }
limited-planned site k (Serves say h back e) n s f =
    let v : IsValid site (Held h) = subst (IsValid site) f.held s in
    let meet = meet-row may_serve (service_group h.definition) (position h.definition.members site.here) h.batches e v.kept.lawful f.brings in
    let ys : List (GroupChange Batch) = (group_row (service_lane site h.definition) h.batches e).changes in
    record {
      writable =
          batches-writable site.circuit (short-id site n) ys
          (single-row (service_group h.definition) (position h.definition.members site.here) h.batches e) meet;
      formed = formed-batches ys;
    }
limited-planned site k (Turns h x y) n s f =
    let v : IsValid site (Held h) = subst (IsValid site) f.held s in
    let asked = meet-row has_form (admin_group h.definition) (position h.definition.members site.here) h.acts x v.kept.formed f.asks in
    let served = meet-row may_serve (service_group h.definition) (position h.definition.members site.here) h.batches y v.kept.lawful f.brings in
    let xs : List (GroupChange Act) = (group_row (admin_lane site h.definition) h.acts x).changes in
    let ys : List (GroupChange Batch) = (group_row (service_lane site h.definition) h.batches y).changes in
    record {
      writable =
          both-writable site.circuit (short-id site n) xs ys
          (single-row (admin_group h.definition) (position h.definition.members site.here) h.acts x) asked
          (single-row (service_group h.definition) (position h.definition.members site.here) h.batches y) served;
      formed = formed-both xs ys asked;
    }
limited-planned site k Abandons n s f = limited-one site durable.Abandon n brief-abandon refl
limited-planned site k Purges n s f = limited-one site durable.Purge n brief-purge refl
limited-planned site k _ n s f = limited-none site n

-- ---- the packed form

abbrev AllBounded : List Change → Type 0
AllBounded xs = IsTrue (list_all change_form.bounded xs)

bounded-append : (xs ys : List Change) → AllBounded xs → AllBounded ys → AllBounded (xs ++ ys)
bounded-append [] ys h k = k
bounded-append (x ∷ xs) ys h k =
    let b = both_true (change_form.bounded x) (list_all change_form.bounded xs) h in
    and_true (change_form.bounded x) (list_all change_form.bounded (xs ++ ys)) b.0 (bounded-append xs ys b.1 k)

bounded-acts : (xs : List (GroupChange Act)) → ChangesMeet has_form xs → AllBounded (map durable.Admin xs)
bounded-acts [] h = refl
bounded-acts (x ∷ xs) h =
    and_true (change_form.bounded (durable.Admin x)) (list_all change_form.bounded (map durable.Admin xs))
    (brief-admin x (and_left (change_meets has_form x) (list_all (change_meets has_form) xs) h)).bounded
    (bounded-acts xs (and_right (change_meets has_form x) (list_all (change_meets has_form) xs) h))

bounded-batches : (ys : List (GroupChange Batch)) → ChangesMeet may_serve ys → AllBounded (map durable.Service ys)
bounded-batches [] h = refl
bounded-batches (y ∷ ys) h =
    and_true (change_form.bounded (durable.Service y)) (list_all change_form.bounded (map durable.Service ys))
    (brief-service y (and_left (change_meets may_serve y) (list_all (change_meets may_serve) ys) h)).bounded
    (bounded-batches ys (and_right (change_meets may_serve y) (list_all (change_meets may_serve) ys) h))

bounded-mark : (m : Mark) → AllBounded (packed_mark m)
bounded-mark mark.Abandoned = refl
bounded-mark _ = refl

pub bounded-packed : (site : Site) (k : Cell) → IsKept site k → AllBounded (packed k)
bounded-packed site (Held h) s =
    and_true (definition.bounded h.definition) _ (brief-bind h.definition s.defined).bounded
    (bounded-append (map durable.Admin (packed_member h.acts)) _ (bounded-acts (packed_member h.acts) (meet-packed has_form h.acts s.formed))
    (bounded-append (packed_batches h) (packed_mark h.mark) (go (bool_cases (keeps_batches h))) (bounded-mark h.mark)))
  where
    go : (keeps_batches h ≡ true) ⊎ (keeps_batches h ≡ false) → AllBounded (packed_batches h)
    go (inl q) = rw q (bounded-batches (packed_member h.batches) (meet-packed may_serve h.batches s.lawful))
    go (inr q) = rw q
bounded-packed site k s = refl

-- No batch of a packed form breaks a rule, and its records are within the bounds.
use Rattle.std.{specs.{Prelude.{map, Option, Some, None, nat_le}, List.list_all}, proofs.Common.{◌≡◌, ◌⊎◌, ℕ, true, false, ◌&&◌, IsTrue, List, [], ◌∷◌, ◌++◌}}
use Rattle.std.proofs.Common.{refl, inl, inr}
use Rattle.spl_base.specs.FormLaws.{both_true, and_true}
use Rattle.spl_agree.specs.{Member.values, Fits.AllGood, Pack.{kept_each, committed_each, queued_each, promised_one, packed_member}}
use Rattle.spl_agree.{specs.declared.{event.GroupChange.GroupChange, reason.Reason.Reason}, proofs.Tests.{bool_cases, and_left, and_right}}
use Rattle.spl_circuit.specs.{Forms.circuit_id, declared.{act.Act.Act, lifecycle.Mark.Mark}}
use Rattle.spl_circuit.specs.declared.lifecycle.Mark.TheVariants as mark
use Rattle.spl_command.specs.declared.batch.Batch.{Batch}
use Rattle.spl_scabbard.specs.Checks.{misfit_batch, batch_rules}
use Rattle.spl_wire.specs.{Changes.change_form, Grouping.{value_in, breaks_no_rule, is_lawful, is_small, is_sized, grouped}, declared.change.Change.Change}
use Rattle.spl_wire.proofs.{Groups.sized-grouped, Small.small-change}
use Rattle.spl_wire.specs.declared.change.Change.TheVariants as durable
use Rattle.spl_cell_rules.specs.{Cells.{Cell, Empty, Held, Site, keeps_batches}, Changes.{may_serve, applied}, Pack.{packed_batches, packed_mark, packed}}
use Rattle.spl_cell_rules.proofs.{Keys.Each, Lawful.lawful-checked, Packed.{Made, made-applied}, Written.{written-applied, written-packed}}

-- ---- batches

abbrev Lawful : GroupChange Batch → Type 0
Lawful x = breaks_no_rule (value_in x) ≡ true

lawful-append : (xs ys : List (GroupChange Batch)) → Each Lawful xs → Each Lawful ys → Each Lawful (xs ++ ys)
lawful-append [] ys h k = k
lawful-append (x ∷ xs) ys h k = (h.0, lawful-append xs ys h.1 k)

lawful-kept : (us : List (Batch × Reason)) → Each (λ u. may_serve u.0 ≡ true) us → Each Lawful (kept_each us)
lawful-kept [] h = tt
lawful-kept (u ∷ us) h = (h.0, lawful-kept us h.1)

lawful-committed : (before : List Batch) (es : List (ℕ × Batch)) → AllGood batch_rules before (values es) → Each Lawful (committed_each es)
lawful-committed before [] h = tt
lawful-committed before (e ∷ es) h = (lawful-checked before e.1 h.0, lawful-committed (before ++ e.1 ∷ []) es h.1)

lawful-queued : (vs : List Batch) → list_all may_serve vs ≡ true → Each Lawful (queued_each vs)
lawful-queued [] h = tt
lawful-queued (v ∷ vs) h = (and_left (may_serve v) (list_all may_serve vs) h, lawful-queued vs (and_right (may_serve v) (list_all may_serve vs) h))

lawful-promised : (before : List Batch) (o : Option (ℕ × Batch)) → ((e : ℕ × Batch) → o ≡ Some e → misfit_batch before e.1 ≡ None)
    → Each Lawful (promised_one o)
lawful-promised before None h = tt
lawful-promised before (Some e) h = (lawful-checked before e.1 (h e refl), tt)

-- ---- a packed form

abbrev AllLawful : List Change → Type 0
AllLawful xs = list_all is_lawful xs ≡ true

all-append : (xs ys : List Change) → AllLawful xs → AllLawful ys → AllLawful (xs ++ ys)
all-append [] ys h k = k
all-append (x ∷ xs) ys h k = rw (and_left (is_lawful x) (list_all is_lawful xs) h, all-append xs ys (and_right (is_lawful x) (list_all is_lawful xs) h) k)

all-admin : (xs : List (GroupChange Act)) → AllLawful (map durable.Admin xs)
all-admin [] = refl
all-admin (x ∷ xs) = all-admin xs

all-service : (xs : List (GroupChange Batch)) → Each Lawful xs → AllLawful (map durable.Service xs)
all-service [] h = refl
all-service (x ∷ xs) h = rw (h.0, all-service xs h.1)

all-mark : (m : Mark) → AllLawful (packed_mark m)
all-mark mark.Abandoned = refl
all-mark _ = refl

lawful-packed : (site : Site) (k : Cell) → Made site k → AllLawful (packed k)
lawful-packed site (Held h) s =
    all-append (map durable.Admin (packed_member h.acts)) _ (all-admin (packed_member h.acts))
    (all-append (packed_batches h) (packed_mark h.mark) (go (bool_cases (keeps_batches h))) (all-mark h.mark))
  where
    batches : Each Lawful (packed_member h.batches)
    batches = (
      refl,
      lawful-append (kept_each h.batches.refused) _ (lawful-kept h.batches.refused s.refused_lawful)
          (lawful-append (committed_each h.batches.history) _ (lawful-committed [] h.batches.history s.batches.good)
          (lawful-append (queued_each h.batches.pending) _ (lawful-queued h.batches.pending s.pending_lawful)
          (lawful-promised (values h.batches.history) h.batches.promise (λ e p. (s.batches.promised e p).good)))),
    )

    go : (keeps_batches h ≡ true) ⊎ (keeps_batches h ≡ false) → AllLawful (packed_batches h)
    go (inl q) = rw q (all-service (packed_member h.batches) batches)
    go (inr q) = rw q
lawful-packed site k s = refl

small-all : (c : List ℕ) (xs : List Change) → IsTrue (circuit_id.fits c) → IsTrue (list_all change_form.fits xs) → AllLawful xs
    → list_all (is_small c) xs ≡ true
small-all c [] h w l = refl
small-all c (x ∷ xs) h w l =
    let b = both_true (change_form.fits x) (list_all change_form.fits xs) w in
    let one : IsTrue (circuit_id.fits c && (nat_le 1 64 && (change_form.fits x && true))) =
    and_true (circuit_id.fits c) _ h (and_true (change_form.fits x) true b.0 refl) in
    rw (small-change c x one (and_left (is_lawful x) (list_all is_lawful xs) l), small-all c xs h b.1 (and_right (is_lawful x) (list_all is_lawful xs) l))

pub packed-written : (site : Site) (xs : List Change) → IsTrue (list_all change_form.fits xs)
    → IsTrue (list_all change_form.fits (packed (applied site Empty xs)))
packed-written site xs w = written-packed (applied site Empty xs) (written-applied site Empty xs w tt)

pub packed-sized : (site : Site) (xs : List Change) → IsTrue (circuit_id.fits site.circuit) → IsTrue (list_all change_form.fits xs)
    → list_all (is_sized site.circuit) (grouped site.circuit (packed (applied site Empty xs))) ≡ true
packed-sized site xs h w =
    sized-grouped site.circuit (packed (applied site Empty xs))
    (small-all site.circuit (packed (applied site Empty xs)) h (packed-written site xs w)
    (lawful-packed site (applied site Empty xs) (made-applied site Empty xs tt)))

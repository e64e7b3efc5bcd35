-- What keeps batches that break a rule out of a cell.
use Rattle.std.{specs.{Prelude.{Option, Some, None, nat_lt, is_none}, List.list_all}, proofs.Common.{◌≡◌, ◌⊎◌, ℕ, ◌-◌, ◌^◌, true, ◌&&◌, List, [], ◌∷◌}}
use Rattle.std.proofs.Common.{length, refl, subst, inl, inr}
use Rattle.spl_agree.specs.{Member.{Member, values, known}, Fits.{is_pending, fits as fits_group}, declared.event.GroupChange.GroupChange}
use Rattle.spl_agree.{specs.declared.reason.Reason.Reason, proofs.Tests.{and_left, and_right, or_cases}}
use Rattle.spl_agree.specs.declared.event.GroupChange.TheVariants as change
use Rattle.spl_group_safety.proofs.Sound.{is_none_is}
use Rattle.spl_command.specs.{Rules.broken_batch, declared.batch.Batch.Batch}
use Rattle.spl_scabbard.specs.{Checks.{misfit_valid, misfit_batch, unless_broken, batch_rules}, Same.same_batches}
use Rattle.spl_wire.specs.Grouping.{value_in, meets}
use Rattle.spl_cell_rules.specs.Changes.{may_serve, may_keep}

-- ---- batches with a good check

unless-none : (o : Option ℕ) (next : Option Reason) → unless_broken o next ≡ None → is_none o ≡ true
unless-none None next h = refl
unless-none (Some rule) next h = cc

pub lawful-checked : (before : List Batch) (v : Batch) → misfit_batch before v ≡ None → may_serve v ≡ true
lawful-checked before v h = unless-none (broken_batch v) (misfit_valid before v) h

-- an equal batch is pending, and what is pending is lawful
pub pending-lawful : (v : Batch) (us : List Batch) → is_pending batch_rules v us ≡ true → list_all may_serve us ≡ true → may_serve v ≡ true
pending-lawful v [] h l = cc
pending-lawful v (u ∷ us) h l = go (or_cases (batch_rules.same u v) (is_pending batch_rules v us) h) (pending-lawful v us)
  where
    go : (batch_rules.same u v ≡ true) ⊎ (is_pending batch_rules v us ≡ true)
        → (is_pending batch_rules v us ≡ true → list_all may_serve us ≡ true → may_serve v ≡ true) → may_serve v ≡ true
    go (inl q) f = subst (λ (z : Batch). may_serve z ≡ true) ((same_batches u v).0 q) (and_left (may_serve u) (list_all may_serve us) l)
    go (inr q) f = f q (and_right (may_serve u) (list_all may_serve us) l)

-- a change that fits has a lawful batch, if it has one
pub fitting-lawful : (b : Member Batch) (x : GroupChange Batch) → may_keep x ≡ true → fits_group batch_rules may_serve b x ≡ true
    → list_all may_serve b.pending ≡ true → meets may_serve (value_in x) ≡ true
fitting-lawful b (change.Queue v) k h p = and_right (nat_lt (length b.pending) 64) (may_serve v) (and_right (is_none (known batch_rules b v)) _ h)
fitting-lawful b (change.Refuse v why) k h p = pending-lawful v b.pending h p
fitting-lawful b (change.Promise n v) k h p =
    let after : (nat_lt (length b.history) (2 ^ 32 - 1) && is_none (misfit_batch (values b.history) v)) ≡ true =
    and_right (is_none b.promise) _ (and_right (nat_lt b.seen n) _ h) in
    lawful-checked (values b.history) v (is_none_is (misfit_batch (values b.history) v) (and_right (nat_lt (length b.history) (2 ^ 32 - 1)) _ after))
fitting-lawful b (change.Commit n v) k h p =
    lawful-checked (values b.history) v (is_none_is (misfit_batch (values b.history) v) (and_right (nat_lt (length b.history) (2 ^ 32 - 1)) _ h))
fitting-lawful b (change.Kept v why) k h p = k
fitting-lawful b _ k h p = refl

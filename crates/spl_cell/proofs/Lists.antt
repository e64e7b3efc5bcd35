-- Changes one after the other.
use Rattle.std.{specs.Prelude.{None, Some, if◌then◌else◌}, proofs.Common.{◌≡◌, ℕ, suc, ◌+◌, ◌<◌, Bool, true, false, ◌&&◌, List, [], ◌∷◌, length, get_or}}
use Rattle.std.proofs.Common.{drop, refl, sym, ap, ◌∙◌, add-one, drop-cons}
use Rattle.spl_agree.{specs.{Member.{Rules, Group, Member, changed}, Fits.IsSettled, declared.event.GroupChange.GroupChange}, proofs.Tests.and_left}
use Rattle.spl_agree.proofs.Tests.{and_right}
use Rattle.spl_agree.specs.declared.event.GroupChange.TheVariants as change
use Rattle.spl_circuit.specs.{Nodes.{NodeId, position}, Acts.act_rules}
use Rattle.spl_scabbard.specs.Checks.{batch_rules}
use Rattle.spl_wire.specs.{Bounds.is_formed, declared.change.Change.Change}
use Rattle.spl_wire.specs.declared.change.Change.TheVariants as durable
use Rattle.spl_cell_rules.specs.{Cells.{Cell, Held, Site, admin_group, service_group}, Changes.{fits_cell, free_after, made_one, applied_one, applied}}
use Rattle.spl_cell_rules.specs.Valid.{IsKept, IsSettledCell, are_formed}
use Rattle.spl_base.specs.FormLaws.{both_true}
use Rattle.spl_cell.specs.{Fits.all_fit, States.IsStill}

-- one change more
pub applied_step : (site : Site) (k : Cell) (xs : List Change) (i : ℕ) (x : Change) → i < length xs → x ≡ get_or xs i x
    → applied site k (drop i xs) ≡ applied site (applied_one site k x) (drop (i + 1) xs)
applied_step site k xs i x lt e = rw (add-one, drop-cons xs i x) (ap (λ y. applied site k (y ∷ drop (suc i) xs)) (sym e))

-- a change that fits, and those after it that fit behind it
fit_step : (site : Site) (k : Cell) (xs : List Change) (i : ℕ) (x : Change) → i < length xs → x ≡ get_or xs i x
    → all_fit site k (drop i xs) ≡ (fits_cell site k x && all_fit site (made_one site.here k x) (drop (i + 1) xs))
fit_step site k xs i x lt e = rw (add-one, drop-cons xs i x) (ap (λ y. all_fit site k (y ∷ drop (suc i) xs)) (sym e))

pub fit_one : (site : Site) (k : Cell) (xs : List Change) (i : ℕ) (x : Change) → i < length xs → x ≡ get_or xs i x → all_fit site k (drop i xs) ≡ true
    → fits_cell site k x ≡ true
fit_one site k xs i x lt e h = and_left (fits_cell site k x) (all_fit site (made_one site.here k x) (drop (i + 1) xs)) (sym (fit_step site k xs i x lt e) ∙ h)

pub fit_rest : (site : Site) (k : Cell) (xs : List Change) (i : ℕ) (x : Change) → i < length xs → x ≡ get_or xs i x → all_fit site k (drop i xs) ≡ true
    → all_fit site (made_one site.here k x) (drop (i + 1) xs) ≡ true
fit_rest site k xs i x lt e h = and_right (fits_cell site k x) (all_fit site (made_one site.here k x) (drop (i + 1) xs)) (sym (fit_step site k xs i x lt e) ∙ h)

-- so it is made
pub made_step : (site : Site) (k : Cell) (xs : List Change) (i : ℕ) (x : Change) → i < length xs → x ≡ get_or xs i x → all_fit site k (drop i xs) ≡ true
    → applied site k (drop i xs) ≡ applied site (made_one site.here k x) (drop (i + 1) xs)
made_step site k xs i x lt e h = applied_step site k xs i x lt e ∙ rw (fit_one site k xs i x lt e h)

pub ruleset made_facts = (fit_one, fit_rest, made_step)

-- what each change keeps, changes keep
pub kept_list : (site : Site) → ((at : Site) (k : Cell) (x : Change) → is_formed x ≡ true → IsKept at k → IsKept at (applied_one at k x))
    → (k : Cell) (xs : List Change) → are_formed xs ≡ true → IsKept site k → IsKept site (applied site k xs)
kept_list site step k [] f h = h
kept_list site step k (x ∷ xs) f h =
    let b = both_true (is_formed x) (are_formed xs) f in kept_list site step (applied_one site k x) xs b.1 (step site k x b.0 h)

still_if : (b : Bool) (k l : Cell) → IsStill k → IsStill l → IsStill (if b then l else k)
still_if true k l h g = g
still_if false k l h g = h

opened_stays : {V : Type 0} (rules : Rules V) (a : Member V) (x : GroupChange V) → (changed rules a x).opened ≡ a.opened
opened_stays rules a (change.Queue v) = refl
opened_stays rules a _ = refl

-- a change opens no round
still_free : (k : Cell) (x : Change) → IsStill k → IsStill (free_after k x)
still_free k (durable.Bind d) h = (refl, refl)
still_free k (durable.Gone old) h = tt
still_free k _ h = h

still_made : (here : NodeId) (k : Cell) (x : Change) → IsStill k → IsStill (made_one here k x)
still_made here (Held h) (durable.Bind d) s = (refl, refl)
still_made here (Held h) (durable.Admin x) s = (opened_stays (act_rules h.definition) h.acts x ∙ s.0, s.1)
still_made here (Held h) (durable.Service x) s = (s.0, opened_stays batch_rules h.batches x ∙ s.1)
still_made here (Held h) durable.Purge s = tt
still_made here (Held h) (durable.Gone old) s = tt
still_made here (Held h) x s = s
still_made here k x s = still_free k x s

pub still_list : (site : Site) (k : Cell) (xs : List Change) → IsStill k → IsStill (applied site k xs)
still_list site k [] h = h
still_list site k (x ∷ xs) h =
    still_list site (applied_one site k x) xs (still_if (fits_cell site k x) k (made_one site.here k x) h (still_made site.here k x h))

-- where no round is open, the cell is settled
settled_closed : {V : Type 0} (g : Group V) (at : ℕ) (m : Member V) → m.opened ≡ None → IsSettled g at m
settled_closed g at m h o e = absurd (let z : None ≡ Some o = sym h ∙ e in cc)

pub settled_still : (here : NodeId) (k : Cell) → IsStill k → IsSettledCell here k
settled_still here (Held h) s = (
  settled_closed (admin_group h.definition) (position h.definition.members here) h.acts s.0,
  settled_closed (service_group h.definition) (position h.definition.members here) h.batches s.1,
)
settled_still here k s = tt

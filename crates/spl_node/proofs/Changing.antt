-- The cells of a node after one of them changed.
use Rattle.std.{specs.{Prelude.if◌then◌else◌, BTreeMap.{is_at, insert_entry}, Map.{lookup, set_value}, Str.bytes_eq}, proofs.Common.{◌≡◌, ◌⊎◌, inl, inr}}
use Rattle.std.proofs.Common.{true, false, List, Some, None, Result, Ok, Err, OnOk, OnErr, refl, sym, ◌∙◌, ap, subst}
use Rattle.spl_agree.proofs.Tests.{bool_cases}
use Rattle.spl_circuit.specs.Nodes.{NodeId, CircuitId}
use Rattle.spl_wire.specs.declared.{change.Change.Change, event.Event.Event, plan.Plan.Plan}
use Rattle.spl_cell.specs.{States.IsStill, Views.CellView}
use Rattle.spl_cell_rules.specs.{Cells.{Cell, Empty, Site, is_empty_cell, Held, Purged, site_at}, Changes.{applied, after_plan}, Plans.plan_of}
use Rattle.spl_node.specs.{Done.{IsGiven, no_circuit}, Kept.{Entries, IsOwn, AreOwn, IsCellSound, cell_at, cells_after, state_or_empty}}
use Rattle.spl_node.{specs.declared.done.Done.Done, proofs.{Carrying.changed_at, Maps.{order, set_own, insert_own, found_own, lookup_set_same}}}
use Rattle.spl_node.proofs.Maps.{lookup_set_other, lookup_insert_same, lookup_insert_other}

pub empty_is : (k : Cell) → is_empty_cell k ≡ true → k ≡ Empty
empty_is Empty h = refl
empty_is (Purged old) h = cc
empty_is (Held h) e = cc

-- what is there at a circuit
pub found_state : (c : CircuitId) (es : Entries) (v : CellView) → lookup (is_at (order c)) es ≡ Some v → cell_at es c ≡ v.state
found_state c es v found = ap state_or_empty found

pub missing_state : (c : CircuitId) (es : Entries) → lookup (is_at (order c)) es ≡ None → cell_at es c ≡ Empty
missing_state c es none = ap state_or_empty none

-- a cell is written over
pub written_cells : (c : CircuitId) (old new : Entries) (v w : CellView) (f : Cell → Cell) → lookup (is_at (order c)) old ≡ Some v
    → new ≡ set_value (is_at (order c)) old w → w.state ≡ f v.state
    → (d : CircuitId) → cell_at new d ≡ (if bytes_eq c d then f (cell_at old c) else cell_at old d)
written_cells c old new v w f found is state = changed_at f c old new
    (ap (λ (es : Entries). cell_at es c) is ∙ (ap state_or_empty (lookup_set_same c old v w found) ∙ (state ∙ ap f (sym (found_state c old v found)))))
    (λ d apart. ap (λ (es : Entries). lookup (is_at (order d)) es) is ∙ lookup_set_other c d old w apart)

pub written_own : (here : NodeId) (c : CircuitId) (old new : Entries) (v w : CellView) → AreOwn here old → lookup (is_at (order c)) old ≡ Some v
    → new ≡ set_value (is_at (order c)) old w → w.site ≡ v.site → IsCellSound w → AreOwn here new
written_own here c old new v w own found is same sound =
    let mine : IsOwn here c v = found_own here c old v own found in
    subst (AreOwn here) (sym is) (set_own here c old w own (record { site_is = same ∙ mine.site_is; sound = sound }))

-- or joins
pub joined_cells : (c : CircuitId) (old new : Entries) (w : CellView) (f : Cell → Cell) → cell_at old c ≡ Empty → new ≡ insert_entry order old c w
    → w.state ≡ f Empty
    → (d : CircuitId) → cell_at new d ≡ (if bytes_eq c d then f (cell_at old c) else cell_at old d)
joined_cells c old new w f empty is state = changed_at f c old new
    (ap (λ (es : Entries). cell_at es c) is ∙ (ap state_or_empty (lookup_insert_same c old w) ∙ (state ∙ ap f (sym empty))))
    (λ d apart. ap (λ (es : Entries). lookup (is_at (order d)) es) is ∙ lookup_insert_other c d old w apart)

pub joined_own : (here : NodeId) (c : CircuitId) (old new : Entries) (w : CellView) → AreOwn here old → new ≡ insert_entry order old c w → IsOwn here c w
    → AreOwn here new
joined_own here c old new w own is mine = subst (AreOwn here) (sym is) (insert_own here c old w own mine)

-- or stays empty
pub empty_cells : (c : CircuitId) (old new : Entries) (f : Cell → Cell) → cell_at old c ≡ Empty → new ≡ old → f Empty ≡ Empty
    → (d : CircuitId) → cell_at new d ≡ (if bytes_eq c d then f (cell_at old c) else cell_at old d)
empty_cells c old new f empty is stays = changed_at f c old new
    (ap (λ (es : Entries). cell_at es c) is ∙ (empty ∙ (sym stays ∙ ap f (sym empty))))
    (λ d apart. ap (λ (es : Entries). lookup (is_at (order d)) es) is)

-- a sound cell where another stood
pub own_like : (here : NodeId) (c : CircuitId) (v w : CellView) → IsOwn here c v → w.site ≡ v.site → IsCellSound w → IsOwn here c w
own_like here c v w mine same sound = record { site_is = same ∙ mine.site_is; sound = sound }

-- at the cell's own node and circuit
pub own_applied : (here : NodeId) (c : CircuitId) (v : CellView) (k : Cell) (xs : List Change) → IsOwn here c v
    → applied v.site k xs ≡ applied (site_at here c) k xs
own_applied here c v k xs own = ap (λ (s : Site). applied s k xs) own.site_is

pub own_after : (here : NodeId) (c : CircuitId) (v : CellView) (k : Cell) (e : Event) → IsOwn here c v
    → after_plan v.site.here k (plan_of v.site k e) ≡ after_plan here k (plan_of (site_at here c) k e)
own_after here c v k e own = ap (λ (s : Site). after_plan s.here k (plan_of s k e)) own.site_is

-- no round is open in any cell
pub still_where : (c : CircuitId) (old new : Entries) (k : Cell) → IsStill k → ((d : CircuitId) → IsStill (cell_at old d))
    → ((d : CircuitId) → cell_at new d ≡ (if bytes_eq c d then k else cell_at old d)) → (d : CircuitId) → IsStill (cell_at new d)
still_where c old new k still all is d = by (bool_cases (bytes_eq c d))
  where
    by : (bytes_eq c d ≡ true) ⊎ (bytes_eq c d ≡ false) → IsStill (cell_at new d)
    by (inl h) = let here : cell_at new d ≡ k = is d ∙ rw h refl in subst IsStill (sym here) still
    by (inr h) = let there : cell_at new d ≡ cell_at old d = is d ∙ rw h refl in subst IsStill (sym there) (all d)

pub kept_or_same : {A E : Type 0} (r : Result A E) (here : NodeId) (c : CircuitId) (old new : Entries) (w : CellView) → AreOwn here old
    → OnOk r (new ≡ insert_entry order old c w) → OnErr r (new ≡ old) → IsOwn here c w → AreOwn here new
kept_or_same (Ok a) here c old new w own kept same mine = joined_own here c old new w own kept mine
kept_or_same (Err e) here c old new w own kept same mine = subst (AreOwn here) (sym same) own

-- ---- a fresh cell

pub state_of_fresh : (here : NodeId) (c : CircuitId) (v : CellView) (xs : List Change) (w : CellView) → IsOwn here c v → v.state ≡ Empty
    → w.state ≡ applied v.site v.state xs → w.state ≡ applied (site_at here c) Empty xs
state_of_fresh here c v xs w own empty is = is ∙ (own_applied here c v v.state xs own ∙ ap (λ (k : Cell). applied (site_at here c) k xs) empty)

pub handled_fresh : (here : NodeId) (c : CircuitId) (v : CellView) (e : Event) (w : CellView) → IsOwn here c v → v.state ≡ Empty
    → w.state ≡ after_plan v.site.here v.state (plan_of v.site v.state e) → w.state ≡ after_plan here Empty (plan_of (site_at here c) Empty e)
handled_fresh here c v e w own empty is = is ∙ (own_after here c v v.state e own ∙ ap (λ (k : Cell). after_plan here k (plan_of (site_at here c) k e)) empty)

own_given : (here : NodeId) (c : CircuitId) (v : CellView) (k : Cell) (e : Event) (d : Done) → IsOwn here c v → IsGiven v.site k (plan_of v.site k e) d
    → IsGiven (site_at here c) k (plan_of (site_at here c) k e) d
own_given here c v k e d own given = subst (λ (s : Site). IsGiven s k (plan_of s k e) d) own.site_is given

pub given_found : (here : NodeId) (c : CircuitId) (es : Entries) (v : CellView) (e : Event) (d : Done) → IsOwn here c v
    → lookup (is_at (order c)) es ≡ Some v → IsGiven v.site v.state (plan_of v.site v.state e) d
    → IsGiven (site_at here c) (cell_at es c) (plan_of (site_at here c) (cell_at es c) e) d
given_found here c es v e d own found given =
    subst (λ (k : Cell). IsGiven (site_at here c) k (plan_of (site_at here c) k e) d) (sym (found_state c es v found))
    (own_given here c v v.state e d own given)

pub given_fresh : (here : NodeId) (c : CircuitId) (es : Entries) (v : CellView) (e : Event) (d : Done) → IsOwn here c v → v.state ≡ Empty
    → cell_at es c ≡ Empty → IsGiven v.site v.state (plan_of v.site v.state e) d
    → IsGiven (site_at here c) (cell_at es c) (plan_of (site_at here c) (cell_at es c) e) d
given_fresh here c es v e d own fresh empty given =
    subst (λ (k : Cell). IsGiven (site_at here c) k (plan_of (site_at here c) k e) d) (fresh ∙ sym empty) (own_given here c v v.state e d own given)

-- ---- an event that needs a circuit, where none is kept

pub refused_cells : (here : NodeId) (c : CircuitId) (old new : Entries) (e : Event) → cell_at old c ≡ Empty → new ≡ old
    → plan_of (site_at here c) Empty e ≡ no_circuit → (d : CircuitId) → cell_at new d ≡ cells_after here (cell_at old) c e d
refused_cells here c old new e empty is refused =
    empty_cells c old new (λ (k : Cell). after_plan here k (plan_of (site_at here c) k e)) empty is (ap (λ (p : Plan). after_plan here Empty p) refused)

pub given_refused : (here : NodeId) (c : CircuitId) (es : Entries) (e : Event) (d : Done) → cell_at es c ≡ Empty
    → plan_of (site_at here c) Empty e ≡ no_circuit → IsGiven (site_at here c) Empty no_circuit d
    → IsGiven (site_at here c) (cell_at es c) (plan_of (site_at here c) (cell_at es c) e) d
given_refused here c es e d empty refused given =
    subst (λ (k : Cell). IsGiven (site_at here c) k (plan_of (site_at here c) k e) d) (sym empty)
    (subst (λ (p : Plan). IsGiven (site_at here c) Empty p d) (sym refused) given)

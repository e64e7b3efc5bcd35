-- What a definition that can be bound has.
use Rattle.std.{specs.{Prelude.{Option, Some, None, is_none, ◌==◌}, Str.bytes_eq}, proofs.Common.{◌≡◌, ℕ, true, ◌&&◌, refl, sym}}
use Rattle.spl_agree.proofs.Tests.{and_left, and_right, eqb_is}
use Rattle.spl_circuit.specs.{Rules.{broken, is_member}, Nodes.{NodeId, CircuitId}, declared.definition.Definition.Definition}
use Rattle.spl_wire.specs.declared.change.Change.TheVariants as durable
use Rattle.spl_cell_rules.specs.{Cells.{Cell, Held, Purged, Site, fresh, can_bind, is_free}, Changes.{fits_free, fits_cell, made_one}}

none_is : {A : Type 0} (o : Option A) → is_none o ≡ true → o ≡ None
none_is None h = refl
none_is (Some x) h = absurd cc

pub bind_valid : (here : NodeId) (c : CircuitId) (k : Cell) (g : ℕ) (d : Definition) → can_bind (record { here = here; circuit = c }) k g d ≡ true
    → broken d ≡ None
bind_valid here c k g d h =
    none_is (broken d) (and_left (is_none (broken d)) (is_member d here && is_free k g) (and_right (d.generation == g) _ (and_right (bytes_eq d.id c) _ h)))

pub bind_member : (here : NodeId) (c : CircuitId) (k : Cell) (g : ℕ) (d : Definition) → can_bind (record { here = here; circuit = c }) k g d ≡ true
    → is_member d here ≡ true
bind_member here c k g d h =
    and_left (is_member d here) (is_free k g) (and_right (is_none (broken d)) _ (and_right (d.generation == g) _ (and_right (bytes_eq d.id c) _ h)))

pub bind_same : (here : NodeId) (c : CircuitId) (k : Cell) (g : ℕ) (d : Definition) → can_bind (record { here = here; circuit = c }) k g d ≡ true
    → g ≡ d.generation
bind_same here c k g d h = sym (eqb_is d.generation g (and_left (d.generation == g) _ (and_right (bytes_eq d.id c) _ h)))

pub ruleset bind_facts = (bind_valid, bind_member, bind_same)

-- what a definition has that fits a cell
free_valid : (site : Site) (k : Cell) (d : Definition) → fits_free site k (durable.Bind d) ≡ true → broken d ≡ None
free_valid site k d h =
    none_is (broken d) (and_left (is_none (broken d)) (is_member d site.here)
    (and_right (bytes_eq d.id site.circuit) _ (and_right (is_free k d.generation) _ h)))

free_member : (site : Site) (k : Cell) (d : Definition) → fits_free site k (durable.Bind d) ≡ true → is_member d site.here ≡ true
free_member site k d h =
    and_right (is_none (broken d)) (is_member d site.here) (and_right (bytes_eq d.id site.circuit) _ (and_right (is_free k d.generation) _ h))

pub fit_valid : (site : Site) (k : Cell) (d : Definition) → fits_cell site k (durable.Bind d) ≡ true → broken d ≡ None
fit_valid site (Held h) d f = absurd cc
fit_valid site k d f = free_valid site k d f

pub fit_member : (site : Site) (k : Cell) (d : Definition) → fits_cell site k (durable.Bind d) ≡ true → is_member d site.here ≡ true
fit_member site (Held h) d f = absurd cc
fit_member site k d f = free_member site k d f

pub ruleset fit_facts = (fit_valid, fit_member)

-- a change that binds a cell, or purges an unbound one, doesn't look at the cell
pub bind_made : (here : NodeId) (k : Cell) (d : Definition) → made_one here k (durable.Bind d) ≡ Held (fresh d)
bind_made here (Held h) d = refl
bind_made here k d = refl

pub gone_made : (here : NodeId) (k : Cell) (old : ℕ) → made_one here k (durable.Gone old) ≡ Purged old
gone_made here (Held h) old = refl
gone_made here k old = refl

pub ruleset made_facts = (bind_made, gone_made)

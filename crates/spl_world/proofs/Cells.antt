-- What a cell shows of its circuit.
use Rattle.spl_agree.specs.Member.{values}
use Rattle.spl_cell.specs.Reading.{bound_definition, running_batches}
use Rattle.spl_command.specs.declared.batch.Batch.{Batch}
use Rattle.spl_cell_rules.specs.Cells.{Bound, Held, Purged, runs}
use Rattle.spl_world.proofs.Common.{◌≡◌, ◌⊎◌, true, false, List, Some, None, inl, inr, refl, bool_cases, Definition, Cell, Empty}

-- a cell with no definition is bound to none
pub unbound : (k : Cell) → bound_definition k ≡ None → (b : Bound) → k ≡ Held b → ⊥
unbound Empty h b is = cc
unbound (Purged g) h b is = cc
unbound (Held c) h b is = cc

-- a bound one of which nothing is committed is off
pub off_here : (k : Cell) (d : Definition) → bound_definition k ≡ Some d → running_batches k ≡ None → (b : Bound) × (k ≡ Held b) × (runs b ≡ false)
off_here Empty d h q = absurd cc
off_here (Purged g) d h q = absurd cc
off_here (Held b) d h q = (b, refl, go (bool_cases (runs b)))
  where
    go : (runs b ≡ true) ⊎ (runs b ≡ false) → runs b ≡ false
    go (inl u) = absurd (let some : Some (values b.batches.history) ≡ None = rw u at q in cc)
    go (inr u) = u

-- a cell whose circuit runs, with this definition and these batches
pub record RunsHere (k : Cell) (d : Definition) (bs : List Batch) : Type 0 where
  pub bound : Bound
  pub held : k ≡ Held bound
  pub running : runs bound ≡ true
  pub definition : bound.definition ≡ d
  pub batches : values bound.batches.history ≡ bs

pub runs_here : (k : Cell) (d : Definition) (bs : List Batch) → bound_definition k ≡ Some d → running_batches k ≡ Some bs → RunsHere k d bs
runs_here Empty d bs h q = absurd cc
runs_here (Purged g) d bs h q = absurd cc
runs_here (Held b) d bs h q = elim (bool_cases (runs b)) [
  | inl u ↦
      let some : Some (values b.batches.history) ≡ Some bs = rw u at q in
      let batches : values b.batches.history ≡ bs = cc in
      let definition : b.definition ≡ d = cc in
      record { bound = b; held = refl; running = u; definition = definition; batches = batches }
  | inr u ↦ absurd (let none : None ≡ Some bs = rw u at q in cc)
]

-- What is bound at a valid cell.
use Rattle.std.{specs.List.list_all, proofs.Common.{◌≡◌, true, sym, subst}}
use Rattle.spl_agree.specs.Member.{values}
use Rattle.spl_cell_rules.specs.{Cells.Site, Changes.may_serve, Valid.{IsValid, IsSettledCell}}
use Rattle.spl_cell.specs.{Views.{HeldView, IsSettledHeld}, States.{cell_of, IsAt}, declared.state.State.State}
use Rattle.spl_cell.specs.declared.state.State.TheVariants as state

abbrev pub IsSettledState : State → Type 0
IsSettledState (state.Held h) = IsSettledHeld h.value
IsSettledState _ = Unit {0}

pub settled_state : (site : Site) (s : State) → IsAt site s → IsValid site (cell_of s) → IsSettledState s
settled_state site (state.Held h) at v = subst (λ (z : Site). IsSettledCell z.here (cell_of (state.Held h))) (sym at) v.settled
settled_state site s at v = tt

-- no batch that is committed there breaks a rule
abbrev pub IsLawfulHeld : HeldView → Type 0
IsLawfulHeld h = list_all may_serve (values h.bound.batches.history) ≡ true

abbrev pub IsLawfulState : State → Type 0
IsLawfulState (state.Held h) = IsLawfulHeld h.value
IsLawfulState _ = Unit {0}

pub lawful_state : (site : Site) (s : State) → IsValid site (cell_of s) → IsLawfulState s
lawful_state site (state.Held h) v = v.kept.lawful.history
lawful_state site s v = tt

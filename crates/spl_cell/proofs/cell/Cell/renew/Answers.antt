use Rattle.std.proofs.Common.{◌≡◌, ◌∙◌, sym, subst}
use Rattle.spl_cell_rules.specs.{Cells.Held, Valid.IsValid}
use Rattle.spl_cell.{specs.{Sites.site_of, Views.HeldView}, proofs.cell.Cell.renew.Goals.{in-Held, in_default}}
use Rattle.spl_cell.proofs.cell.Cell.renew.Goals as goal

pub invariant_of-self : goal.invariant_of-self
invariant_of-self c = elim c.match-self.branch [
  | in-Held w ↦ rw w.self-inside-is
      (subst (λ (v : HeldView). (v.site ≡ site_of c.self.inside.site) × IsValid (site_of c.self.inside.site) (Held v.bound))
      (sym (w.renew.ensures ∙ w.deref_mut.ensures.value)) (rw w.in-Held.is at c.self.invariant))
  | in_default w ↦ rw w.self-inside-is c.self.invariant
]

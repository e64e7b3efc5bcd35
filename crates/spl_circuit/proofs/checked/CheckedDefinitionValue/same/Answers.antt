use Rattle.std.proofs.Common.{ap, sym, ◌∙◌}
use Rattle.spl_circuit.proofs.Findings.{same_found}
use Rattle.spl_circuit.proofs.checked.CheckedDefinitionValue.same.Goals as goal

pub returns-in-Sound-Sound : goal.returns-in-Sound-Sound
returns-in-Sound-Sound c =
    let one = ap (λ v. v.findings) (sym c.deref.ensures) ∙ c.in-Sound-Sound.is-0 in
    let other = ap (λ v. v.findings) (sym c.deref-2.ensures) ∙ c.in-Sound-Sound.is-1 in
    same_found c.self.view_is c.other.view_is c.self.invariant c.other.invariant one other c.same.ensures

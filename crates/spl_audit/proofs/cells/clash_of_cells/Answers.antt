use Rattle.std.proofs.Common.{◌≡◌, ◌∙◌, ap, sym}
use Rattle.spl_circuit.specs.declared.definition.Definition.{Definition}
use Rattle.spl_audit.proofs.Pairs.{at_cells, same_number}
use Rattle.spl_audit.proofs.cells.clash_of_cells.Goals as goal

pub returns-in-Some : goal.returns-in-Some
returns-in-Some c =
    let h = c.args.one.now.bound in
    let k = c.args.other.now.bound in
    let own : c.definition.result.now.generation ≡ h.definition.generation = ap (λ (d : Definition). d.generation) c.definition.ensures.value in
    let one : k.definition.generation ≡ c.definition.result.now.generation =
    sym (same_number c.definition.result.now.generation c.definition-2.result.now.generation c.if-ne.ensures
    ∙ ap (λ (d : Definition). d.generation) c.definition-2.ensures.value) in
    at_cells c.args.circuit c.definition.result.now.generation c.args.first c.args.second h k c.in-Some.kind c.in-Some.place own one c.in-Some.ensures

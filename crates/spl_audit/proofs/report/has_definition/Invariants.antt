use Rattle.std.{specs.List.list_any, proofs.Common.{◌≡◌, map, drop}}
use Rattle.spl_circuit.specs.Equality.{same_definition}
use Rattle.spl_audit.proofs.report.has_definition.Given as goal

abbrev pub invariant-definitions : goal.invariant-definitions
invariant-definitions l =
    list_any (same_definition l.fn.definition) (map (λ d. d.now) l.fn.definitions)
    ≡ list_any (same_definition l.fn.definition) (map (λ d. d.now) (drop l.other-index l.fn.definitions))

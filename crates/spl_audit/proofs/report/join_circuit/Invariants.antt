use Rattle.std.proofs.Common.{◌≡◌, ◌++◌, map, drop}
use Rattle.spl_audit.specs.Reporting.{definition_finding}
use Rattle.spl_audit.proofs.report.join_circuit.Given as goal

abbrev pub invariant-definitions : goal.invariant-definitions
invariant-definitions l =
    l.report ++ map (definition_finding l.fn.circuit (map (λ h. h.now.bound) l.held.items)) (map (λ d. d.now) (drop l.definition-index l.definition-items))
    ≡ l.initial.report ++ map (definition_finding l.fn.circuit (map (λ h. h.now.bound) l.held.items)) (map (λ d. d.now) l.definition-items)

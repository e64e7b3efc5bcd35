use Rattle.std.proofs.Common.{◌≡◌, ◌++◌, map, take, drop}
use Rattle.spl_audit.specs.Reporting.{placed_by_generation}
use Rattle.spl_audit.proofs.report.place_of.Given as goal

abbrev pub invariant-definitions : goal.invariant-definitions
invariant-definitions l =
    map (λ d. d.now) (take l.place l.definitions) ++ placed_by_generation l.definition (map (λ d. d.now) (drop l.place l.definitions))
    ≡ placed_by_generation l.definition (map (λ d. d.now) l.definitions)

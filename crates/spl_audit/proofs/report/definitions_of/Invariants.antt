use Rattle.std.proofs.Common.{◌≡◌, [], map, drop}
use Rattle.spl_audit.specs.Reporting.{definitions_with}
use Rattle.spl_audit.proofs.report.definitions_of.Given as goal

abbrev pub invariant-held : goal.invariant-held
invariant-held l =
    definitions_with (map (λ d. d.now) l.all.items) (map (λ h. h.now.bound) (drop l.one-index l.fn.held))
    ≡ definitions_with [] (map (λ h. h.now.bound) l.fn.held)

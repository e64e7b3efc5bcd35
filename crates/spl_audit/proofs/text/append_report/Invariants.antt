use Rattle.std.{specs.List.flat_map, proofs.Common.{◌≡◌, ◌++◌, drop}}
use Rattle.spl_audit.specs.Texts.{found_line}
use Rattle.spl_audit.proofs.text.append_report.Given as goal

abbrev pub invariant-found : goal.invariant-found
invariant-found l = l.out.items ++ flat_map found_line (drop l.found-index l.report) ≡ l.initial.out.items ++ flat_map found_line l.report

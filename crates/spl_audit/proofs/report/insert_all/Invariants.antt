use Rattle.std.proofs.Common.{◌≡◌, drop}
use Rattle.spl_audit.specs.Reporting.{with_ids}
use Rattle.spl_audit.proofs.report.insert_all.Given as goal

abbrev pub invariant-more : goal.invariant-more
invariant-more l = with_ids l.ids.keys (drop l.id-index l.fn.more) ≡ with_ids l.initial.ids.keys l.fn.more

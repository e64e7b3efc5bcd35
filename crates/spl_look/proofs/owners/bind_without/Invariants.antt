use Rattle.std.{specs.List.list_any, proofs.Common.{◌≡◌, drop}}
use Rattle.spl_look.specs.Owners.{binds_without}
use Rattle.spl_look.proofs.owners.bind_without.Given as goal

abbrev pub invariant-changes : goal.invariant-changes
invariant-changes l = list_any (binds_without l.fn.here) l.fn.changes ≡ list_any (binds_without l.fn.here) (drop l.change-index l.fn.changes)

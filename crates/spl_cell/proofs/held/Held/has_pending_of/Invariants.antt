use Rattle.std.{specs.{List.list_any, Str.bytes_eq}, proofs.Common.{◌≡◌, drop}}
use Rattle.spl_cell.proofs.held.Held.has_pending_of.Given as goal

-- those that are left have one exactly where all do
abbrev pub invariant-loop-i : goal.invariant-loop-i
invariant-loop-i l =
    list_any (λ v. bytes_eq v.node l.node) (drop l.i l.self.bound.acts.pending) ≡ list_any (λ v. bytes_eq v.node l.node) l.self.bound.acts.pending

use Rattle.std.proofs.Common.{◌↔◌, drop}
use Rattle.spl_proof.specs.Accepted.{Leads}
use Rattle.spl_proof.proofs.accept.leads.Given as goal

abbrev pub invariant-loop-i : goal.invariant-loop-i
invariant-loop-i l = Leads l.root 0 l.a l.levels l.end ↔ Leads l.digest l.i l.a (drop l.i l.levels) l.end

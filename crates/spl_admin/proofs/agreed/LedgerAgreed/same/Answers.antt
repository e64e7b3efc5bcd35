use Rattle.spl_circuit.specs.{Equality.same_act, Same.same_acts}
use Rattle.spl_admin.proofs.Decided.{same_test}
use Rattle.spl_admin.proofs.agreed.LedgerAgreed.same.Goals as goal

pub returns : goal.returns
returns c = same_test c.same.result (same_act c.args.a.now c.args.b.now) c.same.ensures (same_acts c.args.a.now c.args.b.now)

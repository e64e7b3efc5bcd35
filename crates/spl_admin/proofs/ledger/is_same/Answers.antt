use Rattle.spl_circuit.specs.{Equality.same_definition, Same.same_definitions}
use Rattle.spl_admin.proofs.Decided.{same_test}
use Rattle.spl_admin.proofs.ledger.is_same.Goals as goal

pub returns : goal.returns
returns c = same_test c.same.result (same_definition c.args.a.now c.args.b.now) c.same.ensures (same_definitions c.args.a.now c.args.b.now)

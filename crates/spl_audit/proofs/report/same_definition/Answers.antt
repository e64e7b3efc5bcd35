use Rattle.spl_circuit.specs.{Equality.same_definition, Same.same_definitions}
use Rattle.spl_audit.proofs.Beside.{same_test}
use Rattle.spl_audit.proofs.report.same_definition.Goals as goal

pub returns : goal.returns
returns c = same_test c.same.result (same_definition c.args.one.now c.args.other.now) c.same.ensures (same_definitions c.args.one.now c.args.other.now)

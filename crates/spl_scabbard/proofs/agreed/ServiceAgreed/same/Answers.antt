use Rattle.spl_command.specs.{Equality.same_batch, Same.same_batches}
use Rattle.spl_scabbard.proofs.Keeps.{alike}
use Rattle.spl_scabbard.proofs.agreed.ServiceAgreed.same.Goals as goal

pub returns : goal.returns
returns c = alike c.same.result (same_batch c.args.a.now c.args.b.now) c.same.ensures (same_batches c.args.a.now c.args.b.now)

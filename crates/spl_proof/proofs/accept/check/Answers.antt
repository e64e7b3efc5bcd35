use Rattle.std.proofs.Common.{option_copied}
use Rattle.spl_proof.proofs.Deciding.{same_test}
use Rattle.spl_proof.proofs.accept.check.Goals as goal

pub returns-clause-accepted : goal.returns-clause-accepted
returns-clause-accepted c = c.is_accepted.ensures

pub returns-clause-test : goal.returns-clause-test
returns-clause-test c = same_test c.is_accepted.result c.args.root.now c.args.a.now (option_copied c.args.claim) c.args.proof.now c.is_accepted.ensures

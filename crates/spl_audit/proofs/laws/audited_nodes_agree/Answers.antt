-- By the first place at which two lists would differ.
use Rattle.spl_audit.proofs.Begins.{audited-agree}
use Rattle.spl_audit.proofs.laws.audited_nodes_agree.Goals as goal

pub returns : goal.returns
returns c = audited-agree

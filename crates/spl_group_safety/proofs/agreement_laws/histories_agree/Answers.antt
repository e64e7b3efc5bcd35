use Rattle.spl_group_safety.proofs.Agreement.{prefix-run}
use Rattle.spl_group_safety.proofs.agreement_laws.histories_agree.Goals as goal

pub returns : goal.returns
returns g c = prefix-run

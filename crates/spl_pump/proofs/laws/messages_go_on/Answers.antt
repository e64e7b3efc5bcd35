use Rattle.spl_pump.proofs.Carrying.{puts_on_part}
use Rattle.spl_pump.proofs.laws.messages_go_on.Goals as goal

pub returns-clause-part : goal.returns-clause-part
returns-clause-part c = puts_on_part

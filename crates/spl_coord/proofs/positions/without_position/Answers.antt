use Rattle.spl_coord.proofs.Bits.{positions-clear}
use Rattle.spl_coord.proofs.positions.without_position.Goals as goal

pub returns : goal.returns
returns c = positions-clear c.args.bits c.args.at c.requires

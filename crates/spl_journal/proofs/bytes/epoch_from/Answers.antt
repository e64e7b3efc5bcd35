use Rattle.spl_journal.proofs.Sizes.{epoch_from_is}
use Rattle.spl_journal.proofs.bytes.epoch_from.Goals as goal

pub returns : goal.returns
returns c = epoch_from_is c.args.bytes c.from_be_bytes.result c.from_be_bytes.ensures

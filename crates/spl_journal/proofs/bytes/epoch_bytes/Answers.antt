use Rattle.spl_journal.proofs.Sizes.{epoch_bytes_is}
use Rattle.spl_journal.proofs.bytes.epoch_bytes.Goals as goal

pub returns : goal.returns
returns c = epoch_bytes_is c.args.epoch c.to_be_bytes.result c.to_be_bytes.ensures

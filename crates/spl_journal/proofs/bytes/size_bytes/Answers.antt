use Rattle.spl_journal.proofs.Sizes.{size_bytes_is}
use Rattle.spl_journal.proofs.bytes.size_bytes.Goals as goal

pub returns : goal.returns
returns c = size_bytes_is c.args.size c.to_be_bytes.result c.to_be_bytes.ensures

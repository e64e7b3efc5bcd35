use Rattle.std.proofs.Common.{length}
use Rattle.spl_acceptor.proofs.held.+pair_among.Given as goal

abbrev pub decreases-pair_among : goal.decreases-pair_among
decreases-pair_among l = length l.among.now

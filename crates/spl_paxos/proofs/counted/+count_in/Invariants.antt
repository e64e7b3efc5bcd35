use Rattle.std.proofs.Common.{length}
use Rattle.spl_paxos.proofs.counted.+count_in.Given as goal

abbrev pub decreases-count_in : goal.decreases-count_in
decreases-count_in l = length l.counted.now

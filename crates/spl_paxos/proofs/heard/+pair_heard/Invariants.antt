use Rattle.std.proofs.Common.{length}
use Rattle.spl_paxos.proofs.heard.+pair_heard.Given as goal

abbrev pub decreases-pair_heard : goal.decreases-pair_heard
decreases-pair_heard l = length l.before.now

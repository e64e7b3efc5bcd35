use Rattle.std.proofs.Common.{length}
use Rattle.spl_paxos.proofs.heard.+is_heard.Given as goal

abbrev pub decreases-is_heard : goal.decreases-is_heard
decreases-is_heard l = length l.before.now

use Rattle.spl_paxos.proofs.heard.Heard.+count.Given as goal

abbrev pub decreases-count : goal.decreases-count
decreases-count l = l.most

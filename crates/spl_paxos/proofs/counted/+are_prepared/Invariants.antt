use Rattle.spl_paxos.proofs.counted.+are_prepared.Given as goal

abbrev pub decreases-are_prepared : goal.decreases-are_prepared
decreases-are_prepared l = l.most

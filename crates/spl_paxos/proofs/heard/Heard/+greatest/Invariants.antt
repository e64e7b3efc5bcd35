use Rattle.spl_paxos.proofs.heard.Heard.+greatest.Given as goal

abbrev pub decreases-greatest : goal.decreases-greatest
decreases-greatest l = l.most

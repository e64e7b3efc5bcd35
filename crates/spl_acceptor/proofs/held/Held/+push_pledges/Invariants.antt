use Rattle.spl_acceptor.proofs.held.Held.+push_pledges.Given as goal

abbrev pub decreases-push_pledges : goal.decreases-push_pledges
decreases-push_pledges l = l.members

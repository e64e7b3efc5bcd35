use Rattle.spl_acceptor.proofs.sending.+push_up_to.Given as goal

abbrev pub decreases-push_up_to : goal.decreases-push_up_to
decreases-push_up_to l = l.count

use Rattle.spl_paxos.proofs.leader_row.+push_orders.Given as goal

abbrev pub decreases-push_orders : goal.decreases-push_orders
decreases-push_orders l = l.members

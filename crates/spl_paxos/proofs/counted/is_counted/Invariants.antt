use Rattle.std.proofs.Common.{◌≡◌, drop}
use Rattle.spl_acceptor.specs.Rows.{any_of, is_acceptance_by}
use Rattle.spl_paxos.proofs.counted.is_counted.Given as goal

abbrev pub invariant-loop-x : goal.invariant-loop-x
invariant-loop-x l =
    any_of (is_acceptance_by l.acceptor l.member l.ballot l.prepared) (drop l.x-index l.counted)
    ≡ any_of (is_acceptance_by l.acceptor l.member l.ballot l.prepared) l.counted

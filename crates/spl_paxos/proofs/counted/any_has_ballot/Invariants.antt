use Rattle.std.proofs.Common.{◌≡◌, ◌∷◌, drop}
use Rattle.spl_acceptor.specs.Rows.{any_of}
use Rattle.spl_paxos.specs.Members.{has_ballot}
use Rattle.spl_paxos.proofs.counted.any_has_ballot.Given as goal

abbrev pub invariant-loop-x : goal.invariant-loop-x
invariant-loop-x l =
    any_of (has_ballot l.group (l.heard ∷ l.counted) l.member) (drop l.x-index l.counted)
    ≡ any_of (has_ballot l.group (l.heard ∷ l.counted) l.member) l.counted

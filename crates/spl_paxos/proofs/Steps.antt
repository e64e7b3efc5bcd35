-- What a vote and a turn of a leader write.
use Rattle.std.{specs.Prelude.nat_lt, proofs.Common.{ℕ, ◌^◌, Bool, refl}}
use Rattle.spl_agree.proofs.Tests.{if_holds}
use Rattle.spl_acceptor.specs.{Processes.Leader, Rows.{on_paxos_vote, next_ballot, on_lead}, Steps.WritesIn, declared.group.Group.Group}

pub vote_writes : (g : Group) (n here r : ℕ) (aye : Bool) → WritesIn r n (on_paxos_vote g here r aye)
vote_writes g n here r aye = (refl, refl)

pub lead_writes : (g : Group) (n here : ℕ) (l : Leader) (r : ℕ) → WritesIn r n (on_lead g here l r)
lead_writes g n here l r = if_holds (WritesIn r n) (nat_lt (next_ballot here l.used) (2 ^ 64)) _ _ (λ q. (refl, refl)) (λ q. tt)

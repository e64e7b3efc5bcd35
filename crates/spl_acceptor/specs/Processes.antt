-- What members, acceptors and leaders keep of one round (docs/RULES.md, Paxos Commit).
use Rattle.std.specs.Prelude.{ℕ, Bool, List, [], Option, None}
use Rattle.spl_acceptor.specs.declared.message.Acceptance.{Acceptance}

-- what an acceptor accepted of a member: the ballot, and whether the member is prepared
abbrev pub Pair : Type 0
Pair = ℕ × Bool

-- by member
abbrev pub Pairs : Type 0
Pairs = ℕ → Option Pair

-- an acceptor: all of it is durable
pub record Acceptor : Type 0 where
  pub promised : ℕ
  pub accepted : Pairs

-- a member: vote and decision are durable, and what it counted is volatile
pub record VotingMember : Type 0 where
  pub vote : Option Bool
  pub decision : Option Bool
  pub counted : List Acceptance

-- an open ballot, with the promises counted for it, by acceptor
pub record PaxosBallot : Type 0 where
  pub number : ℕ
  pub promises : ℕ → Option Pairs

-- a leader: what it used is durable, and the open ballot is volatile
pub record Leader : Type 0 where
  pub used : ℕ
  pub opened : Option PaxosBallot

abbrev pub new_acceptor : Acceptor
new_acceptor = record { promised = 0; accepted = λ i. None }

abbrev pub new_paxos_member : VotingMember
new_paxos_member = record { vote = None; decision = None; counted = [] }

abbrev pub new_leader : Leader
new_leader = record { used = 0; opened = None }

-- a stop forgets what is volatile
abbrev pub stopped_member : VotingMember → VotingMember
stopped_member m = record { vote = m.vote; decision = m.decision; counted = [] }

abbrev pub stopped_leader : Leader → Leader
stopped_leader l = record { used = l.used; opened = None }

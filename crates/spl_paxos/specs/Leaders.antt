-- What a leader keeps, as the code has it (docs/RULES.md, Paxos Commit).
use Rattle.std.specs.{Prelude.{ℕ, Option, Some, None}, Ordering.nat_cmp, BTreeMap.is_at, Map.lookup}
use Rattle.spl_acceptor.specs.Processes.{PaxosBallot, Leader}
use Rattle.spl_paxos.specs.{Promises.ballot_view, declared.{heard.OpenBallot.OpenBallot, leader_rounds.LeaderRounds.LeaderRounds}}

-- no ballot above 0 was used where nothing is found
abbrev pub used_or_none : Option ℕ → ℕ
used_or_none None = 0
used_or_none (Some b) = b

abbrev pub opened_or_none : Option OpenBallot → Option PaxosBallot
opened_or_none None = None
opened_or_none (Some o) = Some (ballot_view o)

-- what is found of a round in both parts
abbrev pub leader_found : Option ℕ → Option OpenBallot → Leader
leader_found used opened = record { used = used_or_none used; opened = opened_or_none opened }

-- what a leader used in a round, and its open ballot
abbrev pub leader_in : LeaderRounds → ℕ → Leader
leader_in l r = leader_found (lookup (is_at (nat_cmp r)) l.used.entries) (lookup (is_at (nat_cmp r)) l.opened.entries)

-- What an acceptor keeps, as the code has it.
use Rattle.std.specs.{Prelude.{ℕ, Option, Some, None}, Ordering.nat_cmp, BTreeMap.is_at, Map.lookup}
use Rattle.spl_acceptor.specs.{Processes.{Acceptor, new_acceptor}, Rows.pair_among, declared.{held.Held.Held, rounds.AcceptorRounds.AcceptorRounds}}

-- of a round; the last pledge of a member stands first
abbrev pub held_of : Held → Acceptor
held_of h = record { promised = h.promised; accepted = pair_among h.accepted.items }

-- nothing is kept of a round that isn't found
abbrev pub held_or_new : Option Held → Acceptor
held_or_new None = new_acceptor
held_or_new (Some h) = held_of h

-- of the round of this number
abbrev pub acceptor_in : AcceptorRounds → ℕ → Acceptor
acceptor_in a r = held_or_new (lookup (is_at (nat_cmp r)) a.rounds.entries)

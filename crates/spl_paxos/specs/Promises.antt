-- The promises of a leader's open ballot, as the code has them (docs/RULES.md, Paxos Commit).
use Rattle.std.specs.Prelude.{ℕ, ◌==◌, List, [], ◌∷◌, Option, Some, None, if◌then◌else◌}
use Rattle.spl_acceptor.specs.{Processes.{Pairs, PaxosBallot}, Rows.pair_among}
use Rattle.spl_paxos.specs.declared.heard.{Heard.Heard, HeardPromise.HeardPromise, OpenBallot.OpenBallot}

-- by acceptor; the newest stands first
abbrev pub heard_among : List HeardPromise → ℕ → Option Pairs
heard_among [] a = None
heard_among (x ∷ xs) a = if x.acceptor == a then Some (pair_among x.pairs) else heard_among xs a

-- with the one that is heard now
abbrev pub heard_now : Heard → ℕ → Option Pairs
heard_now h = heard_among (record { acceptor = h.acceptor; pairs = h.pairs.now } ∷ h.before.now)

abbrev pub ballot_view : OpenBallot → PaxosBallot
ballot_view o = record { number = o.number; promises = heard_among o.heard.items }

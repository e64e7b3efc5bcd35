-- What an acceptor may be asked for (docs/RULES.md, Paxos Commit).
use Rattle.std.specs.Prelude.{ℕ, Bool, true, ◌&&◌, nat_lt, nat_le}
use Rattle.spl_acceptor.specs.declared.message.PaxosMsg.{PaxosMsg}
use Rattle.spl_acceptor.specs.declared.message.PaxosMsg.TheVariants as msg

-- an order is about one of so many members
abbrev pub orders_own : ℕ → PaxosMsg → Bool
orders_own n (msg.Accept r i b p) = nat_lt 0 i && nat_le i n
orders_own n (msg.Ask r b) = true
orders_own n (msg.Promise r b pairs) = true
orders_own n (msg.Higher r b) = true
orders_own n (msg.Accepted r i b p) = true

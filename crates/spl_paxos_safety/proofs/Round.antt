-- One round by itself: its processes, and what was said in it.
use Rattle.std.specs.Prelude.{ℕ, Bool, List, [], ◌∷◌, ◌++◌, ◌==◌, if◌then◌else◌}
use Rattle.spl_agree.specs.World.{put}
use Rattle.spl_acceptor.specs.{Processes.{Pairs, Acceptor, VotingMember, Leader}, Rows.pair_among, Worlds.{PaxosCommitWorld, SentPaxosMessage, round_of}}
use Rattle.spl_acceptor.specs.declared.message.PaxosMsg.{PaxosMsg}
use Rattle.spl_acceptor.specs.declared.message.PaxosMsg.TheVariants as msg
pub use Rattle.spl_paxos_safety.specs.Settling.{IsAmong}

-- a message, whatever its round and whoever hears it; a promise and an acceptance name the acceptor
pub data Message : Type 0 where
  Ask : (ballot : ℕ) → Message
  Accept : (member : ℕ) → (ballot : ℕ) → (prepared : Bool) → Message
  Promise : (acceptor : ℕ) → (ballot : ℕ) → (pairs : Pairs) → Message
  Higher : (ballot : ℕ) → Message
  Accepted : (acceptor : ℕ) → (member : ℕ) → (ballot : ℕ) → (prepared : Bool) → Message

pub record Round : Type 0 where
  pub member : ℕ → VotingMember
  pub acceptor : ℕ → Acceptor
  pub leader : ℕ → Leader
  pub sent : List Message

abbrev pub with_member : Round → ℕ → VotingMember → List Message → Round
with_member w i m sends = record { member = put w.member i m; acceptor = w.acceptor; leader = w.leader; sent = sends ++ w.sent }

abbrev pub with_acceptor : Round → ℕ → Acceptor → List Message → Round
with_acceptor w a x sends = record { member = w.member; acceptor = put w.acceptor a x; leader = w.leader; sent = sends ++ w.sent }

abbrev pub with_leader : Round → ℕ → Leader → List Message → Round
with_leader w l x sends = record { member = w.member; acceptor = w.acceptor; leader = put w.leader l x; sent = sends ++ w.sent }

-- ---- a round of a world

-- what a message says, of a sender with this number
abbrev pub said : ℕ → PaxosMsg → Message
said n (msg.Ask r b) = Ask b
said n (msg.Accept r i b p) = Accept i b p
said n (msg.Promise r b pairs) = Promise n b (pair_among pairs)
said n (msg.Higher r b) = Higher b
said n (msg.Accepted r i b p) = Accepted n i b p

abbrev pub said_in : ℕ → ℕ → PaxosMsg → List Message
said_in r n m = if round_of m == r then said n m ∷ [] else []

-- what was said in the round, the newest first
abbrev pub seen : ℕ → List SentPaxosMessage → List Message
seen r [] = []
seen r (s ∷ ss) = seen r ss ++ said_in r s.from.number s.message

abbrev pub in_round : ℕ → PaxosCommitWorld → Round
in_round r w = record {
  member = λ i. w.member i r;
  acceptor = λ a. w.acceptor a r;
  leader = λ l. w.leader l r;
  sent = seen r w.sent;
}

-- All messages that were ever sent in a run, by pairs of processes (docs/RULES.md, Paxos Commit).
use Rattle.std.specs.{Prelude.{◌≡◌, ◌<◌, ◌+◌, ◌*◌, ℕ, List, [], Option, Some, None, Vec}, Ordering.nat_cmp, BTreeMap.is_at, Map.lookup}
use Rattle.std.specs.declared.alloc.Global.{Global}
use Rattle.spl_acceptor.specs.{Worlds.{SentPaxosMessage, paxos_on_pair}, declared.message.{Name.Name, PaxosMsg.PaxosMsg}}
use Rattle.spl_paxos_run.specs.declared.posts.Posts.{Posts}

-- a name of two bytes
pub record IsName (n : Name) : Type 0 where
  pub kind : n.kind < 256
  pub number : n.number < 256

-- the number of a pair
abbrev pub pair_key : Name → Name → ℕ
pair_key from to = ((from.kind * 256 + from.number) * 256 + to.kind) * 256 + to.number

abbrev pub sent_or_none : Option (Vec PaxosMsg Global) → List PaxosMsg
sent_or_none None = []
sent_or_none (Some v) = v.items

-- what was sent on the pair of this number
abbrev pub posts_at : Posts → ℕ → List PaxosMsg
posts_at p k = sent_or_none (lookup (is_at (nat_cmp k)) p.pairs.entries)

-- on each pair exactly these were sent
abbrev pub HoldsSent : Posts → List SentPaxosMessage → Type 0
HoldsSent p ss = (from to : Name) → IsName from → IsName to → posts_at p (pair_key from to) ≡ paxos_on_pair from to ss

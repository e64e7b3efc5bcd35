use Rattle.std.proofs.Common.{List, ◌++◌}
use Rattle.spl_acceptor.specs.Worlds.{SentPaxosMessage, paxos_posted}
use Rattle.spl_paxos_run.specs.Posts.{HoldsSent}
use Rattle.spl_paxos_run.proofs.posts.Posts.post.Given as goal

abbrev pub invariant-loop-to : goal.invariant-loop-to
invariant-loop-to l = (ss : List SentPaxosMessage) → HoldsSent l.fn.self ss → HoldsSent l.self (ss ++ paxos_posted l.fn.from l.yielded)

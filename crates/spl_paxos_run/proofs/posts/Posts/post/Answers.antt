use Rattle.std.proofs.Common.{List, ◌++◌, sym, subst}
use Rattle.spl_acceptor.specs.Worlds.{SentPaxosMessage, paxos_posted}
use Rattle.spl_paxos_run.{specs.Posts.HoldsSent, proofs.Pairs.posted-more}
use Rattle.spl_paxos_run.proofs.posts.Posts.post.Goals as goal

pub loop-to-preserved : goal.loop-to-preserved
loop-to-preserved c = λ ss holds.
    subst (λ (ts : List SentPaxosMessage). HoldsSent c.post_one.new.self ts)
    (sym (posted-more c.args.from c.loop-to.yielded (c.in-Some.to, c.in-Some.message) ss))
    (c.in_ok-post_one.ensures (ss ++ paxos_posted c.args.from c.loop-to.yielded) (c.loop-to.invariant ss holds))

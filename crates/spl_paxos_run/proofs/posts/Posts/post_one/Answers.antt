use Rattle.std.proofs.Common.{ℕ, [], ◌∷◌, ◌++◌, List, subst}
use Rattle.spl_acceptor.{specs.{Records.IsChangedAt, Worlds.SentPaxosMessage}, proofs.Lists.on_ok}
use Rattle.spl_paxos_run.{specs.Posts.{posts_at, HoldsSent}, proofs.Pairs.pushed}
use Rattle.spl_paxos_run.proofs.posts.Posts.post_one.Goals as goal

pub returns : goal.returns
returns c =
    let p = c.args.self.now in
    let q = c.push.new.self in
    let m = c.args.message in
    on_ok c.push.result
    (IsChangedAt (posts_at p) c.pair_key.result (λ ms. ms ++ m ∷ []) (posts_at q))
    ((ss : List SentPaxosMessage) → HoldsSent p ss → HoldsSent q (ss ++ record { from = c.args.from; to = c.args.to; message = m } ∷ []))
    (λ changed ss holds. pushed p q ss c.args.from c.args.to m
    (subst (λ (k : ℕ). IsChangedAt (posts_at p) k (λ ms. ms ++ m ∷ [])
    (posts_at q)) c.pair_key.ensures.key changed) c.pair_key.ensures.names.0 c.pair_key.ensures.names.1 holds)
    c.push.ensures

use Rattle.std.proofs.Common.{sym, ap, ◌∙◌}
use Rattle.spl_commit.proofs.Keyed.{waits-by_status}
use Rattle.spl_commit.proofs.member.Member.in_queue.Goals as goal

pub returns : goal.returns
returns g c =
    waits-by_status g.M.Key.PartialEq.eq g.M.Agreed.key_of c.key.result
    ((g.M.Agreed.rules c.args.self.now.content).same_key c.args.value.now) c.self.inside.queue c.args.self.now.state.pending
    c.args.self.now.state.refused c.status.result
    (λ v. ap (λ k. g.M.Key.PartialEq.eq k (g.M.Agreed.key_of v)) c.key.ensures ∙ sym (g.met.M.Agreed.keyed c.args.self.now.content c.args.value.now v))
    c.self.invariant.pending_keys c.self.invariant.refused_keys
    (ap (λ m. m.state.pending) c.self.view_is) (ap (λ m. m.state.refused) c.self.view_is)
    c.status.ensures

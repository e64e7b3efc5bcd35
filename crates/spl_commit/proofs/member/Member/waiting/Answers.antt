use Rattle.std.proofs.Common.{refl, ap}
use Rattle.spl_commit.proofs.Keyed.{waits-by_status}
use Rattle.spl_commit.proofs.member.Member.waiting.Goals as goal

pub returns : goal.returns
returns g c =
    waits-by_status g.M.Key.PartialEq.eq g.M.Agreed.key_of c.args.key.now
    (λ v. g.M.Key.PartialEq.eq c.args.key.now
    (g.M.Agreed.key_of v)) c.self.inside.queue c.args.self.now.state.pending c.args.self.now.state.refused c.status.result (λ v. refl)
    c.self.invariant.pending_keys c.self.invariant.refused_keys
    (ap (λ m. m.state.pending) c.self.view_is) (ap (λ m. m.state.refused) c.self.view_is)
    c.status.ensures

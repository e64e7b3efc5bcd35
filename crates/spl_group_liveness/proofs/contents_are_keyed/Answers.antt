use Rattle.spl_group_liveness.proofs.Contents.{keyed-by}
use Rattle.spl_group_liveness.proofs.contents_are_keyed.Goals as goal

pub returns : goal.returns
returns g c =
    λ s. keyed-by (g.M.Agreed.rules s) g.M.Key.PartialEq.eq g.M.Agreed.key_of g.M.Agreed.same_of (g.met.M.Agreed.keyed s)
    (g.met.M.Agreed.samed s) g.met.M.Key.Eq.laws g.met.M.Agreed.same_is

use Rattle.std.proofs.Common.{refl, sym}
use Rattle.sha2.proofs.Schedule256.{rounds_first}
use Rattle.spl_sha256_lanes.{specs.Lanes.lane, proofs.Lanes.lane_at}
use Rattle.spl_sha256_lanes.proofs.rounds.first_step.Goals as goal

pub returns : goal.returns
returns c j low b h window held =
    rounds_first b h (lane j c.args.w.now) (lane j c.args.v) c.args.t _ _ _ c.requires window held refl (sym (lane_at j c.args.w.now c.args.t))
    (c.round.ensures j low)

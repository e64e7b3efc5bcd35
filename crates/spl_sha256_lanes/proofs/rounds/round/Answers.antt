use Rattle.std.proofs.Common.{refl}
use Rattle.spl_sha256_lanes.proofs.Lanes.{lane_at}
use Rattle.spl_sha256_lanes.proofs.rounds.round.Goals as goal

pub returns : goal.returns
returns c j h =
    rw (
      c.add-2.ensures j h,
      c.add-3.ensures j h,
      c.add-temp1.ensures j h,
      c.add-temp2.ensures j h,
      c.add_each.ensures j h,
      c.add-chosen.ensures j h,
      c.add.ensures j h,
      c.ch.ensures j h,
      c.maj.ensures j h,
      c.big_sigma0.ensures j h,
      c.big_sigma1.ensures j h,
      lane_at j c.args.v 0,
      lane_at j c.args.v 1,
      lane_at j c.args.v 2,
      lane_at j c.args.v 3,
      lane_at j c.args.v 4,
      lane_at j c.args.v 5,
      lane_at j c.args.v 6,
      lane_at j c.args.v 7,
    ) refl

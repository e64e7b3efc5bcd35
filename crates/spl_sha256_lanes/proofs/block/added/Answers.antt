use Rattle.std.proofs.Common.{refl}
use Rattle.spl_sha256_lanes.proofs.Lanes.{lane_at}
use Rattle.spl_sha256_lanes.proofs.block.added.Goals as goal

pub returns : goal.returns
returns c j h =
    rw (
      c.add.ensures j h,
      c.add-2.ensures j h,
      c.add-3.ensures j h,
      c.add-4.ensures j h,
      c.add-5.ensures j h,
      c.add-6.ensures j h,
      c.add-7.ensures j h,
      c.add-8.ensures j h,
      lane_at j c.args.h 0,
      lane_at j c.args.h 1,
      lane_at j c.args.h 2,
      lane_at j c.args.h 3,
      lane_at j c.args.h 4,
      lane_at j c.args.h 5,
      lane_at j c.args.h 6,
      lane_at j c.args.h 7,
      lane_at j c.args.v 0,
      lane_at j c.args.v 1,
      lane_at j c.args.v 2,
      lane_at j c.args.v 3,
      lane_at j c.args.v 4,
      lane_at j c.args.v 5,
      lane_at j c.args.v 6,
      lane_at j c.args.v 7,
    ) refl

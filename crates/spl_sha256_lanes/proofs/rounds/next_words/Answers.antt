use Rattle.std.proofs.Common.{◌≡◌, ◌+◌, ◌%◌, arith, refl}
use Rattle.spl_sha256_lanes.proofs.Lanes.{lane_at}
use Rattle.spl_sha256_lanes.proofs.rounds.next_words.Goals as goal

pub returns-clause-value : goal.returns-clause-value
returns-clause-value c j h =
    let place = c.args.place in
    let at : place % 16 ≡ place = omega (arith, c.requires) in
    rw (
      at,
      c.add-words.ensures j h,
      c.add.ensures j h,
      c.add-near.ensures j h,
      c.small_sigma0.ensures j h,
      c.small_sigma1.ensures j h,
      lane_at j c.args.w.now ((place + 14) % 16),
      lane_at j c.args.w.now ((place + 9) % 16),
      lane_at j c.args.w.now ((place + 1) % 16),
      lane_at j c.args.w.now place,
    ) refl

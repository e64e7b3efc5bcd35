use Rattle.std.proofs.Common.{◌/◌, ◌^◌}
use Rattle.spl_sha256_lanes.proofs.Lanes.{with_each}
use Rattle.spl_sha256_lanes.proofs.words.shifted_right.Goals as goal

pub returns : goal.returns
returns c j h = with_each (λ x k. x / 2 ^ k) c.args.x c.args.k j c.fits-x.0 h

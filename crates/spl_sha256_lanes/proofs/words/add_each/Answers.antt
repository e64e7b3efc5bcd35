use Rattle.std.proofs.Common.{◌+◌, ◌%◌, ◌^◌}
use Rattle.spl_sha256_lanes.proofs.Lanes.{with_each}
use Rattle.spl_sha256_lanes.proofs.words.add_each.Goals as goal

pub returns : goal.returns
returns c j h = with_each (λ x y. (x + y) % 2 ^ 32) c.args.x c.args.y j c.fits-x.0 h

use Rattle.std.proofs.Common.{arith}
use Rattle.sha2.proofs.Schedule256.{IsRoundsAt_at}
use Rattle.spl_sha256_lanes.proofs.rounds.steps.Goals as goal

pub returns : goal.returns
returns c j low b h held =
    let first = c.four_steps-v.ensures j low b h (IsRoundsAt_at b h _ _ _ _ (omega arith) held) in
    let second = c.four_steps-v-2.ensures j low b h first in
    let third = c.four_steps-v-3.ensures j low b h second in
    let fourth = c.four_steps.ensures j low b h third in
    IsRoundsAt_at b h _ _ _ _ (omega arith) fourth

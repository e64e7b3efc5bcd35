use Rattle.std.proofs.Common.{arith}
use Rattle.sha2.proofs.Schedule256.{IsRoundsAt_at}
use Rattle.spl_sha256_lanes.proofs.rounds.four_steps.Goals as goal

pub returns : goal.returns
returns c j low b h held =
    let first = c.step-v.ensures j low b h held in
    let second = c.step-v-2.ensures j low b h first in
    let third = c.step-v-3.ensures j low b h (IsRoundsAt_at b h _ _ _ _ (omega arith) second) in
    let fourth = c.step.ensures j low b h (IsRoundsAt_at b h _ _ _ _ (omega arith) third) in
    IsRoundsAt_at b h _ _ _ _ (omega arith) fourth

use Rattle.sha2.specs.Sha256.{rounds}
use Rattle.spl_sha256_lanes.proofs.rounds.first_steps.Goals as goal

pub returns : goal.returns
unfolding rounds
returns c j low b h window held =
    let first = c.first_four_steps-v.ensures j low b h window held in
    let second = c.first_four_steps-v-2.ensures j low b h window first in
    let third = c.first_four_steps-v-3.ensures j low b h window second in
    c.first_four_steps.ensures j low b h window third

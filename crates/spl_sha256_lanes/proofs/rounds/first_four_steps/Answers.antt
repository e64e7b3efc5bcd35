use Rattle.std.proofs.Common.{ap, ◌∙◌, arith}
use Rattle.sha2.specs.Sha256.{rounds, schedule}
use Rattle.spl_sha256_lanes.proofs.rounds.first_four_steps.Goals as goal

pub returns : goal.returns
returns c j low b h window held =
    let after = rounds h (schedule b 48) in
    let first = c.first_step-v.ensures j low b h window held in
    let second = c.first_step-v-2.ensures j low b h window first in
    let third = c.first_step-v-3.ensures j low b h window (second ∙ ap after (omega arith)) in
    c.first_step.ensures j low b h window (third ∙ ap after (omega arith)) ∙ ap after (omega arith)

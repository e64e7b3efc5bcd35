use Rattle.std.proofs.Common.{◌≡◌, ap, ◌∙◌, arith}
use Rattle.spl_agree.specs.Rows.{abort_each}
use Rattle.spl_commit.proofs.Positions.{prefix, prefix-all}
use Rattle.spl_commit.proofs.sends.abort_each.Goals as goal

pub returns : goal.returns
returns g c =
    let e : c.loop-i.i ≡ 8 = omega arith in
    c.loop-i.invariant ∙ ap (λ n. abort_each c.args.generation c.args.round c.args.value.now c.args.reason (prefix c.args.to n)) e
    ∙ ap (abort_each c.args.generation c.args.round c.args.value.now c.args.reason) (prefix-all c.args.to)

use Rattle.std.proofs.Common.{◌≡◌, ap, ◌∙◌, arith}
use Rattle.spl_agree.specs.Rows.{to_each}
use Rattle.spl_agree.specs.declared.message.CommitMsg.TheVariants as msg
use Rattle.spl_commit.proofs.Positions.{prefix, prefix-all}
use Rattle.spl_commit.proofs.sends.request_each.Goals as goal

pub returns : goal.returns
returns g c =
    let e : c.loop-i.i ≡ 8 = omega arith in
    c.loop-i.invariant ∙ ap (λ n. to_each (msg.VoteRequest c.args.generation c.args.round c.args.place c.args.value.now) (prefix c.args.to n)) e
    ∙ ap (to_each (msg.VoteRequest c.args.generation c.args.round c.args.place c.args.value.now)) (prefix-all c.args.to)

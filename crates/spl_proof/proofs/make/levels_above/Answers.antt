-- Level by level.
use Rattle.std.proofs.Common.{◌++◌, ◌∷◌, [], length, sym, ap, ◌∙◌, arith}
use Rattle.spl_proof.{specs.Made.{listed, level_at}, proofs.Listing.{listed_none, listed_more, listed_long}}
use Rattle.spl_proof.proofs.make.levels_above.Goals as goal

pub loop-i-init : goal.loop-i-init
loop-i-init c = c.new-levels.ensures ∙ sym (listed_none (λ i. level_at i c.args.a.now c.args.state.now))

pub push-requires : goal.push-requires
push-requires c = omega (arith, ap length c.loop-i.invariant, listed_long (λ i. level_at i c.args.a.now c.args.state.now) c.loop-i.i)

pub loop-i-preserved : goal.loop-i-preserved
loop-i-preserved c =
    c.in_ok-push.ensures.ok ∙ ap (λ ls. ls ++ c.level_at.result ∷ []) c.loop-i.invariant
    ∙ ap (λ l. listed (λ i. level_at i c.args.a.now c.args.state.now) c.loop-i.i ++ l ∷ []) c.level_at.ensures
    ∙ sym (listed_more (λ i. level_at i c.args.a.now c.args.state.now) c.loop-i.i)

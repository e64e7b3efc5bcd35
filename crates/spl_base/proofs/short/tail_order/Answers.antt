use Rattle.std.{specs.{Ordering.nat_cmp, Cmp.Lexicographic.slice_cmp}, proofs.{Common.{◌∙◌, rules, arith}, lemmas.List.take_rest}}
use Rattle.spl_base.proofs.Heads.{same_prefix, order_within, order_after}
use Rattle.spl_base.proofs.short.tail_order.Goals as goal

pub returns-then-those-le8 : goal.returns-then-those-le8
returns-then-those-le8 c =
    let same = same_prefix c.args.these.now c.args.those.now (search rules) (search rules) c.requires.heads in
    c.cmp.ensures ∙ order_within 8 c.args.these.now c.args.those.now same (grind (arith, c.if-those-le8.either))

pub returns-else-those-le8 : goal.returns-else-those-le8
returns-else-those-le8 c =
    let these = c.args.these.now in
    let those = c.args.those.now in
    let same = same_prefix these those (search rules) (search rules) c.requires.heads in
    c.cmp-else-those-le8.ensures
    ∙ (λ i. slice_cmp nat_cmp (take_rest these 8 i) (take_rest those 8 i))
    ∙ order_after 8 these those same (omega (arith, c.if-those-le8.false.0)) (omega (arith, c.if-those-le8.false.1))

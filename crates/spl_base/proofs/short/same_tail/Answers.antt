use Rattle.std.{specs.Cmp.Lexicographic.pointwise, proofs.{Common.{◌∙◌, sym, ◌≤◌, length, nat_eq, rules, arith}, lemmas.{Bool.le-leb, List.drop_all}}}
use Rattle.std.proofs.lemmas.List.{take_rest}
use Rattle.spl_base.proofs.Heads.{same_prefix, same_after}
use Rattle.spl_base.proofs.short.same_tail.Goals as goal

pub returns-then-these-le8 : goal.returns-then-these-le8
returns-then-these-le8 c =
    let these = c.args.these.now in
    let those = c.args.those.now in
    let same = same_prefix these those (search rules) (search rules) c.requires.heads in
    let short : length those ≤ 8 = omega (arith, c.if-these-le8.true, c.requires.lengths) in
    le-leb _ _ c.if-these-le8.true
    ∙ (λ i. pointwise nat_eq (sym (drop_all 8 these c.if-these-le8.true) i) (sym (drop_all 8 those short) i))
    ∙ same_after 8 these those same c.requires.lengths

pub returns-else-these-le8 : goal.returns-else-these-le8
returns-else-these-le8 c =
    let these = c.args.these.now in
    let those = c.args.those.now in
    let same = same_prefix these those (search rules) (search rules) c.requires.heads in
    c.eq.ensures
    ∙ (λ i. pointwise nat_eq (take_rest these 8 i) (take_rest those 8 i))
    ∙ same_after 8 these those same c.requires.lengths

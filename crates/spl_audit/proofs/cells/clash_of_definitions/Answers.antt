use Rattle.std.proofs.Common.{◌≡◌, ◌∙◌, length, ap, sym, inl, inr}
use Rattle.spl_agree.{specs.Member.values, proofs.Tests.eqb_is}
use Rattle.spl_audit.proofs.Pairs.{without_acts}
use Rattle.spl_audit.proofs.cells.clash_of_definitions.Goals as goal

pub returns-then-is_empty : goal.returns-then-is_empty
returns-then-is_empty c =
    let h = c.args.one.now.bound in
    let none : length (values h.acts.history) ≡ 0 =
    sym (ap length c.acts.ensures) ∙ eqb_is (length c.acts.result.now) 0 (sym c.is_empty.ensures ∙ c.if-is_empty.true) in
    without_acts h c.args.other.now.bound c.requires (inl none)

pub returns-then-is_empty-2 : goal.returns-then-is_empty-2
returns-then-is_empty-2 c =
    let k = c.args.other.now.bound in
    let none : length (values k.acts.history) ≡ 0 =
    sym (ap length c.acts-2.ensures) ∙ eqb_is (length c.acts-2.result.now) 0 (sym c.is_empty-2.ensures ∙ c.if-is_empty-2.true) in
    without_acts c.args.one.now.bound k c.requires (inr none)

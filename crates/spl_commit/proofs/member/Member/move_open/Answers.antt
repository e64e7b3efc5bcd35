use Rattle.std.{specs.{Prelude.Some, Option.option_map}, proofs.Common.{◌≡◌, ℕ, true, sym, ap, ◌∙◌, subst}}
use Rattle.spl_agree.specs.Fits.{CanMove, misses_more}
use Rattle.spl_coord.specs.Positions.{positions}
use Rattle.spl_commit.proofs.Positions.{misses-there}
use Rattle.spl_commit.proofs.member.Member.move_open.Goals as goal

pub count-requires-clause-there : goal.count-requires-clause-there
count-requires-clause-there g c =
    let can : misses_more c.in-Yes.member c.args.self.now.state.opened ≡ true = subst (CanMove c.args.self.now.state) c.in-Yes.is c.requires.can in
    let opened : c.args.self.now.state.opened ≡ Some (c.in-Some.round, positions c.in-Some.missing) =
    sym (ap (λ m. m.state.opened) c.self-in-Yes.view_is) ∙ ap (option_map (λ (o : ℕ × ℕ). (o.0, positions o.1))) c.in-Some.is in
    misses-there c.in-Some.round c.in-Yes.member (positions c.in-Some.missing) (subst (λ o. misses_more c.in-Yes.member o ≡ true) opened can)

use Rattle.std.proofs.{Common.{sym, ◌∙◌, eqb, ap}, lemmas.Nat.Bits.shr_and_one}
use Rattle.spl_coord.proofs.Bits.{has-positions}
use Rattle.spl_coord.proofs.positions.has_position.Goals as goal

pub returns : goal.returns
returns c = ap (λ k. eqb k 1) (shr_and_one c.args.bits c.args.at) ∙ sym (has-positions c.args.bits c.args.at c.requires)

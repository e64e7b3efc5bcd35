-- The levels are those of the rules, since the digits are the least.
use Rattle.spl_proof.{specs.Made.under_first, proofs.Making.{end_left, made_is, made_accepted}}
use Rattle.spl_proof.proofs.make.prove.Goals as goal

pub returns-clause-made : goal.returns-clause-made
returns-clause-made c =
    let n = c.foot-digits.result.0 in
    let a = c.args.a.now in
    let m = c.args.state.now in
    let left = end_left c.foot-digits.result.1 (λ e. (e.0, e.1.now)) (under_first n a m) c.in_ok-end.end c.foot-digits.ensures.lone c.in_ok-end.ensures in
    made_is n a m c.in_ok-levels.levels c.in_ok-end.end
    (record { high = c.foot-digits.ensures.high; few = left.0; many = c.foot-digits.ensures.many }) c.in_ok-levels.ensures left.1

pub returns-clause-accepted : goal.returns-clause-accepted
returns-clause-accepted c =
    let n = c.foot-digits.result.0 in
    let a = c.args.a.now in
    let m = c.args.state.now in
    let left = end_left c.foot-digits.result.1 (λ e. (e.0, e.1.now)) (under_first n a m) c.in_ok-end.end c.foot-digits.ensures.lone c.in_ok-end.ensures in
    made_accepted n a m c.in_ok-levels.levels c.in_ok-end.end c.digits_are_small.ensures
    (record { high = c.foot-digits.ensures.high; few = left.0; many = c.foot-digits.ensures.many }) c.in_ok-levels.ensures left.1

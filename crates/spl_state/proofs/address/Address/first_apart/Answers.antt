use Rattle.std.proofs.{Common.{sym, ◌-◌}, lemmas.Slice.Eq.bytes_eq-Decides}
use Rattle.spl_state.proofs.Digits.{same_alike}
use Rattle.spl_state.proofs.address.Address.first_apart.Goals as goal

pub returns-then-eq-clause-none : goal.returns-then-eq-clause-none
returns-then-eq-clause-none c =
    let same = (bytes_eq-Decides c.args.self.now.0 c.args.other.now.0).0 (sym c.if-eq.ensures) in
    same_alike (c.args.to - c.args.from) c.args.from c.args.self.now c.args.other.now same

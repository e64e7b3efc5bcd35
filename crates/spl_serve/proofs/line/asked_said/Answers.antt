use Rattle.std.{specs.Prelude.IfSome, proofs.Common.{Option, sym, subst}}
use Rattle.spl_serve.{specs.{Asking.IsAskedFor, declared.line.Asked.Asked}, proofs.Askings.asked_own}
use Rattle.spl_serve.proofs.line.asked_said.Goals as goal

pub returns-clause-own : goal.returns-clause-own
returns-clause-own c =
    subst (λ (o : Option Asked). IfSome o (IsAskedFor c.args.here.now)) (sym c.asked_of.ensures) (asked_own c.args.here.now c.args.said c.requires)

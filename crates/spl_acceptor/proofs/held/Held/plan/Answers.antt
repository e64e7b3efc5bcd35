use Rattle.std.{specs.Prelude.{IfOk, nat_lt}, proofs.Common.{◌≡◌, true, false, sym, subst, rules}}
use Rattle.spl_acceptor.specs.{Held.held_of, Plans.acceptor_plan, Rows.{PaxosPlan, is_leader_of, acceptor_row}, declared.message.PaxosMsg.PaxosMsg}
use Rattle.spl_acceptor.proofs.Asks.{ask-promises}
use Rattle.spl_acceptor.specs.declared.message.PaxosMsg.TheVariants as msg
use Rattle.spl_acceptor.proofs.held.Held.plan.Goals as goal

pub returns-else-ballot-promised : goal.returns-else-ballot-promised
returns-else-ballot-promised c =
    let g = c.args.group in
    let is : c.args.message.now ≡ msg.Ask c.in-Ask.round c.in-Ask.ballot = search rules in
    let led : is_leader_of c.in-Ask.ballot c.args.from ≡ true = search rules in
    let low : nat_lt c.in-Ask.ballot (held_of c.args.self.now).promised ≡ false = search rules in
    subst (λ (m : PaxosMsg). IfOk c.promises.result (λ p. acceptor_plan p ≡ acceptor_row g (held_of c.args.self.now) c.args.from m)) (sym is)
    (subst (λ (q : PaxosPlan). IfOk c.promises.result (λ p. acceptor_plan p ≡ q))
    (sym (ask-promises g (held_of c.args.self.now) c.args.from c.in-Ask.round c.in-Ask.ballot led low)) c.promises.ensures)

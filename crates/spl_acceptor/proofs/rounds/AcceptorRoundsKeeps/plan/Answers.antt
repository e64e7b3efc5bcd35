use Rattle.std.{specs.Prelude.IfOk, proofs.Common.{◌≡◌, ◌∙◌, sym, subst, rules}}
use Rattle.spl_acceptor.specs.{Held.{held_of, acceptor_in}, Plans.acceptor_plan, Processes.{Acceptor, new_acceptor}, Rows.acceptor_row, Worlds.round_of}
use Rattle.spl_acceptor.proofs.rounds.AcceptorRoundsKeeps.plan.Goals as goal

pub returns-in-None : goal.returns-in-None
returns-in-None c =
    let there : Acceptor = acceptor_in c.args.self.now (round_of c.args.message.now) in
    let none : there ≡ new_acceptor = search rules in
    let same : held_of c.new.result ≡ there = c.new.ensures ∙ sym none in
    subst (λ (a : Acceptor). IfOk c.plan.result (λ p. acceptor_plan p ≡ acceptor_row c.args.group a c.args.from c.args.message.now)) same c.plan.ensures

pub returns-in-Some : goal.returns-in-Some
returns-in-Some c =
    let there : Acceptor = acceptor_in c.args.self.now (round_of c.args.message.now) in
    let same : held_of c.in-Some.held.now ≡ there = search rules in
    subst (λ (a : Acceptor). IfOk c.plan-in-Some.result (λ p. acceptor_plan p ≡ acceptor_row c.args.group a c.args.from c.args.message.now)) same
    c.plan-in-Some.ensures

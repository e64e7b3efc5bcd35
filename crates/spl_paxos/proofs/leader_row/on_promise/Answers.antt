use Rattle.std.{specs.Prelude.{IfOk, is_none, ◌==◌}, proofs.Common.{◌≡◌, true, sym, subst, rules}}
use Rattle.spl_acceptor.specs.Rows.{PaxosPlan}
use Rattle.spl_paxos.{specs.{Plans.leader_plan, Promises.heard_among}, proofs.Hearing.promise_counts}
use Rattle.spl_paxos.proofs.leader_row.on_promise.Goals as goal

pub returns : goal.returns
returns c =
    let o = c.args.opened.now in
    let same : (o.number == c.args.ballot) ≡ true = search rules in
    let fresh : is_none (heard_among o.heard.items c.args.acceptor) ≡ true = search rules in
    subst (λ (q : PaxosPlan). IfOk c.counts_promise.result (λ p. leader_plan p ≡ q))
    (sym (promise_counts c.args.group o c.args.round c.args.acceptor c.args.ballot c.args.pairs.now same fresh))
    (search (c.counts_promise.ensures, rules))

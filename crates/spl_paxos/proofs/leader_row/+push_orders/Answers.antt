use Rattle.std.proofs.Common.{◌≡◌, ◌≢◌, ◌++◌, ◌-◌, ℕ, Bool, rules}
use Rattle.spl_acceptor.{specs.{Quorums.numbers, Rows.{choice, orders, to_acceptors}}, proofs.Lists.{on_ok, after}}
use Rattle.spl_acceptor.specs.declared.message.PaxosMsg.TheVariants as msg
use Rattle.spl_paxos.{specs.Promises.heard_now, proofs.Orders.orders-last}
use Rattle.spl_paxos.proofs.leader_row.+push_orders.Goals as goal

pub returns : goal.returns
returns t c =
    let g = c.args.group in
    let r = c.args.round in
    let b = c.args.ballot in
    let n = c.args.members in
    let chosen : ℕ → Bool = choice g (heard_now c.args.heard.now) in
    let old = c.args.sends.now in
    let last = to_acceptors g (msg.Accept r n b (chosen n)) in
    let some : n ≢ 0 = search rules in
    let first : c.push_orders.new.sends ≡ old ++ orders g r b chosen (numbers (n - 1)) = search rules in
    on_ok c.push_each.result (c.push_each.new.sends ≡ c.push_orders.new.sends ++ last) (c.push_each.new.sends ≡ old ++ orders g r b chosen (numbers n))
    (λ e. after old c.push_orders.new.sends c.push_each.new.sends (orders g r b chosen (numbers (n - 1))) last (orders g r b chosen (numbers n)) first e
    (orders-last g r b chosen n some))
    (search (c.push_each.ensures, rules))

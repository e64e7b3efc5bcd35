use Rattle.std.proofs.Common.{◌≡◌, ◌≢◌, ◌++◌, ◌∷◌, [], ◌-◌, rules}
use Rattle.spl_acceptor.{specs.{Quorums.numbers, Rows.{named, to_each_process}}, proofs.Lists.{on_ok, each-last, after}}
use Rattle.spl_acceptor.proofs.sending.+push_up_to.Goals as goal

pub returns : goal.returns
returns t c =
    let m = c.args.message.now in
    let k = named c.args.kind in
    let n = c.args.count in
    let old = c.args.sends.now in
    let some : n ≢ 0 = search rules in
    let first : c.push_up_to.new.sends ≡ old ++ to_each_process k m (numbers (n - 1)) = search rules in
    on_ok c.push.result (c.push.new.self ≡ c.push_up_to.new.sends ++ (k n, m) ∷ []) (c.push.new.self ≡ old ++ to_each_process k m (numbers n))
    (λ e. after old c.push_up_to.new.sends c.push.new.self (to_each_process k m (numbers (n - 1))) ((k n, m) ∷ [])
    (to_each_process k m (numbers n)) first e (each-last k m n some))
    (search (c.push.ensures.ok, rules))

use Rattle.std.{specs.List.insert, proofs.Common.{◌≡◌, ap, rules}}
use Rattle.spl_acceptor.{specs.Processes.{Acceptor, Pairs}, proofs.Lists.accepted-first}
use Rattle.spl_acceptor.proofs.held.Held.accept.Goals as goal

pub returns : goal.returns
returns c =
    let e : c.insert.new.self.items
    ≡ insert c.args.self.now.accepted.items 0 (record { member = c.args.member; ballot = c.args.ballot; prepared = c.args.prepared }) = search rules in
    let made : Pairs → Acceptor = λ f. record { promised = c.args.ballot; accepted = f } in
    ap made (accepted-first c.args.self.now.accepted.items c.insert.new.self.items c.args.member c.args.ballot c.args.prepared e)

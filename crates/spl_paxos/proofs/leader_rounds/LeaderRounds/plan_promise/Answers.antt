use Rattle.std.{specs.{Prelude.{Option, IfOk}, BTreeMap.get}, proofs.Common.{◌≡◌, ℕ, Some, nat_cmp, ap, subst}}
use Rattle.spl_acceptor.specs.{Processes.PaxosBallot, Rows.{on_promise, pair_among}}
use Rattle.spl_paxos.specs.{Leaders.opened_or_none, Plans.leader_plan}
use Rattle.spl_paxos.proofs.leader_rounds.LeaderRounds.plan_promise.Goals as goal

pub returns-in-Some : goal.returns-in-Some
returns-in-Some c =
    let found = subst (λ (k : ℕ). Some c.in-Some.open.now ≡ get nat_cmp c.args.self.now.opened k) c.round.view_is c.in-Some.ensures.value in
    subst (λ (o : Option PaxosBallot). IfOk c.on_promise.result
    (λ p. leader_plan p ≡ on_promise c.args.group o c.args.round c.args.acceptor c.args.ballot (pair_among c.args.pairs.now)))
    (ap opened_or_none found) c.on_promise.ensures

use Rattle.std.{specs.Prelude.IfOk, proofs.Common.{◌≡◌, sym, subst, rules}}
use Rattle.spl_acceptor.specs.{Rows.leader_row, Worlds.round_of, declared.message.PaxosMsg.PaxosMsg}
use Rattle.spl_acceptor.specs.declared.message.PaxosMsg.TheVariants as msg
use Rattle.spl_paxos.specs.{Leaders.leader_in, Plans.leader_plan}
use Rattle.spl_paxos.proofs.leader_rounds.LeaderRoundsKeeps.plan.Goals as goal

pub returns-in-Promise : goal.returns-in-Promise
returns-in-Promise c =
    let is : c.args.message.now ≡ msg.Promise c.in-Promise.round c.in-Promise.ballot c.in-Promise.pairs = search rules in
    subst (λ (m : PaxosMsg). IfOk c.plan_promise.result
    (λ p. leader_plan p ≡ leader_row c.args.group (leader_in c.args.self.now (round_of m)) c.args.from m)) (sym is) (c.plan_promise.ensures)

pub returns-in-Higher : goal.returns-in-Higher
returns-in-Higher c =
    let is : c.args.message.now ≡ msg.Higher c.in-Higher.round c.in-Higher.ballot = search rules in
    subst (λ (m : PaxosMsg). leader_plan c.on_higher.result ≡ leader_row c.args.group (leader_in c.args.self.now (round_of m)) c.args.from m) (sym is)
    (c.on_higher.ensures (leader_in c.args.self.now c.in-Higher.round) (sym c.used.ensures))

use Rattle.std.{specs.Prelude.OnOk, proofs.Common.{◌≡◌, sym, subst, rules}}
use Rattle.spl_acceptor.specs.{Rows.leader_moved, Records.IsChangedAt}
use Rattle.spl_paxos.specs.{Leaders.leader_in, Plans.move_of, declared.plan.LeaderMove.LeaderMove}
use Rattle.spl_paxos.specs.declared.plan.LeaderMove.TheVariants as opening
use Rattle.spl_paxos.proofs.leader_rounds.LeaderRounds.go_on.Goals as goal

pub returns-in-Hear : goal.returns-in-Hear
returns-in-Hear c =
    let is : c.args.opening ≡ opening.Hear c.in-Hear.acceptor c.in-Hear.pairs = search rules in
    subst (λ (o : LeaderMove). OnOk c.hear.result
    (IsChangedAt (leader_in c.args.self.now) c.args.round (λ l. leader_moved l (move_of o)) (leader_in c.hear.new.self))) (sym is) c.hear.ensures

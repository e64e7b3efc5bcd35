use Rattle.std.{specs.{BTreeMap.{UpdatesBy, get, is_at}, Map.lookup}, proofs.Common.{◌≡◌, ℕ, Some, ◌∷◌, nat_cmp, refl, sym, subst, rules}}
use Rattle.spl_paxos.{specs.declared.heard.OpenBallot.OpenBallot, proofs.Hearing.heard_there}
use Rattle.spl_paxos.proofs.leader_rounds.LeaderRounds.hear.Goals as goal

pub returns-in_ok-insert : goal.returns-in_ok-insert
returns-in_ok-insert c =
    let old = c.args.self.now.opened in
    let o = c.in-Some.open.now in
    let w : OpenBallot = record { number = o.number; heard = c.insert.new.self } in
    let new = c.get_mut.follows.lender w in
    let found = subst (λ (k : ℕ). Some o ≡ get nat_cmp old k) c.round.view_is c.in-Some.ensures.value in
    let written = subst (λ (k : ℕ). UpdatesBy nat_cmp (nat_cmp k) old new (Some w)) c.round.view_is ((c.get_mut.follows.holds w).3 (search rules)) in
    let more : c.insert.new.self.items ≡ record { acceptor = c.args.acceptor; pairs = c.args.pairs } ∷ o.heard.items = search rules in
    λ r. heard_there (lookup (is_at (nat_cmp r)) c.args.self.now.used.entries) old new c.args.round o w
    (record { acceptor = c.args.acceptor; pairs = c.args.pairs }) written (sym found) refl more r

use Rattle.std.{specs.Prelude.Option, proofs.Common.{Bool, ap}}
use Rattle.spl_paxos_safety.proofs.Written.{acceptor-folds, member-folds, leader-folds}
use Rattle.spl_paxos_safety.proofs.record_laws.records_fold.Goals as goal

pub returns : goal.returns
returns c = record {
  acceptors = acceptor-folds;
  votes = λ g es i r. ap (λ (z : Option Bool × Option Bool). z.0) (member-folds g es i r);
  decisions = λ g es i r. ap (λ (z : Option Bool × Option Bool). z.1) (member-folds g es i r);
  used = leader-folds;
}

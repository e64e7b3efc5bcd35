use Rattle.spl_paxos_safety.proofs.Low.{after-low}
use Rattle.spl_paxos_safety.proofs.settling_laws.ballots_stay_low.Goals as goal

pub returns : goal.returns
returns c = record {
  used = λ g es l r. (after-low g es).used l r;
  promised = λ g es a r. (after-low g es).promised a r;
}

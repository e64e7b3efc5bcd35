use Rattle.spl_paxos_safety.proofs.{Decisions.{runs-same, runs-stay, runs-commit}, Begun.asked-begun}
use Rattle.spl_paxos_safety.proofs.decision_laws.rounds_agree.Goals as goal

pub returns : goal.returns
returns c = record {
  same = runs-same;
  stays = runs-stay;
  commit = runs-commit;
  abort = asked-begun;
}

use Rattle.std.proofs.Common.{◌≤◌, suc, length, arith}
use Rattle.spl_paxos_run.{specs.Schedule.happenings, proofs.Deciding.few_lines}
use Rattle.spl_paxos_run.proofs.decide.rounds_decide.Goals as goal

pub returns : goal.returns
returns c = λ g ls. record {
  agree = record {
    same = c.rounds_agree.ensures.same g (happenings ls);
    stays = c.rounds_agree.ensures.stays g (happenings ls);
    commit = c.rounds_agree.ensures.commit g (happenings ls);
    abort = c.rounds_agree.ensures.abort g (happenings ls);
  };
  settle = λ some within l r those ms can.
      let enough : suc g.faults ≤ length those = omega (arith, can.enough) in
      c.leaders_settle.ensures.short g (happenings ls) l r those ms some can.led can.up can.distinct enough (few_lines ls within);
}

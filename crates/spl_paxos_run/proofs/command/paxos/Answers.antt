use Rattle.std.proofs.Common.{arith}
use Rattle.spl_paxos_run.proofs.Decided.{blamed, fresh_of, group_forgets, group_unarmed, named_low}
use Rattle.spl_paxos_run.proofs.command.paxos.Goals as goal

pub run_paxos-requires-clause-fresh : goal.run_paxos-requires-clause-fresh
run_paxos-requires-clause-fresh g c =
    fresh_of g.D.Disk.view c.args.pairs.now.items c.args.group (omega (arith, c.requires.members.1, c.requires.faults)) c.requires.blank c.requires.unpicked

pub status_of-requires : goal.status_of-requires
status_of-requires g c =
    λ n is. named_low c.args.group n c.requires.members.1 c.requires.faults (blamed c.run_paxos.result c.args.group _ _ _ c.run_paxos.ensures.ran n is)

pub returns-clause-came : goal.returns-clause-came
returns-clause-came g c = record {
  ended = c.run_paxos.result;
  status = c.status_of.ensures;
  text = c.run_paxos.ensures.text;
  ran = c.run_paxos.ensures.ran;
}

pub returns-clause-onward : goal.returns-clause-onward
returns-clause-onward g c = group_forgets c.run_paxos.result c.args.group _ _ _ c.run_paxos.ensures.ran

pub returns-clause-unarmed : goal.returns-clause-unarmed
returns-clause-unarmed g c = group_unarmed c.run_paxos.result c.args.group _ _ _ c.run_paxos.ensures.ran c.requires.unpicked

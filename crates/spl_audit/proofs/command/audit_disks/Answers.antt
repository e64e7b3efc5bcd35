use Rattle.spl_audit.proofs.Audits.{goes_on, names_node, settled_at}
use Rattle.spl_audit.proofs.command.audit_disks.Goals as goal

pub run_audit-ended-requires-clause-settled : goal.run_audit-ended-requires-clause-settled
run_audit-ended-requires-clause-settled g c = λ k p below at. settled_at g.E.Disk.view c.args.pairs.now.items k p at (c.requires.settled k below)

pub audit_status-requires : goal.audit_status-requires
audit_status-requires g c = names_node c.run_audit-ended.result c.args.registry.now _ _ _ _ c.run_audit-ended.ensures.came

pub returns-clause-came : goal.returns-clause-came
returns-clause-came g c = record {
  ended = c.run_audit-ended.result;
  status = c.audit_status.ensures;
  came = c.run_audit-ended.ensures.came;
  stays = c.run_audit-ended.ensures.stays;
  spared = c.run_audit-ended.ensures.spared;
}

pub returns-clause-onward : goal.returns-clause-onward
returns-clause-onward g c = goes_on _ _ c.run_audit-ended.ensures.stays

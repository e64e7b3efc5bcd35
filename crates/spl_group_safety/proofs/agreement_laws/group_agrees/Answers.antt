use Rattle.spl_group_safety.proofs.Agreement.{agrees-new, agrees-start, agrees-row, agrees-stopped, agrees-cut, agrees-fewer, may_come-sent, may_come-strange}
use Rattle.spl_group_safety.proofs.Agreement.{agrees-happens, prefix-agrees}
use Rattle.spl_group_safety.proofs.agreement_laws.group_agrees.Goals as goal

pub returns : goal.returns
returns g c = record {
  new = agrees-new;
  start = agrees-start;
  rows = agrees-row;
  stop = agrees-stopped;
  cut = agrees-cut;
  fewer = agrees-fewer;
  comes = may_come-sent;
  strays = may_come-strange;
  happening = agrees-happens;
  prefix = prefix-agrees;
}

use Rattle.spl_cell_rules.{specs.{Events.does, Plans.plan_of}, proofs.{Events.fits-does, Limits.limited-planned, Messages.{sendable-legal, sendable-all}}}
use Rattle.spl_cell_rules.proofs.Plans.{legal-planned}
use Rattle.spl_cell_rules.proofs.plans_have_bounds.Goals as goal

pub returns : goal.returns
returns g = record {
  writable = λ site k e n own s. (limited-planned site k (does site k e) n s (fits-does site k e n own s.kept)).writable;
  formed = λ site k e n own s. (limited-planned site k (does site k e) n s (fits-does site k e n own s.kept)).formed;
  sends = λ site k e n own s. sendable-all (plan_of site k e).sends (legal-planned site k (does site k e) n s (fits-does site k e n own s.kept));
  message = sendable-legal;
}

use Rattle.spl_wire.proofs.{Groups.{together-grouped, sized-grouped}, Small.small-change}
use Rattle.spl_wire.proofs.laws.groups_have_all_changes.Goals as goal

pub returns-clause-whole : goal.returns-clause-whole
returns-clause-whole c = together-grouped

pub returns-clause-sized : goal.returns-clause-sized
returns-clause-sized c = sized-grouped

pub returns-clause-small : goal.returns-clause-small
returns-clause-small c = small-change

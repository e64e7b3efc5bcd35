-- How a note of a group is answered.
use Rattle.spl_cell_rules.specs.Cells as rules
use Rattle.spl_cell.specs.declared.plans.Say.{Say}
use Rattle.spl_cell.specs.declared.plans.Say.TheVariants as say

abbrev pub say_of : Say → rules.Say
say_of say.Submitted = rules.Submitted
say_of say.Delivered = rules.Delivered
say_of say.Alone = rules.Alone

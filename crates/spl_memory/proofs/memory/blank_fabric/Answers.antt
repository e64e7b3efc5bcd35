use Rattle.std.proofs.Common.{length, ap, sym, ◌∙◌}
use Rattle.spl_memory.proofs.memory.blank_fabric.Goals as goal

pub returns : goal.returns
returns c = λ a b x y. ap length (c.new.ensures.taken a b ∙ sym (c.new.ensures.put a b))

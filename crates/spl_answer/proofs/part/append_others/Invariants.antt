use Rattle.std.proofs.Common.{◌≡◌, ◌++◌, take}
use Rattle.spl_answer.specs.Texts.{items_after_commas}
use Rattle.spl_answer.proofs.part.append_others.Given as goal

abbrev pub invariant-loop-node : goal.invariant-loop-node
invariant-loop-node l = l.out.items ≡ l.fn.out.items ++ items_after_commas (λ n. n) (take l.node-index l.nodes)

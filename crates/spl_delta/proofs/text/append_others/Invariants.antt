use Rattle.std.{specs.List.flat_map, proofs.Common.{◌≡◌, ◌∷◌, ◌++◌, take}}
use Rattle.spl_delta.specs.Watches.{change_text}
use Rattle.spl_delta.proofs.text.append_others.Given as goal

abbrev pub invariant-loop-change : goal.invariant-loop-change
invariant-loop-change l = l.out.items ≡ l.fn.out.items ++ flat_map (λ x. 44 ∷ change_text x) (take l.change-index l.changes)

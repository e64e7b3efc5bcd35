use Rattle.std.{specs.List.flat_map, proofs.Common.{◌≡◌, ◌++◌, ◌∷◌, length}}
use Rattle.spl_explain.specs.Objects.{item}
use Rattle.spl_explain.proofs.quoted.put_more.Given as goal

abbrev pub invariant-loop-word : goal.invariant-loop-word
invariant-loop-word l =
    l.out.items ++ flat_map (λ word. 44 ∷ item l.are_numbers word) l.words ≡ l.fn.out.items ++ flat_map (λ word. 44 ∷ item l.are_numbers word) l.fn.words

abbrev pub decreases-loop-word : goal.decreases-loop-word
decreases-loop-word l = length l.words

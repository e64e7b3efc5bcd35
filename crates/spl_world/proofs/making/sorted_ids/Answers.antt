use Rattle.spl_circuit.{specs.Nodes.Node, proofs.Sorting.sort_is_sorted}
use Rattle.spl_world.proofs.Common.{◌≢◌, sym, ◌∙◌, ap, subst, AllPairs, sorted}
use Rattle.spl_world.proofs.making.sorted_ids.Goals as goal

pub returns-clause-apart : goal.returns-clause-apart
returns-clause-apart c = c.in_ok-ids.ensures.apart

pub returns-clause-ids : goal.returns-clause-ids
returns-clause-ids c =
    let apart = subst (AllPairs (λ (a b : Node). a ≢ b)) (sym c.in_ok-ids.ensures.ids) c.in_ok-ids.ensures.apart in
    let found = sort_is_sorted c.in_ok-ids.ids.items c.sort_unstable.new.self.items apart c.sort_unstable.ensures.permutation c.sort_unstable.ensures.sorted in
    sym (ap sorted (sym c.in_ok-ids.ensures.ids) ∙ found.0)

pub returns-clause-ordered : goal.returns-clause-ordered
returns-clause-ordered c =
    let apart = subst (AllPairs (λ (a b : Node). a ≢ b)) (sym c.in_ok-ids.ensures.ids) c.in_ok-ids.ensures.apart in
    (sort_is_sorted c.in_ok-ids.ids.items c.sort_unstable.new.self.items apart c.sort_unstable.ensures.permutation c.sort_unstable.ensures.sorted).1

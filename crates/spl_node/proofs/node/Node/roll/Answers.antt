use Rattle.std.{specs.{List.{list_any, Sorted.IsStrictlySortedBy}, Str.bytes_eq}, proofs.Common.{◌≡◌, List, sym, subst}}
use Rattle.spl_circuit.specs.Nodes.{CircuitId}
use Rattle.spl_cell_rules.specs.Cells.{is_bound}
use Rattle.spl_node.{proofs.{Maps.order, Rolls.{bound_sorted, bound_has}}, specs.Stands.circuit_cell}
use Rattle.spl_node.proofs.node.Node.roll.Goals as goal
use Rattle.spl_edge.proofs.Results.{when_ok}

pub returns-clause-sorted : goal.returns-clause-sorted
returns-clause-sorted c =
    when_ok c.bound.result (λ ids is. subst (IsStrictlySortedBy order) (sym is)
    (bound_sorted c.args.self.now.cells.entries c.is_ordered.ensures.ordered)) c.bound.ensures

pub returns-clause-bound : goal.returns-clause-bound
returns-clause-bound c =
    when_ok c.bound.result (λ ids is i. subst (λ (xs : List CircuitId). list_any (bytes_eq i) xs ≡ is_bound (circuit_cell c.args.self.now i)) (sym is)
    (bound_has i c.args.self.now.cells.entries c.is_ordered.ensures.ordered)) c.bound.ensures

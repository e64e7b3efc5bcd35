-- A leaf has all digits of its address, and a lone part those down to it.
use Rattle.std.proofs.Common.{ap, subst, ◌∙◌}
use Rattle.spl_state.{specs.{Runs.IsFirstApart, Kept.{IsThin, IsParting}}, proofs.Thin.{leaf_parting, thin_parting}}
use Rattle.spl_state.proofs.tree.Tree.parting.Goals as goal

pub returns-in_ok-k-in-Leaf-clause-apart : goal.returns-in_ok-k-in-Leaf-clause-apart
returns-in_ok-k-in-Leaf-clause-apart c =
    let view = rw c.in-Leaf.is at c.self.view_is in
    subst (IsParting c.args.address.now c.in-Leaf.at c.in_ok-k-in-Leaf.k) view
    (leaf_parting c.self.inside.depth c.in_ok-k-in-Leaf.k c.args.address.now c.in-Leaf.at c.in-Leaf.field-1 c.in_ok-k-in-Leaf.ensures.some)

pub returns-in_ok-k-in-Thin-clause-apart : goal.returns-in_ok-k-in-Thin-clause-apart
returns-in_ok-k-in-Thin-clause-apart c =
    let view = rw c.in-Thin.is at c.self.view_is in
    let shape : IsThin c.self.inside.depth c.in-Thin.path c.in-Thin.part.value = rw c.in-Thin.is at c.self.invariant.shaped in
    subst (IsParting c.args.address.now c.in-Thin.path c.in_ok-k-in-Thin.k) view
    (thin_parting c.self.inside.depth c.in_ok-k-in-Thin.k c.args.address.now c.in-Thin.path c.in-Thin.part.value shape
    (subst (λ n. IsFirstApart c.self.inside.depth n c.args.address.now c.in-Thin.path c.in_ok-k-in-Thin.k)
    (ap (λ s. s.depth) (c.behind-part.view_is ∙ c.deref.ensures)) c.in_ok-k-in-Thin.ensures.some))

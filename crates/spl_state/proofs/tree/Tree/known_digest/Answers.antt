use Rattle.std.proofs.Common.{◌≡◌, ◌≤◌, ◌+◌, ◌-◌, ◌∷◌, length, min, sym, ap, ◌∙◌, arith}
use Rattle.sha2.specs.Sha256.{sha256}
use Rattle.spl_state.{specs.{Levels.{node_of, children}, Kept.{IsInner, all_entries, entries_of}}, proofs.Nodes.node_of-many}
use Rattle.spl_state.proofs.tree.Tree.known_digest.Goals as goal

pub returns-then-have_digests : goal.returns-then-have_digests
returns-then-have_digests c =
    let shape : IsInner c.self.inside.depth c.in-Inner.parts.items = rw c.in-Inner.is at c.self.invariant.shaped in
    let sized : c.self.inside.size ≡ min (length (all_entries c.in-Inner.parts.items)) 2 = rw c.in-Inner.is at c.self.invariant.sized in
    let many : 2 ≤ length (all_entries c.in-Inner.parts.items) = omega (arith, sized, c.if-self-ge2.true) in
    let d = c.self.inside.depth in
    let left : 70 - d ≡ 70 - (d + 1) + 1 = omega (arith, shape.low) in
    c.digest.ensures
    ∙ ap (λ xs. sha256 (1 ∷ xs)) (sym c.parts.ensures ∙ c.have_digests.ensures c.if-have_digests.true)
    ∙ ap (λ ss. sha256 (1 ∷ children (node_of (70 - (d + 1)) (d + 1)) d (all_entries ss) 16)) c.as_slice.ensures.value
    ∙ sym (node_of-many _ _ _ _ left many)
    ∙ ap (λ b. node_of (70 - d) d (entries_of b)) (sym c.in-Inner.is)
    ∙ ap (λ s. node_of (70 - s.depth) s.depth s.entries) c.self.view_is

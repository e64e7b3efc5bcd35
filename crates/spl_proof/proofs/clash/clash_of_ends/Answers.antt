-- Two leaves.
use Rattle.std.proofs.Common.{◌∷◌, ◌++◌, ap, ◌∙◌}
use Rattle.spl_proof.proofs.Clashing.{leaf_clash}
use Rattle.spl_proof.proofs.clash.clash_of_ends.Goals as goal

pub returns-in_ok-leaf_bytes-in-Leaf-Leaf-2 : goal.returns-in_ok-leaf_bytes-in-Leaf-Leaf-2
returns-in_ok-leaf_bytes-in-Leaf-Leaf-2 c =
    let a = c.in-Leaf-Leaf.a in
    let b = c.in-Leaf-Leaf.b in
    leaf_clash c.args.x.now c.args.y.now a b c.in-Leaf-Leaf.v c.in-Leaf-Leaf.w _ _ c.requires.differ c.requires.alike c.in-Leaf-Leaf.is-0
    c.in-Leaf-Leaf.is-1 c.in_ok-leaf_bytes-in-Leaf-Leaf.ensures.long c.in_ok-leaf_bytes-in-Leaf-Leaf-2.ensures.long
    (c.in_ok-leaf_bytes-in-Leaf-Leaf.ensures.bytes ∙ ap (λ v. 0 ∷ a.0 ++ v) c.bytes.ensures)
    (c.in_ok-leaf_bytes-in-Leaf-Leaf-2.ensures.bytes ∙ ap (λ v. 0 ∷ b.0 ++ v) c.bytes-in-Leaf-Leaf.ensures)

-- The digest of the parts, from theirs.
use Rattle.std.proofs.{Math.Seq.take-length, Common.{◌≡◌, ◌<◌, ◌≤◌, ◌+◌, ◌-◌, ◌*◌, ◌++◌, [], ◌∷◌, length, min, take, refl, sym, ap, subst, ◌∙◌, arith}}
use Rattle.sha2.specs.Sha256.{sha256}
use Rattle.spl_state.{specs.{Levels.{node_of, children}, Kept.{IsInner, all_entries, entries_of}}, proofs.Nodes.{node_none, node_of-one, node_of-many}}
use Rattle.spl_state.proofs.{Nodes.{children-zero, children-more}, Parts.{few_digest, many_digest}, Steps.depth_of}
use Rattle.spl_state.proofs.tree.Tree.+digest.Goals as goal

pub made-returns-then-size-gt0 : goal.made-returns-then-size-gt0
made-returns-then-size-gt0 t c =
    let shape : IsInner c.self.inside.depth c.in-Inner.parts.items = rw c.in-Inner.is at c.self.invariant.shaped in
    let sized : c.self.inside.size ≡ min (length (all_entries c.in-Inner.parts.items)) 2 = rw c.in-Inner.is at c.self.invariant.sized in
    let items = c.deref-part-items.ensures.value in
    let few : length (all_entries c.deref-part-items.result.now) < 2 =
    subst (λ ss. length (all_entries ss) < 2) (sym items) (omega (arith, sized, c.if-self-lt2.true)) in
    let here : 0 < length c.part-item.result.entries = omega (arith, c.size.ensures) in
    c.kept_or_made.ensures
    ∙ few_digest c.deref-part-items.result.now c.loop-part.part-index c.self.inside.depth c.part-item.result c.part-item.is c.loop-part-test.true here few
    ∙ ap (λ ss. node_of (70 - c.self.inside.depth) c.self.inside.depth (all_entries ss)) items
    ∙ ap (λ b. node_of (70 - c.self.inside.depth) c.self.inside.depth (entries_of b)) (sym c.in-Inner.is)
    ∙ ap (λ s. node_of (70 - s.depth) s.depth s.entries) c.self.view_is

pub made-returns-then-self-lt2 : goal.made-returns-then-self-lt2
made-returns-then-self-lt2 t c =
    let items = c.deref-part-items.ensures.value in
    let end : c.loop-part.part-index ≡ length c.deref-part-items.result.now = omega arith in
    let none : all_entries c.deref-part-items.result.now ≡ [] =
    ap all_entries (sym (take-length c.deref-part-items.result.now) ∙ ap (λ i. take i c.deref-part-items.result.now) (sym end)) ∙ c.loop-part.invariant in
    sym (node_none (70 - c.self.inside.depth) c.self.inside.depth)
    ∙ ap (node_of (70 - c.self.inside.depth) c.self.inside.depth) (sym none ∙ ap all_entries items)
    ∙ ap (λ b. node_of (70 - c.self.inside.depth) c.self.inside.depth (entries_of b)) (sym c.in-Inner.is)
    ∙ ap (λ s. node_of (70 - s.depth) s.depth s.entries) c.self.view_is

pub made-returns-in-Empty : goal.made-returns-in-Empty
made-returns-in-Empty t c =
    sym (node_none (70 - c.self.inside.depth) c.self.inside.depth)
    ∙ ap (λ b. node_of (70 - c.self.inside.depth) c.self.inside.depth (entries_of b)) (sym c.in-Empty.is)
    ∙ ap (λ s. node_of (70 - s.depth) s.depth s.entries) c.self.view_is

pub made-returns-in-Leaf : goal.made-returns-in-Leaf
made-returns-in-Leaf t c =
    c.leaf.ensures ∙ sym (node_of-one (70 - c.self.inside.depth) c.self.inside.depth (c.in-Leaf.at, c.in-Leaf.value))
    ∙ ap (λ b. node_of (70 - c.self.inside.depth) c.self.inside.depth (entries_of b)) (sym c.in-Leaf.is)
    ∙ ap (λ s. node_of (70 - s.depth) s.depth s.entries) c.self.view_is

pub made-returns-else-self-lt2 : goal.made-returns-else-self-lt2
made-returns-else-self-lt2 t c =
    let shape : IsInner c.self.inside.depth c.in-Inner.parts.items = rw c.in-Inner.is at c.self.invariant.shaped in
    let sized : c.self.inside.size ≡ min (length (all_entries c.in-Inner.parts.items)) 2 = rw c.in-Inner.is at c.self.invariant.sized in
    let many : 2 ≤ length (all_entries c.in-Inner.parts.items) = omega (arith, sized, c.if-self-lt2.false) in
    let d = c.self.inside.depth in
    let left : 70 - d ≡ 70 - (d + 1) + 1 = omega (arith, shape.low) in
    c.node.ensures
    ∙ ap (λ ss. sha256 (1 ∷ children (node_of (70 - (d + 1)) (d + 1)) d (all_entries ss) 16)) c.as_slice.ensures.value
    ∙ sym (node_of-many _ _ _ _ left many)
    ∙ ap (λ b. node_of (70 - d) d (entries_of b)) (sym c.in-Inner.is)
    ∙ ap (λ s. node_of (70 - s.depth) s.depth s.entries) c.self.view_is

pub node-loop-i-init : goal.node-loop-i-init
node-loop-i-init t c = record { sized = refl; made = sym (children-zero _ _ _) }

pub node-kept_or_made-digest-requires : goal.node-kept_or_made-digest-requires
node-kept_or_made-digest-requires t c =
    let low : c.loop-i.i < length c.args.parts.now = omega (arith, c.requires.sixteen, c.loop-i-test.true) in
    (omega (arith, c.requires.low, depth_of c.args.depth c.loop-i.i c.args.parts.now c.index-parts-i.result c.requires low c.index-parts-i.is), tt)

pub node-loop-i-preserved : goal.node-loop-i-preserved
node-loop-i-preserved t c =
    let i = c.loop-i.i in
    let d = c.args.depth in
    let low : i < length c.args.parts.now = omega (arith, c.requires.sixteen, c.loop-i-test.true) in
    let next : 32 * (i + 1) ≡ 32 * i + 32 = omega arith in
    let child = c.kept_or_made-digest.ensures ∙ many_digest c.args.parts.now i d c.index-parts-i.result c.index-parts-i.is c.requires low in
    record {
      sized = c.set_part.array_long;
      made = ap (λ n. take n c.set_part.new.parts) next
          ∙ c.set_part.ensures.before
          ∙ ap (λ r. r ++ c.kept_or_made-digest.result) c.loop-i.invariant.made
          ∙ ap (λ r. children (node_of (70 - (d + 1)) (d + 1)) d (all_entries c.args.parts.now) i ++ r) child
          ∙ sym (children-more (node_of (70 - (d + 1)) (d + 1)) d (all_entries c.args.parts.now) i);
    }

pub node-returns : goal.node-returns
node-returns t c =
    let d = c.args.depth in
    let end : c.loop-i.i ≡ 16 = omega (arith, c.loop-i-test.false, c.loop-i.auto.i-end) in
    let all : length c.loop-i.digests ≡ 32 * c.loop-i.i = omega (arith, end, c.loop-i.invariant.sized) in
    c.node.ensures
    ∙ ap (λ xs. sha256 (1 ∷ xs)) (sym (take-length c.loop-i.digests) ∙ ap (λ n. take n c.loop-i.digests) all ∙ c.loop-i.invariant.made
    ∙ ap (children (node_of (70 - (d + 1)) (d + 1)) d (all_entries c.args.parts.now)) end)

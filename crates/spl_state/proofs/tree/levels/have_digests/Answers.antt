use Rattle.std.proofs.{Common.{◌≡◌, ◌<◌, ◌+◌, ◌-◌, ◌*◌, ◌++◌, length, take, drop, sym, ap, ◌∙◌, arith}, Math.Seq.{take-add, take-length}}
use Rattle.spl_state.{specs.{Levels.{node_of, children, branch}, Kept.all_entries}, proofs.{Nodes.{children-zero, children-more}, Parts.many_digest}}
use Rattle.spl_state.proofs.tree.levels.have_digests.Goals as goal

pub loop-i-init : goal.loop-i-init
loop-i-init c = sym (children-zero _ _ _)

pub loop-i-preserved : goal.loop-i-preserved
loop-i-preserved c =
    let i = c.loop-i.i in
    let d = c.args.depth in
    let digests = c.args.digests.now in
    let parts = c.args.parts.now in
    let low : i < length parts = omega (arith, c.requires.sixteen, c.loop-i-test.true) in
    let next : 32 * (i + 1) ≡ 32 * i + 32 = omega arith in
    let child : take 32 (drop (32 * i) digests) ≡ node_of (70 - (d + 1)) (d + 1) (branch d i (all_entries parts)) =
    c.has_digest.ensures c.if-not-has_digest.false ∙ c.in-Some.ensures ∙ many_digest parts i d c.index-parts-i.result c.index-parts-i.is c.requires low in
    ap (λ n. take n digests) next
    ∙ take-add (32 * i) 32 digests
    ∙ ap (λ r. r ++ take 32 (drop (32 * i) digests)) c.loop-i.invariant
    ∙ ap (λ r. children (node_of (70 - (d + 1)) (d + 1)) d (all_entries parts) i ++ r) child
    ∙ sym (children-more (node_of (70 - (d + 1)) (d + 1)) d (all_entries parts) i)

pub returns : goal.returns
returns c = λ held.
    let d = c.args.depth in
    let digests = c.args.digests.now in
    let end : c.loop-i.i ≡ 16 = omega (arith, c.loop-i-test.false, c.loop-i.auto.i-end) in
    let all : length digests ≡ 32 * c.loop-i.i = omega (arith, end, c.told-digests) in
    sym (take-length digests) ∙ ap (λ n. take n digests) all ∙ c.loop-i.invariant
    ∙ ap (children (node_of (70 - (d + 1)) (d + 1)) d (all_entries c.args.parts.now)) end

-- A lone entry has the digits or not, and so have all entries of a lone part.
use Rattle.std.proofs.Common.{◌≡◌, ◌≤◌, ◌-◌, sym, ap, subst, ◌∙◌, arith}
use Rattle.spl_state.{specs.{Levels.node_of, Runs.AllAlong, Kept.{IsThin, entries_of, thin_run}}, proofs.Prefixes.{digest_one, digest_other}}
use Rattle.spl_state.proofs.{Runs.along_below, Thin.{digest_not, digest_along, left_path}}
use Rattle.spl_state.proofs.tree.Tree.+digest_at.Goals as goal

pub returns-then-same_between : goal.returns-then-same_between
returns-then-same_between t c =
    let here = c.below-here.result.now in
    digest_one c.args.digits c.here.inside.depth here.depth here.depth c.args.address.now
    (c.in-Leaf.at, c.in-Leaf.field-1) here.entries c.digest-then-same_between.result
    c.digest-then-same_between.ensures (ap entries_of (sym c.in-Leaf.is) ∙ ap (λ s. s.entries) c.here.view_is)
    (sym c.same_between.ensures ∙ c.if-same_between.true) (ap (λ s. s.depth) c.here.view_is)
    ∙ ap (node_of (70 - c.args.digits) c.args.digits) c.below-here.ensures.shared

pub returns-else-same_between : goal.returns-else-same_between
returns-else-same_between t c =
    let here = c.below-here.result.now in
    digest_other c.args.digits c.here.inside.depth here.depth c.args.address.now (c.in-Leaf.at, c.in-Leaf.field-1) here.entries
    (ap entries_of (sym c.in-Leaf.is) ∙ ap (λ s. s.entries) c.here.view_is) (sym c.same_between.ensures ∙ c.if-same_between.false)
    (ap (λ s. s.depth) c.here.view_is)
    ∙ ap (node_of (70 - c.args.digits) c.args.digits) c.below-here.ensures.shared

pub returns-then-deref-digits : goal.returns-then-deref-digits
returns-then-deref-digits t c =
    let here = c.below-here.result.now in
    let d = c.here.inside.depth in
    let part = c.in-Thin.part.value in
    let shape : IsThin d c.in-Thin.path part = rw c.in-Thin.is at c.here.invariant.shaped in
    let depth : d ≡ here.depth = ap (λ s. s.depth) c.here.view_is in
    let stands : c.behind-part.inside.depth ≡ part.depth = ap (λ s. s.depth) (c.behind-part.view_is ∙ c.deref.ensures) in
    let within : part.depth ≤ c.args.digits = omega (arith, stands, c.if-deref-digits.true) in
    digest_not c.args.digits part.depth d c.in-Thin.path here.depth c.args.address.now here.entries part shape
    (left_path d c.args.digits here c.args.address.now c.in-Thin.path part depth within
    (ap thin_run (sym c.in-Thin.is) ∙ ap (λ s. s.thin) c.here.view_is) c.below-here.ensures.left)
    (omega (arith, shape.low)) within (omega arith) depth (ap entries_of (sym c.in-Thin.is) ∙ ap (λ s. s.entries) c.here.view_is)
    ∙ ap (node_of (70 - c.args.digits) c.args.digits) c.below-here.ensures.shared

pub returns-then-not-same_between : goal.returns-then-not-same_between
returns-then-not-same_between t c =
    let here = c.below-here.result.now in
    let d = c.here.inside.depth in
    let part = c.in-Thin.part.value in
    let shape : IsThin d c.in-Thin.path part = rw c.in-Thin.is at c.here.invariant.shaped in
    let depth : d ≡ here.depth = ap (λ s. s.depth) c.here.view_is in
    let stands : c.behind-part.inside.depth ≡ part.depth = ap (λ s. s.depth) (c.behind-part.view_is ∙ c.deref.ensures) in
    digest_not c.args.digits c.args.digits d c.in-Thin.path here.depth c.args.address.now here.entries part shape
    (sym c.same_between-in-Thin.ensures ∙ c.if-not-same_between.true)
    (omega (arith, depth, c.below-here.ensures.low)) (omega arith) (omega (arith, stands, c.if-deref-digits.false)) depth
    (ap entries_of (sym c.in-Thin.is) ∙ ap (λ s. s.entries) c.here.view_is)
    ∙ ap (node_of (70 - c.args.digits) c.args.digits) c.below-here.ensures.shared

pub digest_from-requires-clause-along : goal.digest_from-requires-clause-along
digest_from-requires-clause-along t c =
    let here = c.below-here.result.now in
    let d = c.here.inside.depth in
    let part = c.in-Thin.part.value in
    let shape : IsThin d c.in-Thin.path part = rw c.in-Thin.is at c.here.invariant.shaped in
    let depth : d ≡ here.depth = ap (λ s. s.depth) c.here.view_is in
    let stands : c.behind-part.inside.depth ≡ part.depth = ap (λ s. s.depth) (c.behind-part.view_is ∙ c.deref.ensures) in
    subst (λ s. AllAlong s.depth c.args.digits c.in-Thin.path s.entries) (sym c.deref-in-Thin.ensures)
    (along_below d c.args.digits part.depth c.in-Thin.path part.entries (omega (arith, depth, c.below-here.ensures.low))
    (omega (arith, stands, c.if-deref-digits.false)) shape.digits)

pub returns-else-not-same_between : goal.returns-else-not-same_between
returns-else-not-same_between t c =
    let here = c.below-here.result.now in
    let d = c.here.inside.depth in
    let part = c.in-Thin.part.value in
    let shape : IsThin d c.in-Thin.path part = rw c.in-Thin.is at c.here.invariant.shaped in
    let depth : d ≡ here.depth = ap (λ s. s.depth) c.here.view_is in
    let stands : c.behind-part.inside.depth ≡ part.depth = ap (λ s. s.depth) (c.behind-part.view_is ∙ c.deref.ensures) in
    digest_along c.args.digits d c.in-Thin.path here.depth c.args.address.now here.entries part c.digest_from.result
    (c.digest_from.ensures ∙ ap (λ s. node_of (70 - c.args.digits) c.args.digits s.entries) c.deref-in-Thin.ensures) shape
    (sym c.same_between-in-Thin.ensures ∙ c.if-not-same_between.false)
    (omega (arith, depth, c.below-here.ensures.low)) (omega (arith, stands, c.if-deref-digits.false)) depth
    (ap entries_of (sym c.in-Thin.is) ∙ ap (λ s. s.entries) c.here.view_is)
    ∙ ap (node_of (70 - c.args.digits) c.args.digits) c.below-here.ensures.shared

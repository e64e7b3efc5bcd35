-- The part of the address's digits loses the entry, and levels that report none apart.
use Rattle.std.{specs.BTreeMap.is_at, proofs.Common.{◌≡◌, ◌<◌, ◌-◌, true, false, length, min, sym, subst, ap, ◌∙◌, arith, is_some}}
use Rattle.spl_state.specs.{Digits.{tail_cmp, same_digits}, Kept.{IsInner, IsThin, all_entries, entries_of}, declared.tree.Body.TheVariants.{Thin, Inner}}
use Rattle.spl_state.proofs.{Steps.{kept_stale, inner_removed}, Thin.{found_not, thin_removed, removed_in, removed_not}}
use Rattle.spl_state.proofs.tree.Tree.+delete.Goals as goal

pub invariant_of-self-in-Inner : goal.invariant_of-self-in-Inner
invariant_of-self-in-Inner t c =
    let shape : IsInner c.self.inside.depth c.in-Inner.parts.items = rw c.in-Inner.is at c.self.invariant.shaped in
    let within : c.digit-at.result < length c.in-Inner.parts.items = omega (arith, shape.sixteen, c.digit-at.ensures.small) in
    kept_stale _ _ _ (Inner _) (c.size_of_all-self-inside.ensures ∙ ap (λ ss. min (length (all_entries ss)) 2) c.as_slice.ensures.value)
    (inner_removed c.self.inside.depth c.digit-at.result
    (is_at (tail_cmp c.index_mut-part.result.now.depth c.args.address.now)) c.in-Inner.parts.items c.shrink.new.self c.index_mut-part.result.now
    shape within c.index_mut-part.ensures.value (c.shrink.ensures.depth ∙ c.delete-found.ensures.depth)
    (c.shrink.ensures.entries ∙ c.delete-found.ensures.entries))

pub invariant_of-self-in-Thin : goal.invariant_of-self-in-Thin
invariant_of-self-in-Thin t c =
    let d = c.self.inside.depth in
    let path = c.in-Thin.path in
    let shape : IsThin d path c.in-Thin.part.value = rw c.in-Thin.is at c.self.invariant.shaped in
    let here : IsThin d path c.deref_mut.result.now = subst (IsThin d path) (sym c.deref_mut.ensures.value) shape in
    kept_stale _ _ _ (Thin path _) (c.size-self-inside.ensures ∙ ap (λ s. min (length s.entries) 2) c.deref-in-Thin.ensures)
    (thin_removed d path (is_at (tail_cmp c.deref_mut.result.now.depth c.args.address.now)) c.shrink-in-Thin.new.self c.deref_mut.result.now here
    (c.shrink-in-Thin.ensures.depth ∙ ap (λ s. s.depth) c.deref_mut-in-Thin.ensures.value ∙ c.delete-found-in-Thin.ensures.depth)
    (c.shrink-in-Thin.ensures.entries ∙ ap (λ s. s.entries) c.deref_mut-in-Thin.ensures.value ∙ c.delete-found-in-Thin.ensures.entries))

pub returns-then-not-same_between-clause-entries : goal.returns-then-not-same_between-clause-entries
returns-then-not-same_between-clause-entries t c =
    let d = c.self.inside.depth in
    let shape : IsThin d c.in-Thin.path c.in-Thin.part.value = rw c.in-Thin.is at c.self.invariant.shaped in
    let entries = ap entries_of (sym c.in-Thin.is) ∙ ap (λ s. s.entries) c.self.view_is in
    let not : same_digits (c.in-Thin.part.value.depth - d) d c.args.address.now c.in-Thin.path ≡ false =
    ap (λ s. same_digits (s.depth - d) d c.args.address.now c.in-Thin.path) (sym (c.behind-part.view_is ∙ c.deref.ensures)) ∙ sym c.same_between.ensures
    ∙ c.if-not-same_between.true in
    entries ∙ removed_not d c.in-Thin.path c.args.self.now.depth c.args.address.now c.args.self.now.entries c.in-Thin.part.value shape not
    (ap (λ s. s.depth) c.self.view_is) entries

pub returns-then-not-same_between-clause-found : goal.returns-then-not-same_between-clause-found
returns-then-not-same_between-clause-found t c =
    let d = c.self.inside.depth in
    let shape : IsThin d c.in-Thin.path c.in-Thin.part.value = rw c.in-Thin.is at c.self.invariant.shaped in
    let not : same_digits (c.in-Thin.part.value.depth - d) d c.args.address.now c.in-Thin.path ≡ false =
    ap (λ s. same_digits (s.depth - d) d c.args.address.now c.in-Thin.path) (sym (c.behind-part.view_is ∙ c.deref.ensures)) ∙ sym c.same_between.ensures
    ∙ c.if-not-same_between.true in
    ap is_some (found_not d c.in-Thin.path c.args.self.now.depth c.args.address.now c.args.self.now.entries c.in-Thin.part.value shape not
    (ap (λ s. s.depth) c.self.view_is) (ap entries_of (sym c.in-Thin.is) ∙ ap (λ s. s.entries) c.self.view_is))

pub returns-else-not-same_between-clause-entries : goal.returns-else-not-same_between-clause-entries
returns-else-not-same_between-clause-entries t c =
    let d = c.self.inside.depth in
    let path = c.in-Thin.path in
    let shape : IsThin d path c.in-Thin.part.value = rw c.in-Thin.is at c.self.invariant.shaped in
    let here : IsThin d path c.deref_mut.result.now = subst (IsThin d path) (sym c.deref_mut.ensures.value) shape in
    let along : same_digits (c.in-Thin.part.value.depth - d) d c.args.address.now path ≡ true =
    ap (λ s. same_digits (s.depth - d) d c.args.address.now path) (sym (c.behind-part.view_is ∙ c.deref.ensures)) ∙ sym c.same_between.ensures
    ∙ c.if-not-same_between.false in
    removed_in d path c.args.self.now.depth c.args.address.now c.args.self.now.entries c.shrink-in-Thin.new.self c.deref_mut.result.now here
    (ap (λ s. same_digits (s.depth - d) d c.args.address.now path) c.deref_mut.ensures.value ∙ along) (ap (λ s. s.depth) c.self.view_is)
    (ap (λ s. s.entries) c.deref_mut.ensures.value ∙ ap entries_of (sym c.in-Thin.is) ∙ ap (λ s. s.entries) c.self.view_is)
    (c.shrink-in-Thin.ensures.entries ∙ ap (λ s. s.entries) c.deref_mut-in-Thin.ensures.value ∙ c.delete-found-in-Thin.ensures.entries)

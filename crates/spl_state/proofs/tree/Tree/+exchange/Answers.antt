-- The parts are those of before, and the part of the address's digit is written.
use Rattle.std.proofs.Common.{◌<◌, ◌≤◌, ◌-◌, length, min, sym, ap, subst, ◌∙◌, arith}
use Rattle.spl_state.specs.{Digits.{tail_cmp, same_digits}, Kept.{IsInner, IsThin, all_entries, entries_of, thin_run}, declared.tree.Body.TheVariants.Inner}
use Rattle.spl_state.proofs.{Steps.{kept_stale, inner_inserted, former_below, size_grown}, Thin.{former_in, room_path}}
use Rattle.spl_state.proofs.tree.Tree.+exchange.Goals as goal

pub invariant_of-self-in-Inner : goal.invariant_of-self-in-Inner
invariant_of-self-in-Inner t c =
    let shape : IsInner c.self.inside.depth c.in-Inner.parts.items = rw c.in-Inner.is at c.self.invariant.shaped in
    let within : c.digit-at.result < length c.in-Inner.parts.items = omega (arith, shape.sixteen, c.digit-at.ensures.small) in
    kept_stale _ _ _ (Inner _) (c.size_of_more-self-inside.ensures ∙ ap (λ ss. min (length (all_entries ss)) 2) c.as_slice.ensures.value)
    (inner_inserted c.exchange-done.result c.self.inside.depth c.digit-at.result c.args.address.now c.args.value.now c.in-Inner.parts.items
    c.exchange-done.new.self c.index_mut-part.result.now
    shape c.digit-at.ensures.value within c.index_mut-part.ensures.value c.exchange-done.ensures.depth c.exchange-done.ensures.ok c.exchange-done.ensures.err)

pub returns-in-Inner-clause-replaced : goal.returns-in-Inner-clause-replaced
returns-in-Inner-clause-replaced t c =
    let shape : IsInner c.self.inside.depth c.in-Inner.parts.items = rw c.in-Inner.is at c.self.invariant.shaped in
    let within : c.digit-at.result < length c.in-Inner.parts.items = omega (arith, shape.sixteen, c.digit-at.ensures.small) in
    former_below c.exchange-done.result c.exchange-done.new.value c.self.inside.depth c.digit-at.result c.args.self.now.depth c.args.address.now
    c.args.self.now.entries c.in-Inner.parts.items c.index_mut-part.result.now
    shape c.digit-at.ensures.value within c.index_mut-part.ensures.value (ap (λ s. s.depth) c.self.view_is ∙ c.make_room.ensures.depth)
    (ap entries_of (sym c.in-Inner.is) ∙ ap (λ s. s.entries) c.self.view_is ∙ c.make_room.ensures.entries) c.exchange-done.ensures.replaced

pub returns-in-Thin-clause-replaced : goal.returns-in-Thin-clause-replaced
returns-in-Thin-clause-replaced t c =
    let d = c.self.inside.depth in
    let path = c.in-Thin.field-0 in
    let part = c.in-Thin.part.value in
    let shape : IsThin d path part = rw c.in-Thin.is at c.self.invariant.shaped in
    let here : IsThin d path c.deref_mut.result.now = subst (IsThin d path) (sym c.deref_mut.ensures.value) shape in
    let at = room_path d c.make_room.new.self c.args.address.now path part (ap (λ s. s.depth) c.self.view_is)
    (ap thin_run (sym c.in-Thin.is) ∙ ap (λ s. s.thin) c.self.view_is) c.in_ok-make_room.ensures.room.1 in
    former_in c.exchange-done-in-Thin.result c.exchange-done-in-Thin.new.value d path c.args.self.now.depth c.args.address.now c.args.self.now.entries
    c.deref_mut.result.now here
    (ap (λ s. same_digits (s.depth - d) d c.args.address.now path) c.deref_mut.ensures.value ∙ at)
    (ap (λ s. s.depth) c.self.view_is ∙ c.make_room.ensures.depth)
    (ap (λ s. s.entries) c.deref_mut.ensures.value ∙ ap entries_of (sym c.in-Thin.is) ∙ ap (λ s. s.entries) c.self.view_is
    ∙ c.make_room.ensures.entries) c.exchange-done-in-Thin.ensures.replaced

pub size_of_more-self-inside-requires : goal.size_of_more-self-inside-requires
size_of_more-self-inside-requires t c =
    subst (λ ss. c.self.inside.size ≤ length (all_entries ss)) (sym c.as_slice.ensures.value)
    (size_grown c.exchange-done.result
    (tail_cmp c.index_mut-part.result.now.depth) c.self.inside.size c.digit-at.result c.args.address.now c.args.value.now c.in-Inner.parts.items
    c.exchange-done.new.self c.index_mut-part.result.now
    (c.self.invariant.sized ∙ ap
    (λ b. min (length (entries_of b)) 2) c.in-Inner.is) c.index_mut-part.ensures.value c.exchange-done.ensures.ok c.exchange-done.ensures.err)

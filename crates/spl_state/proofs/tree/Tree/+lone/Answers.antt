-- A lone entry of many parts stands in the one that has entries.
use Rattle.std.proofs.Common.{◌≡◌, ◌<◌, ◌∷◌, [], length, MatchOption, sym, ap, subst, ◌∙◌, arith}
use Rattle.spl_state.{specs.Kept.{IsInner, all_entries, entries_of}, proofs.{Parts.few_in, Steps.depth_of}}
use Rattle.spl_state.proofs.tree.Tree.+lone.Goals as goal

pub lone-requires : goal.lone-requires
lone-requires t c =
    let shape : IsInner c.self.inside.depth c.in-Inner.parts.items = rw c.in-Inner.is at c.self.invariant.shaped in
    let items = c.deref-part-items.ensures.value in
    let here : IsInner c.self.inside.depth c.deref-part-items.result.now = subst (IsInner c.self.inside.depth) (sym items) shape in
    let depth =
    depth_of c.self.inside.depth c.loop-part.part-index c.deref-part-items.result.now c.part-item.result here c.loop-part-test.true c.part-item.is in
    let view = ap (λ s. s.depth) c.self.view_is in
    let all = ap (λ ss. length (all_entries ss)) items ∙ ap (λ b. length (entries_of b)) (sym c.in-Inner.is) ∙ ap (λ s. length s.entries) c.self.view_is in
    let few : length (all_entries c.deref-part-items.result.now) < 2 = omega (arith, all, c.requires.few) in
    let some : 0 < length c.part-item.result.entries = omega (arith, c.size.ensures, c.if-size-gt0.true) in
    let same = few_in c.deref-part-items.result.now c.loop-part.part-index c.part-item.result c.part-item.is c.loop-part-test.true some few in
    (omega (arith, depth, here.low, view, c.decreases), (omega (arith, depth, here.low), omega (arith, ap length same, few)))

pub returns-then-size-gt0 : goal.returns-then-size-gt0
returns-then-size-gt0 t c =
    let items = c.deref-part-items.ensures.value in
    let all = ap (λ ss. length (all_entries ss)) items ∙ ap (λ b. length (entries_of b)) (sym c.in-Inner.is) ∙ ap (λ s. length s.entries) c.self.view_is in
    let few : length (all_entries c.deref-part-items.result.now) < 2 = omega (arith, all, c.requires.few) in
    let some : 0 < length c.part-item.result.entries = omega (arith, c.size.ensures, c.if-size-gt0.true) in
    let same = few_in c.deref-part-items.result.now c.loop-part.part-index c.part-item.result c.part-item.is c.loop-part-test.true some few in
    let entries = sym same ∙ ap all_entries items ∙ ap entries_of (sym c.in-Inner.is) ∙ ap (λ s. s.entries) c.self.view_is in
    subst (λ es. MatchOption c.lone.result (es ≡ []) (λ e. es ≡ (e.0, e.1.now) ∷ [])) entries c.lone.ensures

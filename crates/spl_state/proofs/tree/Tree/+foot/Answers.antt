-- Each part hands down what lies below in it.
use Rattle.std.proofs.Common.{◌≡◌, ◌<◌, ◌≤◌, ◌∷◌, ◌-◌, [], length, MatchOption, true, sym, ap, subst, ◌∙◌, arith}
use Rattle.spl_state.{specs.{Digits.{shares, same_digits}, Kept.{IsInner, IsThin, entries_of}, Runs.IsFirstApart}, proofs.Feet.{Crowded, crowded_inner}}
use Rattle.spl_state.proofs.{Feet.{crowded_apart, crowded_thin, none_apart}, Prefixes.{shares_all, shares_below}, Steps.depth_of, Thin.shares_in}
use Rattle.spl_state.proofs.tree.Tree.+foot.Goals as goal

pub returns-then-self-lt2-clause-lone : goal.returns-then-self-lt2-clause-lone
returns-then-self-lt2-clause-lone t c =
    let es = c.args.self.now.entries in
    let whole = shares_all c.self.inside.depth c.args.self.now.depth c.args.address.now es (omega (arith, ap (λ s. s.depth) c.self.view_is)) in
    subst (λ xs. MatchOption c.lone.result (xs ≡ []) (λ e. xs ≡ (e.0, e.1.now) ∷ [])) (sym whole) c.lone.ensures

pub returns-in-Inner-clause-many : goal.returns-in-Inner-clause-many
returns-in-Inner-clause-many t c =
    let shape : IsInner c.self.inside.depth c.in-Inner.parts.items = rw c.in-Inner.is at c.self.invariant.shaped in
    let depth = ap (λ s. s.depth) c.self.view_is in
    let entries = ap entries_of (sym c.in-Inner.is) ∙ ap (λ s. s.entries) c.self.view_is in
    let many : 2 ≤ length c.args.self.now.entries = omega (arith, c.self.invariant.sized, ap (λ s. length s.entries) c.self.view_is, c.if-self-lt2.false) in
    crowded_inner c.foot.result.0 c.self.inside.depth c.digit.result c.args.self.now.depth c.args.address.now c.args.self.now.entries
    c.in-Inner.parts.items c.index.result.now
    shape c.digit.ensures.value (omega (arith, shape.sixteen, c.digit.ensures.small)) c.index.ensures depth entries many c.foot.ensures.many

pub returns-in-Inner-clause-lone : goal.returns-in-Inner-clause-lone
returns-in-Inner-clause-lone t c =
    let shape : IsInner c.self.inside.depth c.in-Inner.parts.items = rw c.in-Inner.is at c.self.invariant.shaped in
    let depth = ap (λ s. s.depth) c.self.view_is in
    let entries = ap entries_of (sym c.in-Inner.is) ∙ ap (λ s. s.entries) c.self.view_is in
    let low : c.digit.result < length c.in-Inner.parts.items = omega (arith, shape.sixteen, c.digit.ensures.small) in
    let deep : c.self.inside.depth < c.foot.result.0 =
    omega (arith, depth_of c.self.inside.depth c.digit.result c.in-Inner.parts.items c.index.result.now shape low c.index.ensures, c.foot.ensures.low) in
    subst (λ xs. MatchOption c.foot.result.1 (xs ≡ []) (λ e. xs ≡ (e.0, e.1.now) ∷ []))
    (shares_below c.foot.result.0 c.self.inside.depth c.digit.result c.args.self.now.depth c.args.address.now c.args.self.now.entries
    c.in-Inner.parts.items c.index.result.now shape c.digit.ensures.value low c.index.ensures deep depth entries)
    c.foot.ensures.lone

pub returns-in-Some-clause-many : goal.returns-in-Some-clause-many
returns-in-Some-clause-many t c =
    let d = c.self.inside.depth in
    let part = c.in-Thin.part.value in
    let shape : IsThin d c.in-Thin.path part = rw c.in-Thin.is at c.self.invariant.shaped in
    let depth : d ≡ c.args.self.now.depth = ap (λ s. s.depth) c.self.view_is in
    let stands : c.behind-part.inside.depth ≡ part.depth = ap (λ s. s.depth) (c.behind-part.view_is ∙ c.deref.ensures) in
    let apart : IsFirstApart d part.depth c.args.address.now c.in-Thin.path c.in-Some.k =
    subst (λ n. IsFirstApart d n c.args.address.now c.in-Thin.path c.in-Some.k) stands c.in-Some.ensures.some in
    let many : 2 ≤ length c.args.self.now.entries = omega (arith, c.self.invariant.sized, ap (λ s. length s.entries) c.self.view_is, c.if-self-lt2.false) in
    crowded_apart d c.args.self.now.depth c.in-Some.k c.args.address.now c.in-Thin.path c.args.self.now.entries part shape apart depth
    (ap entries_of (sym c.in-Thin.is) ∙ ap (λ s. s.entries) c.self.view_is) many

pub returns-in-Some-clause-lone : goal.returns-in-Some-clause-lone
returns-in-Some-clause-lone t c =
    let d = c.self.inside.depth in
    let part = c.in-Thin.part.value in
    let shape : IsThin d c.in-Thin.path part = rw c.in-Thin.is at c.self.invariant.shaped in
    let depth : d ≡ c.args.self.now.depth = ap (λ s. s.depth) c.self.view_is in
    let stands : c.behind-part.inside.depth ≡ part.depth = ap (λ s. s.depth) (c.behind-part.view_is ∙ c.deref.ensures) in
    let apart : IsFirstApart d part.depth c.args.address.now c.in-Thin.path c.in-Some.k =
    subst (λ n. IsFirstApart d n c.args.address.now c.in-Thin.path c.in-Some.k) stands c.in-Some.ensures.some in
    none_apart d c.args.self.now.depth c.in-Some.k c.args.address.now c.in-Thin.path c.args.self.now.entries part shape apart depth
    (ap entries_of (sym c.in-Thin.is) ∙ ap (λ s. s.entries) c.self.view_is)

pub returns-in-None-clause-many : goal.returns-in-None-clause-many
returns-in-None-clause-many t c =
    let d = c.self.inside.depth in
    let part = c.in-Thin.part.value in
    let shape : IsThin d c.in-Thin.path part = rw c.in-Thin.is at c.self.invariant.shaped in
    let depth : d ≡ c.args.self.now.depth = ap (λ s. s.depth) c.self.view_is in
    let stands : c.behind-part.inside.depth ≡ part.depth = ap (λ s. s.depth) (c.behind-part.view_is ∙ c.deref.ensures) in
    let same : same_digits (part.depth - d) d c.args.address.now c.in-Thin.path ≡ true =
    subst (λ n. same_digits (n - d) d c.args.address.now c.in-Thin.path ≡ true) stands c.in-None.ensures.none in
    let many : 2 ≤ length c.args.self.now.entries = omega (arith, c.self.invariant.sized, ap (λ s. length s.entries) c.self.view_is, c.if-self-lt2.false) in
    crowded_thin c.foot-in-None.result.0 d c.args.self.now.depth c.args.address.now c.in-Thin.path c.args.self.now.entries part shape same depth
    (ap entries_of (sym c.in-Thin.is) ∙ ap (λ s. s.entries) c.self.view_is) many
    (subst (λ s. Crowded c.foot-in-None.result.0 s.depth c.args.address.now s.entries) c.deref-in-None.ensures c.foot-in-None.ensures.many)

pub returns-in-None-clause-lone : goal.returns-in-None-clause-lone
returns-in-None-clause-lone t c =
    let d = c.self.inside.depth in
    let a = c.args.address.now in
    let n = c.foot-in-None.result.0 in
    let part = c.in-Thin.part.value in
    let shape : IsThin d c.in-Thin.path part = rw c.in-Thin.is at c.self.invariant.shaped in
    let depth : d ≡ c.args.self.now.depth = ap (λ s. s.depth) c.self.view_is in
    let stands : c.behind-part.inside.depth ≡ part.depth = ap (λ s. s.depth) (c.behind-part.view_is ∙ c.deref.ensures) in
    let same : same_digits (part.depth - d) d a c.in-Thin.path ≡ true =
    subst (λ n. same_digits (n - d) d a c.in-Thin.path ≡ true) stands c.in-None.ensures.none in
    let here = c.deref-in-None.result.now in
    let deep : part.depth ≤ n = omega (arith, ap (λ s. s.depth) c.deref-in-None.ensures, c.foot-in-None.ensures.low) in
    subst (λ xs. MatchOption c.foot-in-None.result.1 (xs ≡ []) (λ e. xs ≡ (e.0, e.1.now) ∷ []))
    (ap (λ s. shares n s.depth a s.entries) c.deref-in-None.ensures
    ∙ shares_in n d c.in-Thin.path c.args.self.now.depth a c.args.self.now.entries part shape same deep depth
    (ap entries_of (sym c.in-Thin.is) ∙ ap (λ s. s.entries) c.self.view_is))
    c.foot-in-None.ensures.lone

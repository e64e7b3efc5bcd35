-- No entry has the prefix's digits where the lone part's address has others.
use Rattle.std.proofs.Common.{◌++◌, IfSome, sym, ap, subst, ◌∙◌, append-nil}
use Rattle.spl_state.{specs.{Entries.covered, Runs.IsOtherDigit, Kept.{IsThin, entries_of}}, proofs.Covers.covered_other}
use Rattle.spl_state.proofs.tree.Tree.+collect.Goals as goal

pub returns-then-is_some : goal.returns-then-is_some
returns-then-is_some t c =
    let d = c.self.inside.depth in
    let p = c.args.prefix.now in
    let path = c.in-Thin.path in
    let part = c.in-Thin.part.value in
    let out = c.args.out.now.items in
    let shape : IsThin d path part = rw c.in-Thin.is at c.self.invariant.shaped in
    let apart =
    subst (λ n. IfSome c.first_apart.result (λ k. IsOtherDigit d n p path k))
    (ap (λ s. s.depth) (c.behind-part.view_is ∙ c.deref.ensures)) c.first_apart.ensures in
    let entries = ap entries_of (sym c.in-Thin.is) ∙ ap (λ s. s.entries) c.self.view_is in
    sym (ap (λ es. out ++ covered p es) (sym entries)
    ∙ ap (λ r. out ++ r) (covered_other p d part.depth path part.entries c.first_apart.result
    (sym c.is_some.ensures ∙ c.if-is_some.true) apart shape.digits) ∙ append-nil out)

-- A lone part stands lower still, and a lone entry keeps its digest.
use Rattle.std.proofs.Common.{◌≡◌, ◌<◌, ◌≤◌, true, IfSome, is_some, sym, ap, subst, ◌∙◌, arith}
use Rattle.spl_state.{specs.Kept.{IsKept, thin_run}, proofs.{Thin.{kept_lower, no_run}, tree.Tree.lowered.Goals.{in-Thin+else-deref-to, in_default}}}
use Rattle.spl_state.proofs.tree.Tree.lowered.Goals.{then-fresh, else-fresh}
use Rattle.spl_state.proofs.tree.Tree.lowered.Goals as goal

pub invariant_of-result : goal.invariant_of-result
invariant_of-result c =
    let d = c.self.inside.depth in
    let low : d < c.args.to = subst (λ s. s.depth < c.args.to) (sym c.self.view_is) c.requires.low in
    let few = subst (λ s. s.inner ≡ true → is_some s.thin ≡ true) (sym c.self.view_is) c.requires.stands.few in
    let within = subst (λ s. IfSome s.thin (λ r. c.args.to ≤ r.end)) (sym c.self.view_is) c.requires.stands.above in
    let same : c.match-body.body ≡ c.self.inside.body =
    elim c.match-body.branch [ in-Thin+else-deref-to w ↦ w.body-is ∙ sym w.in-Thin.is | in_default w ↦ w.body-is ] in
    let above : IfSome (thin_run c.self.inside.body) (λ r. c.args.to < r.end) = elim c.match-body.branch [
      | in-Thin+else-deref-to w ↦
          let stands : w.behind-part.inside.depth ≡ w.in-Thin.part.value.depth = ap (λ s. s.depth) (w.behind-part.view_is ∙ w.deref.ensures) in
          let here : c.args.to ≤ w.in-Thin.part.value.depth = rw w.in-Thin.is at within in
          let lower : c.args.to < w.in-Thin.part.value.depth = omega (arith, here, stands, w.if-deref-to.false) in
          rw w.in-Thin.is lower
      | in_default w ↦ no_run (λ r. c.args.to < r.end) c.self.inside.body w.in_default.not-Thin
    ] in
    let keeps : c.if-fresh.result ≡ true → (c.self.inside.fresh ≡ true) × (c.self.inside.size < 2) = elim c.if-fresh.branch [
      | then-fresh w ↦ λ t. (w.if-fresh.true, grind (arith, w.result-is, t))
      | else-fresh w ↦ λ t. absurd (grind (arith, w.result-is, t))
    ] in
    subst (IsKept c.args.to c.self.inside.size c.if-fresh.result c.self.inside.digest) (sym same)
    (kept_lower d c.args.to c.self.inside.size c.self.inside.fresh c.if-fresh.result c.self.inside.digest c.self.inside.body
    (omega arith) few above keeps c.self.invariant)

use Rattle.std.{specs.Prelude.slice_index, proofs.Common.{◌≡◌, ℕ, List, length, nat_eq, Fits, w8, sym, ap, subst, ◌∙◌, rules, arith}}
use Rattle.spl_base.{specs.Cells.spelled_from, proofs.{Heads.{same_prefix, same_by_lasts}, short.ShortPartialEq.eq.Goals.{then-self-other, else-self-other}}}
use Rattle.spl_base.proofs.short.ShortPartialEq.eq.Goals as goal

pub returns-then-head : goal.returns-then-head
returns-then-head g c =
    let xs : List ℕ = c.args.self.now in
    let ys : List ℕ = c.args.other.now in
    let these : (k : ℕ) → Fits w8 (slice_index xs k) = λ k. subst (λ (l : List ℕ). Fits w8 (slice_index l k)) c.bytes-these.ensures.value (search rules) in
    let those : (k : ℕ) → Fits w8 (slice_index ys k) = λ k. subst (λ (l : List ℕ). Fits w8 (slice_index l k)) c.bytes-those.ensures.value (search rules) in
    let same : (c.self.inside.len ≡ c.other.inside.len) × (spelled_from xs 0 8 0 ≡ spelled_from ys 0 8 0) = elim c.if-self-other.branch [
      | then-self-other w ↦ (w.if-self-other.true, sym w.head.ensures ∙ grind (arith, w.value-is, c.if-head.true) ∙ w.head-then-self-other.ensures)
      | else-self-other w ↦ absurd (grind (arith, w.value-is, c.if-head.true))
    ] in
    let one : length xs ≡ c.self.inside.len = sym (ap length c.self.view_is) ∙ c.self.invariant.1 in
    let two : length ys ≡ c.other.inside.len = sym (ap length c.other.view_is) ∙ c.other.invariant.1 in
    let heads = same_prefix xs ys these those same.1 in
    (λ i. nat_eq (c.last.ensures i) (c.last-then-head.ensures i))
    ∙ same_by_lasts g.row.CAP xs ys these those (omega (arith, c.if-this-lt8.false)) c.if-this-le16.true heads
    (one ∙ same.0 ∙ sym two) c.bytes-these.ensures.len

-- The halves of a byte at the ends, and whole bytes between.
use Rattle.std.proofs.Common.{◌≡◌, ◌≤◌, ◌*◌, ◌/◌, ◌-◌, ◌&&◌, false, sym, ap, ◌∙◌, arith}
use Rattle.spl_state.{specs.Digits.same_digits, proofs.{Digits.same_thirds, address.Address.same_between.Goals.{then-same_digits, else-same_digits}}}
use Rattle.spl_state.proofs.address.Address.same_between.Goals as goal

pub returns-then-same_bytes : goal.returns-then-same_bytes
returns-then-same_bytes c =
    let a = c.args.self.now in
    let b = c.args.other.now in
    let k = c.div_ceil-first.result * 2 in
    let l = c.args.to / 2 * 2 in
    let low : c.args.from ≤ k = omega (arith, c.div_ceil-first.ensures) in
    let mid : k ≤ l = omega (arith, c.if-last-first.false) in
    let thirds = same_thirds c.args.from k l c.args.to a b low mid (omega arith) in
    let rest = same_digits (c.args.to - l) l a b in
    let both : (same_digits (k - c.args.from) c.args.from a b && (same_digits (l - k) k a b && rest)) ≡ rest = elim c.if-same_digits.branch [
      | then-same_digits w ↦
          ap (λ t. t && (same_digits (l - k) k a b && rest)) (sym c.same_digits-2.ensures ∙ w.if-same_digits.true)
          ∙ ap (λ t. t && rest) (sym w.same_bytes.ensures ∙ sym w.value-is ∙ c.if-same_bytes.true)
      | else-same_digits w ↦ absurd (grind (arith, w.value-is, c.if-same_bytes.true))
    ] in
    c.same_digits-then-same_bytes.ensures ∙ sym (thirds ∙ both)

pub returns-else-same_bytes : goal.returns-else-same_bytes
returns-else-same_bytes c =
    let a = c.args.self.now in
    let b = c.args.other.now in
    let k = c.div_ceil-first.result * 2 in
    let l = c.args.to / 2 * 2 in
    let low : c.args.from ≤ k = omega (arith, c.div_ceil-first.ensures) in
    let mid : k ≤ l = omega (arith, c.if-last-first.false) in
    let thirds = same_thirds c.args.from k l c.args.to a b low mid (omega arith) in
    let rest = same_digits (c.args.to - l) l a b in
    let none : (same_digits (k - c.args.from) c.args.from a b && (same_digits (l - k) k a b && rest)) ≡ false = elim c.if-same_digits.branch [
      | then-same_digits w ↦
          ap (λ t. t && (same_digits (l - k) k a b && rest)) (sym c.same_digits-2.ensures ∙ w.if-same_digits.true)
          ∙ ap (λ t. t && rest) (sym w.same_bytes.ensures ∙ sym w.value-is ∙ c.if-same_bytes.false)
      | else-same_digits w ↦ ap (λ t. t && (same_digits (l - k) k a b && rest)) (sym c.same_digits-2.ensures ∙ w.if-same_digits.false)
    ] in
    c.if-same_bytes.false ∙ sym (thirds ∙ none)

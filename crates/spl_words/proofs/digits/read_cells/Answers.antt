use Rattle.std.proofs.{Common.{◌≡◌, ◌*◌, length, length-set, sym, ◌∙◌, arith}, lemmas.Bool.Decides.nat_tests}
use Rattle.spl_words.proofs.{Cells.{cell_more, half_read}, HexDigits.no_digits, digits.read_cells.Goals.then-digits-ne0-via-then-digits-ne0}
use Rattle.spl_words.proofs.digits.read_cells.Goals.{then-digits-ne0-via-else-digits-ne0+then-digits-cells}
use Rattle.spl_words.proofs.digits.read_cells.Goals as goal

pub returns-then-digits-ne0-clause-unread : goal.returns-then-digits-ne0-clause-unread
returns-then-digits-ne0-clause-unread c = λ _ bytes is same.
    let long = half_read c.args.digits.now bytes is in
    elim c.then-digits-ne0.branch [
      | then-digits-ne0-via-then-digits-ne0 w ↦ let odd = w.if-digits-ne0.true in grind (arith, nat_tests)
      | then-digits-ne0-via-else-digits-ne0+then-digits-cells w ↦ let other = w.if-digits-cells.true in grind (arith, nat_tests)
    ]

pub returns-then-not-are_digits-clause-unread : goal.returns-then-not-are_digits-clause-unread
returns-then-not-are_digits-clause-unread c = λ _ bytes is _. cc (is, no_digits c.args.digits.now (sym c.are_digits.ensures ∙ c.if-not-are_digits.true))

pub loop-i-preserved : goal.loop-i-preserved
loop-i-preserved c =
    let even = c.if-digits-ne0.false in
    let sized = c.if-digits-cells.false in
    let same = c.loop-i.invariant.0 in
    let below = c.loop-i-test.true in
    let twice : length c.args.digits.now ≡ 2 * length c.loop-i.cells = grind (arith, nat_tests) in (
      length-set c.loop-i.cells c.loop-i.i _ ∙ same,
      cell_more c.args.digits.now c.loop-i.cells c.loop-i.i c.value_of.result c.value_of-in-loop-i.result twice (grind (arith, nat_tests))
          c.value_of.ensures.value c.value_of-in-loop-i.ensures.value c.loop-i.invariant.1,
    )

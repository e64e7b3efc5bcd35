-- Digit by digit.
use Rattle.std.proofs.Common.{sym, ◌∙◌}
use Rattle.spl_proof.proofs.Digits.{digits_apart, digits_next}
use Rattle.spl_proof.proofs.accept.same_first.Goals as goal

pub returns-then-digit : goal.returns-then-digit
returns-then-digit c = (
  λ e. absurd cc,
  λ e. absurd (digits_apart c.args.digits c.loop-k.k c.args.a.now.0 c.args.b.now.0 c.loop-k-test.true
      (λ same. c.if-digit.true (c.digit.ensures.value ∙ same ∙ sym c.digit-in-loop-k.ensures.value)) e),
)

pub loop-k-preserved : goal.loop-k-preserved
loop-k-preserved c =
    digits_next c.loop-k.k c.args.a.now.0 c.args.b.now.0 c.loop-k.invariant (sym c.digit-in-loop-k.ensures.value ∙ sym c.if-digit.false ∙ c.digit.ensures.value)

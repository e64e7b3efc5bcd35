use Rattle.std.{specs.Result.result_ok, proofs.Common.{List, ℕ, Some, Result, sym, ap, ◌∙◌, subst}}
use Rattle.hex.specs.declared.error.FromHexError.{FromHexError}
use Rattle.spl_words.{specs.{Words.{Fails, read_hex_string}, declared.fault.LineFault.LineFault}, proofs.HexDigits.{read_is_decode, no_digits, unread}}
use Rattle.spl_words.proofs.digits.read_bytes.Goals as goal

pub returns-then-not-are_digits : goal.returns-then-not-are_digits
returns-then-not-are_digits c = no_digits c.args.digits.now (sym c.are_digits.ensures ∙ c.if-not-are_digits.true)

pub returns-in-Ok : goal.returns-in-Ok
returns-in-Ok c =
    sym (read_is_decode c.args.digits.now (sym c.are_digits.ensures ∙ c.if-not-are_digits.false))
    ∙ ap (λ (r : Result (List ℕ) FromHexError). result_ok r) c.in-Ok.ensures.ok
    ∙ ap (λ (l : List ℕ). Some l) (sym c.from_vec.ensures)

pub returns-in-Err : goal.returns-in-Err
returns-in-Err c =
    let lower = sym c.are_digits.ensures ∙ c.if-not-are_digits.false in
    subst (λ (f : LineFault). Fails f (read_hex_string c.args.digits.now)) (sym c.from.ensures)
    (unread c.args.digits.now c.in-Err.fault lower c.in-Err.ensures.err)

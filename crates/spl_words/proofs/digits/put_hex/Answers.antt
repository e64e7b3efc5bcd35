use Rattle.std.{specs.Result.OnOk, proofs.Common.{◌≡◌, List, ℕ, ◌++◌, ap, ◌∙◌, arith, subst}}
use Rattle.hex.specs.Hex.{encode_lower}
use Rattle.spl_words.{specs.Words.hex_byte, proofs.HexDigits.byte_is_encode}
use Rattle.spl_words.proofs.digits.put_hex.Goals as goal

pub returns : goal.returns
returns c =
    let wrote : c.encode_to_slice.new.output ≡ encode_lower c.as_slice.result.now = rw c.unwrap.ensures at c.encode_to_slice.ensures.written in
    let spelled : c.encode_to_slice.new.output ≡ hex_byte c.args.b = wrote ∙ ap encode_lower c.as_slice.ensures ∙ byte_is_encode c.args.b (omega arith) in
    subst (λ (l : List ℕ). OnOk c.put_raw.result (c.put_raw.new.self ≡ c.args.w.now ++ l)) spelled c.put_raw.ensures.ok

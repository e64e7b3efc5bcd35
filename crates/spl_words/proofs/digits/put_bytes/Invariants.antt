use Rattle.std.{specs.List.flat_map, proofs.Common.{◌≡◌, ◌++◌, take}}
use Rattle.spl_words.specs.Words.{hex_byte}
use Rattle.spl_words.proofs.digits.put_bytes.Given as goal

abbrev pub invariant-loop-b : goal.invariant-loop-b
invariant-loop-b l = l.w ≡ l.fn.w ++ flat_map hex_byte (take l.b-index l.bytes)

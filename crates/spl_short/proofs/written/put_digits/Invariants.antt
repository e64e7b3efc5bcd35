use Rattle.std.{specs.List.flat_map, proofs.Common.{◌≡◌, ◌++◌, take}}
use Rattle.spl_words.specs.Words.{hex_byte}
use Rattle.spl_short.proofs.written.put_digits.Given as goal

abbrev pub invariant-loop-byte : goal.invariant-loop-byte
invariant-loop-byte l = l.out.items ≡ l.fn.out.items ++ flat_map hex_byte (take l.byte-index l.name)

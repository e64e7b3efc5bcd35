use Rattle.std.{specs.List.list_all, proofs.Common.{◌≡◌, ◌&&◌, drop}}
use Rattle.spl_words.specs.HexWords.{is_lower_digit}
use Rattle.spl_words.proofs.digits.are_digits.Given as goal

abbrev pub invariant-loop-b : goal.invariant-loop-b
invariant-loop-b l = (l.all && list_all is_lower_digit (drop l.b-index l.bytes)) ≡ list_all is_lower_digit l.bytes

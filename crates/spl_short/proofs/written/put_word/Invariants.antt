use Rattle.std.proofs.Common.{◌≡◌, drop}
use Rattle.spl_short.specs.Written.{written_word}
use Rattle.spl_short.proofs.written.put_word.Given as goal

abbrev pub invariant-loop-place : goal.invariant-loop-place
invariant-loop-place l = record {
  out : l.out.items ≡ l.fn.out.items;
  same : written_word (drop l.place-index l.places) l.word ≡ written_word l.places l.word;
}

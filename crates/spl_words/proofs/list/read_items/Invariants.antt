use Rattle.std.proofs.Common.{◌≡◌, ◌+◌, ◌≤◌, length}
use Rattle.spl_words.{specs.Words.{split, read_each}, proofs.Items.with_prefix}
use Rattle.spl_words.proofs.list.read_items.Given as goal

abbrev pub invariant-loop-word : goal.invariant-loop-word
invariant-loop-word g l = record {
  read : with_prefix l.items (read_each g.W.Word.word.read l.words) ≡ read_each g.W.Word.word.read (split 44 l.bytes);
  counted : length (split 44 l.bytes) ≡ length l.items + length l.words;
  few : length l.items ≤ 16;
}

abbrev pub decreases-loop-word : goal.decreases-loop-word
decreases-loop-word g l = length l.words

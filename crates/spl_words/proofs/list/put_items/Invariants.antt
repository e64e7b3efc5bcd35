use Rattle.std.{specs.List.join_with_byte, proofs.Common.{◌≡◌, ◌+◌, ◌++◌, map, take}}
use Rattle.spl_words.proofs.list.put_items.Given as goal

abbrev pub invariant-loop-item : goal.invariant-loop-item
invariant-loop-item g l = l.w ≡ l.fn.w ++ join_with_byte 44 (map g.W.Word.word.spell (take (l.item-index + 1) l.items))

use Rattle.std.proofs.Common.{◌≡◌, ◌≤◌, refl, length, arith}
use Rattle.spl_words.{specs.Words.{split, read_each}, proofs.{Splits.some_part, Items.all_read}}
use Rattle.spl_words.proofs.list.read_items.Goals as goal

pub returns : goal.returns
returns g c =
    let read = g.W.Word.word.read in
    let parts = split 44 c.args.bytes.now in
    let low : 1 ≤ length parts = some_part 44 c.args.bytes.now in
    let empty : length c.loop-word.words ≡ 0 = rw c.in_default.ensures refl in
    all_read read c.loop-word.items c.loop-word.words (read_each read parts) (length parts) c.in_default.ensures c.loop-word.invariant.read low
    (omega (arith, empty, c.loop-word.invariant.counted, c.loop-word.invariant.few))

use Rattle.spl_words.proofs.Items.{item_put}
use Rattle.spl_words.proofs.list.put_items.Goals as goal

pub loop-item-preserved : goal.loop-item-preserved
loop-item-preserved g c =
    item_put g.W.Word.word.spell c.args.w.now c.loop-item.w c.put_u8.new.self c.put-in-loop-item.new.w c.args.items.now c.in-Some.others.now
    c.in-Some.first.now c.item-item.result c.loop-item.item-index
    c.in-Some.ensures.cases.0 c.loop-item-test.true c.item-item.is c.loop-item.invariant c.in_ok-put_u8.ensures.ok c.in_ok-put-2.ensures

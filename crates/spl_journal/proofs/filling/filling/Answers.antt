use Rattle.std.proofs.Common.{◌≡◌, ◌∙◌, ◌++◌, List, ℕ, length, take, arith, ap, rules}
use Rattle.spl_journal.{specs.Records.{block, blocks}, proofs.Fills.{good_at, block_more}}
use Rattle.spl_journal.proofs.filling.filling.Goals as goal

pub put_block-requires : goal.put_block-requires
put_block-requires g c =
    let good = good_at g.R.Form.is_record c.args.items.now c.loop-item.item-index c.item-item.result c.requires.good c.loop-item-test.true in
    record { most = omega (arith, good.most, ap length (c.bytes.ensures ∙ c.item-item.is)) }

pub loop-item-preserved : goal.loop-item-preserved
loop-item-preserved g c =
    let wrote : c.put_block.new.piece.items ≡ c.loop-item.piece.items ++ block c.bytes.result.now = search rules in
    wrote ∙ ap (λ (l : List ℕ). l ++ block c.bytes.result.now) c.loop-item.invariant
    ∙ ap (λ (l : List ℕ). blocks (take c.loop-item.item-index c.args.items.now) ++ block l) c.bytes.ensures
    ∙ block_more c.args.items.now c.loop-item.item-index c.item-item.result c.loop-item-test.true c.item-item.is

use Rattle.std.{specs.Prelude.IfOk, proofs.{Common.{◌≡◌, ◌<◌, true, false, length, arith, refl, sym, subst}, lemmas.Option.slice_get_read}}
use Rattle.spl_node.{specs.{Blank.{AreEmpty, HaveBytes}, Benches.Images}, proofs.{Holding.images_stay, Benches.{one_onward, own_images, one_rose, one_else}}}
use Rattle.spl_node.proofs.blank.are_empty_at.Goals as goal

pub returns : goal.returns
returns g c =
    let view = g.E.Disk.view in
    let ps = c.args.pairs.now.items in
    let place = c.from.result in
    let old = c.index_mut.result.now in
    let new = c.are_empty.new.pair in
    let below : place < length ps = omega (arith, c.from.ensures, c.requires) in
    let there = slice_get_read ps (length ps) place old refl below c.index_mut.ensures.value in
    let own = sym (own_images view ps place old there c.args.slot c.from.ensures) in
    record {
      empty = subst (λ (is : Images). IfOk c.are_empty.result (λ empty. empty ≡ true → AreEmpty is)) own c.are_empty.ensures.empty;
      bytes = subst (λ (is : Images). IfOk c.are_empty.result (λ empty. empty ≡ false → HaveBytes is)) own c.are_empty.ensures.bytes;
      same = images_stay view ps place old new there c.are_empty.ensures.same;
      onward = one_onward view ps place old new there c.are_empty.ensures.onward;
      failed = λ failed. one_rose view ps place old new there c.args.slot c.from.ensures (c.are_empty.ensures.failed failed);
      others = one_else view ps place c.args.slot new c.from.ensures;
    }

use Rattle.std.proofs.{Common.{◌<◌, length, Some, arith, ap, refl, sym, ◌∙◌}, lemmas.Option.slice_get_read}
use Rattle.spl_node.specs.Stands.{IsPeeked}
use Rattle.spl_audit.{specs.Runs.HaveNone, proofs.Benches.{all_stay, hold_own, others_stay, own, rose_own}}
use Rattle.spl_audit.proofs.peeking.peek_at.Goals as goal

pub peek-requires-clause-first : goal.peek-requires-clause-first
peek-requires-clause-first g c =
    let ps = c.args.pairs.now.items in
    let below : c.from.result < length ps = omega (arith, c.from.ensures, c.requires.room) in
    let there = slice_get_read ps (length ps) c.from.result c.index_mut.result.now refl below c.index_mut.ensures.value in
    (c.requires.settled _ (own g.D.Disk.view ps c.from.result c.args.slot c.index_mut.result.now c.from.ensures there)).0

pub peek-requires-clause-second : goal.peek-requires-clause-second
peek-requires-clause-second g c =
    let ps = c.args.pairs.now.items in
    let below : c.from.result < length ps = omega (arith, c.from.ensures, c.requires.room) in
    let there = slice_get_read ps (length ps) c.from.result c.index_mut.result.now refl below c.index_mut.ensures.value in
    (c.requires.settled _ (own g.D.Disk.view ps c.from.result c.args.slot c.index_mut.result.now c.from.ensures there)).1

pub returns-in-Ok-clause-stands : goal.returns-in-Ok-clause-stands
returns-in-Ok-clause-stands g c =
    let ps = c.args.pairs.now.items in
    let below : c.from.result < length ps = omega (arith, c.from.ensures, c.requires.room) in
    let there = slice_get_read ps (length ps) c.from.result c.index_mut.result.now refl below c.index_mut.ensures.value in
    record {
      node = c.node.ensures ∙ ap Some (sym c.in-Ok.ensures.here);
      cells = hold_own g.D.Disk.view ps c.from.result c.args.slot c.index_mut.result.now c.from.ensures there (IsPeeked c.in-Ok.node) c.in-Ok.ensures.cells;
      kept = c.is_kept.ensures;
    }

pub returns-in-Ok-clause-stays : goal.returns-in-Ok-clause-stays
returns-in-Ok-clause-stays g c =
    let ps = c.args.pairs.now.items in
    let below : c.from.result < length ps = omega (arith, c.from.ensures, c.requires.room) in
    let there = slice_get_read ps (length ps) c.from.result c.index_mut.result.now refl below c.index_mut.ensures.value in
    all_stay g.D.Disk.view ps c.from.result c.args.slot c.index_mut.result.now c.from.ensures there c.peek.new.disks c.in-Ok.ensures.stays
    c.in-Ok.ensures.onward

pub returns-in-Ok-clause-others : goal.returns-in-Ok-clause-others
returns-in-Ok-clause-others g c = λ k off.
    let ps = c.args.pairs.now.items in
    let below : c.from.result < length ps = omega (arith, c.from.ensures, c.requires.room) in
    let there = slice_get_read ps (length ps) c.from.result c.index_mut.result.now refl below c.index_mut.ensures.value in
    others_stay g.D.Disk.view ps c.from.result c.args.slot c.index_mut.result.now c.from.ensures there c.peek.new.disks k off

pub returns-in-Err-clause-not : goal.returns-in-Err-clause-not
returns-in-Err-clause-not g c = λ at is.
    let ps = c.args.pairs.now.items in
    let below : c.from.result < length ps = omega (arith, c.from.ensures, c.requires.room) in
    let there = slice_get_read ps (length ps) c.from.result c.index_mut.result.now refl below c.index_mut.ensures.value in
    hold_own g.D.Disk.view ps c.from.result c.args.slot c.index_mut.result.now c.from.ensures there (HaveNone at) (c.in-Err.ensures.not at is)

pub returns-in-Err-clause-failed : goal.returns-in-Err-clause-failed
returns-in-Err-clause-failed g c = λ is.
    let ps = c.args.pairs.now.items in
    let below : c.from.result < length ps = omega (arith, c.from.ensures, c.requires.room) in
    let there = slice_get_read ps (length ps) c.from.result c.index_mut.result.now refl below c.index_mut.ensures.value in
    rose_own g.D.Disk.view ps c.from.result c.args.slot c.index_mut.result.now c.from.ensures there c.peek.new.disks c.args.registry.now c.requires.known
    (c.in-Err.ensures.failed is)

pub returns-in-Err-clause-stays : goal.returns-in-Err-clause-stays
returns-in-Err-clause-stays g c =
    let ps = c.args.pairs.now.items in
    let below : c.from.result < length ps = omega (arith, c.from.ensures, c.requires.room) in
    let there = slice_get_read ps (length ps) c.from.result c.index_mut.result.now refl below c.index_mut.ensures.value in
    all_stay g.D.Disk.view ps c.from.result c.args.slot c.index_mut.result.now c.from.ensures there c.peek.new.disks c.peek.ensures.stays c.peek.ensures.onward

pub returns-in-Err-clause-others : goal.returns-in-Err-clause-others
returns-in-Err-clause-others g c = λ k off.
    let ps = c.args.pairs.now.items in
    let below : c.from.result < length ps = omega (arith, c.from.ensures, c.requires.room) in
    let there = slice_get_read ps (length ps) c.from.result c.index_mut.result.now refl below c.index_mut.ensures.value in
    others_stay g.D.Disk.view ps c.from.result c.args.slot c.index_mut.result.now c.from.ensures there c.peek.new.disks k off

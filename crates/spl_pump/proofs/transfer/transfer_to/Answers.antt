use Rattle.std.proofs.{Common.{◌≡◌, ◌-◌, ◌+◌, ◌≤◌, ◌∙◌, length, take, rules, arith}, lemmas.List.length-take-le}
use Rattle.spl_pump.{specs.Moves.GrowsAtMost, proofs.{Lies.err_on, Streams.{at_most_more, part_at, piece_within, put_moved, put_size, taken_into}}}
use Rattle.spl_pump.proofs.transfer.transfer_to.Goals as goal

pub returns-in_err-done-clause-part : goal.returns-in_err-done-clause-part
returns-in_err-done-clause-part g c =
    part_at c.args.from c.args.to c.pieces.done _ c.args.bytes.now c.piece_after-piece.result.now (g.F.Fabric.view c.args.fabric.now).put
    (g.F.Fabric.view c.pieces.fabric).put
    (g.F.Fabric.view c.hand_some.new.fabric).put c.piece_after-piece.ensures c.pieces.invariant.put c.hand_some.ensures.part

pub returns-in_err-done-clause-came : goal.returns-in_err-done-clause-came
returns-in_err-done-clause-came g c =
    let before = c.pieces.invariant in
    let done = c.pieces.done in
    let piece = c.piece_after-piece.result.now in
    let long : length (take done c.pieces.buf) ≡ done = length-take-le done c.pieces.buf (omega (arith, before.within, before.size)) in
    let fits : done + length piece ≤ length c.args.bytes.now = piece_within done _ c.args.bytes.now piece c.piece_after-piece.ensures before.within in
    err_on c.from_residual.result
    (GrowsAtMost c.args.from c.args.to (length c.args.bytes.now) (g.F.Fabric.view c.args.fabric.now).taken (g.F.Fabric.view c.hand_some.new.fabric).taken)
    (at_most_more c.args.from c.args.to (length piece) (length c.args.bytes.now) (take done c.pieces.buf) (g.F.Fabric.view c.args.fabric.now).taken
    (g.F.Fabric.view c.pieces.fabric).taken (g.F.Fabric.view c.hand_some.new.fabric).taken
    before.taken (omega (arith, long, fits)) c.in_err-done.ensures.came)

pub pieces-preserved : goal.pieces-preserved
pieces-preserved g c =
    let before = c.pieces.invariant in
    let done = c.pieces.done in
    let count = c.in_ok-done.field-0 in
    let piece = c.piece_after-piece.result.now in
    let left = length c.pieces.buf - done in
    let long : length c.hand_some.new.buf ≡ left = search rules in
    let start : done ≤ length c.pieces.buf = omega (arith, before.within, before.size) in
    let within : done + left ≤ length c.pieces.buf = omega (arith, start) in
    let le : count ≤ length piece = c.in_ok-done.ensures.count.1 in
    let fits : done + length piece ≤ length c.args.bytes.now = piece_within done _ c.args.bytes.now piece c.piece_after-piece.ensures before.within in
    record {
      within = omega (arith, le, fits);
      size = put_size done left c.pieces.buf c.hand_some.new.buf within long ∙ before.size;
      put = put_moved c.args.from c.args.to done _ count c.args.bytes.now piece (g.F.Fabric.view c.args.fabric.now).put
          (g.F.Fabric.view c.pieces.fabric).put (g.F.Fabric.view c.hand_some.new.fabric).put
          c.piece_after-piece.ensures le before.put c.in_ok-done.ensures.put;
      taken = taken_into c.args.from c.args.to done left count c.pieces.buf c.hand_some.new.buf (g.F.Fabric.view c.args.fabric.now).taken
          (g.F.Fabric.view c.pieces.fabric).taken (g.F.Fabric.view c.hand_some.new.fabric).taken
          start (omega (arith, long, le, fits, before.size)) before.taken c.in_ok-done.ensures.taken;
      all = c.in_ok-done.ensures.all;
      later = search rules;
    }

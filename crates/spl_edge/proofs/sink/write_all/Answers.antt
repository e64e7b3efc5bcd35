use Rattle.std.proofs.{Common.{rules, take-add}, lemmas.List.take_rest, KnownBytes.Appends-trans}
use Rattle.spl_edge.proofs.Pieces.{no_more, a_part}
use Rattle.spl_edge.proofs.sink.write_all.Goals as goal

pub loop-sent-preserved : goal.loop-sent-preserved
loop-sent-preserved g c =
    let wrote = rw take_rest at c.in_ok-count.ensures.written in
    record {
      within = search rules;
      bytes = rw (take-add c.loop-sent.sent c.in_ok-count.count c.args.piece.now) (Appends-trans _ _ _ _ _ c.loop-sent.invariant.bytes wrote);
      later = search rules;
    }

pub returns-in_err-count-clause-part : goal.returns-in_err-count-clause-part
returns-in_err-count-clause-part g c = a_part _ _ c.args.piece.now c.loop-sent.sent (no_more _ _ _ _ c.loop-sent.invariant.bytes c.in_err-count.ensures.written)

pub returns-then-count-eq0-clause-part : goal.returns-then-count-eq0-clause-part
returns-then-count-eq0-clause-part g c =
    let nothing = rw c.if-count-eq0.true at c.in_ok-count.ensures.written in
    a_part _ _ c.args.piece.now c.loop-sent.sent (no_more _ _ _ _ c.loop-sent.invariant.bytes nothing)

pub returns-clause-part : goal.returns-clause-part
returns-clause-part g c = a_part _ _ c.args.piece.now c.loop-sent.sent c.loop-sent.invariant.bytes

use Rattle.std.proofs.{Common.{◌<◌, length, arith, refl, rules}, lemmas.List.take_more_same}
use Rattle.spl_memory.proofs.history.common_first.Goals as goal

pub loop-same-init : goal.loop-same-init
loop-same-init c = record { within = omega arith; same = refl }

pub loop-same-preserved : goal.loop-same-preserved
loop-same-preserved c =
    let first : c.loop-same.same < length c.args.a.now = search rules in
    let second : c.loop-same.same < length c.args.b.now = search rules in
    record {
      within = omega (arith, first);
      same = take_more_same c.args.a.now c.args.b.now c.loop-same.same 0 first second c.loop-same.invariant.same c.if-a-same.true;
    }

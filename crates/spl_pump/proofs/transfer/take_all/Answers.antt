use Rattle.std.proofs.Common.{◌≡◌, ◌-◌, ◌+◌, ◌≤◌, ◌∙◌, length, refl, rules, arith}
use Rattle.spl_pump.proofs.Streams.{put_size, taken_into, due_into}
use Rattle.spl_pump.proofs.transfer.take_all.Goals as goal

pub takes-preserved : goal.takes-preserved
takes-preserved g c =
    let before = c.takes.invariant in
    let at = c.takes.at in
    let count = c.in_ok-count.count in
    let left = length c.takes.buf - at in
    let long : length c.take.new.buf ≡ left = search rules in
    let within : at + left ≤ length c.takes.buf = omega (arith, before.within) in
    let le : count ≤ length c.take.new.buf = search rules in
    record {
      within = omega (arith, put_size at left c.takes.buf c.take.new.buf within long, long, le, before.within);
      size = put_size at left c.takes.buf c.take.new.buf within long ∙ before.size;
      due = due_into (length c.takes.buf) count at left c.takes.buf c.take.new.buf ((g.F.Fabric.view c.takes.fabric).put c.args.from c.args.to)
          ((g.F.Fabric.view c.take.new.self).put c.args.from c.args.to)
          ((g.F.Fabric.view c.takes.fabric).taken c.args.from c.args.to)
          ((g.F.Fabric.view c.take.new.self).taken c.args.from c.args.to) refl within long refl le before.due
          (c.take.ensures.put c.args.from c.args.to) c.in_ok-count.ensures.taken;
      taken = taken_into c.args.from c.args.to at left count c.takes.buf c.take.new.buf (g.F.Fabric.view c.args.fabric.now).taken
          (g.F.Fabric.view c.takes.fabric).taken (g.F.Fabric.view c.take.new.self).taken before.within le before.taken
          (record { here = c.in_ok-count.ensures.taken; others = c.take.ensures.others });
      put = search rules;
      later = search rules;
    }

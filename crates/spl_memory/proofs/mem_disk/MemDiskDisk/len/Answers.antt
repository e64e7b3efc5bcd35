use Rattle.std.proofs.Common.{length, ap, arith}
use Rattle.spl_edge.specs.Devices.{settled_at}
use Rattle.spl_memory.{specs.Histories.calls_in, proofs.{Kept.{told_same, later_all}, Told.known_told}}
use Rattle.spl_memory.proofs.mem_disk.MemDiskDisk.len.Goals as goal

pub invariant_of-self : goal.invariant_of-self
invariant_of-self c =
    record {
      held = c.args.self.now.held;
      timely = later_all c.args.self.now.calls.moment c.begin.new.self.moment
          (calls_in c.args.self.now.history) c.args.self.now.timely c.begin.ensures.passes.later;
    }

pub returns-in-Err-clause-same : goal.returns-in-Err-clause-same
returns-in-Err-clause-same c =
    (told_same (settled_at c.args.self.now.first.items)
    (calls_in c.args.self.now.history) c.args.self.now.calls.moment c.begin.new.self.moment c.args.self.now.timely c.begin.ensures.passes.later)

pub returns-clause-same : goal.returns-clause-same
returns-clause-same c =
    (told_same (settled_at c.args.self.now.first.items)
    (calls_in c.args.self.now.history) c.args.self.now.calls.moment c.begin.new.self.moment c.args.self.now.timely c.begin.ensures.passes.later)

pub returns-clause-length : goal.returns-clause-length
returns-clause-length c =
    let known = known_told (settled_at c.args.self.now.first.items)
    (calls_in c.args.self.now.history) c.args.self.now.calls.moment c.args.self.now.history.bytes.items c.args.self.now.timely c.args.self.now.held.bytes_are
    in omega (arith, ap length known, ap length c.bytes.ensures)

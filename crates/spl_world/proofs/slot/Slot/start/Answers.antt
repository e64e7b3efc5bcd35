use Rattle.spl_node.specs.Benches.{images_of}
use Rattle.spl_world.{specs.Views.{node_view, slot_id}, proofs.{Common.ap, Ending.host_kept, NodeCalls.{broken, ends_broken, ends_done, unread_broken}}}
use Rattle.spl_world.proofs.slot.Slot.start.Goals as goal

-- ---- it came up

pub returns-in-Ok-clause-comes : goal.returns-in-Ok-clause-comes
returns-in-Ok-clause-comes g c =
    let h = c.start.ensures in
    record {
      up = c.in-Ok.ensures.up;
      cells = c.in-Ok.ensures.cells;
      stands = c.in-Ok.ensures.stands;
      tells = c.in-Ok.ensures.told;
      leaves = λ tell. host_kept g.D.Disk.view (slot_id c.args.self.now)
          (node_view c.args.self.now (images_of g.D.Disk.view c.args.disks.now)).cells c.args.disks.now c.start.new.disks tell.0 tell.1
          h.onward.first.later h.onward.second.later h.any_moment (g.met.D.Disk.possible c.start.new.disks.first) (g.met.D.Disk.possible c.start.new.disks.second);
    }

pub returns-in-Ok-clause-ends : goal.returns-in-Ok-clause-ends
returns-in-Ok-clause-ends g c = ends_done _ _ _ c.start.ensures.onward

pub returns-in-Ok-clause-journal : goal.returns-in-Ok-clause-journal
returns-in-Ok-clause-journal g c = record { sound = λ tell slot at q. cc; place = λ slot at q. absurd cc }

-- ---- its journal failed

pub returns-in-Err-clause-comes : goal.returns-in-Err-clause-comes
returns-in-Err-clause-comes g c =
    let h = c.start.ensures in
    record {
      up = tt;
      cells = tt;
      stands = tt;
      tells = tt;
      leaves = λ tell. host_kept g.D.Disk.view (slot_id c.args.self.now)
          (node_view c.args.self.now (images_of g.D.Disk.view c.args.disks.now)).cells c.args.disks.now c.start.new.disks tell.0 tell.1
          h.onward.first.later h.onward.second.later h.any_moment (g.met.D.Disk.possible c.start.new.disks.first) (g.met.D.Disk.possible c.start.new.disks.second);
    }

pub returns-in-Err-clause-ends : goal.returns-in-Err-clause-ends
returns-in-Err-clause-ends g c =
    let fault = c.journal_fault.ensures in
    ends_broken c.journal_fault.result c.in-Err.fault _ _ _ fault.disk fault.few fault.unlinked c.in-Err.ensures.failed c.in-Err.ensures.onward

pub returns-in-Err-clause-journal : goal.returns-in-Err-clause-journal
returns-in-Err-clause-journal g c =
    let journal = c.journal_fault.ensures.journal in
    record {
      sound = λ tell slot at q. c.in-Err.ensures.not tell at (ap (broken (Unit {0})) (unread_broken c.journal_fault.result c.in-Err.fault _ slot at journal q).1);
      place = λ slot at q. (unread_broken c.journal_fault.result c.in-Err.fault _ slot at journal q).0;
    }

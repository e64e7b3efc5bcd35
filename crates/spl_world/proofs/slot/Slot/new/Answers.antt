use Rattle.spl_world.proofs.{Common.{inl, rules}, NodeCalls.{ends_broken, first_onward, second_told, sound_broken, sound_done}}
use Rattle.spl_world.proofs.slot.Slot.new.Goals as goal

pub returns-in-Ok-clause-made : goal.returns-in-Ok-clause-made
returns-in-Ok-clause-made g c = record {
  fresh = record { up = c.in-Ok.ensures.up; empty = λ is. c.in-Ok.ensures.empty is.0 is.1; silent = search rules };
  stands = c.in-Ok.ensures.stands;
  tells = (c.in-Ok.ensures.told_first, second_told g.D.Disk.view c.args.disks.now c.new.new.disks c.new.ensures.second);
}

pub returns-in-Ok-clause-ends : goal.returns-in-Ok-clause-ends
returns-in-Ok-clause-ends g c = sound_done _ _ _ (first_onward g.D.Disk.view c.args.disks.now c.new.new.disks c.new.ensures.second c.new.ensures.on_first)

pub returns-in-Err-clause-ends : goal.returns-in-Err-clause-ends
returns-in-Err-clause-ends g c =
    let fault = c.journal_fault.ensures in
    record {
      at = ends_broken c.journal_fault.result c.in-Err.fault _ _ _ fault.disk fault.few fault.unlinked (λ q. inl (c.in-Err.ensures.failed q))
          (first_onward g.D.Disk.view c.args.disks.now c.new.new.disks c.new.ensures.second c.new.ensures.on_first);
      sound = sound_broken c.journal_fault.result c.in-Err.fault fault.sound c.in-Err.ensures.not;
    }

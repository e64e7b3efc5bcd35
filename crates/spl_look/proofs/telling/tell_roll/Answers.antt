use Rattle.std.proofs.Common.{◌≡◌, Err, ap}
use Rattle.spl_edge.specs.Devices.{image_now}
use Rattle.spl_journal.specs.declared.form.JournalFault.TheVariants as fault
use Rattle.spl_look.proofs.Told.{both_rolled}
use Rattle.spl_look.proofs.telling.tell_roll.Goals as goal

pub returns-clause-told : goal.returns-clause-told
returns-clause-told g c =
    both_rolled c.args.here c.in-Ok.keeper c.in_ok-ids.ids c.in-Ok.ensures.here c.in_ok-ids.ensures.sorted c.in_ok-ids.ensures.bound
    (image_now (g.D.Disk.view c.args.disks.now.first)) (image_now (g.D.Disk.view c.args.disks.now.second)) c.in-Ok.ensures.cells

pub returns-in-Err-clause-reads : goal.returns-in-Err-clause-reads
returns-in-Err-clause-reads g c = record {
  not = λ at is. let same : c.in-Err.fault ≡ fault.NotAJournal at = cc in c.in-Err.ensures.not at (ap Err same);
  failed = λ is. let same : c.in-Err.fault ≡ fault.Disk = cc in c.in-Err.ensures.failed (ap Err same);
  stays = c.in-Err.ensures.stays;
  onward = c.in-Err.ensures.onward;
}

use Rattle.std.proofs.Common.{IfSome, subst, sym}
use Rattle.spl_edge.specs.Devices.{image_now}
use Rattle.spl_journal.specs.{Clear.IsAtRest, Journals.Walks, Records.Walking}
use Rattle.spl_snapshot.{specs.{Anew.IsBelow, Counting.chosen}, proofs.{Checkpoints.walking_below, Findings.{if_map, other_now, rest_walked}}}
use Rattle.spl_snapshot.proofs.walking.PairWalk.carry_over.Goals as goal

pub write_other-requires-clause-below : goal.write_other-requires-clause-below
write_other-requires-clause-below g c =
    if_map (chosen c.args.self.second (image_now (g.D.Disk.view c.args.disks.now.first)) (image_now (g.D.Disk.view c.args.disks.now.second)))
    (Walks g.R.Form.is_record c.args.self.walk) (IsBelow g.R.Form.is_record c.next_epoch-epoch.result) c.requires.walks.counting
    (walking_below g.R.Form.is_record c.args.self.walk.at c.args.self.walk.extent c.args.self.walk.epoch c.next_epoch-epoch.result c.args.self.walk.form
    c.args.self.walk.ended c.requires.ended c.next_epoch-epoch.ensures.last c.next_epoch-epoch.ensures.next)

pub returns-in-Ok-clause-stands : goal.returns-in-Ok-clause-stands
returns-in-Ok-clause-stands g c = record {
  running = c.in-Ok.ensures.fresh.1;
  counting = c.in-Ok.ensures.stands;
  other = other_now g.D.Disk.view c.args.self.second c.args.disks.now.first c.args.disks.now.second c.write_other.new.disks.first
      c.write_other.new.disks.second (IsAtRest c.extent.result) c.write_other.ensures.counting
      (rest_walked g.R.Form.is_record c.args.self.walk.at c.extent.result c.args.self.walk.epoch c.args.self.walk.form c.args.self.walk.ended
      (chosen c.args.self.second (image_now (g.D.Disk.view c.args.disks.now.first)) (image_now (g.D.Disk.view c.args.disks.now.second)))
      (subst (λ n. IfSome (chosen c.args.self.second (image_now (g.D.Disk.view c.args.disks.now.first))
      (image_now (g.D.Disk.view c.args.disks.now.second)))
      (Walking g.R.Form.is_record c.args.self.walk.at n c.args.self.walk.epoch c.args.self.walk.form c.args.self.walk.ended))
      (sym c.extent.ensures) c.requires.walks.counting));
  counts = c.in-Ok.ensures.counts;
}

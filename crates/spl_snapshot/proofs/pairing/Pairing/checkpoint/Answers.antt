use Rattle.std.proofs.Common.{◌+◌, ap, rules}
use Rattle.spl_edge.specs.Devices.{image_now}
use Rattle.spl_journal.specs.Journals.{Stands}
use Rattle.spl_snapshot.{specs.{Anew.IsBelow, Counting.chosen}, proofs.{Checkpoints.standing_below, Findings.{if_both, if_map}}}
use Rattle.spl_snapshot.proofs.pairing.Pairing.checkpoint.Goals as goal

pub write_other-requires-clause-below : goal.write_other-requires-clause-below
write_other-requires-clause-below g c =
    if_map (chosen c.args.self.now.second (image_now (g.D.Disk.view c.args.disks.now.first)) (image_now (g.D.Disk.view c.args.disks.now.second)))
    (Stands g.R.Form.is_record c.args.self.now.journal) (IsBelow g.R.Form.is_record (c.epoch-epoch.result + 1)) c.requires.stands.counting
    (standing_below g.R.Form.is_record c.args.self.now.journal.end c.args.self.now.journal.extent c.args.self.now.journal.epoch (c.epoch-epoch.result + 1)
    (ap (λ n. n + 1) c.epoch-epoch.ensures))

pub returns-clause-leaves : goal.returns-clause-leaves
returns-clause-leaves g c = record {
  any_moment = search rules;
  after = if_both (image_now (g.D.Disk.view c.args.disks.now.first)) (image_now (g.D.Disk.view c.args.disks.now.second)) _ c.in-Ok.ensures.after;
  told = search rules;
  stands = search rules;
}

use Rattle.std.proofs.Common.{◌≡◌, Err}
use Rattle.spl_edge.specs.Devices.{image_now}
use Rattle.spl_snapshot.specs.Counting.{pair_records}
use Rattle.spl_node.{specs.Records.is_record, proofs.{Peeking.both_none, Walking.{both_still, still_holds}}}
use Rattle.spl_node.proofs.keeper.Keeper.peek.Goals as goal

pub returns-clause-not : goal.returns-clause-not
returns-clause-not g c = λ at is.
    let told = image_now (g.D.Disk.view c.args.disks.now.first) in
    let other_told = image_now (g.D.Disk.view c.args.disks.now.second) in
    let tells = image_now (g.D.Disk.view c.are_blank.new.disks.first) in
    let other_tells = image_now (g.D.Disk.view c.are_blank.new.disks.second) in
    let same : tells ≡ told =
    still_holds (g.D.Disk.view c.args.disks.now.first) (g.D.Disk.view c.are_blank.new.disks.first) c.in_ok-are_blank.ensures.stays.first in
    let other_same : other_tells ≡ other_told =
    still_holds (g.D.Disk.view c.args.disks.now.second) (g.D.Disk.view c.are_blank.new.disks.second) c.in_ok-are_blank.ensures.stays.second in
    both_none at told other_told (c.in_ok-are_blank.ensures.bytes c.if-branch.false)
    (both_still (λ i j. pair_records is_record i.bytes j.bytes ≡ Err at) told other_told tells other_tells same other_same (c.peek_journal.ensures.not at is))

use Rattle.std.proofs.Common.{◌≡◌, Err}
use Rattle.spl_edge.specs.Devices.{image_now, pair_view}
use Rattle.spl_snapshot.specs.Counting.{pair_records}
use Rattle.spl_node.{specs.{Stands.IsRead, Records.is_record}, proofs.{Hosting.read_made, Opened.{hold_still, opened_still, pair_stays_join}}}
use Rattle.spl_node.proofs.{Peeking.both_none, Starting.bytes_read, Walking.{both_still, handed_on, still_holds}}
use Rattle.spl_node.proofs.host.Host.open.Goals as goal

pub returns-in_err-node-clause-not : goal.returns-in_err-node-clause-not
returns-in_err-node-clause-not g c = λ at is.
    let told = image_now (g.D.Disk.view c.args.disks.now.first) in
    let other_told = image_now (g.D.Disk.view c.args.disks.now.second) in
    let tells = image_now (g.D.Disk.view c.are_blank.new.disks.first) in
    let other_tells = image_now (g.D.Disk.view c.are_blank.new.disks.second) in
    let same : tells ≡ told =
    still_holds (g.D.Disk.view c.args.disks.now.first) (g.D.Disk.view c.are_blank.new.disks.first) c.in_ok-are_blank.ensures.stays.first in
    let other_same : other_tells ≡ other_told =
    still_holds (g.D.Disk.view c.args.disks.now.second) (g.D.Disk.view c.are_blank.new.disks.second) c.in_ok-are_blank.ensures.stays.second in
    both_none at told other_told (c.in_ok-are_blank.ensures.bytes c.if-branch.false)
    (both_still (λ i j. pair_records is_record i.bytes j.bytes ≡ Err at) told other_told tells other_tells same other_same
    (c.in_err-node.ensures.not at (handed_on c.from_residual-in_err-node.result _ _ c.from_residual-in_err-node.ensures is)))

pub returns-clause-cells : goal.returns-clause-cells
returns-clause-cells g c = λ tell first second circuit.
    let told = image_now (g.D.Disk.view c.args.disks.now.first) in
    let other_told = image_now (g.D.Disk.view c.args.disks.now.second) in
    let tells = image_now (g.D.Disk.view c.are_blank.new.disks.first) in
    let other_tells = image_now (g.D.Disk.view c.are_blank.new.disks.second) in
    let same : tells ≡ told =
    still_holds (g.D.Disk.view c.args.disks.now.first) (g.D.Disk.view c.are_blank.new.disks.first) c.in_ok-are_blank.ensures.stays.first in
    let other_same : other_tells ≡ other_told =
    still_holds (g.D.Disk.view c.args.disks.now.second) (g.D.Disk.view c.are_blank.new.disks.second) c.in_ok-are_blank.ensures.stays.second in
    read_made c.args.id c.in_ok-node.node.cells told other_told c.in_ok-node.ensures.here tell.0 tell.1
    (both_still (λ i j. IsRead c.in_ok-node.node.cells i.bytes j.bytes) told other_told tells other_tells same other_same c.in_ok-node.ensures.cells) circuit

pub returns-clause-journal : goal.returns-clause-journal
returns-clause-journal g c =
    let told = image_now (g.D.Disk.view c.args.disks.now.first) in
    let other_told = image_now (g.D.Disk.view c.args.disks.now.second) in
    let tells = image_now (g.D.Disk.view c.are_blank.new.disks.first) in
    let other_tells = image_now (g.D.Disk.view c.are_blank.new.disks.second) in
    let same : tells ≡ told =
    still_holds (g.D.Disk.view c.args.disks.now.first) (g.D.Disk.view c.are_blank.new.disks.first) c.in_ok-are_blank.ensures.stays.first in
    let other_same : other_tells ≡ other_told =
    still_holds (g.D.Disk.view c.args.disks.now.second) (g.D.Disk.view c.are_blank.new.disks.second) c.in_ok-are_blank.ensures.stays.second in
    bytes_read c.in_ok-node.node.cells told other_told (c.in_ok-are_blank.ensures.bytes c.if-branch.false)
    (both_still (λ i j. IsRead c.in_ok-node.node.cells i.bytes j.bytes) told other_told tells other_tells same other_same c.in_ok-node.ensures.cells)

pub returns-in_err-node-clause-still : goal.returns-in_err-node-clause-still
returns-in_err-node-clause-still g c =
    opened_still c.args.id (pair_view g.D.Disk.view c.args.disks.now) (pair_view g.D.Disk.view c.are_blank.new.disks)
    (pair_view g.D.Disk.view c.open.new.disks) c.in_ok-are_blank.ensures.stays c.in_err-node.ensures.onward c.in_err-node.ensures.still

pub returns-in_err-node-clause-unread : goal.returns-in_err-node-clause-unread
returns-in_err-node-clause-unread g c =
    λ at is. hold_still (pair_view g.D.Disk.view c.args.disks.now) (pair_view g.D.Disk.view c.open.new.disks)
    (pair_stays_join (pair_view g.D.Disk.view c.args.disks.now) (pair_view g.D.Disk.view c.are_blank.new.disks)
    (pair_view g.D.Disk.view c.open.new.disks) c.in_ok-are_blank.ensures.stays
    (c.in_err-node.ensures.unread at (handed_on c.from_residual-in_err-node.result _ _ c.from_residual-in_err-node.ensures is)))

pub returns-clause-still : goal.returns-clause-still
returns-clause-still g c =
    opened_still c.args.id (pair_view g.D.Disk.view c.args.disks.now) (pair_view g.D.Disk.view c.are_blank.new.disks)
    (pair_view g.D.Disk.view c.open.new.disks) c.in_ok-are_blank.ensures.stays c.in_ok-node.ensures.onward c.in_ok-node.ensures.still

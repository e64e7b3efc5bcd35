use Rattle.std.proofs.Common.{◌≡◌, ◌∙◌, inl, inr, false}
use Rattle.spl_edge.specs.Devices.{image_now, pair_view}
use Rattle.spl_journal.specs.{Journals.form_walked, Records.is_older}
use Rattle.spl_snapshot.specs.{Counting.PairStays, Pairs.walk_in}
use Rattle.spl_node.proofs.Opened.{all_stay, always, base_either, carried_stand, counting_stays, opened_stands, pair_stays_join, pair_written, read_before}
use Rattle.spl_node.proofs.Opened.{read_then, same_stay, stand_if, stand_since, stays_stand, walk_written, walks_before, walks_then, written_stays}
use Rattle.spl_node.proofs.{Packs.good_node, Walking.handed_on}
use Rattle.spl_node.proofs.node.Node.open.Goals as goal

-- ---- the head isn't read

pub returns-in_err-walk-clause-any_moment : goal.returns-in_err-walk-clause-any_moment
returns-in_err-walk-clause-any_moment g c =
    stays_stand c.args.here (pair_view g.D.Disk.view c.args.disks.now)
    (pair_view g.D.Disk.view c.walk_pair.new.disks) c.requires.first c.requires.second c.in_err-walk.ensures.stays

pub returns-in_err-walk-clause-counting : goal.returns-in_err-walk-clause-counting
returns-in_err-walk-clause-counting g c =
    all_stay g.D.Disk.view c.args.disks.now c.walk_pair.new.disks (image_now (g.D.Disk.view c.args.disks.now.first))
    (image_now (g.D.Disk.view c.args.disks.now.second)) c.in_err-walk.ensures.stays

pub returns-in_err-walk-clause-written : goal.returns-in_err-walk-clause-written
returns-in_err-walk-clause-written g c =
    always (image_now (g.D.Disk.view c.args.disks.now.first)) (image_now (g.D.Disk.view c.args.disks.now.second))
    (PairStays (pair_view g.D.Disk.view c.args.disks.now) (pair_view g.D.Disk.view c.walk_pair.new.disks)) c.in_err-walk.ensures.stays

pub returns-in_err-walk-clause-not : goal.returns-in_err-walk-clause-not
returns-in_err-walk-clause-not g c = λ at is. c.in_err-walk.ensures.not at (handed_on c.from_residual.result _ _ c.from_residual.ensures is)

-- ---- a record isn't read

pub returns-in_err-read_records-clause-any_moment : goal.returns-in_err-read_records-clause-any_moment
returns-in_err-read_records-clause-any_moment g c =
    stays_stand c.args.here (pair_view g.D.Disk.view c.args.disks.now) (pair_view g.D.Disk.view c.read_records.new.disks) c.requires.first c.requires.second
    (pair_stays_join (pair_view g.D.Disk.view c.args.disks.now) (pair_view g.D.Disk.view c.walk_pair.new.disks)
    (pair_view g.D.Disk.view c.read_records.new.disks) c.in_ok-walk.ensures.stays c.read_records.ensures.stays)

pub returns-in_err-read_records-clause-still : goal.returns-in_err-read_records-clause-still
returns-in_err-read_records-clause-still g c =
    inl (pair_stays_join (pair_view g.D.Disk.view c.args.disks.now) (pair_view g.D.Disk.view c.walk_pair.new.disks)
    (pair_view g.D.Disk.view c.read_records.new.disks) c.in_ok-walk.ensures.stays c.read_records.ensures.stays)

pub returns-in_err-read_records-clause-counting : goal.returns-in_err-read_records-clause-counting
returns-in_err-read_records-clause-counting g c =
    all_stay g.D.Disk.view c.args.disks.now c.read_records.new.disks (image_now (g.D.Disk.view c.args.disks.now.first))
    (image_now (g.D.Disk.view c.args.disks.now.second))
    (pair_stays_join (pair_view g.D.Disk.view c.args.disks.now) (pair_view g.D.Disk.view c.walk_pair.new.disks)
    (pair_view g.D.Disk.view c.read_records.new.disks) c.in_ok-walk.ensures.stays c.read_records.ensures.stays)

pub returns-in_err-read_records-clause-written : goal.returns-in_err-read_records-clause-written
returns-in_err-read_records-clause-written g c =
    always (image_now (g.D.Disk.view c.args.disks.now.first)) (image_now (g.D.Disk.view c.args.disks.now.second))
    (PairStays (pair_view g.D.Disk.view c.args.disks.now) (pair_view g.D.Disk.view c.read_records.new.disks))
    (pair_stays_join (pair_view g.D.Disk.view c.args.disks.now) (pair_view g.D.Disk.view c.walk_pair.new.disks)
    (pair_view g.D.Disk.view c.read_records.new.disks) c.in_ok-walk.ensures.stays c.read_records.ensures.stays)

pub returns-in_err-read_records-clause-unread : goal.returns-in_err-read_records-clause-unread
returns-in_err-read_records-clause-unread g c =
    λ at is. pair_stays_join (pair_view g.D.Disk.view c.args.disks.now) (pair_view g.D.Disk.view c.walk_pair.new.disks)
    (pair_view g.D.Disk.view c.read_records.new.disks) c.in_ok-walk.ensures.stays c.read_records.ensures.stays

-- ---- the journal is taken, or written again

pub finish-requires-clause-packed : goal.finish-requires-clause-packed
finish-requires-clause-packed g c = good_node c.read_records.new.cells.here c.read_records.new.cells.entries c.is_ordered.ensures.own

pub finish-requires-clause-walks : goal.finish-requires-clause-walks
finish-requires-clause-walks g c =
    walks_then c.read_records.new.walk (pair_view g.D.Disk.view c.walk_pair.new.disks)
    (pair_view g.D.Disk.view c.read_records.new.disks) c.read_records.ensures.stays c.in_ok-read_records.ensures.walks

pub returns-in_err-pairing-clause-any_moment : goal.returns-in_err-pairing-clause-any_moment
returns-in_err-pairing-clause-any_moment g c =
    stand_if c.args.here (pair_view g.D.Disk.view c.args.disks.now) (pair_view g.D.Disk.view c.finish.new.disks)
    (stand_since c.args.here (pair_view g.D.Disk.view c.args.disks.now) (pair_view g.D.Disk.view c.read_records.new.disks)
    (pair_view g.D.Disk.view c.finish.new.disks)
    (pair_stays_join (pair_view g.D.Disk.view c.args.disks.now) (pair_view g.D.Disk.view c.walk_pair.new.disks)
    (pair_view g.D.Disk.view c.read_records.new.disks) c.in_ok-walk.ensures.stays c.read_records.ensures.stays) c.finish.ensures.onward
    (carried_stand c.args.here c.read_records.new.cells
    (c.read_records.ensures.here ∙ c.new-cells.ensures.here) c.is_ordered.ensures.ordered c.is_ordered.ensures.own
    (pair_view g.D.Disk.view c.read_records.new.disks) (pair_view g.D.Disk.view c.finish.new.disks)
    (read_then c.read_records.new.cells (pair_view g.D.Disk.view c.walk_pair.new.disks)
    (pair_view g.D.Disk.view c.read_records.new.disks) c.read_records.ensures.stays c.in_ok-read_records.ensures.read) c.finish.ensures.any_moment))

pub returns-in_err-pairing-clause-still : goal.returns-in_err-pairing-clause-still
returns-in_err-pairing-clause-still g c =
    inr (stand_since c.args.here (pair_view g.D.Disk.view c.args.disks.now) (pair_view g.D.Disk.view c.read_records.new.disks)
    (pair_view g.D.Disk.view c.finish.new.disks)
    (pair_stays_join (pair_view g.D.Disk.view c.args.disks.now) (pair_view g.D.Disk.view c.walk_pair.new.disks)
    (pair_view g.D.Disk.view c.read_records.new.disks) c.in_ok-walk.ensures.stays c.read_records.ensures.stays) c.finish.ensures.onward
    (carried_stand c.args.here c.read_records.new.cells
    (c.read_records.ensures.here ∙ c.new-cells.ensures.here) c.is_ordered.ensures.ordered c.is_ordered.ensures.own
    (pair_view g.D.Disk.view c.read_records.new.disks) (pair_view g.D.Disk.view c.finish.new.disks)
    (read_then c.read_records.new.cells (pair_view g.D.Disk.view c.walk_pair.new.disks)
    (pair_view g.D.Disk.view c.read_records.new.disks) c.read_records.ensures.stays c.in_ok-read_records.ensures.read) c.finish.ensures.any_moment))

pub returns-in_err-pairing-clause-counting : goal.returns-in_err-pairing-clause-counting
returns-in_err-pairing-clause-counting g c =
    counting_stays g.D.Disk.view c.args.disks.now c.read_records.new.disks c.finish.new.disks c.read_records.new.walk
    (image_now (g.D.Disk.view c.args.disks.now.first)) (image_now (g.D.Disk.view c.args.disks.now.second))
    (walks_before c.read_records.new.walk (pair_view g.D.Disk.view c.args.disks.now)
    (pair_view g.D.Disk.view c.walk_pair.new.disks) c.in_ok-walk.ensures.stays c.in_ok-read_records.ensures.walks)
    (pair_stays_join (pair_view g.D.Disk.view c.args.disks.now) (pair_view g.D.Disk.view c.walk_pair.new.disks)
    (pair_view g.D.Disk.view c.read_records.new.disks) c.in_ok-walk.ensures.stays c.read_records.ensures.stays) c.finish.ensures.counting

pub returns-in_err-pairing-clause-written : goal.returns-in_err-pairing-clause-written
returns-in_err-pairing-clause-written g c =
    written_stays (image_now (g.D.Disk.view c.args.disks.now.first)) (image_now (g.D.Disk.view c.args.disks.now.second))
    (is_older (form_walked (walk_in c.read_records.new.walk)) ≡ false)
    (PairStays (pair_view g.D.Disk.view c.args.disks.now) (pair_view g.D.Disk.view c.finish.new.disks))
    (walk_written c.read_records.new.walk (image_now (g.D.Disk.view c.args.disks.now.first)) (image_now (g.D.Disk.view c.args.disks.now.second))
    (walks_before c.read_records.new.walk (pair_view g.D.Disk.view c.args.disks.now)
    (pair_view g.D.Disk.view c.walk_pair.new.disks) c.in_ok-walk.ensures.stays c.in_ok-read_records.ensures.walks))
    (λ new. same_stay g.D.Disk.view c.args.disks.now c.read_records.new.disks c.finish.new.disks
    (pair_stays_join (pair_view g.D.Disk.view c.args.disks.now) (pair_view g.D.Disk.view c.walk_pair.new.disks)
    (pair_view g.D.Disk.view c.read_records.new.disks) c.in_ok-walk.ensures.stays c.read_records.ensures.stays) (c.finish.ensures.written new))

pub returns-clause-any_moment : goal.returns-clause-any_moment
returns-clause-any_moment g c =
    stand_if c.args.here (pair_view g.D.Disk.view c.args.disks.now) (pair_view g.D.Disk.view c.finish.new.disks)
    (stand_since c.args.here (pair_view g.D.Disk.view c.args.disks.now) (pair_view g.D.Disk.view c.read_records.new.disks)
    (pair_view g.D.Disk.view c.finish.new.disks)
    (pair_stays_join (pair_view g.D.Disk.view c.args.disks.now) (pair_view g.D.Disk.view c.walk_pair.new.disks)
    (pair_view g.D.Disk.view c.read_records.new.disks) c.in_ok-walk.ensures.stays c.read_records.ensures.stays) c.finish.ensures.onward
    (carried_stand c.args.here c.read_records.new.cells
    (c.read_records.ensures.here ∙ c.new-cells.ensures.here) c.is_ordered.ensures.ordered c.is_ordered.ensures.own
    (pair_view g.D.Disk.view c.read_records.new.disks) (pair_view g.D.Disk.view c.finish.new.disks)
    (read_then c.read_records.new.cells (pair_view g.D.Disk.view c.walk_pair.new.disks)
    (pair_view g.D.Disk.view c.read_records.new.disks) c.read_records.ensures.stays c.in_ok-read_records.ensures.read) c.finish.ensures.any_moment))

pub returns-clause-still : goal.returns-clause-still
returns-clause-still g c =
    inr (stand_since c.args.here (pair_view g.D.Disk.view c.args.disks.now) (pair_view g.D.Disk.view c.read_records.new.disks)
    (pair_view g.D.Disk.view c.finish.new.disks)
    (pair_stays_join (pair_view g.D.Disk.view c.args.disks.now) (pair_view g.D.Disk.view c.walk_pair.new.disks)
    (pair_view g.D.Disk.view c.read_records.new.disks) c.in_ok-walk.ensures.stays c.read_records.ensures.stays) c.finish.ensures.onward
    (carried_stand c.args.here c.read_records.new.cells
    (c.read_records.ensures.here ∙ c.new-cells.ensures.here) c.is_ordered.ensures.ordered c.is_ordered.ensures.own
    (pair_view g.D.Disk.view c.read_records.new.disks) (pair_view g.D.Disk.view c.finish.new.disks)
    (read_then c.read_records.new.cells (pair_view g.D.Disk.view c.walk_pair.new.disks)
    (pair_view g.D.Disk.view c.read_records.new.disks) c.read_records.ensures.stays c.in_ok-read_records.ensures.read) c.finish.ensures.any_moment))

pub returns-clause-counting : goal.returns-clause-counting
returns-clause-counting g c =
    counting_stays g.D.Disk.view c.args.disks.now c.read_records.new.disks c.finish.new.disks c.read_records.new.walk
    (image_now (g.D.Disk.view c.args.disks.now.first)) (image_now (g.D.Disk.view c.args.disks.now.second))
    (walks_before c.read_records.new.walk (pair_view g.D.Disk.view c.args.disks.now)
    (pair_view g.D.Disk.view c.walk_pair.new.disks) c.in_ok-walk.ensures.stays c.in_ok-read_records.ensures.walks)
    (pair_stays_join (pair_view g.D.Disk.view c.args.disks.now) (pair_view g.D.Disk.view c.walk_pair.new.disks)
    (pair_view g.D.Disk.view c.read_records.new.disks) c.in_ok-walk.ensures.stays c.read_records.ensures.stays) c.finish.ensures.counting

pub returns-clause-written : goal.returns-clause-written
returns-clause-written g c =
    written_stays (image_now (g.D.Disk.view c.args.disks.now.first)) (image_now (g.D.Disk.view c.args.disks.now.second))
    (is_older (form_walked (walk_in c.read_records.new.walk)) ≡ false)
    (PairStays (pair_view g.D.Disk.view c.args.disks.now) (pair_view g.D.Disk.view c.finish.new.disks))
    (walk_written c.read_records.new.walk (image_now (g.D.Disk.view c.args.disks.now.first)) (image_now (g.D.Disk.view c.args.disks.now.second))
    (walks_before c.read_records.new.walk (pair_view g.D.Disk.view c.args.disks.now)
    (pair_view g.D.Disk.view c.walk_pair.new.disks) c.in_ok-walk.ensures.stays c.in_ok-read_records.ensures.walks))
    (λ new. same_stay g.D.Disk.view c.args.disks.now c.read_records.new.disks c.finish.new.disks
    (pair_stays_join (pair_view g.D.Disk.view c.args.disks.now) (pair_view g.D.Disk.view c.walk_pair.new.disks)
    (pair_view g.D.Disk.view c.read_records.new.disks) c.in_ok-walk.ensures.stays c.read_records.ensures.stays) (c.finish.ensures.written new))

pub returns-clause-stands : goal.returns-clause-stands
returns-clause-stands g c =
    opened_stands (record { cells = c.read_records.new.cells; pairing = c.in_ok-pairing.pairing; halted = false }) c.args.here
    (pair_view g.D.Disk.view c.read_records.new.disks) (pair_view g.D.Disk.view c.finish.new.disks)
    (c.read_records.ensures.here ∙ c.new-cells.ensures.here) c.in_ok-pairing.ensures.stands c.finish.ensures.onward c.in_ok-pairing.ensures.told
    (read_then c.read_records.new.cells (pair_view g.D.Disk.view c.walk_pair.new.disks)
    (pair_view g.D.Disk.view c.read_records.new.disks) c.read_records.ensures.stays c.in_ok-read_records.ensures.read)
    (carried_stand c.args.here c.read_records.new.cells
    (c.read_records.ensures.here ∙ c.new-cells.ensures.here) c.is_ordered.ensures.ordered c.is_ordered.ensures.own
    (pair_view g.D.Disk.view c.read_records.new.disks) (pair_view g.D.Disk.view c.finish.new.disks)
    (read_then c.read_records.new.cells (pair_view g.D.Disk.view c.walk_pair.new.disks)
    (pair_view g.D.Disk.view c.read_records.new.disks) c.read_records.ensures.stays c.in_ok-read_records.ensures.read) c.finish.ensures.any_moment)

pub returns-clause-cells : goal.returns-clause-cells
returns-clause-cells g c =
    read_before c.read_records.new.cells (pair_view g.D.Disk.view c.args.disks.now)
    (pair_view g.D.Disk.view c.walk_pair.new.disks) c.in_ok-walk.ensures.stays c.in_ok-read_records.ensures.read

pub returns-clause-form : goal.returns-clause-form
returns-clause-form g c =
    pair_written c.in_ok-pairing.pairing (image_now (g.D.Disk.view c.finish.new.disks.first))
    (image_now (g.D.Disk.view c.finish.new.disks.second)) c.in_ok-pairing.ensures.stands

pub returns-clause-base : goal.returns-clause-base
returns-clause-base g c = base_either (is_older (form_walked (walk_in c.read_records.new.walk))) _ _ c.in_ok-pairing.ensures.base

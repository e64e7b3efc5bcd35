use Rattle.spl_journal.specs.Records.{following}
use Rattle.spl_snapshot.{specs.Counting.chosen, proofs.Stopped.stopped_pair}
use Rattle.spl_snapshot.proofs.laws.groups_on_pairs_are_kept_or_lost.Goals as goal

pub returns : goal.returns
returns c =
    λ fits second end extent epoch i j more calls fill stands counts some good. stopped_pair fits second i j
    (following more) more calls end fill counts stands.holds.prefix.head
    (c.groups_are_kept_or_lost.ensures.head fits end extent epoch (chosen second i j) more calls fill some stands good)
    (c.groups_are_kept_or_lost.ensures.records fits end extent epoch (chosen second i j) more calls fill some stands good)

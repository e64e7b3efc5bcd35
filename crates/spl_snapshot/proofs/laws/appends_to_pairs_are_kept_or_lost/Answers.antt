use Rattle.std.proofs.Common.{[], ◌∷◌}
use Rattle.spl_journal.specs.Records.{sized}
use Rattle.spl_snapshot.{specs.Counting.chosen, proofs.Stopped.stopped_pair}
use Rattle.spl_snapshot.proofs.laws.appends_to_pairs_are_kept_or_lost.Goals as goal

pub returns : goal.returns
returns c =
    λ fits second end extent epoch i j r calls fill stands counts good. stopped_pair fits second i j (sized r)
    (r ∷ []) calls end fill counts stands.holds.prefix.head
    (c.appends_are_kept_or_lost.ensures.head fits end extent epoch (chosen second i j) r calls fill stands good)
    (c.appends_are_kept_or_lost.ensures.records fits end extent epoch (chosen second i j) r calls fill stands good)

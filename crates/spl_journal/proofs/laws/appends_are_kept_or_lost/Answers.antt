use Rattle.std.proofs.Common.{◌≡◌, ℕ, List, [], ◌∷◌, Ok, subst, arith}
use Rattle.spl_edge.specs.Devices.{picked_bytes}
use Rattle.spl_journal.{specs.{Gate.opened, Records.{records, records_of, SameHead, is_kept, kept_records}}, proofs.{Appends.following_one, Stops.stopped}}
use Rattle.spl_journal.proofs.Stops.{stopped_head}
use Rattle.spl_journal.proofs.laws.appends_are_kept_or_lost.Goals as goal

pub returns-clause-records : goal.returns-clause-records
returns-clause-records c = λ fits end extent epoch i r calls fill stands good.
    subst (λ (l : List ℕ). records fits (picked_bytes fill (opened end l calls i)) ≡ Ok (kept_records (is_kept calls fill) (records_of fits i.bytes) r))
    (following_one r)
    (stopped fits end extent epoch i (r ∷ []) (omega arith) stands (good, tt) calls fill)

pub returns-clause-head : goal.returns-clause-head
returns-clause-head c = λ fits end extent epoch i r calls fill stands good.
    subst (λ (l : List ℕ). SameHead i.bytes (picked_bytes fill (opened end l calls i))) (following_one r)
    (stopped_head fits end extent epoch i (r ∷ []) (omega arith) stands (good, tt) calls fill)

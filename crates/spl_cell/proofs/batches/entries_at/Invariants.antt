use Rattle.std.{specs.Prelude.map, proofs.Common.{◌≡◌, take}}
use Rattle.spl_cell.specs.Asks.{told_at}
use Rattle.spl_cell.proofs.batches.entries_at.Given as goal

-- the entries at the addresses so far
abbrev pub invariant-loop-address : goal.invariant-loop-address
invariant-loop-address l = l.entries ≡ map (told_at l.state) (take l.address-index l.addresses)

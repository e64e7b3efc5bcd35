-- What waits at a cell that is where it is asked for.
use Rattle.std.{specs.Str.bytes_eq, proofs.Common.{◌≡◌, true, ◌&&◌, ◌∙◌, ap}}
use Rattle.spl_base.specs.FormLaws.{both_true}
use Rattle.spl_circuit.specs.Nodes.{NodeId, CircuitId}
use Rattle.spl_cell_rules.{specs.Cells.{site_at, Cell, Site}, proofs.Positions.node_is}
use Rattle.spl_serve.specs.Waits.{waits_at}

site_is : (s : Site) (n : NodeId) (c : CircuitId) → bytes_eq s.here n ≡ true → bytes_eq s.circuit c ≡ true → s ≡ site_at n c
site_is s n c h k = ap (λ (m : NodeId). site_at m s.circuit) (node_is s.here n h) ∙ ap (λ (d : CircuitId). site_at n d) (node_is s.circuit c k)

pub waits_same : (s : Site) (n : NodeId) (c : CircuitId) (k : Cell) → (bytes_eq s.here n && bytes_eq s.circuit c) ≡ true
    → waits_at s k ≡ waits_at (site_at n c) k
waits_same s n c k h = let b = both_true (bytes_eq s.here n) (bytes_eq s.circuit c) h in ap (λ (t : Site). waits_at t k) (site_is s n c b.0 b.1)

-- Where a plan begins.
use Rattle.std.proofs.Common.{◌≡◌, ℕ, List, refl}
use Rattle.spl_circuit_world.specs.Worlds.{Origin}
use Rattle.spl_registry.specs.Nodes.{Entry}
use Rattle.spl_runs.specs.{Run.{nodes_in, origin, origin_in, run_plan}, declared.mode.{Beginning.Beginning, Mode.Mode}}
use Rattle.spl_runs.specs.declared.mode.Beginning.TheVariants as beginning
use Rattle.spl_node.specs.Benches.{Images}

-- with the nodes of a registry
abbrev origin_over : Beginning → List Entry → List Images → Origin
origin_over b es is = record { nodes = nodes_in es; kept = (origin_in b es is).kept; circuits = (origin_in b es is).circuits }

-- as its mode says
pub origin_planned : (m : Mode) (es : List Entry) (is : List Images) (lines : List (List ℕ)) → origin_in m.beginning es is ≡ origin (run_plan m es is lines)
origin_planned m es is lines = by m.beginning
  where
    by : (b : Beginning) → origin_in b es is ≡ origin_over b es is
    by beginning.Blank = refl
    by beginning.Resumed = refl

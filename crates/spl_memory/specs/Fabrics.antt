-- What a fabric in memory reports.
use Rattle.std.specs.Prelude.{ℕ, List, Some}
use Rattle.spl_edge.specs.Devices.{FabricView}
use Rattle.spl_memory.specs.{Lanes.{put_in, taken_in, lane_from}, declared.mem_fabric.MemFabric.MemFabric}

-- the bytes put so far from one node to another
abbrev pub put_of : MemFabric → ℕ → ℕ → List ℕ
put_of f from to = put_in f.lanes.items (lane_from from to)

-- and those taken
abbrev pub fabric_taken : MemFabric → ℕ → ℕ → List ℕ
fabric_taken f from to = taken_in f.lanes.items (lane_from from to)

abbrev pub fabric_view : MemFabric → FabricView
fabric_view f = record { put = λ from to. Some (put_of f from to); taken = λ from to. Some (fabric_taken f from to); faults = f.faults }

-- Which calls of the disks of a bench fail by themselves.
use Rattle.std.specs.Prelude.{◌≡◌, ℕ, List, [], ◌∷◌, ⊤}
use Rattle.spl_edge.specs.declared.bench.Pair.{Pair}
use Rattle.spl_memory.specs.{MemDisks.failing_of, declared.mem_disk.MemDisk.MemDisk}

-- no call does
abbrev pub NoneFails : List (Pair MemDisk) → Type 0
NoneFails [] = ⊤
NoneFails (p ∷ ps) = (failing_of p.first ≡ []) × (failing_of p.second ≡ []) × NoneFails ps

-- of the first disk of all the calls of these numbers do, and no other call does
abbrev pub FirstFails : List ℕ → List (Pair MemDisk) → Type 0
FirstFails calls [] = ⊤
FirstFails calls (p ∷ ps) = (failing_of p.first ≡ calls) × (failing_of p.second ≡ []) × NoneFails ps

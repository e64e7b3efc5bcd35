-- Blank disks.
use Rattle.std.{specs.Prelude.IfSome, proofs.Common.{◌≡◌, ◌<◌, ℕ, zero, suc, List, [], ◌∷◌, ◌++◌, length, Option, ap, refl, sym, subst, arith}}
use Rattle.spl_edge.specs.{Devices.{Image, PairView, pair_view, bench, image_now}, declared.{bench.Pair.Pair, disk.Armed.Armed}}
use Rattle.spl_journal.specs.Records.{IsBlank}
use Rattle.spl_memory.specs.{Benches.{FirstFails, NoneFails}, MemDisks.{IsFreshDisk, failing_of, disk_view}, declared.mem_disk.MemDisk.MemDisk}
use Rattle.spl_node.specs.Benches.{AreBlank, images_at, images, images_of, AllUnpicked, AreUnpicked, IsUnpicked}

fresh_blank : (d : MemDisk) → IsFreshDisk d → IfSome (image_now (disk_view d)) IsBlank
fresh_blank d fresh =
    subst (λ (o : Option Image). IfSome o IsBlank) (sym fresh.blank)
    (record { bytes = refl; settled = record { same = refl; none = refl; least = refl; greatest = refl } })

pub pair_blank : (p : Pair MemDisk) → IsFreshDisk p.first → IsFreshDisk p.second → AreBlank (images_of disk_view p)
pair_blank p a b = record { first = fresh_blank p.first a; second = fresh_blank p.second b }

-- each of these pairs is blank
abbrev pub AllBlank : List (Pair MemDisk) → Type 0
AllBlank ps = (i : ℕ) → i < length ps → AreBlank (images_at (images disk_view ps) i)

pub blank_more : (ps : List (Pair MemDisk)) (p : Pair MemDisk) → AllBlank ps → AreBlank (images_of disk_view p) → AllBlank (ps ++ p ∷ [])
blank_more [] p all blank zero lt = blank
blank_more [] p all blank (suc i) lt = absurd (omega (arith, lt))
blank_more (q ∷ ps) p all blank zero lt = let first : 0 < suc (length ps) = omega arith in all 0 first
blank_more (q ∷ ps) p all blank (suc i) lt =
    blank_more ps p (λ k h. (let more : suc k < suc (length ps) = omega (arith, h) in all (suc k) more)) blank i (omega (arith, lt))

-- ---- nothing was picked

-- what each pair reports
abbrev pub told : List (Pair MemDisk) → List PairView
told ps = bench disk_view ps

abbrev told_one : Pair MemDisk → PairView
told_one p = pair_view disk_view p

fresh_unpicked : (d : MemDisk) → IsFreshDisk d → IsUnpicked (disk_view d)
fresh_unpicked d fresh = record { picks = fresh.picks; off = ap (λ (a : Armed). a.arming) fresh.armed }

pub pair_unpicked : (p : Pair MemDisk) → IsFreshDisk p.first → IsFreshDisk p.second → AreUnpicked (pair_view disk_view p)
pair_unpicked p a b = record { first = fresh_unpicked p.first a; second = fresh_unpicked p.second b }

pub unpicked_more : (ps : List (Pair MemDisk)) (p : Pair MemDisk) → AllUnpicked (told ps) → AreUnpicked (pair_view disk_view p)
    → AllUnpicked (told (ps ++ p ∷ []))
unpicked_more [] p all one zero q e = let same : told_one p ≡ q = cc in subst AreUnpicked same one
unpicked_more [] p all one (suc i) q e = absurd cc
unpicked_more (x ∷ ps) p all one zero q e = all 0 q e
unpicked_more (x ∷ ps) p all one (suc i) q e = unpicked_more ps p (λ k r h. all (suc k) r h) one i q e

-- ---- which calls fail by themselves

-- a pair of which no call does
pub record IsSound (p : Pair MemDisk) : Type 0 where
  pub first : failing_of p.first ≡ []
  pub second : failing_of p.second ≡ []

none_more : (ps : List (Pair MemDisk)) (p : Pair MemDisk) → NoneFails ps → IsSound p → NoneFails (ps ++ p ∷ [])
none_more [] p none one = (one.first, one.second, tt)
none_more (q ∷ ps) p none one = (none.0, none.1, none_more ps p none.2 one)

pub first_more : (calls : List ℕ) (ps : List (Pair MemDisk)) (p : Pair MemDisk) → 0 < length ps → FirstFails calls ps → IsSound p
    → FirstFails calls (ps ++ p ∷ [])
first_more calls [] p some first one = absurd (omega (arith, some))
first_more calls (q ∷ ps) p some first one = (first.0, first.1, none_more ps p first.2 one)

pub first_one : (calls : List ℕ) (ps : List (Pair MemDisk)) (p : Pair MemDisk) → ps ≡ [] → failing_of p.first ≡ calls → failing_of p.second ≡ []
    → FirstFails calls (ps ++ p ∷ [])
first_one calls [] p none first second = (first, second, tt)
first_one calls (q ∷ ps) p none first second = absurd cc

-- One cell, made by records that are read one after the other.
use Rattle.std.{specs.{Prelude.if◌then◌else◌, Result.IsOkAnd, Str.bytes_eq}, proofs.Common.{◌≡◌, ℕ, List, [], ◌∷◌, ◌++◌, Option, None, Some, Result, sym}}
use Rattle.std.proofs.Common.{◌∙◌, ap, subst}
use Rattle.spl_edge.specs.Devices.{Image, PairView, image_now}
use Rattle.spl_snapshot.specs.Counting.{IfBoth, HaveRecords, PairStays}
use Rattle.spl_wire.specs.declared.record.Record.{Record}
use Rattle.spl_cell_rules.specs.{Cells.{Cell, Empty, Site}, Changes.applied}
use Rattle.spl_node.{proofs.{Peeking.kept_has, Walking.both_still}, specs.{Records.{is_record, record_in}, Stands.{AreBlank, HasBytes}}}
use Rattle.spl_node.proofs.{Walking.still_holds, Reading.recorded_more}
use Rattle.spl_look.specs.Telling.{IsMadeAt, IsPeekedAt, IsReadAt}

-- the cell after one record more
abbrev pub followed : Site → Cell → Record → Cell
followed s k r = if bytes_eq r.circuit s.circuit then applied s k r.changes else k

made_more : (s : Site) (k l : Cell) (rs : List (List ℕ)) (bytes : List ℕ) (r : Record) → record_in bytes ≡ Some r → l ≡ followed s k r → IsMadeAt s k rs
    → IsMadeAt s l (rs ++ bytes ∷ [])
made_more s k l rs bytes r is next made = next ∙ (ap (λ (m : Cell). followed s m r) made ∙ sym (recorded_more s.here s.circuit rs bytes r is))

pub both_more : (o p : Option Image) (s t : Site) (k l : Cell) (given now : Image → Image → List (List ℕ)) (bytes : List ℕ) (r : Record)
    → record_in bytes ≡ Some r → t ≡ s → l ≡ followed s k r
    → IfBoth o p (λ i j. IsMadeAt s k (given i j)) → IfBoth o p (λ i j. now i j ≡ given i j ++ bytes ∷ []) → IfBoth o p (λ i j. IsMadeAt t l (now i j))
both_more None p s t k l given now bytes r is same next made more = tt
both_more (Some i) None s t k l given now bytes r is same next made more = tt
both_more (Some i) (Some j) s t k l given now bytes r is same next made more =
    subst (λ (u : Site). IsMadeAt u l (now i j)) (sym same)
    (subst (λ (rs : List (List ℕ)). IsMadeAt s l rs) (sym more) (made_more s k l (given i j) bytes r is next made))

pub read_all : (o p : Option Image) (s : Site) (k : Cell) (given : Image → Image → List (List ℕ)) → IfBoth o p (λ i j. IsMadeAt s k (given i j))
    → IfBoth o p (λ i j. HaveRecords is_record (given i j) i.bytes j.bytes) → IfBoth o p (λ i j. IsReadAt s k i.bytes j.bytes)
read_all None p s k given made have = tt
read_all (Some i) None s k given made have = tt
read_all (Some i) (Some j) s k given made have = subst (λ (r : Result (List (List ℕ)) ℕ). IsOkAnd r (IsMadeAt s k)) (sym have) made

-- nothing was read yet
pub both_empty : (o p : Option Image) (s : Site) (k : Cell) (given : Image → Image → List (List ℕ)) → k ≡ Empty → IfBoth o p (λ i j. given i j ≡ [])
    → IfBoth o p (λ i j. IsMadeAt s k (given i j))
both_empty None p s k given none start = tt
both_empty (Some i) None s k given none start = tt
both_empty (Some i) (Some j) s k given none start = subst (λ (rs : List (List ℕ)). IsMadeAt s k rs) (sym start) none

-- ---- disks that may be blank

pub both_read : (s : Site) (k : Cell) (o p : Option Image) → IfBoth o p (λ i j. HasBytes i.bytes j.bytes)
    → IfBoth o p (λ i j. IsReadAt s k i.bytes j.bytes) → IfBoth o p (λ i j. IsPeekedAt s k i.bytes j.bytes)
both_read s k None p h read = tt
both_read s k (Some i) None h read = tt
both_read s k (Some i) (Some j) h read = subst (λ (r : Result (List (List ℕ)) ℕ). IsOkAnd r (IsMadeAt s k)) (sym (kept_has i.bytes j.bytes h)) read

pub both_blank : (s : Site) (k : Cell) (o p : Option Image) → k ≡ Empty → IfBoth o p (λ i j. AreBlank i.bytes j.bytes)
    → IfBoth o p (λ i j. IsPeekedAt s k i.bytes j.bytes)
both_blank s k None p none h = tt
both_blank s k (Some i) None none h = tt
both_blank s k (Some i) (Some j) none h =
    subst (λ (a : List ℕ). IsPeekedAt s k a j.bytes) (sym h.0) (subst (λ (b : List ℕ). IsPeekedAt s k [] b) (sym h.1) none)

-- ---- disks that stay

-- what was read of disks that stayed was on them before
pub stays_read : (s : Site) (k : Cell) (p q : PairView) → PairStays p q
    → IfBoth (image_now q.first) (image_now q.second) (λ i j. IsReadAt s k i.bytes j.bytes)
    → IfBoth (image_now p.first) (image_now p.second) (λ i j. IsReadAt s k i.bytes j.bytes)
stays_read s k p q stays read =
    both_still (λ i j. IsReadAt s k i.bytes j.bytes) (image_now p.first) (image_now p.second) (image_now q.first) (image_now q.second)
    (still_holds p.first q.first stays.first) (still_holds p.second q.second stays.second) read

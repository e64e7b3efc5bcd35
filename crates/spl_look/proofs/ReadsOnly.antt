-- What reads the disks of a node alone, one call after the other.
use Rattle.std.{specs.Prelude.{IsErrOf, IsErr}, proofs.Common.{◌≡◌, ◌⊎◌, inl, inr, ℕ, List, Result, Ok, Err, ap, arith}}
use Rattle.spl_edge.specs.Devices.{PairView, image_now}
use Rattle.spl_journal.specs.declared.form.JournalFault.{JournalFault}
use Rattle.spl_journal.specs.declared.form.JournalFault.TheVariants as fault
use Rattle.spl_snapshot.specs.Counting.{HasRisen, PairOnward, PairStays}
use Rattle.spl_node.proofs.{Benches.pair_then, Opened.pair_stays_join, Walking.{both_still, still_holds}}
use Rattle.spl_look.specs.Reading.{OnlyReads}

-- a call fails as one in it does
pub reads_as : {A B : Type 0} (records : List ℕ → List ℕ → Result (List (List ℕ)) ℕ) (x y : PairView) (r : Result A JournalFault) (s : Result B JournalFault)
    → ((e : JournalFault) → IsErrOf s e → IsErrOf r e) → OnlyReads records x y r → OnlyReads records x y s
reads_as records x y r s same reads = record {
  not = λ at is. reads.not at (same (fault.NotAJournal at) is);
  failed = λ is. reads.failed (same fault.Disk is);
  stays = reads.stays;
  onward = reads.onward;
}

-- a call that succeeds
abbrev well : (A : Type 0) → A → Result A JournalFault
well A a = Ok a

pub reads_well : {A : Type 0} (records : List ℕ → List ℕ → Result (List (List ℕ)) ℕ) (x y : PairView) (a : A) → PairStays x y → PairOnward x y
    → OnlyReads records x y (well A a)
reads_well records x y a stays onward = record { not = λ at is. absurd cc; failed = λ is. absurd cc; stays = stays; onward = onward }

risen_then : (x y z : PairView) → PairOnward x y → HasRisen y z → HasRisen x z
risen_then x y z on (inl r) = let less = on.first.no_less in inl (omega (arith, r, less))
risen_then x y z on (inr r) = let less = on.second.no_less in inr (omega (arith, r, less))

-- after disks that stayed
pub reads_then : {A : Type 0} (records : List ℕ → List ℕ → Result (List (List ℕ)) ℕ) (x y z : PairView) (r : Result A JournalFault)
    → PairStays x y → PairOnward x y → OnlyReads records y z r → OnlyReads records x z r
reads_then records x y z r stays onward reads = record {
  not = λ at is. both_still (λ i j. records i.bytes j.bytes ≡ Err at) (image_now x.first) (image_now x.second) (image_now y.first) (image_now y.second)
      (still_holds x.first y.first stays.first) (still_holds x.second y.second stays.second) (reads.not at is);
  failed = λ is. risen_then x y z onward (reads.failed is);
  stays = pair_stays_join x y z stays reads.stays;
  onward = pair_then x y z onward reads.onward;
}

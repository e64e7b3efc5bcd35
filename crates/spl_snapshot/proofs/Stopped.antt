-- The records of two disks, one of which was stopped in an append.
use Rattle.std.proofs.Common.{◌≡◌, ℕ, List, Bool, true, false, not, is_none, Option, None, Ok, sym, ◌∙◌, ap}
use Rattle.spl_edge.specs.{Devices.{Image, picked_bytes}, declared.fill.Fill.Fill}
use Rattle.spl_journal.{specs.{Gate.opened, Records.{head_fault, records, records_of, SameHead, is_kept, kept_all}}, proofs.Heads.{same_open, kept_epoch}}
use Rattle.spl_snapshot.{specs.{Counting.{chosen, second_counts, pair_records_of, HaveRecords}, Stopped.kept_on}, proofs.Counts.{same_first, same_second}}
use Rattle.spl_snapshot.proofs.Counts.{of_first, of_second, those_of_first, those_of_second}

module _ (fits : List ℕ → Bool) (a b : List ℕ) (r : List (List ℕ)) (kept : Bool) where
  pub stopped_first : (c : List ℕ) → second_counts a b ≡ false → head_fault a ≡ None → SameHead a c → records fits c ≡ Ok (kept_all kept (records_of fits a) r)
      → HaveRecords fits (kept_all kept (pair_records_of fits a b) r) c b
  stopped_first c is head same have =
      of_first fits c b (same_first a b c (same_open a c head same ∙ sym (ap (λ (h : Option ℕ). is_none h) head)) (kept_epoch a c same) ∙ is)
      ∙ (have ∙ ap (λ (l : List (List ℕ)). Ok (kept_all kept l r)) (sym (those_of_first fits a b is)))

  pub stopped_second : (d : List ℕ) → second_counts a b ≡ true → head_fault b ≡ None → SameHead b d → records fits d ≡ Ok (kept_all kept (records_of fits b) r)
      → HaveRecords fits (kept_all kept (pair_records_of fits a b) r) a d
  stopped_second d is head same have =
      of_second fits a d (same_second a b d (same_open b d head same ∙ sym (ap (λ (h : Option ℕ). is_none h) head)) (kept_epoch b d same) ∙ is)
      ∙ (have ∙ ap (λ (l : List (List ℕ)). Ok (kept_all kept l r)) (sym (those_of_second fits a b is)))

-- by which of them counts
pub stopped_pair : (fits : List ℕ → Bool) (second : Bool) (i j : Image) (piece : List ℕ) (r : List (List ℕ)) (calls end : ℕ) (fill : Fill)
    → second_counts i.bytes j.bytes ≡ second → head_fault (chosen second i j).bytes ≡ None
    → SameHead (chosen second i j).bytes (picked_bytes fill (opened end piece calls (chosen second i j)))
    → records fits (picked_bytes fill (opened end piece calls (chosen second i j)))
    ≡ Ok (kept_all (is_kept calls fill) (records_of fits (chosen second i j).bytes) r)
    → HaveRecords fits (kept_all (is_kept calls fill) (pair_records_of fits i.bytes j.bytes) r) (kept_on (not second) fill end piece calls i)
    (kept_on second fill end piece calls j)
stopped_pair fits false i j piece r calls end fill counts head same have =
    stopped_first fits i.bytes j.bytes r (is_kept calls fill) (picked_bytes fill (opened end piece calls i)) counts head same have
stopped_pair fits true i j piece r calls end fill counts head same have =
    stopped_second fits i.bytes j.bytes r (is_kept calls fill) (picked_bytes fill (opened end piece calls j)) counts head same have

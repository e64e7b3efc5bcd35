-- What is told of the cells for which two disks stand (docs/RULES.md, Questions to a folder).
use Rattle.std.specs.{Prelude.{◌≡◌, ℕ, List, [], ◌∷◌, ◌++◌}, List.{list_any, Sorted.IsStrictlySortedBy}, Ordering.nat_cmp, Cmp.Lexicographic.slice_cmp}
use Rattle.std.specs.{Result.IsOkAnd, Str.bytes_eq}
use Rattle.spl_circuit.specs.Nodes.{NodeId, CircuitId}
use Rattle.spl_wire.specs.declared.{answer.Answer.Answer, event.Event.Event}
use Rattle.spl_wire.specs.declared.answer.Answer.TheVariants as answer
use Rattle.spl_snapshot.specs.Counting.{pair_records}
use Rattle.spl_cell_rules.specs.{Cells.{Cell, Site, is_bound, site_at}, Plans.plan_of}
use Rattle.spl_node.specs.{Stands.disk_records, Records.{is_record, recorded_cell}}
use Rattle.spl_look.specs.declared.question.Question.{Question}
use Rattle.spl_look.specs.declared.question.Question.TheVariants as question

-- the cell is the one that records make at its circuit
abbrev pub IsMadeAt : Site → Cell → List (List ℕ) → Type 0
IsMadeAt s k rs = k ≡ recorded_cell s.here s.circuit rs

-- the records of two disks make it
abbrev pub IsReadAt : Site → Cell → List ℕ → List ℕ → Type 0
IsReadAt s k first second = IsOkAnd (pair_records is_record first second) (IsMadeAt s k)

-- likewise, where two blank disks have no records
abbrev pub IsPeekedAt : Site → Cell → List ℕ → List ℕ → Type 0
IsPeekedAt s k first second = IsOkAnd (disk_records first second) (IsMadeAt s k)

-- ---- what is told

-- a text goes out with a line feed
abbrev pub ended : List ℕ → List ℕ
ended bytes = bytes ++ 10 ∷ []

-- what an event is answered at the cell that records make
abbrev pub answer_at : NodeId → CircuitId → Event → List (List ℕ) → Answer
answer_at here c e rs = (plan_of (site_at here c) (recorded_cell here c rs) e).answer

-- the ids of the circuits that records bind, in order
pub record IsRecordedRoll (here : NodeId) (rs : List (List ℕ)) (ids : List CircuitId) : Type 0 where
  pub sorted : IsStrictlySortedBy (slice_cmp nat_cmp) ids
  pub bound : (c : CircuitId) → list_any (bytes_eq c) ids ≡ is_bound (recorded_cell here c rs)

-- the answer to a question at the cells that records make
abbrev pub IsAnswer : Question → List (List ℕ) → Answer → Type 0
IsAnswer (question.At n c e) rs a = a ≡ answer_at n c e rs
IsAnswer (question.Roll n) rs a = (ids : List CircuitId) × IsRecordedRoll n rs ids × (a ≡ answer.Roll ids)

-- that, at the cells for which two disks stand
abbrev pub IsDiskAnswer : Question → List ℕ → List ℕ → Answer → Type 0
IsDiskAnswer q first second a = IsOkAnd (disk_records first second) (λ rs. IsAnswer q rs a)

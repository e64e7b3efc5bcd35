-- What is told of the cells that were read.
use Rattle.std.specs.{List.{list_any, Sorted.IsStrictlySortedBy}, Ordering.nat_cmp, Cmp.Lexicographic.slice_cmp, Result.IsOkAnd, Str.bytes_eq}
use Rattle.std.proofs.Common.{◌≡◌, ℕ, true, List, Option, None, Some, Result, Ok, Err, refl, ◌∙◌, ap}
use Rattle.spl_edge.specs.Devices.{Image}
use Rattle.spl_circuit.specs.Nodes.{NodeId, CircuitId}
use Rattle.spl_snapshot.specs.Counting.{IfBoth}
use Rattle.spl_wire.specs.declared.{answer.Answer.Answer, event.Event.Event}
use Rattle.spl_wire.specs.declared.answer.Answer.TheVariants as answer
use Rattle.spl_wire.specs.declared.event.Event.TheVariants as event
use Rattle.spl_cell_rules.specs.{Cells.{Cell, Site, is_bound, site_at}, Plans.plan_of, Valid.IsFor}
use Rattle.spl_node.specs.{Kept.{CellsView, cell_at}, Stands.{IsMade, IsPeeked, disk_records}, Records.recorded_cell}
use Rattle.spl_look.specs.{Questions.only_asks, Telling.{IsAnswer, IsMadeAt, IsPeekedAt, IsDiskAnswer}}
use Rattle.spl_look.specs.declared.question.Question.TheVariants as question

-- an event that only asks may come at any cell
pub asked_for : (s : Site) (e : Event) → only_asks e ≡ true → IsFor s e
asked_for s (event.Propose d) h = absurd cc
asked_for s (event.Deliver from x) h = absurd cc
asked_for s _ h = tt

module _ (here : NodeId) (c : CircuitId) (e : Event) (s : Site) (k : Cell) (a : Answer) (same : s ≡ site_at here c) (is : a ≡ (plan_of s k e).answer) where
  told : (r : Result (List (List ℕ)) ℕ) → IsOkAnd r (IsMadeAt s k) → IsOkAnd r (λ rs. IsAnswer (question.At here c e) rs a)
  told (Ok rs) made =
      is ∙ (ap (λ (t : Site). (plan_of t k e).answer) same
      ∙ ap (λ (l : Cell). (plan_of (site_at here c) l e).answer) (made ∙ ap (λ (t : Site). recorded_cell t.here t.circuit rs) same))
  told (Err at) made = made

  pub both_told : (o p : Option Image) → IfBoth o p (λ i j. IsPeekedAt s k i.bytes j.bytes)
      → IfBoth o p (λ i j. IsDiskAnswer (question.At here c e) i.bytes j.bytes a)
  both_told None p peeked = tt
  both_told (Some i) None peeked = tt
  both_told (Some i) (Some j) peeked = told (disk_records i.bytes j.bytes) peeked

module _ (here : NodeId) (v : CellsView) (ids : List CircuitId) (same : v.here ≡ here) (sorted : IsStrictlySortedBy (slice_cmp nat_cmp) ids)
    (bound : (c : CircuitId) → list_any (bytes_eq c) ids ≡ is_bound (cell_at v.entries c)) where
  rolled : (r : Result (List (List ℕ)) ℕ) → IsOkAnd r (IsMade v) → IsOkAnd r (λ rs. IsAnswer (question.Roll here) rs (answer.Roll ids))
  rolled (Ok rs) made = (ids, record { sorted = sorted; bound = λ c. bound c ∙ ap is_bound (made c ∙ ap (λ (n : NodeId). recorded_cell n c rs) same) }, refl)
  rolled (Err at) made = made

  pub both_rolled : (o p : Option Image) → IfBoth o p (λ i j. IsPeeked v i.bytes j.bytes)
      → IfBoth o p (λ i j. IsDiskAnswer (question.Roll here) i.bytes j.bytes (answer.Roll ids))
  both_rolled None p peeked = tt
  both_rolled (Some i) None peeked = tt
  both_rolled (Some i) (Some j) peeked = rolled (disk_records i.bytes j.bytes) peeked

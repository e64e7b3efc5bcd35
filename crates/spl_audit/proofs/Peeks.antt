-- The nodes of a registry, read one after another.
use Rattle.std.{specs.{Prelude.IsOk, Result.IsOkAnd}, proofs.Common.{◌≡◌, ◌⊎◌, inl, inr, ℕ, zero, suc, ◌+◌, ◌<◌, List, [], ◌∷◌, ◌++◌, length, slice_get}}
use Rattle.std.proofs.{Common.{Option, Some, Result, Ok, Err, refl, ap, sym, subst, ◌∙◌, arith}, lemmas.List.length-append}
use Rattle.spl_edge.specs.Devices.{Image, PairView, image_now}
use Rattle.spl_registry.specs.Nodes.{Entry}
use Rattle.spl_snapshot.{proofs.Keeps.both_if, specs.Counting.IfBoth}
use Rattle.spl_circuit.specs.Nodes.{CircuitId}
use Rattle.spl_cell_rules.specs.Valid.{IsKept}
use Rattle.spl_node.specs.{Kept.CellsView, Stands.{IsMade, IsPeeked, disk_records}}
use Rattle.spl_audit.specs.{Audited.AreCellsKept, Clashes.Keeper, Keepers.{keeper_of, keepers}, Runs.{AllStand, HaveNone, HaveReadableRecords, HoldAt}}
use Rattle.spl_audit.{specs.Runs.{IsFirstUnreadable, RoseHere, StandsAt}, proofs.Benches.{last_or, there_is}}

-- ---- what a place holds, seen from a bench that is the same there

module _ (ps qs : List PairView) (slot : ℕ) (same : slice_get qs slot ≡ slice_get ps slot) where
  pub hold_there : (P : List ℕ → List ℕ → Type 0) → HoldAt qs slot P → HoldAt ps slot P
  hold_there P h p at = h p (same ∙ at)

  pub stands_there : (es : List Entry) (v : CellsView) → StandsAt es qs slot v → StandsAt es ps slot v
  stands_there es v h = record { node = h.node; cells = hold_there (IsPeeked v) h.cells; kept = h.kept }

  pub rose_there : (es : List Entry) (rs : List PairView) → RoseHere es slot qs rs → RoseHere es slot ps rs
  rose_there es rs h = record { known = h.known; rose = λ p r at now. h.rose p r (same ∙ at) now }

-- ---- the nodes so far

abbrev pub Each : List Entry → List PairView → List CellsView → Type 0
Each es ps vs = (position : ℕ) (v : CellsView) → slice_get vs position ≡ Some v → StandsAt es ps position v

pub one_more : (es : List Entry) (ps : List PairView) (vs : List CellsView) (v : CellsView) (slot : ℕ) → length vs ≡ slot → Each es ps vs
    → StandsAt es ps slot v → Each es ps (vs ++ v ∷ [])
one_more es ps vs v slot many each new = λ position w at. by position w (last_or vs v position w at)
  where
    by : (position : ℕ) (w : CellsView) → (slice_get vs position ≡ Some w) ⊎ ((position ≡ length vs) × (v ≡ w)) → StandsAt es ps position w
    by position w (inl at) = each position w at
    by position w (inr is) = subst (λ (n : ℕ). StandsAt es ps n w) (sym (is.0 ∙ many)) (subst (StandsAt es ps slot) is.1 new)

pub more_length : (vs : List CellsView) (v : CellsView) (slot : ℕ) → length vs ≡ slot → length (vs ++ v ∷ []) ≡ slot + 1
more_length vs v slot many = length-append vs (v ∷ []) ∙ ap (λ (n : ℕ). n + 1) many

-- ---- the first that has no records

ok_has : {A : Type 0} (r : Result A ℕ) (P : A → Type 0) → IsOkAnd r P → IsOk r
ok_has (Ok x) P h = refl
ok_has (Err e) P h = absurd h

have : (v : CellsView) (o p : Option Image) → IfBoth o p (λ i j. IsPeeked v i.bytes j.bytes) → IfBoth o p (λ i j. HaveReadableRecords i.bytes j.bytes)
have v o p h =
    both_if o p (λ i j. IsPeeked v i.bytes j.bytes) (λ i j. HaveReadableRecords i.bytes j.bytes) h
    (λ i j peeked. ok_has (disk_records i.bytes j.bytes) (IsMade v) peeked)

pub first_without : (es : List Entry) (ps : List PairView) (vs : List CellsView) (slot at : ℕ) → slot < length es → length vs ≡ slot → Each es ps vs
    → HoldAt ps slot (HaveNone at) → IsFirstUnreadable es ps slot at
first_without es ps vs slot at known many each none = record {
  known = known;
  here = none;
  before = λ k below. (let v = there_is vs k (omega (arith, below, many)) in λ p there. have v.0 (image_now p.first) (image_now p.second)
      ((each k v.0 v.1).cells p there));
}

-- ---- what their rules keep

kept_of : (es : List Entry) (ps : List PairView) (vs : List CellsView) → Each es ps vs → (position : ℕ) (n : Keeper) (c : CircuitId) → (v : CellsView)
    → slice_get vs position ≡ Some v → keeper_of v ≡ n → IsKept (record { here = n.here; circuit = c }) (n.at c)
kept_of es ps vs each position n c v at is = subst (λ (m : Keeper). IsKept (record { here = m.here; circuit = c }) (m.at c)) is ((each position v at).kept c)

keeper_from : (vs : List CellsView) (position : ℕ) (n : Keeper) → slice_get (keepers vs) position ≡ Some n
    → (v : CellsView) × (slice_get vs position ≡ Some v) × (keeper_of v ≡ n)
keeper_from [] position n at = absurd cc
keeper_from (v ∷ vs) zero n at = let is : keeper_of v ≡ n = cc in (v, refl, is)
keeper_from (v ∷ vs) (suc position) n at = keeper_from vs position n at

pub all_kept : (es : List Entry) (ps : List PairView) (vs : List CellsView) → AllStand es ps vs → AreCellsKept (keepers vs)
all_kept es ps vs stand = λ position n c at. (let v = keeper_from vs position n at in kept_of es ps vs stand.each position n c v.0 v.1 v.2)

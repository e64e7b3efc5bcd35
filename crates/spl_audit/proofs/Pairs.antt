-- The first clash of two cells.
use Rattle.std.{specs.Prelude.{nat_lt, not}, proofs.Common.{◌≡◌, ◌≢◌, ℕ, ◌<◌, ◌≤◌, ◌⊎◌, inl, inr, ⊎_elim, Bool, true, false, ◌&&◌, ◌||◌, ◌==◌, List, [], ◌∷◌}}
use Rattle.std.proofs.{Common.{Some, None, length, refl, sym, ap, ◌∙◌, eq-eqb, arith}, lemmas.Bool.{or_left, or_right}}
use Rattle.spl_agree.{specs.Member.values, proofs.Tests.{lt_is, bool_cases, eqb_is, ltb_is, ltb_not}}
use Rattle.spl_circuit.specs.Nodes.{CircuitId}
use Rattle.spl_cell_rules.specs.Cells.{Bound}
use Rattle.spl_audit.specs.{Clashes.{ClashAt, IsLeast, are_at_most, kind_number}, Searching.{IsCellClash, IsFirstClash, IsFirstDifference}}
use Rattle.spl_audit.{specs.declared.clash.{Clash.Clash, Kind.Kind}, proofs.Least.at_most_here}
use Rattle.spl_audit.specs.declared.clash.Kind.TheVariants as kind

-- ---- their kind and place

pub by_acts : (h k : Bound) (n : ℕ) → h.definition ≡ k.definition → IsFirstDifference (values h.acts.history) (values k.acts.history) (Some n)
    → IsFirstClash h k (Some (kind.Acts, n))
by_acts h k n e d = ((e, d.0), cases)
  where
    cases : (why : Kind) (p : ℕ) → ClashAt why h k p → (2 < kind_number why) ⊎ ((kind.Acts ≡ why) × (n ≤ p))
    cases kind.Definitions p x = absurd (x.1.0 e)
    cases kind.Acts p x = inr (refl, d.1 p x.1)
    cases kind.Batches p x = inl (omega arith)

pub by_batches : (h k : Bound) (n : ℕ) → h.definition ≡ k.definition → IsFirstDifference (values h.acts.history) (values k.acts.history) None
    → IsFirstDifference (values h.batches.history) (values k.batches.history) (Some n) → IsFirstClash h k (Some (kind.Batches, n))
by_batches h k n e none d = ((e, d.0), cases)
  where
    cases : (why : Kind) (p : ℕ) → ClashAt why h k p → (3 < kind_number why) ⊎ ((kind.Batches ≡ why) × (n ≤ p))
    cases kind.Definitions p x = absurd (x.1.0 e)
    cases kind.Acts p x = absurd (none p x.1)
    cases kind.Batches p x = inr (refl, d.1 p x.1)

pub by_none : (h k : Bound) → h.definition ≡ k.definition → IsFirstDifference (values h.acts.history) (values k.acts.history) None
    → IsFirstDifference (values h.batches.history) (values k.batches.history) None → IsFirstClash h k None
by_none h k e acts batches = cases
  where
    cases : (why : Kind) (p : ℕ) → ClashAt why h k p → ⊥
    cases kind.Definitions p x = x.1.0 e
    cases kind.Acts p x = acts p x.1
    cases kind.Batches p x = batches p x.1

no_history : {V : Type 0} (h : List (ℕ × V)) → length (values h) ≡ 0 → h ≡ []
no_history [] e = refl
no_history (x ∷ xs) e = cc

pub without_acts : (h k : Bound) → h.definition ≢ k.definition → (length (values h.acts.history) ≡ 0) ⊎ (length (values k.acts.history) ≡ 0)
    → IsFirstClash h k None
without_acts h k n empty = cases
  where
    cases : (why : Kind) (p : ℕ) → ClashAt why h k p → ⊥
    cases kind.Definitions p x = ⊎_elim (λ e. x.1.1.1.0 (no_history h.acts.history e)) (λ e. x.1.1.1.1 (no_history k.acts.history e)) empty
    cases kind.Acts p x = n x.0
    cases kind.Batches p x = n x.0

-- ---- where it is

pub same_number : (a b : ℕ) → false ≡ not (a == b) → a ≡ b
same_number a b h = eqb_is a b (flip (a == b) (sym h))
  where
    flip : (x : Bool) → not x ≡ false → x ≡ true
    flip true h = refl
    flip false h = cc

lower : (m n : ℕ) (r : Bool) → (m < n) ⊎ ((m ≡ n) × (r ≡ true)) → (nat_lt m n || (m == n && r)) ≡ true
lower m n r (inl h) = or_left (nat_lt m n) (m == n && r) (lt_is m n h)
lower m n r (inr h) = or_right (nat_lt m n) (m == n && r) (both (m == n) r (eq-eqb m n h.0) h.1)
  where
    both : (a b : Bool) → a ≡ true → b ≡ true → (a && b) ≡ true
    both a b p q = cc

below_or_same : (m n : ℕ) → m ≤ n → (m < n) ⊎ ((m ≡ n) × (true ≡ true))
below_or_same m n h = go (bool_cases (nat_lt m n))
  where
    go : (nat_lt m n ≡ true) ⊎ (nat_lt m n ≡ false) → (m < n) ⊎ ((m ≡ n) × (true ≡ true))
    go (inl p) = inl (is m n p)
      where
        is : (m n : ℕ) → nat_lt m n ≡ true → m < n
        is m n p = ltb_is m n p
    go (inr p) = let above = ltb_not m n p in inr ((omega (arith, h, above)), refl)

pub at_cells : (c : CircuitId) (g i j : ℕ) (h k : Bound) (why : Kind) (p : ℕ) → g ≡ h.definition.generation → k.definition.generation ≡ g
    → IsFirstClash h k (Some (why, p))
    → IsLeast (IsCellClash c i j h k) (Some (record { circuit = c; generation = g; kind = why; first = i; second = j; place = p }))
at_cells c g i j h k why p e f x = (
  record { circuit = refl; first = refl; second = refl; generation = sym e; other_generation = f; clash = x.0 },
  λ t clash. at_most_here s t (sym clash.circuit)
      (lower g t.generation (are_at_most (kind_number why ∷ i ∷ j ∷ p ∷ []) (kind_number t.kind ∷ t.first ∷ t.second ∷ t.place ∷ []))
      (inr (e ∙ clash.generation, by_kind t clash (x.1 t.kind t.place clash.clash)))),
)
  where
    s : Clash
    s = record { circuit = c; generation = g; kind = why; first = i; second = j; place = p }

    by_kind : (t : Clash) → IsCellClash c i j h k t → (kind_number why < kind_number t.kind) ⊎ ((why ≡ t.kind) × (p ≤ t.place))
        → are_at_most (kind_number why ∷ i ∷ j ∷ p ∷ []) (kind_number t.kind ∷ t.first ∷ t.second ∷ t.place ∷ []) ≡ true
    by_kind t clash (inl a) = lower (kind_number why) (kind_number t.kind) (are_at_most (i ∷ j ∷ p ∷ []) (t.first ∷ t.second ∷ t.place ∷ [])) (inl a)
    by_kind t clash (inr a) =
        lower (kind_number why) (kind_number t.kind) (are_at_most (i ∷ j ∷ p ∷ []) (t.first ∷ t.second ∷ t.place ∷ []))
        (inr (
          ap kind_number a.0,
          lower i t.first (are_at_most (j ∷ p ∷ []) (t.second ∷ t.place ∷ []))
              (inr (
                sym clash.first,
                lower j t.second (are_at_most (p ∷ []) (t.place ∷ []))
                    (inr (sym clash.second, lower p t.place true (below_or_same p t.place a.1))),
              )),
        ))

pub no_cells : (c : CircuitId) (i j : ℕ) (h k : Bound) → IsFirstClash h k None → IsLeast (IsCellClash c i j h k) None
no_cells c i j h k x = λ t clash. x t.kind t.place clash.clash

pub other_generations : (c : CircuitId) (i j : ℕ) (h k : Bound) → h.definition.generation ≢ k.definition.generation → IsLeast (IsCellClash c i j h k) None
other_generations c i j h k n = λ t clash. n (clash.generation ∙ sym clash.other_generation)

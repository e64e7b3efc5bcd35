-- The pending acts of a node's own: there is at most one, and its turn is the node's.
use Rattle.std.{specs.{Prelude.nat_le, List.list_any, Str.bytes_eq}, proofs.Common.{◌≡◌, ◌⊎◌, ℕ, Bool, true, false, not, List, [], ◌∷◌, ◌++◌, append_assoc}}
use Rattle.std.proofs.{Common.{append-nil, refl, inl, inr, arith}, lemmas.Bool.Decides.nat_tests}
use Rattle.spl_agree.{specs.{Member.{Member, changed, without}, Fits.fits as fits_group, declared.event.GroupChange.GroupChange}, proofs.Tests.bool_cases}
use Rattle.spl_agree.proofs.Tests.{and_left, and_right, or_left, or_right, not_true}
use Rattle.spl_agree.specs.declared.event.GroupChange.TheVariants as change
use Rattle.spl_circuit.specs.{Nodes.NodeId, Acts.act_rules, declared.{act.Act.Act, definition.Definition.Definition}}
use Rattle.spl_cell_rules.{specs.Changes.{turn_after, may_queue}, proofs.Rebuilt.MayInTurn}

any-left : {A : Type 0} (p : A → Bool) (xs ys : List A) → list_any p (xs ++ ys) ≡ false → list_any p xs ≡ false
any-left p [] ys h = refl
any-left p (x ∷ xs) ys h = rw (or_left (p x) (list_any p (xs ++ ys)) h, any-left p xs ys (or_right (p x) (list_any p (xs ++ ys)) h))

any-right : {A : Type 0} (p : A → Bool) (xs ys : List A) → list_any p (xs ++ ys) ≡ false → list_any p ys ≡ false
any-right p [] ys h = h
any-right p (x ∷ xs) ys h = any-right p xs ys (or_right (p x) (list_any p (xs ++ ys)) h)

any-both : {A : Type 0} (p : A → Bool) (xs ys : List A) → list_any p xs ≡ false → list_any p ys ≡ false → list_any p (xs ++ ys) ≡ false
any-both p [] ys h k = k
any-both p (x ∷ xs) ys h k = rw (or_left (p x) (list_any p xs) h, any-both p xs ys (or_right (p x) (list_any p xs) h) k)

module _ (here : NodeId) where
  abbrev pub owns : List Act → Bool
  owns us = list_any (λ u. bytes_eq u.node here) us

  -- an own act stands after no other one, and has the node's turn
  abbrev pub Mine : ℕ → List Act → List Act → Type 0
  Mine turn before [] = Unit {0}
  Mine turn before (v ∷ vs) = (bytes_eq v.node here ≡ true → (owns before ≡ false) × (v.turn ≡ turn)) × Mine turn (before ++ v ∷ []) vs

  mine-more : (turn : ℕ) (before us : List Act) (v : Act) → Mine turn before us
      → (bytes_eq v.node here ≡ true → (owns (before ++ us) ≡ false) × (v.turn ≡ turn)) → Mine turn before (us ++ v ∷ [])
  mine-more turn before [] v m f = (rw append-nil at f, tt)
  mine-more turn before (u ∷ us) v m f = (m.0, mine-more turn (before ++ u ∷ []) us v m.1 (rw (append_assoc before (u ∷ []) us) f))

  mine-fewer : (turn : ℕ) (before less us : List Act) → (owns before ≡ false → owns less ≡ false) → Mine turn before us → Mine turn less us
  mine-fewer turn before less [] f m = tt
  mine-fewer turn before less (u ∷ us) f m = ((λ o. (f (m.0 o).0, (m.0 o).1)), mine-fewer turn (before ++ u ∷ []) (less ++ u ∷ []) us more m.1)
    where
      more : owns (before ++ u ∷ []) ≡ false → owns (less ++ u ∷ []) ≡ false
      more h = any-both (λ x. bytes_eq x.node here) less (u ∷ []) (f (any-left (λ x. bytes_eq x.node here) before (u ∷ []) h))
          (any-right (λ x. bytes_eq x.node here) before (u ∷ []) h)

  mine-without : (turn : ℕ) (p : Act → Bool) (before us : List Act) → Mine turn before us → Mine turn before (without p us)
  mine-without turn p before [] m = tt
  mine-without turn p before (u ∷ us) m = go (bool_cases (p u)) (mine-without turn p (before ++ u ∷ []) us m.1)
    where
      go : (p u ≡ true) ⊎ (p u ≡ false) → Mine turn (before ++ u ∷ []) (without p us) → Mine turn before (without p (u ∷ us))
      go (inl q) k = rw q (mine-fewer turn (before ++ u ∷ []) before us (any-left (λ x. bytes_eq x.node here) before (u ∷ [])) m.1)
      go (inr q) k = rw q (m.0, k)

  -- where there is none, any turn will do
  mine-none : (turn : ℕ) (before us : List Act) → owns us ≡ false → Mine turn before us
  mine-none turn before [] h = tt
  mine-none turn before (u ∷ us) h = (
    (λ o. absurd (let z : bytes_eq u.node here ≡ false = or_left (bytes_eq u.node here) (owns us) h in cc)),
    mine-none turn (before ++ u ∷ []) us (or_right (bytes_eq u.node here) (owns us) h),
  )

  mine-queue : (d : Definition) (turn : ℕ) (a : Member Act) (v : Act) → may_queue here turn a.pending v ≡ true → Mine turn [] a.pending
      → Mine (turn_after here turn (change.Queue v)) [] (a.pending ++ v ∷ [])
  mine-queue d turn a v h m = go (bool_cases (bytes_eq v.node here))
    where
      alone : bytes_eq v.node here ≡ true → owns a.pending ≡ false
      alone q = not_true (owns a.pending) (and_left (not (owns a.pending)) (nat_le turn v.turn) (rw q at h))

      go : (bytes_eq v.node here ≡ true) ⊎ (bytes_eq v.node here ≡ false) → Mine (turn_after here turn (change.Queue v)) [] (a.pending ++ v ∷ [])
      go (inl q) = rw q (mine-more v.turn [] a.pending v (mine-none v.turn [] a.pending (alone q)) (λ o. (alone q, refl)))
      go (inr q) = rw q (mine-more turn [] a.pending v m (λ o. absurd (let z : bytes_eq v.node here ≡ true = o in cc)))

  -- a change that fits leaves it so
  pub mine-changed : (d : Definition) (turn : ℕ) (a : Member Act) (x : GroupChange Act)
      → fits_group (act_rules d) (may_queue here turn a.pending) a x ≡ true → Mine turn [] a.pending
      → Mine (turn_after here turn x) [] (changed (act_rules d) a x).pending
  mine-changed d turn a (change.Queue v) h m = mine-queue d turn a v (and_right _ (may_queue here turn a.pending v) (and_right _ _ h)) m
  mine-changed d turn a (change.Refuse v why) h m = mine-without turn ((act_rules d).same_key v) [] a.pending m
  mine-changed d turn a (change.Commit r v) h m = mine-without turn ((act_rules d).same_key v) [] a.pending m
  mine-changed d turn a _ h m = m

  le_same : (n : ℕ) → nat_le n n ≡ true
  le_same n = grind (arith, nat_tests)

  -- so each may be queued again after those before it, at the node's turn
  pub mine-may : (turn : ℕ) (before us : List Act) → Mine turn before us → MayInTurn (may_queue here turn) before us
  mine-may turn before [] m = tt
  mine-may turn before (v ∷ vs) m = (go (bool_cases (bytes_eq v.node here)), mine-may turn (before ++ v ∷ []) vs m.1)
    where
      go : (bytes_eq v.node here ≡ true) ⊎ (bytes_eq v.node here ≡ false) → may_queue here turn before v ≡ true
      go (inl q) = let k = m.0 q in rw (q, k.0, k.1) (le_same turn)
      go (inr q) = rw q

-- Known keys stay known.
use Rattle.std.{specs.{Prelude.{Option, Some, None, is_some}, Str.bytes_eq}, proofs.Common.{◌≡◌, ℕ, ◌⊎◌, Bool, true, false, ◌&&◌, eqb, List, [], ◌∷◌, ◌++◌}}
use Rattle.std.proofs.Common.{refl, sym, subst, inl, inr}
use Rattle.spl_agree.specs.{Member.{Rules, Member, values, without, changed, found, found_refused, known, or_else, value_of}, World.IsPrefixOf}
use Rattle.spl_agree.{specs.declared.{event.GroupChange.GroupChange, reason.Reason.Reason}, proofs.Tests.{bool_cases, and_left, and_right, eqb_is}}
use Rattle.spl_agree.specs.declared.event.GroupChange.TheVariants as change
use Rattle.spl_circuit.specs.{Nodes.NodeId, Acts.act_rules, Same.node_is, declared.{act.Act.Act, definition.Definition.Definition}}
use Rattle.spl_command.specs.declared.batch.Batch.{Batch}
use Rattle.spl_scabbard.specs.Checks.{batch_rules}
use Rattle.spl_group_safety.proofs.Sound.{values-more}
use Rattle.spl_cell_rules.specs.Cells.{Held, Bound}
use Rattle.spl_circuit_safety.{specs.Agreement.Keeps, proofs.HistoriesGrow.{Lasts, stays-run, kept-prefix, prefix-same}}
use Rattle.spl_circuit_world.specs.{Worlds.{World, Occurrence, occur}, Projection.AllPlain}

-- two values that have the key of a third one have one key
abbrev pub IsKeyed : {V : Type 0} → Rules V → Type 0
IsKeyed {V} rules = (x u v : V) → rules.same_key u x ≡ true → rules.same_key v x ≡ true → rules.same_key v u ≡ true

-- what is found is found in more
pub found-more : {V : Type 0} (p : V → Bool) (u : V) (us : List V) → is_some (found p us) ≡ true → is_some (found p (us ++ u ∷ [])) ≡ true
found-more p u [] h = cc
found-more p u (x ∷ xs) h = go (bool_cases (p x)) (found-more p u xs)
  where
    go : (p x ≡ true) ⊎ (p x ≡ false) → (is_some (found p xs) ≡ true → is_some (found p (xs ++ u ∷ [])) ≡ true) → is_some (found p ((x ∷ xs) ++ u ∷ [])) ≡ true
    go (inl q) hyp = rw q
    go (inr q) hyp = rw q (hyp (rw q at h))

-- the last one is found by its own test
pub found-last : {V : Type 0} (p : V → Bool) (u : V) (us : List V) → p u ≡ true → is_some (found p (us ++ u ∷ [])) ≡ true
found-last p u [] h = rw h
found-last p u (x ∷ xs) h = go (bool_cases (p x)) (found-last p u xs h)
  where
    go : (p x ≡ true) ⊎ (p x ≡ false) → is_some (found p (xs ++ u ∷ [])) ≡ true → is_some (found p ((x ∷ xs) ++ u ∷ [])) ≡ true
    go (inl q) hyp = rw q
    go (inr q) hyp = rw q hyp

-- where one value less is there, its key is still found, or it was the key of that value
pub found-without : {V : Type 0} (rules : Rules V) (v u : V) (us : List V) → IsKeyed rules → is_some (found (rules.same_key v) us) ≡ true
    → (is_some (found (rules.same_key v) (without (rules.same_key u) us)) ≡ true) ⊎ (rules.same_key v u ≡ true)
found-without rules v u [] k h = inl h
found-without rules v u (x ∷ xs) k h = go (bool_cases (rules.same_key v x)) (bool_cases (rules.same_key u x)) (found-without rules v u xs k)
  where
    go : (rules.same_key v x ≡ true) ⊎ (rules.same_key v x ≡ false) → (rules.same_key u x ≡ true) ⊎ (rules.same_key u x ≡ false)
        → (is_some (found (rules.same_key v) xs) ≡ true
        → (is_some (found (rules.same_key v) (without (rules.same_key u) xs)) ≡ true) ⊎ (rules.same_key v u ≡ true))
        → (is_some (found (rules.same_key v) (without (rules.same_key u) (x ∷ xs))) ≡ true) ⊎ (rules.same_key v u ≡ true)
    go (inl p) (inl q) hyp = inr (k x u v q p)
    go (inl p) (inr q) hyp = inl (rw (q, p))
    go (inr p) (inl q) hyp = inl (rw q (rw p at h))
    go (inr p) (inr q) hyp = deeper (hyp (rw p at h))
      where
        deeper : (is_some (found (rules.same_key v) (without (rules.same_key u) xs)) ≡ true) ⊎ (rules.same_key v u ≡ true)
            → (is_some (found (rules.same_key v) (without (rules.same_key u) (x ∷ xs))) ≡ true) ⊎ (rules.same_key v u ≡ true)
        deeper (inl z) = inl (rw (q, p) z)
        deeper (inr z) = inr z

-- what is found among the refused is found in more
pub refused-more : {V : Type 0} (p : V → Bool) (e : V × Reason) (us : List (V × Reason)) → is_some (found_refused p us) ≡ true
    → is_some (found_refused p (us ++ e ∷ [])) ≡ true
refused-more p e [] h = cc
refused-more p e (x ∷ xs) h = go (bool_cases (p x.0)) (refused-more p e xs)
  where
    go : (p x.0 ≡ true) ⊎ (p x.0 ≡ false) → (is_some (found_refused p xs) ≡ true → is_some (found_refused p (xs ++ e ∷ [])) ≡ true)
        → is_some (found_refused p ((x ∷ xs) ++ e ∷ [])) ≡ true
    go (inl q) hyp = rw q
    go (inr q) hyp = rw q (hyp (rw q at h))

-- the last refused one is found by its own test
pub refused-last : {V : Type 0} (p : V → Bool) (e : V × Reason) (us : List (V × Reason)) → p e.0 ≡ true → is_some (found_refused p (us ++ e ∷ [])) ≡ true
refused-last p e [] h = rw h
refused-last p e (x ∷ xs) h = go (bool_cases (p x.0)) (refused-last p e xs h)
  where
    go : (p x.0 ≡ true) ⊎ (p x.0 ≡ false) → is_some (found_refused p (xs ++ e ∷ [])) ≡ true → is_some (found_refused p ((x ∷ xs) ++ e ∷ [])) ≡ true
    go (inl q) hyp = rw q
    go (inr q) hyp = rw q hyp

-- in one of the three lists
abbrev pub IsIn : {V : Type 0} → Rules V → V → List V → List V → List (V × Reason) → Type 0
IsIn rules v h p r =
    (is_some (found (rules.same_key v) h) ≡ true) ⊎ ((is_some (found (rules.same_key v) p) ≡ true) ⊎ (is_some (found_refused (rules.same_key v) r) ≡ true))

-- what is known is in one of the lists
pub in-known : {V : Type 0} (rules : Rules V) (v : V) (m : Member V) → is_some (known rules m v) ≡ true → IsIn rules v (values m.history) m.pending m.refused
in-known {V} rules v m h = go (found (rules.same_key v) (values m.history)) (found (rules.same_key v) m.pending) (found_refused (rules.same_key v) m.refused) h
  where
    go : (x y : Option V) (z : Option (V × Reason)) → is_some (or_else x (or_else y (value_of z))) ≡ true
        → (is_some x ≡ true) ⊎ ((is_some y ≡ true) ⊎ (is_some z ≡ true))
    go (Some x) y z k = inl refl
    go None (Some y) z k = inr (inl refl)
    go None None (Some z) k = inr (inr refl)
    go None None None k = cc

-- what is in one of the lists is known
pub known-in : {V : Type 0} (rules : Rules V) (v : V) (m : Member V) → IsIn rules v (values m.history) m.pending m.refused → is_some (known rules m v) ≡ true
known-in {V} rules v m h = go (found (rules.same_key v) (values m.history)) (found (rules.same_key v) m.pending) (found_refused (rules.same_key v) m.refused) h
  where
    go : (x y : Option V) (z : Option (V × Reason)) → (is_some x ≡ true) ⊎ ((is_some y ≡ true) ⊎ (is_some z ≡ true))
        → is_some (or_else x (or_else y (value_of z))) ≡ true
    go None None None (inl k) = k
    go None None None (inr (inl k)) = k
    go None None None (inr (inr k)) = k
    go _ _ _ k = refl

-- no change loses a key
pub in-changed : {V : Type 0} (rules : Rules V) (v : V) (m : Member V) (x : GroupChange V) → IsKeyed rules
    → IsIn rules v (values m.history) m.pending m.refused
    → IsIn rules v (values (changed rules m x).history) (changed rules m x).pending (changed rules m x).refused
in-changed rules v m (change.Queue u) k (inr (inl h)) = inr (inl (found-more (rules.same_key v) u m.pending h))
in-changed rules v m (change.Refuse u why) k (inr (inr h)) = inr (inr (refused-more (rules.same_key v) (u, why) m.refused h))
in-changed {V} rules v m (change.Refuse u why) k (inr (inl h)) = go (found-without rules v u m.pending k h)
  where
    go : (is_some (found (rules.same_key v) (without (rules.same_key u) m.pending)) ≡ true) ⊎ (rules.same_key v u ≡ true)
        → IsIn rules v (values m.history) (without (rules.same_key u) m.pending) (m.refused ++ (u, why) ∷ [])
    go (inl z) = inr (inl z)
    go (inr z) = inr (inr (refused-last (rules.same_key v) (u, why) m.refused z))
in-changed rules v m (change.Kept u why) k (inr (inr h)) = inr (inr (refused-more (rules.same_key v) (u, why) m.refused h))
in-changed {V} rules v m (change.Commit r u) k (inl h) =
    inl (subst (λ (z : List V). is_some (found (rules.same_key v) z) ≡ true) (sym (values-more m.history (r, u)))
    (found-more (rules.same_key v) u (values m.history) h))
in-changed {V} rules v m (change.Commit r u) k (inr (inl h)) = go (found-without rules v u m.pending k h)
  where
    go : (is_some (found (rules.same_key v) (without (rules.same_key u) m.pending)) ≡ true) ⊎ (rules.same_key v u ≡ true)
        → IsIn rules v (values (m.history ++ (r, u) ∷ [])) (without (rules.same_key u) m.pending) m.refused
    go (inl z) = inr (inl z)
    go (inr z) =
        inl (subst (λ (y : List V). is_some (found (rules.same_key v) y) ≡ true) (sym (values-more m.history (r, u)))
        (found-last (rules.same_key v) u (values m.history) z))
in-changed rules v m _ k (inl h) = inl h
in-changed rules v m _ k (inr (inl h)) = inr (inl h)
in-changed rules v m _ k (inr (inr h)) = inr (inr h)

-- the key of an act is its node and turn
pub keyed-acts : (d : Definition) → IsKeyed (act_rules d)
keyed-acts d x u v p q =
    let a : u.node ≡ x.node = node_is u.node x.node (and_left (bytes_eq u.node x.node) (eqb u.turn x.turn) p) in
    let b : u.turn ≡ x.turn = eqb_is u.turn x.turn (and_right (bytes_eq u.node x.node) (eqb u.turn x.turn) p) in
    subst (λ (t : ℕ). (bytes_eq v.node u.node && eqb v.turn t) ≡ true) (sym b)
    (subst (λ (n : NodeId). (bytes_eq v.node n && eqb v.turn x.turn) ≡ true) (sym a) q)

-- the key of a batch is its id
pub keyed-batches : IsKeyed batch_rules
keyed-batches x u v p q = subst (λ (t : ℕ). eqb v.id t ≡ true) (sym (eqb_is u.id x.id p)) q

-- what holds of a member of acts, or of batches, as long as its cell stays bound
pub lasting-acts : (v : Act) → Lasts (λ a. (d : Definition) → IsIn (act_rules d) v (values a.history) a.pending a.refused) (λ b. Unit {0})
lasting-acts v = record {
  acts = λ e a x p d. in-changed (act_rules d) v a x (keyed-acts d) (p d);
  batches = λ b x p. tt;
  opened_acts = λ a o p. p;
  opened_batches = λ b o p. tt;
}

pub lasting-batches : (v : Batch) → Lasts (λ a. Unit {0}) (λ b. IsIn batch_rules v (values b.history) b.pending b.refused)
lasting-batches v = record {
  acts = λ e a x p. tt;
  batches = λ b x p. in-changed batch_rules v b x keyed-batches p;
  opened_acts = λ a o p. tt;
  opened_batches = λ b o p. p;
}

-- whatever happens, histories grow, and what is known stays known
pub keeps-run : (w : World) (fs : List Occurrence) (n : NodeId) (b later : Bound) → AllPlain fs → w.at n ≡ Held b → (occur w fs).at n ≡ Held later
    → later.definition ≡ b.definition → Keeps b later
keeps-run w fs n b later k is is2 same = record {
  acts = grown.0;
  batches = grown.1;
  known_acts =
      λ v x. known-in (act_rules b.definition) v later.acts
      ((stays-run _ _ (lasting-acts v) w fs n b later k is is2 same (λ e. in-known (act_rules e) v b.acts x) tt).0 b.definition);
  known_batches =
      λ v x. known-in batch_rules v later.batches (stays-run _ _ (lasting-batches v) w fs n b later k is is2 same tt (in-known batch_rules v b.batches x)).1;
}
  where
    grown : IsPrefixOf b.acts.history later.acts.history × IsPrefixOf b.batches.history later.batches.history
    grown = stays-run (λ x. IsPrefixOf b.acts.history x.history) (λ x. IsPrefixOf b.batches.history x.history)
        (kept-prefix b.acts.history b.batches.history) w fs n b later k is is2 same (prefix-same b.acts.history) (prefix-same b.batches.history)

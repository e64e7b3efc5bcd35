-- A circuit that has ended at a node stays so there: after its acts none is good, so no more are committed.
use Rattle.std.{specs.Prelude.{None, ◌==◌}, proofs.Common.{◌≡◌, ◌⊎◌, ◌<◌, ℕ, true, false, List, [], ◌∷◌, ◌++◌, append-nil, append_assoc, refl, sym, ap}}
use Rattle.std.proofs.{Common.{subst, ◌∙◌, inl, inr, arith}, lemmas.{List.map-append, Option.none-some}}
use Rattle.spl_agree.specs.{Member.values, World.IsPrefixOf, Fits.AllGood, declared.reason.TheConstants.Reason.{NOT_A_MEMBER, WRONG_LIFECYCLE}}
use Rattle.spl_agree.{specs.declared.reason.TheConstants.Reason.OTHER_DEFINITION, proofs.Tests.bool_cases}
use Rattle.spl_circuit.specs.{Nodes.NodeId, Rules.is_member, Equality.same_definition, Lifecycle.{life, is_proposed, is_active, is_disbanding}, Acts.is_first}
use Rattle.spl_circuit.specs.{Acts.{misfit_kind, misfit, act_rules}, declared.act.{Act.Act, ActKind.ActKind, TheConstants.VERSION_TOO_LOW}}
use Rattle.spl_circuit.specs.declared.{definition.Definition.Definition, lifecycle.Lifecycle.Lifecycle}
use Rattle.spl_circuit.specs.declared.act.ActKind.TheVariants as kind
use Rattle.spl_circuit.specs.declared.lifecycle.Lifecycle.TheVariants as lifecycle
use Rattle.spl_cell_rules.specs.Cells.{Bound, Held, own_life}
use Rattle.spl_circuit_world.{specs.{Worlds.{World, Occurrence, occur, empty_world, world_after}, Projection.AllPlain}, proofs.LinesAsOccurrences.run-append}
use Rattle.spl_circuit_world.proofs.LinesAsOccurrences.{plain-append}
use Rattle.spl_circuit_safety.{specs.Agreement.{act_list, batch_list, AtEach, IsPast, circuit_has_ended, EndsForGood}, proofs.GroupWorlds.IsValidCell}
use Rattle.spl_circuit_safety.proofs.{CoupledDeeds.SomePast, Occurrences.{run-past, stays-after}, KnownStays.keeps-run}

-- ---- acts

-- nothing is asked for, and it isn't active
record IsOver (l : Lifecycle) : Type 0 where
  proposed : is_proposed l ≡ false
  active : is_active l ≡ false
  disbanding : is_disbanding l ≡ false

over : (l : Lifecycle) → circuit_has_ended l ≡ true → IsOver l
over lifecycle.Rejected h = record { proposed = refl; active = refl; disbanding = refl }
over lifecycle.Removed h = record { proposed = refl; active = refl; disbanding = refl }
over lifecycle.Disbanded h = record { proposed = refl; active = refl; disbanding = refl }
over _ h = cc

ended-later : (d : Definition) (acts : List Act) → circuit_has_ended (life d acts).state ≡ true → is_first acts ≡ false
ended-later d [] h = cc
ended-later d (a ∷ rest) h = refl

none-kind : (d : Definition) (acts : List Act) (n : NodeId) (k : ActKind) → circuit_has_ended (life d acts).state ≡ true → misfit_kind d acts n k ≡ None → ⊥
none-kind d acts n (kind.Propose e) h m = go (bool_cases (same_definition e d))
  where
    go : (same_definition e d ≡ true) ⊎ (same_definition e d ≡ false) → ⊥
    go (inl q) = none-some WRONG_LIFECYCLE (sym (rw (q, ended-later d acts h) at m))
    go (inr q) = none-some OTHER_DEFINITION (sym (rw q at m))
none-kind d acts n kind.Accept h m = none-some WRONG_LIFECYCLE (sym (rw (over _ h).proposed at m))
none-kind d acts n kind.Reject h m = none-some WRONG_LIFECYCLE (sym (rw (over _ h).proposed at m))
none-kind d acts n kind.Remove h m = none-some WRONG_LIFECYCLE (sym (rw (over _ h).proposed at m))
none-kind d acts n kind.Disband h m = go (bool_cases (d.version == 2))
  where
    go : ((d.version == 2) ≡ true) ⊎ ((d.version == 2) ≡ false) → ⊥
    go (inl q) = none-some WRONG_LIFECYCLE (sym (rw (q, (over _ h).active) at m))
    go (inr q) = none-some VERSION_TOO_LOW (sym (rw q at m))
none-kind d acts n (kind.DisbandAccept p) h m = none-some WRONG_LIFECYCLE (sym (rw (over _ h).disbanding at m))
none-kind d acts n (kind.DisbandReject p) h m = none-some WRONG_LIFECYCLE (sym (rw (over _ h).disbanding at m))
none-kind d acts n (kind.DisbandRemove p) h m = none-some WRONG_LIFECYCLE (sym (rw (over _ h).disbanding at m))

-- no act is good
none-good : (d : Definition) (acts : List Act) (v : Act) → circuit_has_ended (life d acts).state ≡ true → misfit d acts v ≡ None → ⊥
none-good d acts v h m = go (bool_cases (is_member d v.node))
  where
    go : (is_member d v.node ≡ true) ⊎ (is_member d v.node ≡ false) → ⊥
    go (inl q) = none-kind d acts v.node v.kind h (rw q at m)
    go (inr q) = none-some NOT_A_MEMBER (sym (rw q at m))

-- so the good acts after these are none
none-after : (d : Definition) (before acts more : List Act) → circuit_has_ended (life d (before ++ acts)).state ≡ true
    → AllGood (act_rules d) before (acts ++ more) → more ≡ []
none-after d before [] [] h g = refl
none-after d before [] (v ∷ vs) h g =
    absurd (none-good d before v (subst (λ (xs : List Act). circuit_has_ended (life d xs).state ≡ true) (append-nil before) h) g.0)
none-after d before (a ∷ acts) more h g =
    none-after d (before ++ a ∷ []) acts more
    (subst (λ (xs : List Act). circuit_has_ended (life d xs).state ≡ true) (sym (append_assoc before (a ∷ []) acts)) h) g.1

-- ---- cells

ends-same : (b later : Bound) → IsPrefixOf b.acts.history later.acts.history → AllGood (act_rules later.definition) [] (values later.acts.history)
    → later.definition ≡ b.definition → circuit_has_ended (own_life b).state ≡ true → (own_life later).state ≡ (own_life b).state
ends-same b later p good same h =
    ap (λ (x : Definition). (life x (values later.acts.history)).state) same
    ∙ ap (λ (xs : List Act). (life b.definition xs).state) (sym all ∙ (ap (λ (xs : List Act). values b.acts.history ++ xs) none ∙ append-nil _))
  where
    all : values b.acts.history ++ values p.0 ≡ values later.acts.history
    all = sym (map-append (λ (e : ℕ × Act). e.1) b.acts.history p.0) ∙ ap values p.1

    none : values p.0 ≡ []
    none = none-after b.definition [] (values b.acts.history) (values p.0) h
        (subst (λ (xs : List Act). AllGood (act_rules b.definition) [] xs) (sym all)
        (subst (λ (x : Definition). AllGood (act_rules x) [] (values later.acts.history)) same good))

pub ends-after : (ns : List NodeId) (es fs : List Occurrence) (d : Definition) → AllPlain es → AllPlain fs
    → AtEach (world_after ns es) d (λ n h. EndsForGood h ((occur (world_after ns es) fs).at n))
ends-after ns es fs d h k n b is same ended later is2 gen = ends-same b later (keeps-run (world_after ns es) fs n b later k is is2 still).acts good still ended
  where
    past : IsPast d (Held later)
    past = subst (IsPast d) is2 (stays-after ns es fs d h k n b is same)

    still : later.definition ≡ b.definition
    still = go past
      where
        go : (later.definition ≡ d) ⊎ (d.generation < later.definition.generation) → later.definition ≡ b.definition
        go (inl q) = q ∙ sym same
        go (inr q) = let e : b.definition.generation ≡ d.generation = ap (λ (x : Definition). x.generation) same in absurd (omega (arith, q, gen, e))

    all : SomePast [] (world_after ns (es ++ fs)).at (world_after ns (es ++ fs)).sent (λ f. act_list ns f (es ++ fs)) (λ f. batch_list ns f (es ++ fs))
    all = run-past ns (es ++ fs) (plain-append es fs h k)

    valid : IsValidCell n (Held later)
    valid = subst (IsValidCell n) is2 (subst (λ (w : World). IsValidCell n (w.at n)) (run-append (empty_world ns) es fs) (all.2.valid n))

    good : AllGood (act_rules later.definition) [] (values later.acts.history)
    good = valid.acts.good

-- The ids of a circuit's batches differ, and definitions that share a member are one or have no acts.
use Rattle.std.{specs.Prelude.{Option, Some, None}, proofs.Common.{◌≡◌, ◌≢◌, ℕ, ◌<◌, ◌⊎◌, true, false, eqb, List, [], ◌∷◌, ◌++◌, length, refl, sym, ap}}
use Rattle.std.proofs.{Common.{subst, ◌∙◌, inl, inr}, lemmas.Option.none-some}
use Rattle.spl_agree.specs.{Member.{Member, new_member, values}, Agreement.{Follows, lead, seat}, Fits.AllGood, declared.reason.Reason.Reason}
use Rattle.spl_agree.proofs.Tests.{bool_cases, eqb_is, eqb_same, or_true}
use Rattle.spl_circuit.specs.{Nodes.{NodeId, has_node, position}, Rules.{broken, admin}, Positions.position_below, declared.act.Act.Act}
use Rattle.spl_circuit.specs.declared.definition.Definition.{Definition}
use Rattle.spl_command.specs.{Rules.broken_batch, declared.batch.Batch.Batch}
use Rattle.spl_scabbard.specs.Checks.{is_taken, unless_broken, misfit_valid, misfit_batch, batch_rules}
use Rattle.spl_circuit_world.{specs.{Worlds.{Occurrence, world_after}, Projection.AllPlain}, proofs.Nodes.node_cases}
use Rattle.spl_circuit_safety.{specs.Agreement.{act_list, batch_list, AllDiffer, ShareNothing}, proofs.{Positions.position-apart, Rosters.{IsRoster, roster}}}
use Rattle.spl_circuit_safety.proofs.{GroupOfDefinition.{GroupMessage, Presence, Ever, SomeWorld, InGroups, Groups}, GroupWorlds.admin_presence}
use Rattle.spl_circuit_safety.proofs.{GroupWorlds.{service_presence, admin_said, service_said, admin_groups, service_groups}, CoupledSteps.Past}
use Rattle.spl_circuit_safety.proofs.{CoupledDeeds.SomePast, Occurrences.run-past}

-- a good batch is new
pub some_reason : (z : Reason) → Some z ≡ None → ⊥
some_reason z y = cc

-- a batch whose check is good has a new id
pub good-new : (before : List Batch) (v : Batch) → misfit_batch before v ≡ None → is_taken before v.id ≡ false
good-new before v h = go (broken_batch v) (bool_cases (is_taken before v.id)) h
  where
    go : (o : Option ℕ) → (is_taken before v.id ≡ true) ⊎ (is_taken before v.id ≡ false) → unless_broken o (misfit_valid before v) ≡ None
        → is_taken before v.id ≡ false
    go (Some rule) r x = absurd (some_reason _ x)
    go None (inl r) x = absurd (some_reason _ (rw r at x))
    go None (inr r) x = r

-- the last batch's id is taken
pub is_taken-last : (xs : List Batch) (v : Batch) → is_taken (xs ++ v ∷ []) v.id ≡ true
is_taken-last [] v = rw (eqb_same v.id)
is_taken-last (x ∷ xs) v = rw (is_taken-last xs v) (or_true (eqb v.id x.id))

-- a taken id stays taken
pub is_taken-more : (i : ℕ) (xs : List Batch) (v : Batch) → is_taken xs i ≡ true → is_taken (xs ++ v ∷ []) i ≡ true
is_taken-more i [] v h = cc
is_taken-more i (x ∷ xs) v h = go (bool_cases (eqb i x.id)) (λ k. is_taken-more i xs v k)
  where
    go : (eqb i x.id ≡ true) ⊎ (eqb i x.id ≡ false) → (is_taken xs i ≡ true → is_taken (xs ++ v ∷ []) i ≡ true) → is_taken ((x ∷ xs) ++ v ∷ []) i ≡ true
    go (inl q) hyp = rw q
    go (inr q) hyp = rw (hyp (rw q at h)) (or_true (eqb i x.id))

-- good batches have none of the ids before them
pub fresh_in : (i : ℕ) (before bs : List Batch) → is_taken before i ≡ true → AllGood batch_rules before bs → is_taken bs i ≡ false
fresh_in i before [] h g = refl
fresh_in i before (v ∷ vs) h g = go (bool_cases (eqb i v.id)) (fresh_in i (before ++ v ∷ []) vs (is_taken-more i before v h) g.1)
  where
    go : (eqb i v.id ≡ true) ⊎ (eqb i v.id ≡ false) → is_taken vs i ≡ false → is_taken (v ∷ vs) i ≡ false
    go (inl q) k =
        absurd (let new : is_taken before v.id ≡ false = good-new before v g.0 in let e : i ≡ v.id = eqb_is i v.id q in
        let old : is_taken before v.id ≡ true = subst (λ (z : ℕ). is_taken before z ≡ true) e h in cc)
    go (inr q) k = rw (q, k)

-- the ids of good batches differ
pub good-differ : (before bs : List Batch) → AllGood batch_rules before bs → AllDiffer bs
good-differ before [] g = tt
good-differ before (v ∷ vs) g = (fresh_in v.id (before ++ v ∷ []) vs (is_taken-last before v) g.1, good-differ (before ++ v ∷ []) vs g.1)

-- the list of such groups is good
pub groups-good : {V : Type 0} (groups : Groups V) (d : Definition) (past : Past) (at : NodeId → Presence V) (said : GroupMessage V → Type 0)
    (list : List V) → InGroups groups d past at said list → AllGood (groups.rules d) [] list
groups-good {V} groups d past at said list c = go c.empty
  where
    go : (list ≡ []) ⊎ Ever (groups.leader d) d past → AllGood (groups.rules d) [] list
    go (inl h) = subst (λ (z : List V). AllGood (groups.rules d) [] z) (sym h) tt
    go (inr h) = (c.coupled h).1.good

-- the ids of the circuit's list of batches differ
pub ids-differ : (ns : List NodeId) (d : Definition) (es : List Occurrence) → AllPlain es → AllDiffer (batch_list ns d es)
ids-differ ns d es h =
    let v : SomePast [] (world_after ns es).at (world_after ns es).sent (λ f. act_list ns f es) (λ f. batch_list ns f es) = run-past ns es h in
    good-differ [] (batch_list ns d es)
    (groups-good service_groups d v.0 (λ k. service_presence ((world_after ns es).at k)) (service_said (world_after ns es).sent) (batch_list ns d es)
    (v.2.services d))

-- where there are acts, every member was bound
pub all-ever : (d : Definition) (past : Past) (at : NodeId → Presence Act) (said : GroupMessage Act → Type 0) (list : List Act) (n : NodeId)
    → ((k : NodeId) (e : Definition) → Ever k e past → broken e ≡ None) → list ≢ [] → has_node d.members n ≡ true
    → InGroups admin_groups d past at said list → Ever n d past
all-ever d past at said list n ruled some mem c = go c.empty
  where
    by_world : IsRoster d → SomeWorld admin_groups d past at said list → Ever n d past
    by_world r w = pick (w.1.never n below) (node_cases n (admin d))
      where
        below : position d.members n < length d.members
        below = position_below d.members n mem

        lead_not : (w.0.at (position d.members (admin d))).history ≡ [] → ⊥
        lead_not h = some (sym w.1.listed ∙ ap (λ (x : List (ℕ × Act)). values x) h)

        pick : (w.0.at (position d.members n) ≡ new_member) ⊎ Ever n d past → (n ≡ admin d) ⊎ (n ≢ admin d) → Ever n d past
        pick (inr x) y = x
        pick (inl x) (inl y) = absurd (lead_not (subst (λ (z : NodeId). (w.0.at (position d.members z)).history ≡ []) y (ap (λ (z : Member Act). z.history) x)))
        pick (inl x) (inr y) = absurd (none f.trails)
          where
            f : Follows (lead (w.0.at (position d.members (admin d)))) (seat (w.0.at (position d.members n))) (position d.members n)
            f = w.1.agrees.follows (position d.members n) below (λ q. y (position-apart d.members n (admin d) r.few below q))

            none : ((w.0.at (position d.members n)).history ≡ (w.0.at (position d.members (admin d))).history)
                ⊎ ((p : ℕ × Act) × ((w.0.at (position d.members n)).promise ≡ Some p)
                × ((w.0.at (position d.members (admin d))).history ≡ (w.0.at (position d.members n)).history ++ p ∷ [])) → ⊥
            none (inl h) = lead_not (sym h ∙ ap (λ (z : Member Act). z.history) x)
            none (inr h) = none-some h.0 (sym (ap (λ (z : Member Act). z.promise) x) ∙ h.1)

    go : (list ≡ []) ⊎ Ever (admin d) d past → Ever n d past
    go (inl h) = absurd (some h)
    go (inr h) = by_world (roster d (ruled (admin d) d h)) (c.coupled h)

-- a member of two definitions of one generation that both have acts was bound to both
pub share-nothing : (ns : List NodeId) (d e : Definition) (es : List Occurrence) → AllPlain es → ShareNothing ns es d e
share-nothing ns d e es h n p q same x y =
    let v : SomePast [] (world_after ns es).at (world_after ns es).sent (λ f. act_list ns f es) (λ f. batch_list ns f es) = run-past ns es h in
    v.2.law n d e
    (all-ever d v.0 (λ k. admin_presence ((world_after ns es).at k)) (admin_said (world_after ns es).sent) (act_list ns d es) n v.2.ruled x p (v.2.admins d))
    (all-ever e v.0 (λ k. admin_presence ((world_after ns es).at k)) (admin_said (world_after ns es).sent) (act_list ns e es) n v.2.ruled y q
    (v.2.admins e)) same

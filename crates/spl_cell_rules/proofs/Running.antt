-- Once a circuit has run it goes on so: after its acts no act is good but those of a disband.
use Rattle.std.{specs.Prelude.{None, nat_lt, is_none}, proofs.Common.{◌≡◌, ◌⊎◌, ◌-◌, ◌^◌, Bool, true, false, List, [], ◌∷◌, ◌++◌, length, refl, sym, subst}}
use Rattle.std.proofs.{Common.{inl, inr}, lemmas.Option.none-some}
use Rattle.spl_base.specs.Booleans.{none_is}
use Rattle.spl_agree.{specs.{Member.{values, changed}, Fits.fits as fits_group, declared.event.GroupChange.GroupChange}, proofs.Booleans.if_holds}
use Rattle.spl_agree.proofs.Tests.{bool_cases, and_right, values-more}
use Rattle.spl_agree.specs.declared.event.GroupChange.TheVariants as change
use Rattle.spl_circuit.specs.{Nodes.NodeId, Rules.is_member, Equality.same_definition, Lifecycle.{Proposal, Life, life, life_after, has_all, accepted_by}}
use Rattle.spl_circuit.specs.{Lifecycle.{state_by, is_proposed, has_run}, Acts.{reason, is_first, misfit_kind, misfit, act_rules}, declared.act.Act.Act}
use Rattle.spl_circuit.{specs.declared.{act.ActKind.ActKind, definition.Definition.Definition, lifecycle.Lifecycle.Lifecycle}, proofs.Lives.life_more}
use Rattle.spl_circuit.specs.declared.lifecycle.Lifecycle.TheVariants as lifecycle
use Rattle.spl_circuit.specs.declared.act.ActKind.TheVariants as kind
use Rattle.spl_cell_rules.specs.Cells.{Bound, runs, keeps_batches}

run-proposed : (l : Lifecycle) → has_run l ≡ true → is_proposed l ≡ false
run-proposed lifecycle.Proposed h = cc
run-proposed _ h = refl

run-later : (d : Definition) (acts : List Act) → has_run (life d acts).state ≡ true → is_first acts ≡ false
run-later d [] h = cc
run-later d (a ∷ rest) h = refl

-- whether or not every member has accepted the disband
run-by : (d : Definition) (p : Proposal) (l : Lifecycle) → has_run l ≡ true → has_run (state_by d p l lifecycle.Disbanded) ≡ true
run-by d p l h = if_holds (λ (s : Lifecycle). has_run s ≡ true) (has_all d.members p.accepted) lifecycle.Disbanded l (λ q. refl) (λ q. h)

run-kind : (d : Definition) (acts : List Act) (n : NodeId) (k : ActKind) → has_run (life d acts).state ≡ true → misfit_kind d acts n k ≡ None
    → has_run (life_after d (length acts) (life d acts) n k).state ≡ true
run-kind d acts n (kind.Propose e) h m = absurd (go (bool_cases (same_definition e d)))
  where
    go : (same_definition e d ≡ true) ⊎ (same_definition e d ≡ false) → ⊥
    go (inl q) = none-some (reason 2) (sym (rw (q, run-later d acts h) at m))
    go (inr q) = none-some (reason 5) (sym (rw q at m))
run-kind d acts n kind.Accept h m = absurd (none-some (reason 2) (sym (rw (run-proposed (life d acts).state h) at m)))
run-kind d acts n kind.Reject h m = absurd (none-some (reason 2) (sym (rw (run-proposed (life d acts).state h) at m)))
run-kind d acts n kind.Remove h m = absurd (none-some (reason 2) (sym (rw (run-proposed (life d acts).state h) at m)))
run-kind d acts n (kind.DisbandAccept p) h m = run-by d (accepted_by (life d acts).disband n) (life d acts).state h
run-kind d acts n _ h m = refl

-- one act more that is good
pub run-more : (d : Definition) (acts : List Act) (v : Act) → has_run (life d acts).state ≡ true → misfit d acts v ≡ None
    → has_run (life d (acts ++ v ∷ [])).state ≡ true
run-more d acts v h m = subst (λ (l : Life). has_run l.state ≡ true) (sym (life_more d acts v)) (go (bool_cases (is_member d v.node)))
  where
    go : (is_member d v.node ≡ true) ⊎ (is_member d v.node ≡ false) → has_run (life_after d (length acts) (life d acts) v.node v.kind).state ≡ true
    go (inl q) = run-kind d acts v.node v.kind h (rw q at m)
    go (inr q) = absurd (none-some (reason 1) (sym (rw q at m)))

-- a change that fits leaves it so
pub keeps-changed : (h : Bound) (may : Act → Bool) (x : GroupChange Act) → keeps_batches h ≡ true → fits_group (act_rules h.definition) may h.acts x ≡ true
    → keeps_batches (record h { acts = changed (act_rules h.definition) h.acts x }) ≡ true
keeps-changed h may (change.Commit r v) a f =
    subst (λ (vs : List Act). has_run (life h.definition vs).state ≡ true) (sym (values-more h.acts.history (r, v)))
    (run-more h.definition (values h.acts.history) v a
    (none_is (misfit h.definition (values h.acts.history) v)
    (and_right (nat_lt (length h.acts.history) (2 ^ 32 - 1)) (is_none (misfit h.definition (values h.acts.history) v)) f)))
keeps-changed h may _ a f = a

-- what runs has run
pub running-keeps : (h : Bound) → runs h ≡ true → keeps_batches h ≡ true
running-keeps h q = rw q

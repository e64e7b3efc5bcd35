-- What the changes of a member keep holds as long as its cell stays bound.
use Rattle.std.{specs.Prelude.{Option, None, if◌then◌else◌, map}, proofs.Common.{◌≡◌, ◌≢◌, ℕ, ◌<◌, ◌≤◌, ◌⊎◌, Bool, true, false, List, [], ◌∷◌, ◌++◌}}
use Rattle.std.proofs.Common.{append-nil, append_assoc, refl, sym, ap, subst, ◌∙◌, inl, inr, arith}
use Rattle.spl_agree.specs.{Member.{Rules, Group, Member, new_member, changed, moved}, World.IsPrefixOf, declared.event.GroupChange.GroupChange}
use Rattle.spl_agree.specs.declared.event.OpenMove.{OpenMove}
use Rattle.spl_agree.specs.declared.event.GroupChange.TheVariants as change
use Rattle.spl_agree.specs.declared.event.OpenMove.TheVariants as move
use Rattle.spl_circuit.specs.{Nodes.{NodeId, CircuitId, position}, Acts.act_rules, declared.{act.Act.Act, definition.Definition.Definition}}
use Rattle.spl_command.specs.declared.batch.Batch.{Batch}
use Rattle.spl_scabbard.specs.Checks.{batch_rules}
use Rattle.spl_wire.specs.declared.{change.Change.Change, plan.Plan.Plan}
use Rattle.spl_wire.specs.declared.change.Change.TheVariants as durable
use Rattle.spl_cell_rules.specs.{Cells.{Cell, Empty, Held, Purged, Deed, Binds, Acts, Serves, Turns, Abandons, Purges, Bound, site_at}, Changes.changes_made}
use Rattle.spl_cell_rules.specs.{Changes.{made_one, moved_cell, stopped_cell, after_plan}, Plans.planned}
use Rattle.spl_sched.specs.Grammar.{step_node}
use Rattle.spl_circuit_world.specs.Worlds.{SentMessage, World, put_at, step_plan, Occurrence, Steps, Stops, Starts, Halts, circuit_happens, occur}
use Rattle.spl_circuit_world.{specs.{Worlds.{node_stopped, started, halted}, Projection.{IsPlain, AllPlain}}, proofs.{Nodes.node_cases, Puts.put_at-same}}
use Rattle.spl_circuit_world.proofs.Puts.{put_at-other}
use Rattle.spl_circuit_safety.proofs.{GroupOfDefinition.{group_of, plan_row}, GroupWorlds.{admin_groups, service_groups}, CoupledSteps.IsFree}
use Rattle.spl_circuit_safety.proofs.{DeedsAreSteps.IsStepOf, CoupledDeeds.made-bind, Occurrences.{IsDeed, step-deed}}

-- histories grow
pub prefix-same : {A : Type 0} (xs : List A) → IsPrefixOf xs xs
prefix-same xs = ([], append-nil _)

-- a beginning of a list is one of a longer one
pub prefix-more : {A : Type 0} (xs ys : List A) (z : A) → IsPrefixOf xs ys → IsPrefixOf xs (ys ++ z ∷ [])
prefix-more {A} xs ys z p = (p.0 ++ z ∷ [], sym (append_assoc xs p.0 (z ∷ [])) ∙ ap (λ (u : List A). u ++ z ∷ []) p.1)

-- a change only adds to a history
pub prefix-changed : {V : Type 0} (rules : Rules V) (h : List (ℕ × V)) (m : Member V) (x : GroupChange V) → IsPrefixOf h m.history
    → IsPrefixOf h (changed rules m x).history
prefix-changed rules h m (change.Commit r v) p = prefix-more h m.history (r, v) p
prefix-changed rules h m _ p = p

-- a move leaves a history
pub prefix-moved : {V : Type 0} (g : Group V) (i : ℕ) (h : List (ℕ × V)) (m : Member V) (o : OpenMove) → IsPrefixOf h m.history
    → IsPrefixOf h (moved g i m o).history
prefix-moved g i h m move.Keep p = p
prefix-moved g i h m _ p = p

-- what changes of a group keep
pub record Lasts (P : Member Act → Type 0) (Q : Member Batch → Type 0) : Type 0 where
  pub acts : (e : Definition) (m : Member Act) (x : GroupChange Act) → P m → P (changed (act_rules e) m x)
  pub batches : (m : Member Batch) (x : GroupChange Batch) → Q m → Q (changed batch_rules m x)
  pub opened_acts : (m : Member Act) (o : Option (ℕ × List ℕ)) → P m → P (record m { opened = o })
  pub opened_batches : (m : Member Batch) (o : Option (ℕ × List ℕ)) → Q m → Q (record m { opened = o })

-- a move keeps what holds whatever is open
pub moves-acts : {V : Type 0} (P : Member V → Type 0) (g : Group V) (i : ℕ) (m : Member V) (o : OpenMove)
    → ((m : Member V) (o : Option (ℕ × List ℕ)) → P m → P (record m { opened = o })) → P m → P (moved g i m o)
moves-acts P g i m move.Keep k p = p
moves-acts P g i m _ k p = k m _ p

-- a cell since it was bound to d with these histories
abbrev pub Since : Definition → (Member Act → Type 0) → (Member Batch → Type 0) → Cell → Type 0
Since d P Q Empty = ⊥
Since d P Q (Purged old) = d.generation ≤ old
Since d P Q (Held h) = ((h.definition ≡ d) × P h.acts × Q h.batches) ⊎ (d.generation < h.definition.generation)

-- a change that binds, or purges by a generation of its own, does it later
abbrev pub IsHigher : Definition → Change → Type 0
IsHigher d (durable.Bind e) = d.generation < e.generation
IsHigher d (durable.Gone old) = d.generation ≤ old
IsHigher d _ = Unit {0}

-- one change
pub since-one : (d : Definition) (P : Member Act → Type 0) (Q : Member Batch → Type 0) (kept : Lasts P Q) (n : NodeId) (k : Cell) (x : Change)
    → IsHigher d x → Since d P Q k → Since d P Q (made_one n k x)
since-one d P Q kept n k (durable.Bind e) h s = subst (λ (z : Cell). Since d P Q z) (sym (made-bind n k e)) (inr h)
since-one d P Q kept n (Held k) (durable.Admin x) h (inl s) = inl (s.0, kept.acts k.definition k.acts x s.1, s.2)
since-one d P Q kept n (Held k) (durable.Admin x) h (inr s) = inr s
since-one d P Q kept n (Held k) (durable.Service x) h (inl s) = inl (s.0, s.1, kept.batches k.batches x s.2)
since-one d P Q kept n (Held k) (durable.Service x) h (inr s) = inr s
since-one d P Q kept n (Held k) durable.Abandon h (inl s) = inl s
since-one d P Q kept n (Held k) durable.Abandon h (inr s) = inr s
since-one d P Q kept n (Held k) durable.Purge h (inl s) =
    let x : k.definition.generation ≡ d.generation = ap (λ (z : Definition). z.generation) s.0 in omega arith
since-one d P Q kept n (Held k) durable.Purge h (inr s) = omega (arith, s)
since-one d P Q kept n (Held k) (durable.Turn u) h s = s
since-one d P Q kept n (Held k) (durable.Gone new) h s = h
since-one d P Q kept n Empty (durable.Gone new) h s = h
since-one d P Q kept n (Purged old) (durable.Gone new) h s = h
since-one d P Q kept n Empty _ h s = s
since-one d P Q kept n (Purged old) _ h s = s

-- what is bound is higher
abbrev pub BindsHigher : Definition → List Change → Type 0
BindsHigher d [] = Unit {0}
BindsHigher d (x ∷ xs) = IsHigher d x × BindsHigher d xs

-- changes
pub since-made : (d : Definition) (P : Member Act → Type 0) (Q : Member Batch → Type 0) (kept : Lasts P Q) (n : NodeId) (k : Cell) (xs : List Change)
    → BindsHigher d xs → Since d P Q k → Since d P Q (changes_made n k xs)
since-made d P Q kept n k [] h s = s
since-made d P Q kept n k (x ∷ xs) h s = since-made d P Q kept n (made_one n k x) xs h.1 (since-one d P Q kept n k x h.0 s)

-- moves
pub since-moved : (d : Definition) (P : Member Act → Type 0) (Q : Member Batch → Type 0) (kept : Lasts P Q) (n : NodeId) (k : Cell) (x y : OpenMove)
    → Since d P Q k → Since d P Q (moved_cell n k x y)
since-moved d P Q kept n (Held h) x y (inl s) =
    inl (
      s.0,
      moves-acts P (group_of admin_groups h.definition) (position h.definition.members n) h.acts x (λ m o p. kept.opened_acts m o p) s.1,
      moves-acts Q (group_of service_groups h.definition) (position h.definition.members n) h.batches y (λ m o p. kept.opened_batches m o p) s.2,
    )
since-moved d P Q kept n (Held h) x y (inr s) = inr s
since-moved d P Q kept n _ x y s = s

-- a stop
pub since-stopped : (d : Definition) (P : Member Act → Type 0) (Q : Member Batch → Type 0) (kept : Lasts P Q) (k : Cell) → Since d P Q k
    → Since d P Q (stopped_cell k)
since-stopped d P Q kept (Held h) (inl s) = inl (s.0, kept.opened_acts h.acts None s.1, kept.opened_batches h.batches None s.2)
since-stopped d P Q kept (Held h) (inr s) = inr s
since-stopped d P Q kept _ s = s

-- changes of acts bind nothing
pub no_binds-admin : (d : Definition) (xs : List (GroupChange Act)) (ys : List Change) → BindsHigher d ys → BindsHigher d (map durable.Admin xs ++ ys)
no_binds-admin d [] ys h = h
no_binds-admin d (x ∷ xs) ys h = (tt, no_binds-admin d xs ys h)

-- changes of batches bind nothing
pub no_binds-service : (d : Definition) (xs : List (GroupChange Batch)) → BindsHigher d (map durable.Service xs)
no_binds-service d [] = tt
no_binds-service d (x ∷ xs) = (tt, no_binds-service d xs)

-- a cell that was bound is free for later generations only
pub free-since : (d : Definition) (P : Member Act → Type 0) (Q : Member Batch → Type 0) (kept : Lasts P Q) (k : Cell) (g : ℕ) → IsFree k g → Since d P Q k
    → d.generation < g
free-since d P Q kept Empty g f s = absurd s
free-since d P Q kept (Purged old) g f s = omega arith
free-since d P Q kept (Held h) g f s = absurd f

-- a deed that is a step binds only later generations
pub higher-deed : (d : Definition) (P : Member Act → Type 0) (Q : Member Batch → Type 0) (kept : Lasts P Q) (c : CircuitId) (n : NodeId)
    (sent : List SentMessage) (k : Cell) (deed : Deed) → IsStepOf n sent k deed → Since d P Q k → BindsHigher d (planned (site_at n c) deed).changes
higher-deed d P Q kept c n sent k (Binds say g back e) f s = (
  free-since d P Q kept k g.generation f.2 s,
  subst (λ (xs : List Change). BindsHigher d xs) (append-nil _) (no_binds-admin d (plan_row admin_groups g n new_member e).changes [] tt),
)
higher-deed d P Q kept c n sent k (Acts say b back e) f s =
    subst (λ (xs : List Change). BindsHigher d xs) (append-nil _) (no_binds-admin d (plan_row admin_groups b.definition n b.acts e).changes [] tt)
higher-deed d P Q kept c n sent k (Serves say b back e) f s = no_binds-service d (plan_row service_groups b.definition n b.batches e).changes
higher-deed d P Q kept c n sent k (Turns b x y) f s =
    no_binds-admin d (plan_row admin_groups b.definition n b.acts x).changes
    (map durable.Service (plan_row service_groups b.definition n b.batches y).changes)
    (no_binds-service d (plan_row service_groups b.definition n b.batches y).changes)
higher-deed d P Q kept c n sent k Abandons f s = (tt, tt)
higher-deed d P Q kept c n sent k Purges f s = (tt, tt)
higher-deed d P Q kept c n sent k _ f s = tt

-- one cell over an event
pub since-put : (P : Cell → Type 0) (at : NodeId → Cell) (n k : NodeId) (new : Cell) → (P (at n) → P new) → P (at k) → P (put_at at n new k)
since-put P at n k new h p = go (node_cases k n)
  where
    go : (k ≡ n) ⊎ (k ≢ n) → P (put_at at n new k)
    go (inl q) = subst (λ (z : NodeId). P (put_at at n new z)) (sym q) (subst P (sym (put_at-same at n new)) (h (subst (λ (z : NodeId). P (at z)) q p)))
    go (inr q) = subst P (sym (put_at-other at n new k q)) p

-- so does a step
pub higher-plan : (d : Definition) (P : Member Act → Type 0) (Q : Member Batch → Type 0) (kept : Lasts P Q) (w : World) (n : NodeId) (p : Plan)
    → IsDeed w n p → Since d P Q (w.at n) → BindsHigher d p.changes
higher-plan d P Q kept w n p i s = subst (λ (z : Plan). BindsHigher d z.changes) (sym i.3) (higher-deed d P Q kept i.2 n w.sent (w.at n) i.0 i.1 s)

-- a stop in a step
pub since-halts : (d : Definition) (P : Member Act → Type 0) (Q : Member Batch → Type 0) (kept : Lasts P Q) (n k : NodeId) (w : World) (p : Plan)
    (stays u : Bool) → IsDeed w n p → Since d P Q (w.at k) → Since d P Q ((if u then halted w n stays p else w).at k)
since-halts d P Q kept n k w p stays false i s = s
since-halts d P Q kept n k w p false true i s = since-put (Since d P Q) w.at n k (stopped_cell (w.at n)) (λ x. since-stopped d P Q kept (w.at n) x) s
since-halts d P Q kept n k w p true true i s =
    since-put (Since d P Q) w.at n k (stopped_cell (changes_made n (w.at n) p.changes))
    (λ x. since-stopped d P Q kept (changes_made n (w.at n) p.changes) (since-made d P Q kept n (w.at n) p.changes (higher-plan d P Q kept w n p i x) x)) s

-- a stop of the node
pub since-stops : (d : Definition) (P : Member Act → Type 0) (Q : Member Batch → Type 0) (kept : Lasts P Q) (n k : NodeId) (w : World) (u : Bool)
    → Since d P Q (w.at k) → Since d P Q ((if u then node_stopped w n else w).at k)
since-stops d P Q kept n k w false s = s
since-stops d P Q kept n k w true s = since-put (Since d P Q) w.at n k (stopped_cell (w.at n)) (λ x. since-stopped d P Q kept (w.at n) x) s

-- a start of the node
pub since-starts : (d : Definition) (P : Member Act → Type 0) (Q : Member Batch → Type 0) (kept : Lasts P Q) (n k : NodeId) (w : World) (u : Bool)
    → Since d P Q (w.at k) → Since d P Q ((if u then w else started w n).at k)
since-starts d P Q kept n k w true s = s
since-starts d P Q kept n k w false s = s

-- any occurrence
pub since-happens : (d : Definition) (P : Member Act → Type 0) (Q : Member Batch → Type 0) (kept : Lasts P Q) (k : NodeId) (w : World) (e : Occurrence)
    → IsPlain e → Since d P Q (w.at k) → Since d P Q ((circuit_happens w e).at k)
since-happens d P Q kept k w (Steps x) h s =
    since-put (Since d P Q) w.at (step_node x) k (after_plan (step_node x) (w.at (step_node x)) (step_plan w x))
    (λ y. since-moved d P Q kept (step_node x) (changes_made (step_node x) (w.at (step_node x)) (step_plan w x).changes) (step_plan w x).admin
    (step_plan w x).service
    (since-made d P Q kept (step_node x) (w.at (step_node x)) (step_plan w x).changes
    (higher-plan d P Q kept w (step_node x) (step_plan w x) (step-deed w x h) y) y)) s
since-happens d P Q kept k w (Stops n) h s = since-stops d P Q kept n k w (w.up n) s
since-happens d P Q kept k w (Starts n) h s = since-starts d P Q kept n k w (w.up n) s
since-happens d P Q kept k w (Halts stays x) h s = since-halts d P Q kept (step_node x) k w (step_plan w x) stays (w.up (step_node x)) (step-deed w x h) s

-- any run
pub since-run : (d : Definition) (P : Member Act → Type 0) (Q : Member Batch → Type 0) (kept : Lasts P Q) (k : NodeId) (w : World) (es : List Occurrence)
    → AllPlain es → Since d P Q (w.at k) → Since d P Q ((occur w es).at k)
since-run d P Q kept k w [] h s = s
since-run d P Q kept k w (e ∷ es) h s = since-run d P Q kept k (circuit_happens w e) es h.1 (since-happens d P Q kept k w e h.0 s)

-- that a history begins so lasts
pub kept-prefix : (ha : List (ℕ × Act)) (hb : List (ℕ × Batch)) → Lasts (λ m. IsPrefixOf ha m.history) (λ m. IsPrefixOf hb m.history)
kept-prefix ha hb = record {
  acts = λ e m x p. prefix-changed (act_rules e) ha m x p;
  batches = λ m x p. prefix-changed batch_rules hb m x p;
  opened_acts = λ m o p. p;
  opened_batches = λ m o p. p;
}

-- a fact that changes keep holds as long as a cell stays bound
pub stays-run : (P : Member Act → Type 0) (Q : Member Batch → Type 0) → Lasts P Q → (w : World) (fs : List Occurrence) (n : NodeId) (b later : Bound)
    → AllPlain fs → w.at n ≡ Held b → (occur w fs).at n ≡ Held later → later.definition ≡ b.definition → P b.acts → Q b.batches
    → P later.acts × Q later.batches
stays-run P Q kept w fs n b later k is is2 same p q =
    go (subst (λ (z : Cell). Since b.definition P Q z) is2
    (since-run b.definition P Q kept n w fs k (subst (λ (z : Cell). Since b.definition P Q z) (sym is) (inl (refl, p, q)))))
  where
    go : Since b.definition P Q (Held later) → P later.acts × Q later.batches
    go (inl s) = (s.1, s.2)
    go (inr s) = let x : later.definition.generation ≡ b.definition.generation = ap (λ (z : Definition). z.generation) same in absurd (omega (arith, s))

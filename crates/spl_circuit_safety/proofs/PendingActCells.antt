-- What holds of the acts that a bound cell keeps, and how a change of the admin group keeps it.
use Rattle.std.{specs.Prelude.{Option, Some, None, is_some}, proofs.Common.{◌≡◌, ◌≢◌, ℕ, ◌⊎◌, Bool, true, false, List, [], ◌∷◌, ◌++◌, refl, sym, ap, subst}}
use Rattle.std.proofs.Common.{◌∙◌, inl, inr}
use Rattle.spl_agree.specs.{Member.{Member, values, without, found, found_refused, changed, changed_by}, declared.event.GroupChange.GroupChange}
use Rattle.spl_agree.{specs.declared.reason.Reason.Reason, proofs.Tests.bool_cases}
use Rattle.spl_agree.specs.declared.message.CommitMsg.TheVariants as msg
use Rattle.spl_agree.specs.declared.event.GroupChange.TheVariants as change
use Rattle.spl_circuit.specs.{Nodes.NodeId, Rules.admin, Acts.act_rules, Equality.same_act_key, Same.key_parts, declared.act.Act.Act}
use Rattle.spl_circuit.specs.declared.definition.Definition.{Definition}
use Rattle.spl_group_safety.proofs.Sound.{values-more}
use Rattle.spl_cell_rules.specs.Cells.{Cell, Held}
use Rattle.spl_circuit_safety.{specs.Agreement.is_proposal, proofs.{GroupOfDefinition.{GroupMessage, Ever}, CoupledSteps.Past, KnownStays.found-more}}
use Rattle.spl_circuit_safety.proofs.{KnownStays.{found-last, refused-more, refused-last}, PendingActsDue.{IsOther, Forwards}, PendingActLists.{Among, Pairs}}
use Rattle.spl_circuit_safety.proofs.PendingActLists.{OtherKey, NotBoth, among-split, among-more, among-without, pairs-last, pairs-without, without-keeps}
use Rattle.spl_circuit_safety.proofs.PendingActLists.{found-none, found-none_more, refused-none_more, key-back, keys-one, keys-without, both-not}

-- what a cell keeps of acts: the committed, the pending and the refused ones
pub record View : Type 0 where
  pub done : List Act
  pub pending : List Act
  pub refused : List (Act × Reason)

-- a cell as it is seen here: unbound, or bound with its acts
pub data Sight : Type 0 where
  Nowhere : Sight
  Sees : (d : Definition) → (w : View) → Sight

abbrev pub view : Member Act → View
view a = record { done = values a.history; pending = a.pending; refused = a.refused }

abbrev pub no_view : View
no_view = record { done = []; pending = []; refused = [] }

abbrev pub sight : Cell → Sight
sight (Held h) = Sees h.definition (view h.acts)
sight _ = Nowhere

-- equal sights have equal parts
pub sees_is : (d e : Definition) (w u : View) → Sees d w ≡ Sees e u → (d ≡ e) × (w ≡ u)
sees_is d e w u h = (cc, cc)

pub sees_not : (e : Definition) (w : View) → Nowhere ≡ Sees e w → ⊥
sees_not e w h = cc

-- the key of an act is committed or refused
abbrev pub Settled : View → Act → Type 0
Settled w u = (is_some (found (same_act_key u) w.done) ≡ true) ⊎ (is_some (found_refused (same_act_key u) w.refused) ≡ true)

abbrev pub Unsettled : View → Act → Type 0
Unsettled w u = (found (same_act_key u) w.done ≡ None) × (found_refused (same_act_key u) w.refused ≡ None)

some_not : {A : Type 0} (o : Option A) → is_some o ≡ true → o ≡ None → ⊥
some_not (Some x) p q = cc
some_not None p q = cc

-- it is not both
pub settled-not : (w : View) (u : Act) → Settled w u → Unsettled w u → ⊥
settled-not w u (inl h) k = some_not (found (same_act_key u) w.done) h k.0
settled-not w u (inr h) k = some_not (found_refused (same_act_key u) w.refused) h k.1

-- the test of a key, by its parts
abbrev of_key : NodeId → ℕ → Act → Bool
of_key n t x = same_act_key (record { node = n; turn = t; kind = x.kind }) x

-- it hangs on the key alone
pub settled-key : (w : View) (u v : Act) → same_act_key u v ≡ true → Settled w u → Settled w v
settled-key w u v h s =
    let k : (u.node ≡ v.node) × (u.turn ≡ v.turn) = key_parts u v h in
    subst (λ (n : NodeId). (is_some (found (of_key n v.turn) w.done) ≡ true) ⊎ (is_some (found_refused (of_key n v.turn) w.refused) ≡ true)) k.0
    (subst (λ (t : ℕ). (is_some (found (of_key u.node t) w.done) ≡ true) ⊎ (is_some (found_refused (of_key u.node t) w.refused) ≡ true)) k.1 s)

-- an act was sent back as refused
abbrev pub Returns : (GroupMessage Act → Type 0) → NodeId → NodeId → ℕ → Act → Reason → Type 0
Returns said n k g u why = said (record { from = n; to = k; body = msg.Refused g u why })

-- what holds of the acts of a cell that is bound to e
pub record IsTidy (past : Past) (said : GroupMessage Act → Type 0) (n : NodeId) (e : Definition) (w : View) : Type 0 where
  -- a pending proposal is the first act of its node
  pub first : (v : Act) → Among v w.pending → is_proposal v.kind ≡ true → v.turn ≡ 1
  -- but at the coordinator, the pending acts are the node's own, and there is at most one of these
  pub own : n ≢ admin e → (v : Act) → Among v w.pending → v.node ≡ n
  pub single : Pairs (NotBoth n) w.pending
  -- the keys of pending acts differ, and are neither committed nor refused
  pub keys : Pairs OtherKey w.pending
  pub unsettled : (v : Act) → Among v w.pending → Unsettled w v
  -- where a vote or a removal is pending, the coordinator was bound
  pub lively : (v : Act) → Among v w.pending → IsOther v → Ever (admin e) e past
  -- an act that is pending at the coordinator is its own, or its node has forwarded it
  pub came : n ≡ admin e → (v : Act) → Among v w.pending → (v.node ≡ n) ⊎ Forwards said v.node n e.generation v

-- what holds of an act that is queued
pub record MayJoin (past : Past) (said : GroupMessage Act → Type 0) (n : NodeId) (e : Definition) (w : View) (v : Act) : Type 0 where
  pub first : is_proposal v.kind ≡ true → v.turn ≡ 1
  pub own : n ≢ admin e → v.node ≡ n
  pub alone : v.node ≡ n → (x : Act) → Among x w.pending → x.node ≢ n
  pub lively : IsOther v → Ever (admin e) e past
  pub came : n ≡ admin e → (v.node ≡ n) ⊎ Forwards said v.node n e.generation v

-- the key of an act is unknown
abbrev pub IsUnknown : View → Act → Type 0
IsUnknown w v = (found (same_act_key v) w.done ≡ None) × (found (same_act_key v) w.pending ≡ None) × (found_refused (same_act_key v) w.refused ≡ None)

-- what a change does to the acts
abbrev pub shifted : View → GroupChange Act → View
shifted w (change.Queue v) = record { done = w.done; pending = w.pending ++ v ∷ []; refused = w.refused }
shifted w (change.Refuse v why) = record { done = w.done; pending = without (same_act_key v) w.pending; refused = w.refused ++ (v, why) ∷ [] }
shifted w (change.Commit r v) = record { done = w.done ++ v ∷ []; pending = without (same_act_key v) w.pending; refused = w.refused }
shifted w (change.Kept v why) = record { done = w.done; pending = w.pending; refused = w.refused ++ (v, why) ∷ [] }
shifted w _ = w

abbrev pub shifted_by : View → List (GroupChange Act) → View
shifted_by w [] = w
shifted_by w (x ∷ xs) = shifted_by (shifted w x) xs

pub view-changed : (d : Definition) (a : Member Act) (x : GroupChange Act) → view (changed (act_rules d) a x) ≡ shifted (view a) x
view-changed d a (change.Commit r v) =
    ap (λ (h : List Act). record { done = h; pending = without (same_act_key v) a.pending; refused = a.refused }) (values-more a.history (r, v))
view-changed d a _ = refl

pub view-by : (d : Definition) (a : Member Act) (xs : List (GroupChange Act)) → view (changed_by (act_rules d) a xs) ≡ shifted_by (view a) xs
view-by d a [] = refl
view-by d a (x ∷ xs) = view-by d (changed (act_rules d) a x) xs ∙ ap (λ (w : View). shifted_by w xs) (view-changed d a x)

-- what a change asks: what is queued may join and is unknown; what is refused is so by the coordinator
abbrev pub Meets : Past → (GroupMessage Act → Type 0) → NodeId → Definition → View → GroupChange Act → Type 0
Meets past said n e w (change.Queue v) = MayJoin past said n e w v × IsUnknown w v
Meets past said n e w (change.Refuse v why) = (n ≡ admin e) ⊎ (Among v w.pending × Returns said (admin e) n e.generation v why)
Meets past said n e w (change.Kept v why) = ⊥
Meets past said n e w _ = Unit {0}

-- at most one change, which meets what it asks
abbrev pub MeetsOne : Past → (GroupMessage Act → Type 0) → NodeId → Definition → View → List (GroupChange Act) → Type 0
MeetsOne past said n e w [] = Unit {0}
MeetsOne past said n e w (x ∷ []) = Meets past said n e w x
MeetsOne past said n e w (x ∷ y ∷ zs) = ⊥

-- a new cell is tidy
pub tidy-new : (past : Past) (said : GroupMessage Act → Type 0) (n : NodeId) (e : Definition) → IsTidy past said n e no_view
tidy-new past said n e = record {
  first = λ v h. absurd h;
  own = λ o v h. absurd h;
  single = tt;
  keys = tt;
  unsettled = λ v h. absurd h;
  lively = λ v h. absurd h;
  came = λ o v h. absurd h;
}

-- more bindings and more messages
pub tidy-more : (past past2 : Past) (said said2 : GroupMessage Act → Type 0) (n : NodeId) (e : Definition) (w : View)
    → ((k : NodeId) (f : Definition) → Ever k f past → Ever k f past2) → ((l : GroupMessage Act) → said l → said2 l) → IsTidy past said n e w
    → IsTidy past2 said2 n e w
tidy-more past past2 said said2 n e w p q t = record {
  first = t.first;
  own = t.own;
  single = t.single;
  keys = t.keys;
  unsettled = t.unsettled;
  lively = λ v h o. p (admin e) e (t.lively v h o);
  came = λ o v h. go v (t.came o v h);
}
  where
    go : (v : Act) → (v.node ≡ n) ⊎ Forwards said v.node n e.generation v → (v.node ≡ n) ⊎ Forwards said2 v.node n e.generation v
    go v (inl x) = inl x
    go v (inr x) = inr (q (record { from = v.node; to = n; body = msg.Forward e.generation v }) x)

-- one more is pending
pub tidy-queue : (past : Past) (said : GroupMessage Act → Type 0) (n : NodeId) (e : Definition) (w : View) (v : Act) → MayJoin past said n e w v
    → IsUnknown w v → IsTidy past said n e w → IsTidy past said n e (shifted w (change.Queue v))
tidy-queue past said n e w v j k t = record {
  first = split (λ x. is_proposal x.kind ≡ true → x.turn ≡ 1) j.first t.first;
  own = λ o. split (λ x. x.node ≡ n) (j.own o) (t.own o);
  single = pairs-last (NotBoth n) v w.pending (λ x h p q. j.alone q x h p) t.single;
  keys = pairs-last OtherKey v w.pending (λ x h. found-none (same_act_key v) x w.pending k.1 h) t.keys;
  unsettled = split (λ x. Unsettled w x) (k.0, k.2) t.unsettled;
  lively = split (λ x. IsOther x → Ever (admin e) e past) j.lively t.lively;
  came = λ o. split (λ x. (x.node ≡ n) ⊎ Forwards said x.node n e.generation x) (j.came o) (t.came o);
}
  where
    split : (P : Act → Type 0) → P v → ((x : Act) → Among x w.pending → P x) → (x : Act) → Among x (w.pending ++ v ∷ []) → P x
    split P new old x h = go (among-split x v w.pending h)
      where
        go : Among x w.pending ⊎ (x ≡ v) → P x
        go (inl y) = old x y
        go (inr y) = subst P (sym y) new

-- fewer are pending
pub tidy-without : (past : Past) (said : GroupMessage Act → Type 0) (n : NodeId) (e : Definition) (w : View) (v : Act) (done : List Act)
    (refused : List (Act × Reason))
    → ((x : Act) → same_act_key x v ≡ false → Unsettled w x → (found (same_act_key x) done ≡ None) × (found_refused (same_act_key x) refused ≡ None))
    → IsTidy past said n e w
    → IsTidy past said n e (record { done = done; pending = without (same_act_key v) w.pending; refused = refused })
tidy-without past said n e w v done refused still t = record {
  first = λ x h. t.first x (was x h);
  own = λ o x h. t.own o x (was x h);
  single = pairs-without (NotBoth n) (same_act_key v) w.pending t.single;
  keys = pairs-without OtherKey (same_act_key v) w.pending t.keys;
  unsettled = λ x h. still x (other x h) (t.unsettled x (was x h));
  lively = λ x h. t.lively x (was x h);
  came = λ o x h. t.came o x (was x h);
}
  where
    was : (x : Act) → Among x (without (same_act_key v) w.pending) → Among x w.pending
    was x h = among-without (same_act_key v) x w.pending h

    other : (x : Act) → Among x (without (same_act_key v) w.pending) → same_act_key x v ≡ false
    other x h = go (bool_cases (same_act_key x v))
      where
        go : (same_act_key x v ≡ true) ⊎ (same_act_key x v ≡ false) → same_act_key x v ≡ false
        go (inl q) = absurd (both-not (same_act_key v x) (key-back x v q) (keys-without v x w.pending t.keys h))
        go (inr q) = q

-- a change that meets what it asks leaves the cell tidy
pub tidy-shifted : (past : Past) (said : GroupMessage Act → Type 0) (n : NodeId) (e : Definition) (w : View) (x : GroupChange Act)
    → Meets past said n e w x → IsTidy past said n e w → IsTidy past said n e (shifted w x)
tidy-shifted past said n e w (change.Queue v) m t = tidy-queue past said n e w v m.0 m.1 t
tidy-shifted past said n e w (change.Refuse v why) m t =
    tidy-without past said n e w v w.done (w.refused ++ (v, why) ∷ []) (λ x h u. (u.0, refused-none_more (same_act_key x) (v, why) w.refused u.1 h)) t
tidy-shifted past said n e w (change.Commit r v) m t =
    tidy-without past said n e w v (w.done ++ v ∷ []) w.refused (λ x h u. (found-none_more (same_act_key x) v w.done u.0 h, u.1)) t
tidy-shifted past said n e w (change.Kept v why) m t = absurd m
tidy-shifted past said n e w _ m t = t

pub tidy-by : (past : Past) (said : GroupMessage Act → Type 0) (n : NodeId) (e : Definition) (w : View) (xs : List (GroupChange Act))
    → MeetsOne past said n e w xs → IsTidy past said n e w → IsTidy past said n e (shifted_by w xs)
tidy-by past said n e w [] m t = t
tidy-by past said n e w (x ∷ []) m t = tidy-shifted past said n e w x m t
tidy-by past said n e w (x ∷ y ∷ zs) m t = absurd m

-- how an act that was pending got settled: it is committed here, or here is the coordinator, or it came back from there
abbrev pub WhySettled : (GroupMessage Act → Type 0) → NodeId → Definition → View → Act → Type 0
WhySettled said n e w u = (is_some (found (same_act_key u) w.done) ≡ true) ⊎ ((n ≡ admin e) ⊎ ((why : Reason) × Returns said (admin e) n e.generation u why))

-- the acts of a cell go on: what was pending is, or is settled, and what was settled is
pub record Grows (said : GroupMessage Act → Type 0) (n : NodeId) (e : Definition) (w w2 : View) : Type 0 where
  pub pending : (u : Act) → Among u w.pending → Among u w2.pending ⊎ (Settled w2 u × WhySettled said n e w2 u)
  pub settled : (u : Act) → Settled w u → Settled w2 u

pub grows-same : (said : GroupMessage Act → Type 0) (n : NodeId) (e : Definition) (w : View) → Grows said n e w w
grows-same said n e w = record { pending = λ u h. inl h; settled = λ u h. h }

-- a change that meets what it asks
pub grows-shifted : (past : Past) (said : GroupMessage Act → Type 0) (n : NodeId) (e : Definition) (w : View) (x : GroupChange Act)
    → Meets past said n e w x → IsTidy past said n e w → Grows said n e w (shifted w x)
grows-shifted past said n e w (change.Queue v) m t = record { pending = λ u h. inl (among-more u v w.pending h); settled = λ u h. h }
grows-shifted past said n e w (change.Refuse v why) m t = record { pending = λ u h. go u h m (without-keeps (same_act_key v) u w.pending h); settled = more }
  where
    more : (u : Act) → Settled w u → Settled (shifted w (change.Refuse v why)) u
    more u (inl h) = inl h
    more u (inr h) = inr (refused-more (same_act_key u) (v, why) w.refused h)

    go : (u : Act) → Among u w.pending → (n ≡ admin e) ⊎ (Among v w.pending × Returns said (admin e) n e.generation v why)
        → Among u (without (same_act_key v) w.pending) ⊎ (same_act_key v u ≡ true)
        → Among u (without (same_act_key v) w.pending) ⊎ (Settled (shifted w (change.Refuse v why)) u × WhySettled said n e (shifted w (change.Refuse v why)) u)
    go u h k (inl a) = inl a
    go u h (inl k) (inr q) = inr (inr (refused-last (same_act_key u) (v, why) w.refused (key-back v u q)), inr (inl k))
    go u h (inr k) (inr q) = inr (
      inr (refused-last (same_act_key u) (v, why) w.refused (key-back v u q)),
      inr (inr (why, subst (λ (z : Act). Returns said (admin e) n e.generation z why) (keys-one v u w.pending t.keys k.0 h q) k.1)),
    )
grows-shifted past said n e w (change.Commit r v) m t = record { pending = λ u h. go u (without-keeps (same_act_key v) u w.pending h); settled = more }
  where
    more : (u : Act) → Settled w u → Settled (shifted w (change.Commit r v)) u
    more u (inl h) = inl (found-more (same_act_key u) v w.done h)
    more u (inr h) = inr h

    go : (u : Act) → Among u (without (same_act_key v) w.pending) ⊎ (same_act_key v u ≡ true)
        → Among u (without (same_act_key v) w.pending) ⊎ (Settled (shifted w (change.Commit r v)) u × WhySettled said n e (shifted w (change.Commit r v)) u)
    go u (inl a) = inl a
    go u (inr q) =
        let k : is_some (found (same_act_key u) (w.done ++ v ∷ [])) ≡ true = found-last (same_act_key u) v w.done (key-back v u q) in inr (inl k, inl k)
grows-shifted past said n e w (change.Kept v why) m t = absurd m
grows-shifted past said n e w _ m t = grows-same said n e w

pub grows-by : (past : Past) (said : GroupMessage Act → Type 0) (n : NodeId) (e : Definition) (w : View) (xs : List (GroupChange Act))
    → MeetsOne past said n e w xs → IsTidy past said n e w → Grows said n e w (shifted_by w xs)
grows-by past said n e w [] m t = grows-same said n e w
grows-by past said n e w (x ∷ []) m t = grows-shifted past said n e w x m t
grows-by past said n e w (x ∷ y ∷ zs) m t = absurd m

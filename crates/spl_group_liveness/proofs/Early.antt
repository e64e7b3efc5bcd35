-- Before a round of the first pending value is open.
use Rattle.std.{specs.Prelude.{Option, Some, None, ◌==◌, if◌then◌else◌}, proofs.Common.{◌≡◌, ◌≢◌, ℕ, ◌+◌, ◌<◌, ◌≤◌, ◌⊎◌, true, false, eqb, List, [], ◌∷◌}}
use Rattle.std.proofs.Common.{◌++◌, length, refl, sym, ap, subst, ◌∙◌, inl, inr, arith}
use Rattle.spl_agree.specs.{Member.{Group, Member, values, without, others, has, found, is_spent, none_left}, Rows.{row, to_each, coordinator_tick}}
use Rattle.spl_agree.specs.{Rows.{try_first, judge_first}, World.after, declared.{event.GroupEvent.GroupEvent, message.CommitMsg.CommitMsg}}
use Rattle.spl_agree.{specs.declared.{plan.GroupPlan.GroupPlan, reason.Reason.Reason}, proofs.Tests.{if_true, if_false, eqb_is, eqb_not, eqb_same}}
use Rattle.spl_agree.proofs.Tests.{bool_cases, has-below_but, has-below_but-other, put-same, put-other}
use Rattle.spl_agree.specs.declared.message.CommitMsg.TheVariants as msg
use Rattle.spl_agree.specs.declared.event.GroupEvent.TheVariants as event
use Rattle.spl_group_safety.proofs.Sends.{AllSends, sends-to_each}
use Rattle.spl_group_liveness.{specs.{Bound.{AnyOf, IsKeyed}, Calm.{Calm, mail, move, ticked}}, proofs.Moves.{Ready, IsKept, any-right, mailed-cases}}
use Rattle.spl_group_liveness.proofs.{Moves.mailed-here, Keys.found-more, Does.{IsAsked, LeadDoes, Stays, Queues, Counts, Carries, Fails, Drops, Begins}}
use Rattle.spl_group_liveness.proofs.{Does.lead-does, Kept.{Base, kept-base, ready-event, due-old, IsRefusal}, Live.{IsOther, Live, LiveOr, IsDone}}
use Rattle.spl_group_liveness.proofs.{Live.{kept-done, seat-at, came-asked, heard-seat}, Leading.{live-move, sends-more, asks-lead, dropped-done}}
use Rattle.spl_group_liveness.proofs.Lists.{mail-each}

pub record Early {V : Type 0} (g : Group V) (v : V) (k : Calm V) : Type 0 where
  pub base : Base g v k
  pub heard : (i : ℕ) → i < g.members → i ≢ g.coordinator → (k.world.at i).seen < (k.world.at g.coordinator).next
  pub asks : (r i : ℕ) → AnyOf (IsOther r) (k.due g.coordinator i) → ⊥
  pub shut : (k.world.at g.coordinator).opened ≡ None
  pub rest : List V
  pub first : (k.world.at g.coordinator).pending ≡ v ∷ rest
  pub once : found (g.rules.same_key v) rest ≡ None
  pub free : is_spent (k.world.at g.coordinator) ≡ false

abbrev pub HasBegun : {V : Type 0} → Group V → V → Calm V → Type 0
HasBegun g v k = ((r : ℕ) × Live g v r k) ⊎ IsDone g v k

pub kept-begun : {V : Type 0} (g : Group V) → IsKeyed g.rules → (v : V) → IsKept g (HasBegun g v)
kept-begun {V} g keyed v k here e d ready (inr x) = inr (kept-done g keyed v k here e d ready x)
kept-begun {V} g keyed v k here e d ready (inl x) = go (live-move g keyed v x.0 k here e d ready x.1)
  where
    go : LiveOr g v x.0 k (move g k here e d) → HasBegun g v (move g k here e d)
    go (inl y) = inl (x.0, y.0)
    go (inr y) = inr y

pub early-seat : {V : Type 0} (g : Group V) (v : V) (k : Calm V) (here : ℕ) (e : GroupEvent V) (d : ℕ → ℕ → List (CommitMsg V)) → Ready g k here e d
    → here ≢ g.coordinator → Early g v k → Early g v (move g k here e d)
early-seat {V} g v k here e d ready n early = record {
  base = kept-base g v k here e d ready early.base;
  heard = λ i l o. subst (λ (x : Member V). ((move g k here e d).world.at i).seen < x.next) (sym same)
      (let z : ((move g k here e d).world.at i).seen ≤ (k.world.at i).seen =
      seat-at g (λ x y. y.seen ≤ x.seen) k here e d ready (λ m. omega arith)
      (λ c does. heard-seat g (k.world.at here).seen here (k.world.at here) e (row g here (k.world.at here) e)
      (came-asked g (k.world.at here).seen k here e d ready (early.asks (k.world.at here).seen)) does (omega arith)) i o in
      let y : (k.world.at i).seen < (k.world.at g.coordinator).next = early.heard i l o in omega (arith, z, y));
  asks = λ r i h. asked r i (mailed-cases (IsOther r) d here (row g here (k.world.at here) e).sends g.coordinator i h);
  shut = ap (λ (x : Member V). x.opened) same ∙ early.shut;
  rest = early.rest;
  first = ap (λ (x : Member V). x.pending) same ∙ early.first;
  once = early.once;
  free = ap (λ (x : Member V). is_spent x) same ∙ early.free;
}
  where
    same : (move g k here e d).world.at g.coordinator ≡ k.world.at g.coordinator
    same = put-other k.world.at here (after g here (k.world.at here) (row g here (k.world.at here) e)) g.coordinator (λ q. n (sym q))

    asked : (r i : ℕ) → AnyOf (IsOther r) (d g.coordinator i) ⊎ ((g.coordinator ≡ here) × AnyOf (IsOther r) (mail i (row g here (k.world.at here) e).sends)) → ⊥
    asked r i (inl x) = early.asks r i (due-old g k here e d (IsOther r) g.coordinator i ready.may x)
    asked r i (inr x) = n (sym x.0)

pub asked-none : {V : Type 0} (o : Option (ℕ × List ℕ)) (r : ℕ) → o ≡ None → (m : CommitMsg V) → IsAsked o m → IsOther r m → ⊥
asked-none o r e (msg.VoteRequest gen q place v) a n = let z : ◌≡◌ {A = Option (ℕ × List ℕ)} None (Some (q, a.0)) = sym e ∙ a.1 in cc
asked-none o r e _ a n = n

pub none_left-below_but : {V : Type 0} (g : Group V) → 2 ≤ g.members → none_left (others g g.coordinator) ≡ false
none_left-below_but {V} g two = go (others g g.coordinator) (pick (bool_cases (eqb g.coordinator 0)))
  where
    pick : (eqb g.coordinator 0 ≡ true) ⊎ (eqb g.coordinator 0 ≡ false) → (j : ℕ) × (has j (others g g.coordinator) ≡ true)
    pick (inl q) =
        let z : g.coordinator ≡ 0 = eqb_is g.coordinator 0 q in
        (1, has-below_but g.members g.coordinator 1 (omega arith) (λ t. let y : 1 ≡ g.coordinator = t in absurd (omega (arith, z, y))))
    pick (inr q) = let z : g.coordinator ≢ 0 = eqb_not g.coordinator 0 q in (0, has-below_but g.members g.coordinator 0 (omega arith) (λ t. z (sym t)))

    go : (xs : List ℕ) → (j : ℕ) × (has j xs ≡ true) → none_left xs ≡ false
    go [] h = let z : has h.0 [] ≡ true = h.1 in cc
    go (x ∷ xs) h = refl

-- what the coordinator does, where it takes up its first pending value
abbrev pub Drops_it : {V : Type 0} → Group V → V → Member V → GroupPlan V → Type 0
Drops_it g v m p =
    (reason : Reason) × (after g g.coordinator m p
    ≡ record m { pending = without (g.rules.same_key v) m.pending; refused = m.refused ++ (v, reason) ∷ [] })
    × (p.sends ≡ to_each (msg.Refused g.generation v reason) (others g g.coordinator))

abbrev pub Begins_it : {V : Type 0} → Group V → V → Member V → GroupPlan V → Type 0
Begins_it g v m p =
    (after g g.coordinator m p ≡ record m { next = m.next + 1; opened = Some (m.next, others g g.coordinator) })
    × (p.sends ≡ to_each (msg.VoteRequest g.generation m.next (length m.history) v) (others g g.coordinator))

pub early-takes : {V : Type 0} (g : Group V) → IsKeyed g.rules → 2 ≤ g.members → (v : V) (k : Calm V) (e : GroupEvent V) (d : ℕ → ℕ → List (CommitMsg V))
    → Ready g k g.coordinator e d → Early g v k
    → Drops_it g v (k.world.at g.coordinator) (row g g.coordinator (k.world.at g.coordinator) e)
    ⊎ Begins_it g v (k.world.at g.coordinator) (row g g.coordinator (k.world.at g.coordinator) e) → HasBegun g v (move g k g.coordinator e d)
early-takes {V} g keyed two v k e d ready early does = go does
  where
    m : Member V
    m = k.world.at g.coordinator

    p : GroupPlan V
    p = row g g.coordinator m e

    l : Calm V
    l = move g k g.coordinator e d

    here : l.world.at g.coordinator ≡ after g g.coordinator m p
    here = put-same k.world.at g.coordinator (after g g.coordinator m p)

    base : Base g v l
    base = kept-base g v k g.coordinator e d ready early.base

    posted_to : (P : CommitMsg V → Type 0) (ss : List (ℕ × CommitMsg V)) → p.sends ≡ ss → (i : ℕ) → AnyOf P (mail i ss) → AnyOf P (l.due g.coordinator i)
    posted_to P ss q i h =
        subst (λ (x : List (CommitMsg V)). AnyOf P x) (sym (mailed-here d g.coordinator p.sends i))
        (any-right P (d g.coordinator i) (mail i p.sends) (subst (λ (x : List (ℕ × CommitMsg V)). AnyOf P (mail i x)) (sym q) h))

    asks : AllSends (λ x. IsOther m.next x → ⊥) p.sends → (i : ℕ) → AnyOf (IsOther m.next) (l.due g.coordinator i) → ⊥
    asks all i h = asks-lead g m.next k e d ready.may (early.asks m.next) p.sends all i h

    go : Drops_it g v m p ⊎ Begins_it g v m p → HasBegun g v l
    go (inl x) = inr (inr (dropped-done g keyed v l.world l.due m early.rest x.0 base early.first early.once
        (ap (λ (y : Member V). y.pending) (here ∙ x.1))
        (ap (λ (y : Member V). y.refused) (here ∙ x.1))
        (λ i lt n. posted_to (IsRefusal g.generation v) (to_each (msg.Refused g.generation v x.0) (others g g.coordinator)) x.2 i
        (mail-each (IsRefusal g.generation v) (msg.Refused g.generation v x.0) i (others g g.coordinator) (x.0, refl)
        (has-below_but g.members g.coordinator i lt n)))))
    go (inr x) = inl (
      m.next,
      record {
        base = base;
        heard = λ i lt n. subst (λ (y : Member V). y.seen ≤ m.next) (sym (put-other k.world.at g.coordinator (after g g.coordinator m p) i n))
            (let z : (k.world.at i).seen < m.next = early.heard i lt n in omega (arith, z));
        asks = asks (subst (λ (ss : List (ℕ × CommitMsg V)). AllSends (λ y. IsOther m.next y → ⊥) ss) (sym x.1)
            (sends-to_each (λ y. IsOther m.next y → ⊥) (msg.VoteRequest g.generation m.next (length m.history) v) (others g g.coordinator) (λ y. y refl)));
        missing = others g g.coordinator;
        opened = ap (λ (y : Member V). y.opened) (here ∙ x.0);
        manned = record { some = none_left-below_but g two; among = λ j h. has-below_but-other g.members g.coordinator j h };
        rest = early.rest;
        first = ap (λ (y : Member V). y.pending) (here ∙ x.0) ∙ early.first;
        once = early.once;
      },
    )

pub early-lead : {V : Type 0} (g : Group V) → IsKeyed g.rules → 2 ≤ g.members → (v : V) (k : Calm V) (e : GroupEvent V) (d : ℕ → ℕ → List (CommitMsg V))
    → Ready g k g.coordinator e d → Early g v k → Early g v (move g k g.coordinator e d) ⊎ HasBegun g v (move g k g.coordinator e d)
early-lead {V} g keyed two v k e d ready early = go (lead-does g m e (ready-event g k g.coordinator e d ready.may))
  where
    m : Member V
    m = k.world.at g.coordinator

    p : GroupPlan V
    p = row g g.coordinator m e

    l : Calm V
    l = move g k g.coordinator e d

    here : l.world.at g.coordinator ≡ after g g.coordinator m p
    here = put-same k.world.at g.coordinator (after g g.coordinator m p)

    heard : (x : ℕ) → x ≡ m.next → (i : ℕ) → i < g.members → i ≢ g.coordinator → (l.world.at i).seen < x
    heard x q i lt n =
        subst (λ (y : ℕ). (l.world.at i).seen < y) (sym q)
        (subst (λ (y : Member V). y.seen < m.next) (sym (put-other k.world.at g.coordinator (after g g.coordinator m p) i n)) (early.heard i lt n))

    none : p.sends ≡ [] → (r : ℕ) → AllSends (λ x. IsOther r x → ⊥) p.sends
    none q r = subst (λ (ss : List (ℕ × CommitMsg V)). AllSends (λ x. IsOther r x → ⊥) ss) (sym q) tt

    open_not : (o : ℕ × List ℕ) → m.opened ≡ Some o → ⊥
    open_not o q = let z : None ≡ Some o = sym early.shut ∙ q in cc

    head : (u : V) (us : List V) → m.pending ≡ u ∷ us → u ≡ v
    head u us q = let z : u ∷ us ≡ v ∷ early.rest = sym q ∙ early.first in cc

    key : (u : V) → found (g.rules.same_key u) m.pending ≡ None → g.rules.same_key v u ≡ false
    key u q = sub (bool_cases (g.rules.same_key v u)) (bool_cases (g.rules.same_key u v))
        (subst (λ (us : List V). found (g.rules.same_key u) us ≡ None) early.first q)
      where
        sub : (g.rules.same_key v u ≡ true) ⊎ (g.rules.same_key v u ≡ false) → (g.rules.same_key u v ≡ true) ⊎ (g.rules.same_key u v ≡ false)
            → (if g.rules.same_key u v then Some v else found (g.rules.same_key u) early.rest) ≡ None → g.rules.same_key v u ≡ false
        sub (inr x) y z = x
        sub (inl x) (inr y) z = let t : g.rules.same_key u v ≡ true = keyed.turned v u x in cc
        sub (inl x) (inl y) z = let t : ◌≡◌ {A = Option V} (Some v) None = rw y at z in cc

    go : LeadDoes g m e p → Early g v l ⊎ HasBegun g v l
    go (Stays q s) = inl (record {
      base = kept-base g v k g.coordinator e d ready early.base;
      heard = heard (l.world.at g.coordinator).next (ap (λ (x : Member V). x.next) (here ∙ q));
      asks = λ r i h. asks-lead g r k e d ready.may (early.asks r) p.sends
          (sends-more (IsAsked m.opened) (λ x. IsOther r x → ⊥) (asked-none m.opened r early.shut) p.sends s) i h;
      shut = ap (λ (x : Member V). x.opened) (here ∙ q) ∙ early.shut;
      rest = early.rest;
      first = ap (λ (x : Member V). x.pending) (here ∙ q) ∙ early.first;
      once = early.once;
      free = ap (λ (x : Member V). is_spent x) (here ∙ q) ∙ early.free;
    })
    go (Queues w gen u x a b q s) = inl (record {
      base = kept-base g v k g.coordinator e d ready early.base;
      heard = heard (l.world.at g.coordinator).next (ap (λ (x : Member V). x.next) (here ∙ q));
      asks = λ r i h. asks-lead g r k e d ready.may (early.asks r) p.sends (none s r) i h;
      shut = ap (λ (x : Member V). x.opened) (here ∙ q) ∙ early.shut;
      rest = early.rest ++ u ∷ [];
      first = ap (λ (x : Member V). x.pending) (here ∙ q) ∙ ap (λ (us : List V). us ++ u ∷ []) early.first;
      once = found-more g.rules v u early.rest early.once (key u a);
      free = ap (λ (x : Member V). is_spent x) (here ∙ q) ∙ early.free;
    })
    go (Counts a gen t missing o c n q s) = absurd (open_not (t, missing) o)
    go (Carries a t missing u us o c q s) = absurd (open_not (t, missing) o)
    go (Fails t missing u us o c q s) = absurd (open_not (t, missing) o)
    go (Drops u us reason o c q s) = inr (early-takes g keyed two v k e d ready early (inl (subst (λ (x : V). Drops_it g x m p) (head u us c) (reason, q, s))))
    go (Begins u us o c q s) = inr (early-takes g keyed two v k e d ready early (inr (subst (λ (x : V). Begins_it g x m p) (head u us c) (q, s))))

pub kept-early : {V : Type 0} (g : Group V) → IsKeyed g.rules → 2 ≤ g.members → (v : V) → IsKept g (λ k. Early g v k ⊎ HasBegun g v k)
kept-early {V} g keyed two v k here e d ready (inr x) = inr (kept-begun g keyed v k here e d ready x)
kept-early {V} g keyed two v k here e d ready (inl early) = go (bool_cases (eqb here g.coordinator))
  where
    as_lead : (h : ℕ) → h ≡ g.coordinator → Ready g k h e d → Early g v (move g k h e d) ⊎ HasBegun g v (move g k h e d)
    as_lead h q =
        subst (λ (j : ℕ). Ready g k j e d → Early g v (move g k j e d) ⊎ HasBegun g v (move g k j e d)) (sym q) (λ x. early-lead g keyed two v k e d x early)

    go : (eqb here g.coordinator ≡ true) ⊎ (eqb here g.coordinator ≡ false) → Early g v (move g k here e d) ⊎ HasBegun g v (move g k here e d)
    go (inl q) = as_lead here (eqb_is here g.coordinator q) ready
    go (inr q) = inl (early-seat g v k here e d ready (eqb_not here g.coordinator q) early)

-- the tick of the coordinator takes up the value
pub judged : {V : Type 0} (g : Group V) (m : Member V) (v : V) (o : Option Reason)
    → Drops_it g v m (judge_first g g.coordinator m v o) ⊎ Begins_it g v m (judge_first g g.coordinator m v o)
judged g m v (Some reason) = inl (reason, refl, refl)
judged g m v None = inr (refl, refl)

pub takes-tick : {V : Type 0} (g : Group V) (m : Member V) (v : V) (rest : List V) → m.opened ≡ None → m.pending ≡ v ∷ rest → is_spent m ≡ false
    → Drops_it g v m (row g g.coordinator m event.Tick) ⊎ Begins_it g v m (row g g.coordinator m event.Tick)
takes-tick {V} g m v rest shut first free = if_true D (g.coordinator == g.coordinator) _ _ (eqb_same g.coordinator) (by_open m.opened shut)
  where
    D : GroupPlan V → Type 0
    D = λ p. Drops_it g v m p ⊎ Begins_it g v m p

    by_pending : (us : List V) → us ≡ v ∷ rest → D (try_first g g.coordinator m us)
    by_pending [] q = absurd (let z : [] ≡ v ∷ rest = q in cc)
    by_pending (u ∷ us) q =
        subst (λ (x : V). D (judge_first g g.coordinator m x (g.rules.check (values m.history) x))) (let z : v ≡ u = cc in z)
        (judged g m v (g.rules.check (values m.history) v))

    by_open : (o : Option (ℕ × List ℕ)) → o ≡ None → D (coordinator_tick g g.coordinator m o)
    by_open None q = if_false D (is_spent m) _ _ free (by_pending m.pending first)
    by_open (Some o) q = absurd (let z : Some o ≡ None = q in cc)

pub early-tick : {V : Type 0} (g : Group V) → IsKeyed g.rules → 2 ≤ g.members → g.coordinator < g.members → (v : V) (k : Calm V) → Early g v k
    → HasBegun g v (ticked g g.coordinator k)
early-tick g keyed two lt v k early =
    early-takes g keyed two v k event.Tick k.due (record { member = lt; may = refl }) early
    (takes-tick g (k.world.at g.coordinator) v early.rest early.shut early.first early.free)

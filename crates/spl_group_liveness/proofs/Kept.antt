-- What a calm keeps: the agreement, and a decision once it is made.
use Rattle.std.{specs.Prelude.{Option, Some, None, ◌==◌}, proofs.Common.{◌≡◌, ◌≢◌, ℕ, ◌<◌, ◌⊎◌, true, false, eqb, List, [], ◌∷◌, ◌++◌, refl, sym, ap, subst}}
use Rattle.std.proofs.Common.{◌∙◌, inl, inr}
use Rattle.spl_agree.specs.{Member.{Group, Member, values, has_round, without, found, found_refused}, Rows.{row, decided, taken_back}, World.{Sent, after}}
use Rattle.spl_agree.specs.{World.posted, Agreement.{Was, Agrees, MayHappen}, declared.{event.GroupEvent.GroupEvent, message.CommitMsg.CommitMsg}}
use Rattle.spl_agree.{specs.declared.{plan.GroupPlan.GroupPlan, reason.Reason.Reason}, proofs.Tests.{if_holds, if_true, eqb_is, eqb_not, eqb_same}}
use Rattle.spl_agree.proofs.Tests.{bool_cases, has_round-more, put-same}
use Rattle.spl_agree.specs.declared.message.CommitMsg.TheVariants as msg
use Rattle.spl_agree.specs.declared.event.GroupEvent.TheVariants as event
use Rattle.spl_group_safety.proofs.{Agreement.{put_holds, may_come-sent, agrees-row}, Sound.values-more}
use Rattle.spl_group_liveness.{specs.{Bound.{AnyOf, InHistory, IsPending, IsRefused, IsKeyed, Once}, Calm.{Calm, mail, left, move}}, proofs.Moves.MayMove}
use Rattle.spl_group_liveness.proofs.{Moves.{Ready, IsKept, any-left, any-right, any-cases, left-same, left-cases, mailed-cases, mail-was}, Awaits.Awaits}
use Rattle.spl_group_liveness.proofs.{Awaits.{Gives, awaits-kept}, Keys.{no_key, without-any, once-without, once-gone, once-other, refused-found}}
use Rattle.spl_group_liveness.proofs.Does.{IsCalmEvent, SeatDoes, Rests, Sees, Promises, Commits, Aborts, Refuses, seat-does, LeadDoes, Stays, Queues, Counts}
use Rattle.spl_group_liveness.proofs.Does.{Carries, Fails, Drops, Begins, lead-does}

-- what holds all through a calm
pub record Base {V : Type 0} (g : Group V) (v : V) (k : Calm V) : Type 0 where
  pub agrees : Agrees g k.world
  pub was : (a b : ℕ) (m : CommitMsg V) → AnyOf (λ x. x ≡ m) (k.due a b) → Was (record { from = a; to = b; message = m }) k.world.sent
  pub once : (i : ℕ) → i < g.members → i ≢ g.coordinator → Once g.rules v (k.world.at i).pending

pub ready-event : {V : Type 0} (g : Group V) (k : Calm V) (here : ℕ) (e : GroupEvent V) (d : ℕ → ℕ → List (CommitMsg V)) → MayMove g k here e d
    → IsCalmEvent here e
ready-event g k here event.Tick d may = tt
ready-event g k here (event.From a m) d may = may.1
ready-event g k here _ d may = may

-- the message of a move was sent
pub came-was : {V : Type 0} (g : Group V) (v : V) (k : Calm V) (a here : ℕ) (m : CommitMsg V) (d : ℕ → ℕ → List (CommitMsg V))
    → Ready g k here (event.From a m) d → Base g v k → Was (record { from = a; to = here; message = m }) k.world.sent
came-was {V} g v k a here m d ready b = b.was a here m (subst (λ (l : List (CommitMsg V)). AnyOf (λ x. x ≡ m) l) (sym ready.may.3) (inl refl))

pub ready-may : {V : Type 0} (g : Group V) (v : V) (k : Calm V) (here : ℕ) (e : GroupEvent V) (d : ℕ → ℕ → List (CommitMsg V)) → Ready g k here e d
    → Base g v k → MayHappen g k.world here e
ready-may {V} g v k here e d ready b = go e ready.may
  where
    go : (x : GroupEvent V) → MayMove g k here x d → MayHappen g k.world here x
    go (event.From a m) may =
        may_come-sent g k.world (record { from = a; to = here; message = m }) may.1
        (came-was g v k a here m d (record { member = ready.member; may = may }) b) b.agrees
    go _ may = tt

-- nothing new stands on a pair before the sends
pub due-old : {V : Type 0} (g : Group V) (k : Calm V) (here : ℕ) (e : GroupEvent V) (d : ℕ → ℕ → List (CommitMsg V)) (P : CommitMsg V → Type 0) (a b : ℕ)
    → MayMove g k here e d → AnyOf P (d a b) → AnyOf P (k.due a b)
due-old {V} g k here event.Tick d P a b may h = subst (λ (z : ℕ → ℕ → List (CommitMsg V)). AnyOf P (z a b)) may h
due-old {V} g k here (event.From s m) d P a b may h =
    go (left-cases k.due s here may.2 a b) (subst (λ (z : ℕ → ℕ → List (CommitMsg V)). AnyOf P (z a b)) may.4 h)
  where
    go : (left k.due s here may.2 a b ≡ k.due a b) ⊎ ((a ≡ s) × (b ≡ here)) → AnyOf P (left k.due s here may.2 a b) → AnyOf P (k.due a b)
    go (inl q) x = subst (λ (l : List (CommitMsg V)). AnyOf P l) q x
    go (inr q) x = subst (λ (j : ℕ). AnyOf P (left k.due s here may.2 j b) → AnyOf P (k.due j b)) (sym q.0)
        (subst (λ (j : ℕ). AnyOf P (left k.due s here may.2 s j) → AnyOf P (k.due s j)) (sym q.1)
        (λ y. subst (λ (l : List (CommitMsg V)). AnyOf P l) (sym may.3)
        (inr (subst (λ (l : List (CommitMsg V)). AnyOf P l) (left-same k.due s here may.2) y)))) x
due-old g k here event.Expire d P a b may h = absurd may
due-old g k here (event.Submit u) d P a b may h = absurd may

-- what is a member's own
pub kept-at : {V : Type 0} (g : Group V) (P : ℕ → Member V → Type 0)
    → ((here : ℕ) (m : Member V) (e : GroupEvent V) → here ≢ g.coordinator → SeatDoes g here m e (row g here m e) → P here m
    → P here (after g here m (row g here m e)))
    → ((m : Member V) (e : GroupEvent V) → LeadDoes g m e (row g g.coordinator m e) → P g.coordinator m
    → P g.coordinator (after g g.coordinator m (row g g.coordinator m e))) → (i : ℕ) → IsKept g (λ k. P i (k.world.at i))
kept-at {V} g P seats leads i k here e d ready p =
    put_holds (λ j x. P j (k.world.at j) → P j x) k.world.at here (after g here (k.world.at here) (row g here (k.world.at here) e)) i
    (go (bool_cases (eqb here g.coordinator))) (λ n q. q) p
  where
    as_lead : (h : ℕ) → h ≡ g.coordinator → IsCalmEvent h e → P h (k.world.at h) → P h (after g h (k.world.at h) (row g h (k.world.at h) e))
    as_lead h q =
        subst (λ (j : ℕ). IsCalmEvent j e → P j (k.world.at j) → P j (after g j (k.world.at j) (row g j (k.world.at j) e))) (sym q)
        (λ c. leads (k.world.at g.coordinator) e (lead-does g (k.world.at g.coordinator) e c))

    go : (eqb here g.coordinator ≡ true) ⊎ (eqb here g.coordinator ≡ false) → P here (k.world.at here)
        → P here (after g here (k.world.at here) (row g here (k.world.at here) e))
    go (inl q) = as_lead here (eqb_is here g.coordinator q) (ready-event g k here e d ready.may)
    go (inr q) =
        let n : here ≢ g.coordinator = eqb_not here g.coordinator q in
        seats here (k.world.at here) e n (seat-does g here (k.world.at here) e n (ready-event g k here e d ready.may))

-- pending values elsewhere only become fewer
pub seat-pending : {V : Type 0} (g : Group V) (P : List V → Type 0) → ((u : V) (us : List V) → P us → P (without (g.rules.same_key u) us))
    → (here : ℕ) (m : Member V) (e : GroupEvent V) (p : GroupPlan V) → SeatDoes g here m e p → P m.pending → P (after g here m p).pending
seat-pending {V} g P f here m e p (Rests q) h = subst (λ (x : Member V). P x.pending) (sym q) h
seat-pending {V} g P f here m e p (Sees gen r place u n s q) h = subst (λ (x : Member V). P x.pending) (sym q) h
seat-pending {V} g P f here m e p (Promises gen r place u n s q) h = subst (λ (x : Member V). P x.pending) (sym q) h
seat-pending {V} g P f here m e p (Commits gen r u n s q) h = subst (λ (x : Member V). P x.pending) (sym q) (f u m.pending h)
seat-pending {V} g P f here m e p (Aborts gen r u n s q) h = subst (λ (x : Member V). P x.pending) (sym q) h
seat-pending {V} g P f here m e p (Refuses u reason q) h = subst (λ (x : Member V). P x.pending) (sym q) (f u m.pending h)

-- histories grow
pub seat-history : {V : Type 0} (g : Group V) (P : List (ℕ × V) → Type 0) → ((e : ℕ × V) (h : List (ℕ × V)) → P h → P (h ++ e ∷ []))
    → (here : ℕ) (m : Member V) (e : GroupEvent V) (p : GroupPlan V) → SeatDoes g here m e p → P m.history → P (after g here m p).history
seat-history {V} g P f here m e p (Rests q) h = subst (λ (x : Member V). P x.history) (sym q) h
seat-history {V} g P f here m e p (Sees gen r place u n s q) h = subst (λ (x : Member V). P x.history) (sym q) h
seat-history {V} g P f here m e p (Promises gen r place u n s q) h = subst (λ (x : Member V). P x.history) (sym q) h
seat-history {V} g P f here m e p (Commits gen r u n s q) h = subst (λ (x : Member V). P x.history) (sym q) (f (r, u) m.history h)
seat-history {V} g P f here m e p (Aborts gen r u n s q) h = subst (λ (x : Member V). P x.history) (sym q) h
seat-history {V} g P f here m e p (Refuses u reason q) h = subst (λ (x : Member V). P x.history) (sym q) h

pub lead-history : {V : Type 0} (g : Group V) (P : List (ℕ × V) → Type 0) → ((e : ℕ × V) (h : List (ℕ × V)) → P h → P (h ++ e ∷ []))
    → (m : Member V) (e : GroupEvent V) (p : GroupPlan V) → LeadDoes g m e p → P m.history → P (after g g.coordinator m p).history
lead-history {V} g P f m e p (Stays q s) h = subst (λ (x : Member V). P x.history) (sym q) h
lead-history {V} g P f m e p (Queues w gen u t a b q s) h = subst (λ (x : Member V). P x.history) (sym q) h
lead-history {V} g P f m e p (Counts a gen r missing o c n q s) h = subst (λ (x : Member V). P x.history) (sym q) h
lead-history {V} g P f m e p (Carries a r missing v vs o c q s) h = subst (λ (x : Member V). P x.history) (sym q) (f (r, v) m.history h)
lead-history {V} g P f m e p (Fails r missing v vs o c q s) h = subst (λ (x : Member V). P x.history) (sym q) h
lead-history {V} g P f m e p (Drops v vs reason o c q s) h = subst (λ (x : Member V). P x.history) (sym q) h
lead-history {V} g P f m e p (Begins v vs o c q s) h = subst (λ (x : Member V). P x.history) (sym q) h

pub kept-history : {V : Type 0} (g : Group V) (P : List (ℕ × V) → Type 0) → ((e : ℕ × V) (h : List (ℕ × V)) → P h → P (h ++ e ∷ [])) → (i : ℕ)
    → IsKept g (λ k. P (k.world.at i).history)
kept-history g P f i =
    kept-at g (λ j x. P x.history) (λ here m e n does h. seat-history g P f here m e (row g here m e) does h)
    (λ m e does h. lead-history g P f m e (row g g.coordinator m e) does h) i

pub got-more : {V : Type 0} (v : V) (e : ℕ × V) (h : List (ℕ × V)) → AnyOf (λ u. u ≡ v) (values h) → AnyOf (λ u. u ≡ v) (values (h ++ e ∷ []))
got-more {V} v e h p = subst (λ (l : List V). AnyOf (λ u. u ≡ v) l) (sym (values-more h e)) (any-left (λ u. u ≡ v) (values h) (e.1 ∷ []) p)

pub got-last : {V : Type 0} (v : V) (r : ℕ) (h : List (ℕ × V)) → AnyOf (λ u. u ≡ v) (values (h ++ (r, v) ∷ []))
got-last {V} v r h = subst (λ (l : List V). AnyOf (λ u. u ≡ v) l) (sym (values-more h (r, v))) (any-right (λ u. u ≡ v) (values h) (v ∷ []) (inl refl))

pub kept-got : {V : Type 0} (g : Group V) (v : V) (i : ℕ) → IsKept g (λ k. InHistory v (k.world.at i))
kept-got g v i = kept-history g (λ h. AnyOf (λ u. u ≡ v) (values h)) (got-more v) i

pub was-right : {V : Type 0} (s : Sent V) (xs ys : List (Sent V)) → Was s ys → Was s (xs ++ ys)
was-right s [] ys h = h
was-right s (x ∷ xs) ys h = inr (was-right s xs ys h)

pub kept-base : {V : Type 0} (g : Group V) (v : V) → IsKept g (Base g v)
kept-base {V} g v k here e d ready b = record {
  agrees = agrees-row g k.world here e ready.member (ready-may g v k here e d ready b) b.agrees;
  was = λ a t m h. sent a t m (mailed-cases (λ x. x ≡ m) d here (row g here (k.world.at here) e).sends a t h);
  once = λ i l n. kept-at g (λ j x. j ≢ g.coordinator → Once g.rules v x.pending)
      (λ h m x o does f c. seat-pending g (Once g.rules v) (λ u us. once-without g.rules v u us) h m x (row g h m x) does (f c))
      (λ m x does f c. absurd (c refl)) i k here e d ready (λ c. b.once i l c) n;
}
  where
    sent : (a t : ℕ) (m : CommitMsg V) → AnyOf (λ x. x ≡ m) (d a t) ⊎ ((a ≡ here) × AnyOf (λ x. x ≡ m) (mail t (row g here (k.world.at here) e).sends))
        → Was (record { from = a; to = t; message = m }) (posted here (row g here (k.world.at here) e).sends ++ k.world.sent)
    sent a t m (inl x) =
        was-right (record { from = a; to = t; message = m }) (posted here (row g here (k.world.at here) e).sends) k.world.sent
        (b.was a t m (due-old g k here e d (λ y. y ≡ m) a t ready.may x))
    sent a t m (inr x) =
        subst (λ (j : ℕ). Was (record { from = j; to = t; message = m }) (posted here (row g here (k.world.at here) e).sends ++ k.world.sent)) (sym x.0)
        (mail-was here t m (row g here (k.world.at here) e).sends k.world.sent x.1)

pub same_pair : {V : Type 0} (q r : ℕ) (u v : V) → ◌≡◌ {A = Option (ℕ × V)} (Some (q, u)) (Some (r, v)) → (q ≡ r) × (u ≡ v)
same_pair {V} q r u v e = let z : ◌≡◌ {A = ℕ × V} (q, u) (r, v) = cc in (ap (λ (y : ℕ × V). y.0) z, ap (λ (y : ℕ × V). y.1) z)

-- Committed: a member that does not have the value has promised it, and the decision is on its way
pub record Holds {V : Type 0} (g : Group V) (v : V) (r i : ℕ) (k : Calm V) : Type 0 where
  pub base : Base g v k
  pub promise : (k.world.at i).promise ≡ Some (r, v)
  pub carried : has_round r (k.world.at g.coordinator).history ≡ true

pub kept-holds : {V : Type 0} (g : Group V) (v : V) (r i : ℕ) → i ≢ g.coordinator → IsKept g (λ k. Holds g v r i k ⊎ InHistory v (k.world.at i))
kept-holds {V} g v r i n k here e d ready (inr x) = inr (kept-got g v i k here e d ready x)
kept-holds {V} g v r i n k here e d ready (inl x) =
    sum (put_holds (λ j y. j ≢ g.coordinator → (k.world.at j).promise ≡ Some (r, v) → (y.promise ≡ Some (r, v)) ⊎ InHistory v y) k.world.at here
    (after g here (k.world.at here) (row g here (k.world.at here) e)) i
    (λ o p. change p (seat-does g here (k.world.at here) e o (ready-event g k here e d ready.may))) (λ o c p. inl p) n x.promise)
  where
    m : Member V
    m = k.world.at here

    no_abort : (gen q : ℕ) (u : V) → m.promise ≡ Some (r, v) → m.promise ≡ Some (q, u) → e ≡ event.From g.coordinator (msg.Decision gen q false) → ⊥
    no_abort gen q u p s t = let same : q ≡ r = (same_pair q r u v (sym s ∙ p)).0 in
        let z : Was (record { from = g.coordinator; to = here; message = msg.Decision gen q false }) k.world.sent =
        came-was g v k g.coordinator here (msg.Decision gen q false) d (subst (λ (y : GroupEvent V). Ready g k here y d) t ready) x.base in
        let f : has_round q (k.world.at g.coordinator).history ≡ false =
        (x.base.agrees.told (record { from = g.coordinator; to = here; message = msg.Decision gen q false }) z refl).1 in
        let h : has_round r (k.world.at g.coordinator).history ≡ false = subst (λ (j : ℕ). has_round j (k.world.at g.coordinator).history ≡ false) same f in
        let y : has_round r (k.world.at g.coordinator).history ≡ true = x.carried in cc

    change : m.promise ≡ Some (r, v) → SeatDoes g here m e (row g here m e)
        → ((after g here m (row g here m e)).promise ≡ Some (r, v)) ⊎ InHistory v (after g here m (row g here m e))
    change p (Rests q) = inl (ap (λ (y : Member V). y.promise) q ∙ p)
    change p (Sees gen a place u s t q) = absurd (let z : None ≡ Some (r, v) = sym s ∙ p in cc)
    change p (Promises gen a place u s t q) = absurd (let z : None ≡ Some (r, v) = sym s ∙ p in cc)
    change p (Commits gen a u s t q) =
        inr (subst (λ (y : Member V). InHistory v y) (sym q)
        (let same : u ≡ v = (same_pair a r u v (sym s ∙ p)).1 in subst (λ (y : V). AnyOf (λ z. z ≡ v) (values (m.history ++ (a, y) ∷ []))) (sym same)
        (got-last v a m.history)))
    change p (Aborts gen a u s t q) = absurd (no_abort gen a u p s t)
    change p (Refuses u reason q) = inl (ap (λ (y : Member V). y.promise) q ∙ p)

    sum : ((move g k here e d).world.at i).promise ≡ Some (r, v) ⊎ InHistory v ((move g k here e d).world.at i)
        → Holds g v r i (move g k here e d) ⊎ InHistory v ((move g k here e d).world.at i)
    sum (inl y) =
        inl (record {
          base = kept-base g v k here e d ready x.base;
          promise = y;
          carried = kept-history g (λ h. has_round r h ≡ true) (λ z h. has_round-more r h z) g.coordinator k here e d ready x.carried;
        })
    sum (inr y) = inr y

pub commit-here : {V : Type 0} (g : Group V) (here : ℕ) (m : Member V) (v : V) (r : ℕ) → m.promise ≡ Some (r, v)
    → InHistory v (after g here m (row g here m (event.From g.coordinator (msg.Decision g.generation r true))))
commit-here {V} g here m v r p = if_true (λ x. InHistory v (after g here m x)) (g.coordinator == g.coordinator) _ _ (eqb_same g.coordinator) (go m.promise p)
  where
    go : (o : Option (ℕ × V)) → o ≡ Some (r, v) → InHistory v (after g here m (decided o r true))
    go None q = absurd (let z : None ≡ Some (r, v) = q in cc)
    go (Some x) q =
        let a : x.0 ≡ r = ap (λ (y : ℕ × V). y.0) (let z : x ≡ (r, v) = cc in z) in
        let b : x.1 ≡ v = ap (λ (y : ℕ × V). y.1) (let z : x ≡ (r, v) = cc in z) in
        if_true (λ y. InHistory v (after g here m y)) (x.0 == r) _ _ (rw a (eqb_same r))
        (subst (λ (y : V). AnyOf (λ z. z ≡ v) (values (m.history ++ (r, y) ∷ []))) (sym b) (got-last v r m.history))

pub gives-commit : {V : Type 0} (g : Group V) (v : V) (r i : ℕ)
    → Gives g g.coordinator i (Holds g v r i) (λ m. m ≡ msg.Decision g.generation r true) (λ k. InHistory v (k.world.at i))
gives-commit {V} g v r i k m d ready h w = subst (λ (x : CommitMsg V). InHistory v ((move g k i (event.From g.coordinator x) d).world.at i)) (sym w)
    (subst (λ (x : Member V). InHistory v x)
    (sym (put-same k.world.at i (after g i (k.world.at i) (row g i (k.world.at i) (event.From g.coordinator (msg.Decision g.generation r true))))))
    (commit-here g i (k.world.at i) v r h.promise))

-- Refused: at the coordinator, and on its way to where it is still pending
pub kept-gone : {V : Type 0} (g : Group V) (v : V) (i : ℕ) → i ≢ g.coordinator → IsKept g (λ k. IsPending v (k.world.at i) → ⊥)
kept-gone {V} g v i n k here e d ready h = kept-at g (λ j x. j ≢ g.coordinator → IsPending v x → ⊥)
    (λ l m x o does f c. seat-pending g (λ us. AnyOf (λ u. u ≡ v) us → ⊥) (λ u us z y. z (without-any g.rules (λ u. u ≡ v) u us y)) l m x
    (row g l m x) does (f c))
    (λ m x does f c. absurd (c refl)) i k here e d ready (λ c. h) n

pub refuse-here : {V : Type 0} (g : Group V) → IsKeyed g.rules → (here : ℕ) (m : Member V) (v : V) (reason : Reason) → Once g.rules v m.pending
    → IsPending v (after g here m (row g here m (event.From g.coordinator (msg.Refused g.generation v reason)))) → ⊥
refuse-here {V} g keyed here m v reason once =
    if_true (λ x. IsPending v (after g here m x) → ⊥) (g.coordinator == g.coordinator) _ _ (eqb_same g.coordinator)
    (go (found (g.rules.same_key v) m.pending) refl)
  where
    go : (o : Option V) → found (g.rules.same_key v) m.pending ≡ o → IsPending v (after g here m (taken_back g.rules o v reason)) → ⊥
    go None q = no_key g.rules keyed v m.pending q
    go (Some u) q =
        if_holds (λ x. IsPending v (after g here m x) → ⊥) (g.rules.same u v) _ _ (λ t. once-gone g.rules keyed v m.pending once)
        (λ t. once-other g.rules keyed v u m.pending once q t)

abbrev pub IsRefusal : {V : Type 0} → ℕ → V → CommitMsg V → Type 0
IsRefusal gen v m = (reason : Reason) × (m ≡ msg.Refused gen v reason)

pub gives-refused : {V : Type 0} (g : Group V) → IsKeyed g.rules → (v : V) (i : ℕ) → i ≢ g.coordinator
    → Gives g g.coordinator i (Base g v) (IsRefusal g.generation v) (λ k. IsPending v (k.world.at i) → ⊥)
gives-refused {V} g keyed v i n k m d ready b w =
    subst (λ (x : CommitMsg V). IsPending v ((move g k i (event.From g.coordinator x) d).world.at i) → ⊥) (sym w.1)
    (subst (λ (x : Member V). IsPending v x → ⊥)
    (sym (put-same k.world.at i (after g i (k.world.at i) (row g i (k.world.at i) (event.From g.coordinator (msg.Refused g.generation v w.0))))))
    (refuse-here g keyed i (k.world.at i) v w.0 (b.once i ready.member n)))

-- the coordinator has refused it, and it does not come back
pub record IsOver {V : Type 0} (v : V) (m : Member V) : Type 0 where
  pub refused : IsRefused v m
  pub gone : IsPending v m → ⊥

pub lead-over : {V : Type 0} (g : Group V) → IsKeyed g.rules → (v : V) (m : Member V) (e : GroupEvent V) (p : GroupPlan V) → LeadDoes g m e p → IsOver v m
    → IsOver v (after g g.coordinator m p)
lead-over {V} g keyed v m e p (Stays q s) h = subst (λ (x : Member V). IsOver v x) (sym q) h
lead-over {V} g keyed v m e p (Queues w gen u t a b q s) h =
    subst (λ (x : Member V). IsOver v x) (sym q) (record { refused = h.refused; gone = λ y. back (any-cases (λ x. x ≡ v) m.pending (u ∷ []) y) })
  where
    back : AnyOf (λ x. x ≡ v) m.pending ⊎ AnyOf (λ x. x ≡ v) (u ∷ []) → ⊥
    back (inl y) = h.gone y
    back (inr (inl y)) = refused-found g.rules keyed v m.refused h.refused (subst (λ (x : V). found_refused (g.rules.same_key x) m.refused ≡ None) y b)
    back (inr (inr y)) = y
lead-over {V} g keyed v m e p (Counts a gen r missing o c n q s) h =
    subst (λ (x : Member V). IsOver v x) (sym q) (record { refused = h.refused; gone = h.gone })
lead-over {V} g keyed v m e p (Carries a r missing u vs o c q s) h =
    subst (λ (x : Member V). IsOver v x) (sym q) (record { refused = h.refused; gone = λ y. h.gone (without-any g.rules (λ x. x ≡ v) u m.pending y) })
lead-over {V} g keyed v m e p (Fails r missing u vs o c q s) h =
    subst (λ (x : Member V). IsOver v x) (sym q)
    (record { refused = any-left (λ x. x.0 ≡ v) m.refused _ h.refused; gone = λ y. h.gone (without-any g.rules (λ x. x ≡ v) u m.pending y) })
lead-over {V} g keyed v m e p (Drops u vs reason o c q s) h =
    subst (λ (x : Member V). IsOver v x) (sym q)
    (record { refused = any-left (λ x. x.0 ≡ v) m.refused _ h.refused; gone = λ y. h.gone (without-any g.rules (λ x. x ≡ v) u m.pending y) })
lead-over {V} g keyed v m e p (Begins u vs o c q s) h = subst (λ (x : Member V). IsOver v x) (sym q) (record { refused = h.refused; gone = h.gone })

pub kept-over : {V : Type 0} (g : Group V) → IsKeyed g.rules → (v : V) → IsKept g (λ k. IsOver v (k.world.at g.coordinator))
kept-over g keyed v k here e d ready h =
    kept-at g (λ j x. j ≡ g.coordinator → IsOver v x) (λ l m x o does f c. absurd (o c))
    (λ m x does f c. lead-over g keyed v m x (row g g.coordinator m x) does (f c)) g.coordinator k here e d ready (λ c. h) refl

-- a decision is made, and is on its way
pub record IsCarried {V : Type 0} (g : Group V) (v : V) (r : ℕ) (k : Calm V) : Type 0 where
  pub mine : InHistory v (k.world.at g.coordinator)
  pub theirs : (i : ℕ) → i < g.members → i ≢ g.coordinator
      → Awaits g.coordinator i (Holds g v r i) (λ m. m ≡ msg.Decision g.generation r true) (λ c. InHistory v (c.world.at i)) k

pub record IsDropped {V : Type 0} (g : Group V) (v : V) (k : Calm V) : Type 0 where
  pub mine : IsOver v (k.world.at g.coordinator)
  pub theirs : (i : ℕ) → i < g.members → i ≢ g.coordinator
      → Awaits g.coordinator i (Base g v) (IsRefusal g.generation v) (λ c. IsPending v (c.world.at i) → ⊥) k

pub kept-carried : {V : Type 0} (g : Group V) (v : V) (r : ℕ) → IsKept g (IsCarried g v r)
kept-carried g v r k here e d ready h = record {
  mine = kept-got g v g.coordinator k here e d ready h.mine;
  theirs = λ i l n. awaits-kept g g.coordinator i (Holds g v r i) (λ m. m ≡ msg.Decision g.generation r true) (λ c. InHistory v (c.world.at i))
      (kept-holds g v r i n) (kept-got g v i) (gives-commit g v r i) k here e d ready (h.theirs i l n);
}

-- beside what is kept
pub kept-beside : {V : Type 0} (g : Group V) (P Q : Calm V → Type 0) → IsKept g P → IsKept g Q → IsKept g (λ k. P k ⊎ Q k)
kept-beside g P Q p q k here e d ready (inl x) = inl (p k here e d ready x)
kept-beside g P Q p q k here e d ready (inr x) = inr (q k here e d ready x)

pub kept-dropped : {V : Type 0} (g : Group V) → IsKeyed g.rules → (v : V) → IsKept g (IsDropped g v)
kept-dropped g keyed v k here e d ready h = record {
  mine = kept-over g keyed v k here e d ready h.mine;
  theirs = λ i l n. awaits-kept g g.coordinator i (Base g v) (IsRefusal g.generation v) (λ c. IsPending v (c.world.at i) → ⊥)
      (kept-beside g (Base g v) (λ c. IsPending v (c.world.at i) → ⊥) (kept-base g v) (kept-gone g v i n)) (kept-gone g v i n)
      (gives-refused g keyed v i n) k here e d ready (h.theirs i l n);
}

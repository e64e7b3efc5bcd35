-- A group with nothing pending and no open round: in a calm the coordinator's history stays.
use Rattle.std.{specs.Prelude.{Option, Some, None, ◌==◌, nat_lt}, proofs.Common.{◌≡◌, ◌≢◌, ℕ, ◌<◌, ◌⊎◌, Bool, true, false, ◌&&◌, eqb, List, [], ◌∷◌, refl}}
use Rattle.std.proofs.Common.{sym, ap, subst, ◌∙◌, inl, inr}
use Rattle.spl_agree.specs.{Member.{Group, Member, has_round, without, others, has, found}, Rows.{row, requested, fits_here, on_vote, decided, strayed}}
use Rattle.spl_agree.specs.{Rows.{taken_back, member_tick, forward_first}, World.{World, after}, declared.event.GroupEvent.GroupEvent}
use Rattle.spl_agree.{specs.declared.{message.CommitMsg.CommitMsg, plan.GroupPlan.GroupPlan, reason.Reason.Reason}, proofs.Tests.{if_holds, eqb_is, eqb_not}}
use Rattle.spl_agree.proofs.Tests.{bool_cases, and_left, put-same, put-other}
use Rattle.spl_agree.specs.declared.message.CommitMsg.TheVariants as msg
use Rattle.spl_agree.specs.declared.event.GroupEvent.TheVariants as event
use Rattle.spl_group_safety.proofs.{Sends.AllSends, Agreement.put_holds}
use Rattle.spl_group_liveness.{specs.{Bound.AnyOf, Calm.{Calm, Order, mail, move, calm_beginning, calm_by, AllFull}}, proofs.Moves.{MayMove, Ready, IsKept}}
use Rattle.spl_group_liveness.proofs.{Moves.{kept-passes, mailed-cases, mail-sends}, Does.{IsAsked, IsCalmEvent, seat-does, LeadDoes, Stays, Queues, Counts}}
use Rattle.spl_group_liveness.proofs.{Does.{Carries, Fails, Drops, Begins, lead-does}, Kept.{ready-event, due-old, seat-pending}, Leading.sends-more}

abbrev pub IsForward : {V : Type 0} → CommitMsg V → Type 0
IsForward (msg.Forward gen v) = Unit {0}
IsForward _ = ⊥

-- no forward among the sends
abbrev pub ForwardsNone : {V : Type 0} → GroupPlan V → Type 0
ForwardsNone {V} p = AllSends (λ (x : CommitMsg V). IsForward x → ⊥) p.sends

pub none-requested : {V : Type 0} (g : Group V) (m : Member V) (p : Option (ℕ × V)) (a r place : ℕ) (v : V) → ForwardsNone (requested g m p a r place v)
none-requested g m (Some p) a r place v = if_holds ForwardsNone (p.0 == r) _ _ (λ q. (λ x. x, tt)) (λ q. (λ x. x, tt))
none-requested g m None a r place v =
    if_holds ForwardsNone (nat_lt r m.seen) _ _ (λ q. tt) (λ q.
    if_holds ForwardsNone (r == m.seen && has_round r m.history) _ _ (λ q. tt) (λ q.
    if_holds ForwardsNone (r == m.seen) _ _ (λ q. (λ x. x, tt)) (λ q.
    if_holds ForwardsNone (fits_here g.rules m.history place v) _ _ (λ f. (λ x. x, tt)) (λ f. (λ x. x, tt)))))

pub none-decided : {V : Type 0} (p : Option (ℕ × V)) (r : ℕ) (commit : Bool) → ForwardsNone (decided p r commit)
none-decided None r commit = tt
none-decided (Some p) r true = if_holds ForwardsNone (p.0 == r) _ _ (λ q. tt) (λ q. tt)
none-decided (Some p) r false = if_holds ForwardsNone (p.0 == r) _ _ (λ q. tt) (λ q. tt)

pub none-vote : {V : Type 0} (g : Group V) (here : ℕ) (m : Member V) (o : Option (ℕ × List ℕ)) (a r : ℕ) (aye : Bool) → here ≢ g.coordinator
    → ForwardsNone (on_vote g here m o a r aye)
none-vote g here m None a r aye d = tt
none-vote g here m (Some o) a r aye d =
    if_holds ForwardsNone (here == g.coordinator && o.0 == r) _ _
    (λ q. absurd (d (eqb_is here g.coordinator (and_left (here == g.coordinator) (o.0 == r) q)))) (λ q. tt)

pub none-strayed : {V : Type 0} (gen a : ℕ) (v : V) (o : Option Reason) → ForwardsNone (strayed gen a v o)
none-strayed gen a v None = tt
none-strayed gen a v (Some reason) = (λ x. x, tt)

pub none-taken : {V : Type 0} (g : Group V) (u : Option V) (v : V) (reason : Reason) → ForwardsNone (taken_back g.rules u v reason)
none-taken g None v reason = tt
none-taken g (Some u) v reason = if_holds ForwardsNone (g.rules.same u v) _ _ (λ q. tt) (λ q. tt)

pub none-tick : {V : Type 0} (g : Group V) (m : Member V) (p : Option (ℕ × V)) (us : List V) → m.pending ≡ us → us ≡ [] → ForwardsNone (member_tick g m p)
none-tick g m (Some p) us e q = (λ x. x, tt)
none-tick {V} g m None us e q = subst (λ (l : List V). ForwardsNone (forward_first g l)) (sym (e ∙ q)) tt

pub none-message : {V : Type 0} (g : Group V) (here : ℕ) (m : Member V) (a : ℕ) (x : CommitMsg V) → here ≢ g.coordinator
    → ForwardsNone (row g here m (event.From a x))
none-message g here m a (msg.VoteRequest gen r place v) d =
    if_holds ForwardsNone (a == g.coordinator) _ _ (λ q. none-requested g m m.promise a r place v) (λ q. (λ x. x, tt))
none-message g here m a (msg.Vote gen r aye) d = none-vote g here m m.opened a r aye d
none-message g here m a (msg.Decision gen r commit) d = if_holds ForwardsNone (a == g.coordinator) _ _ (λ q. none-decided m.promise r commit) (λ q. tt)
none-message g here m a (msg.DecisionRequest gen r) d =
    if_holds ForwardsNone (here == g.coordinator && has a (others g here)) _ _
    (λ q. absurd (d (eqb_is here g.coordinator (and_left (here == g.coordinator) (has a (others g here)) q)))) (λ q. tt)
none-message g here m a (msg.Forward gen v) d =
    if_holds ForwardsNone (here == g.coordinator) _ _ (λ q. absurd (d (eqb_is here g.coordinator q))) (λ q. none-strayed g.generation a v (g.rules.stray v))
none-message g here m a (msg.Refused gen v reason) d =
    if_holds ForwardsNone (a == g.coordinator) _ _ (λ q. none-taken g (found (g.rules.same_key v) m.pending) v reason) (λ q. tt)

pub none-row : {V : Type 0} (g : Group V) (here : ℕ) (m : Member V) (e : GroupEvent V) → here ≢ g.coordinator → IsCalmEvent here e → m.pending ≡ []
    → ForwardsNone (row g here m e)
none-row g here m event.Tick d c e =
    if_holds ForwardsNone (here == g.coordinator) _ _ (λ q. absurd (d (eqb_is here g.coordinator q))) (λ q. none-tick g m m.promise m.pending refl e)
none-row g here m (event.From a x) d c e = none-message g here m a x d
none-row g here m _ d c e = absurd c

-- nothing is pending, no round is open, and no forward is on its way
pub record Idle {V : Type 0} (g : Group V) (h : List (ℕ × V)) (k : Calm V) : Type 0 where
  pub empty : (i : ℕ) → i < g.members → (k.world.at i).pending ≡ []
  pub shut : (k.world.at g.coordinator).opened ≡ None
  pub none : (a b : ℕ) → AnyOf IsForward (k.due a b) → ⊥
  pub stays : (k.world.at g.coordinator).history ≡ h

pub asked-forward : {V : Type 0} (o : Option (ℕ × List ℕ)) (m : CommitMsg V) → IsAsked o m → IsForward m → ⊥
asked-forward o (msg.Forward gen v) a f = a
asked-forward o _ a f = f

pub none-due : {V : Type 0} (g : Group V) (k : Calm V) (here : ℕ) (e : GroupEvent V) (d : ℕ → ℕ → List (CommitMsg V)) → MayMove g k here e d
    → ((a b : ℕ) → AnyOf IsForward (k.due a b) → ⊥) → ForwardsNone (row g here (k.world.at here) e) → (a b : ℕ)
    → AnyOf IsForward ((move g k here e d).due a b) → ⊥
none-due {V} g k here e d may none all a b h = go (mailed-cases IsForward d here (row g here (k.world.at here) e).sends a b h)
  where
    go : AnyOf IsForward (d a b) ⊎ ((a ≡ here) × AnyOf IsForward (mail b (row g here (k.world.at here) e).sends)) → ⊥
    go (inl x) = none a b (due-old g k here e d IsForward a b may x)
    go (inr x) =
        let z : (m : CommitMsg V)
        × ((IsForward m → ⊥) × IsForward m) = mail-sends (λ y. IsForward y → ⊥) IsForward b (row g here (k.world.at here) e).sends all x.1 in z.1.0 z.1.1

pub idle-seat : {V : Type 0} (g : Group V) (h : List (ℕ × V)) (k : Calm V) (here : ℕ) (e : GroupEvent V) (d : ℕ → ℕ → List (CommitMsg V))
    → Ready g k here e d → here ≢ g.coordinator → Idle g h k → Idle g h (move g k here e d)
idle-seat {V} g h k here e d ready n idle = record {
  empty = λ i l. put_holds (λ j x. j < g.members → x.pending ≡ []) k.world.at here (after g here (k.world.at here) (row g here (k.world.at here) e)) i
      (λ t. seat-pending g (λ us. us ≡ []) (λ u us q. ap (λ (l : List V). without (g.rules.same_key u) l) q) here (k.world.at here) e
      (row g here (k.world.at here) e) (seat-does g here (k.world.at here) e n (ready-event g k here e d ready.may)) (idle.empty here t))
      (λ o t. idle.empty i t) l;
  shut = ap (λ (x : Member V). x.opened) same ∙ idle.shut;
  none = none-due g k here e d ready.may idle.none (none-row g here (k.world.at here) e n (ready-event g k here e d ready.may) (idle.empty here ready.member));
  stays = ap (λ (x : Member V). x.history) same ∙ idle.stays;
}
  where
    same : (move g k here e d).world.at g.coordinator ≡ k.world.at g.coordinator
    same = put-other k.world.at here (after g here (k.world.at here) (row g here (k.world.at here) e)) g.coordinator (λ q. n (sym q))

pub idle-lead : {V : Type 0} (g : Group V) (h : List (ℕ × V)) (k : Calm V) (e : GroupEvent V) (d : ℕ → ℕ → List (CommitMsg V))
    → Ready g k g.coordinator e d → Idle g h k → Idle g h (move g k g.coordinator e d)
idle-lead {V} g h k e d ready idle = go (lead-does g m e (ready-event g k g.coordinator e d ready.may))
  where
    m : Member V
    m = k.world.at g.coordinator

    p : GroupPlan V
    p = row g g.coordinator m e

    open_not : (o : ℕ × List ℕ) → m.opened ≡ Some o → ⊥
    open_not o q = let z : ◌≡◌ {A = Option (ℕ × List ℕ)} None (Some o) = sym idle.shut ∙ q in cc

    some_not : (u : V) (us : List V) → m.pending ≡ u ∷ us → ⊥
    some_not u us q = let z : ◌≡◌ {A = List V} [] (u ∷ us) = sym (idle.empty g.coordinator ready.member) ∙ q in cc

    come_not : (a gen : ℕ) (u : V) → e ≡ event.From a (msg.Forward gen u) → ⊥
    come_not a gen u q = at (subst (λ (x : GroupEvent V). MayMove g k g.coordinator x d) q ready.may)
      where
        at : MayMove g k g.coordinator (event.From a (msg.Forward gen u)) d → ⊥
        at may = idle.none a g.coordinator (subst (λ (l : List (CommitMsg V)). AnyOf IsForward l) (sym may.3) (inl tt))

    go : LeadDoes g m e p → Idle g h (move g k g.coordinator e d)
    go (Stays q s) =
        let same : (move g k g.coordinator e d).world.at g.coordinator ≡ m = put-same k.world.at g.coordinator (after g g.coordinator m p) ∙ q in record {
          empty = λ i l. put_holds (λ j x. j < g.members → x.pending ≡ []) k.world.at g.coordinator (after g g.coordinator m p) i
              (λ t. ap (λ (x : Member V). x.pending) q ∙ idle.empty g.coordinator t) (λ o t. idle.empty i t) l;
          shut = ap (λ (x : Member V). x.opened) same ∙ idle.shut;
          none = none-due g k g.coordinator e d ready.may idle.none (sends-more (IsAsked m.opened) (λ x. IsForward x → ⊥) (asked-forward m.opened) p.sends s);
          stays = ap (λ (x : Member V). x.history) same ∙ idle.stays;
        }
    go (Queues a gen u f x y q s) = absurd (come_not a gen u f)
    go (Counts a gen t missing o c n q s) = absurd (open_not (t, missing) o)
    go (Carries a t missing u us o c q s) = absurd (open_not (t, missing) o)
    go (Fails t missing u us o c q s) = absurd (open_not (t, missing) o)
    go (Drops u us reason o c q s) = absurd (some_not u us c)
    go (Begins u us o c q s) = absurd (some_not u us c)

pub kept-idle : {V : Type 0} (g : Group V) (h : List (ℕ × V)) → IsKept g (Idle g h)
kept-idle {V} g h k here e d ready idle = go (bool_cases (eqb here g.coordinator))
  where
    as_lead : (x : ℕ) → x ≡ g.coordinator → Ready g k x e d → Idle g h (move g k x e d)
    as_lead x q = subst (λ (j : ℕ). Ready g k j e d → Idle g h (move g k j e d)) (sym q) (λ r. idle-lead g h k e d r idle)

    go : (eqb here g.coordinator ≡ true) ⊎ (eqb here g.coordinator ≡ false) → Idle g h (move g k here e d)
    go (inl q) = as_lead here (eqb_is here g.coordinator q) ready
    go (inr q) = idle-seat g h k here e d ready (eqb_not here g.coordinator q) idle

-- the history of the coordinator is the same after a calm
pub idle-calm : {V : Type 0} (g : Group V) (os : List Order) (w : World V) → AllFull g.members os → ((i : ℕ) → i < g.members → (w.at i).pending ≡ [])
    → (w.at g.coordinator).opened ≡ None → ((calm_by g os w).at g.coordinator).history ≡ (w.at g.coordinator).history
idle-calm g os w full empty shut =
    (kept-passes g (Idle g (w.at g.coordinator).history) (kept-idle g (w.at g.coordinator).history) os full (calm_beginning w)
    (record { empty = empty; shut = shut; none = λ a b x. x; stays = refl })).stays

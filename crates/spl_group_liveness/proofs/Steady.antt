-- What a row leaves of a member by itself: the keys of its pending values differ, its numbers grow by one at most, and it
-- sees no round but one that its coordinator asks for.
use Rattle.std.{specs.Prelude.{Option, Some, None, ◌==◌, if◌then◌else◌}, proofs.Common.{◌≡◌, ◌≢◌, ℕ, ◌+◌, ◌≤◌, ◌⊎◌, true, false, eqb, List, [], ◌∷◌, ◌++◌}}
use Rattle.std.proofs.Common.{length, length-append, refl, sym, ap, subst, inl, inr, arith}
use Rattle.spl_agree.specs.{Member.{Rules, Group, Member, new_member, restarted, others, but, found}, Rows.{row, expire_open}, World.after}
use Rattle.spl_agree.{specs.declared.{event.GroupEvent.GroupEvent, plan.GroupPlan.GroupPlan}, proofs.Tests.{if_holds, eqb_is, eqb_not, bool_cases}}
use Rattle.spl_agree.proofs.Tests.{has-below_but-other}
use Rattle.spl_agree.specs.declared.message.CommitMsg.TheVariants as msg
use Rattle.spl_agree.specs.declared.event.GroupEvent.TheVariants as event
use Rattle.spl_group_liveness.{specs.Bound.{IsKeyed, Once, IsManned}, proofs.{Keys.{once-without, found-more}, Does.{IsCalmEvent, SeatDoes, Rests, Sees}}}
use Rattle.spl_group_liveness.proofs.Does.{Promises, Commits, Aborts, Refuses, seat-does, LeadDoes, Stays, Queues, Counts, Carries, Fails, Drops, Begins}
use Rattle.spl_group_liveness.proofs.{Does.lead-does, Lists.has-but-less, Early.none_left-below_but}

-- a member after so many events
pub record IsSteady {V : Type 0} (g : Group V) (n : ℕ) (m : Member V) : Type 0 where
  pub once : (v : V) → Once g.rules v m.pending
  pub manned : (o : ℕ × List ℕ) → m.opened ≡ Some o → IsManned g o.1
  pub begun : 1 ≤ m.next
  pub rounds : m.next ≤ n + 1
  pub places : length m.history ≤ n

-- what is submitted isn't pending, and a message comes from elsewhere
abbrev pub IsFair : {V : Type 0} → Group V → ℕ → Member V → GroupEvent V → Type 0
IsFair g here m (event.Submit v) = found (g.rules.same_key v) m.pending ≡ None
IsFair g here m (event.From a x) = a ≢ here
IsFair g here m _ = Unit {0}

-- no round is open
pub not_open : (o : ℕ × List ℕ) → ◌≡◌ {A = Option (ℕ × List ℕ)} None (Some o) → ⊥
not_open o e = cc

pub same_missing : (r : ℕ) (xs : List ℕ) (o : ℕ × List ℕ) → ◌≡◌ {A = Option (ℕ × List ℕ)} (Some (r, xs)) (Some o) → xs ≡ o.1
same_missing r xs o e = let z : ◌≡◌ {A = ℕ × List ℕ} (r, xs) o = cc in ap (λ (w : ℕ × List ℕ). w.1) z

pub steady-new : {V : Type 0} (g : Group V) (n : ℕ) → IsSteady g n new_member
steady-new g n = record { once = λ v. tt; manned = λ o e. absurd (not_open o e); begun = omega arith; rounds = omega arith; places = omega arith }

pub steady-more : {V : Type 0} (g : Group V) (n : ℕ) (m : Member V) → IsSteady g n m → IsSteady g (n + 1) m
steady-more g n m s = record { once = s.once; manned = s.manned; begun = s.begun; rounds = omega (arith, s.rounds); places = omega (arith, s.places) }

pub steady-restarted : {V : Type 0} (g : Group V) (n : ℕ) (m : Member V) → IsSteady g n m → IsSteady g n (restarted m)
steady-restarted g n m s = record { once = s.once; manned = λ o e. absurd (not_open o e); begun = s.begun; rounds = s.rounds; places = s.places }

-- a key that is not there goes last
pub once-more : {V : Type 0} (rules : Rules V) → IsKeyed rules → (u v : V) (us : List V) → found (rules.same_key u) us ≡ None → Once rules v us
    → Once rules v (us ++ u ∷ [])
once-more rules keyed u v [] f h = (λ q. refl, tt)
once-more {V} rules keyed u v (x ∷ xs) f h = go (bool_cases (rules.same_key u x)) f (λ q. once-more rules keyed u v xs q h.1)
  where
    rest : rules.same_key u x ≡ false → (rules.same_key v u ≡ true) ⊎ (rules.same_key v u ≡ false) → rules.same_key v x ≡ true
        → found (rules.same_key v) (xs ++ u ∷ []) ≡ None
    rest d (inl q) t = absurd (let z : rules.same_key u x ≡ true = keyed.through u v x (keyed.turned v u q) t in cc)
    rest d (inr q) t = found-more rules v u xs (h.0 t) q

    go : (rules.same_key u x ≡ true) ⊎ (rules.same_key u x ≡ false) → (if rules.same_key u x then Some x else found (rules.same_key u) xs) ≡ None
        → (found (rules.same_key u) xs ≡ None → Once rules v (xs ++ u ∷ []))
        → (rules.same_key v x ≡ true → found (rules.same_key v) (xs ++ u ∷ []) ≡ None) × Once rules v (xs ++ u ∷ [])
    go (inl q) e ih = absurd (let z : ◌≡◌ {A = Option V} (Some x) None = rw q at e in cc)
    go (inr q) e ih = (rest q (bool_cases (rules.same_key v u)), ih (rw q at e))

-- at a member that is not the coordinator
pub steady-seat : {V : Type 0} (g : Group V) (n here : ℕ) (m : Member V) (e : GroupEvent V) (p : GroupPlan V) → SeatDoes g here m e p → IsSteady g n m
    → IsSteady g (n + 1) (after g here m p)
steady-seat {V} g n here m e p (Rests q) s = subst (IsSteady g (n + 1)) (sym q) (steady-more g n m s)
steady-seat {V} g n here m e p (Sees gen r place u free eq q) s =
    subst (IsSteady g (n + 1)) (sym q)
    (record { once = s.once; manned = s.manned; begun = s.begun; rounds = omega (arith, s.rounds); places = omega (arith, s.places) })
steady-seat {V} g n here m e p (Promises gen r place u free eq q) s =
    subst (IsSteady g (n + 1)) (sym q)
    (record { once = s.once; manned = s.manned; begun = s.begun; rounds = omega (arith, s.rounds); places = omega (arith, s.places) })
steady-seat {V} g n here m e p (Commits gen r u held eq q) s =
    subst (IsSteady g (n + 1)) (sym q)
    (record {
      once = λ v. once-without g.rules v u m.pending (s.once v);
      manned = s.manned;
      begun = s.begun;
      rounds = omega (arith, s.rounds);
      places = rw (length-append m.history ((r, u) ∷ [])) (omega (arith, s.places));
    })
steady-seat {V} g n here m e p (Aborts gen r u held eq q) s =
    subst (IsSteady g (n + 1)) (sym q)
    (record { once = s.once; manned = s.manned; begun = s.begun; rounds = omega (arith, s.rounds); places = omega (arith, s.places) })
steady-seat {V} g n here m e p (Refuses u reason q) s =
    subst (IsSteady g (n + 1)) (sym q)
    (record {
      once = λ v. once-without g.rules v u m.pending (s.once v);
      manned = s.manned;
      begun = s.begun;
      rounds = omega (arith, s.rounds);
      places = omega (arith, s.places);
    })

-- at the coordinator
pub steady-lead : {V : Type 0} (g : Group V) → IsKeyed g.rules → 2 ≤ g.members → (n : ℕ) (m : Member V) (e : GroupEvent V) (p : GroupPlan V)
    → LeadDoes g m e p → IsSteady g n m → IsSteady g (n + 1) (after g g.coordinator m p)
steady-lead {V} g keyed two n m e p (Stays q ss) s = subst (IsSteady g (n + 1)) (sym q) (steady-more g n m s)
steady-lead {V} g keyed two n m e p (Queues a gen u x y z q ss) s =
    subst (IsSteady g (n + 1)) (sym q)
    (record {
      once = λ v. once-more g.rules keyed u v m.pending y (s.once v);
      manned = s.manned;
      begun = s.begun;
      rounds = omega (arith, s.rounds);
      places = omega (arith, s.places);
    })
steady-lead {V} g keyed two n m e p (Counts a gen t missing o c x q ss) s =
    subst (IsSteady g (n + 1)) (sym q)
    (record {
      once = s.once;
      manned = λ w y. subst (IsManned g) (same_missing t (but a missing) w y) now;
      begun = s.begun;
      rounds = omega (arith, s.rounds);
      places = omega (arith, s.places);
    })
  where
    now : IsManned g (but a missing)
    now = record { some = x; among = λ j h. (s.manned (t, missing) o).among j (has-but-less a j missing h) }
steady-lead {V} g keyed two n m e p (Carries a t missing u us o c q ss) s =
    subst (IsSteady g (n + 1)) (sym q)
    (record {
      once = λ v. once-without g.rules v u m.pending (s.once v);
      manned = λ w y. absurd (not_open w y);
      begun = s.begun;
      rounds = omega (arith, s.rounds);
      places = rw (length-append m.history ((t, u) ∷ [])) (omega (arith, s.places));
    })
steady-lead {V} g keyed two n m e p (Fails t missing u us o c q ss) s =
    subst (IsSteady g (n + 1)) (sym q)
    (record {
      once = λ v. once-without g.rules v u m.pending (s.once v);
      manned = λ w y. absurd (not_open w y);
      begun = s.begun;
      rounds = omega (arith, s.rounds);
      places = omega (arith, s.places);
    })
steady-lead {V} g keyed two n m e p (Drops u us reason o c q ss) s =
    subst (IsSteady g (n + 1)) (sym q)
    (record {
      once = λ v. once-without g.rules v u m.pending (s.once v);
      manned = s.manned;
      begun = s.begun;
      rounds = omega (arith, s.rounds);
      places = omega (arith, s.places);
    })
steady-lead {V} g keyed two n m e p (Begins u us o c q ss) s =
    subst (IsSteady g (n + 1)) (sym q)
    (record {
      once = s.once;
      manned = λ w y. subst (IsManned g) (same_missing m.next (others g g.coordinator) w y) now;
      begun = omega (arith, s.begun);
      rounds = omega (arith, s.rounds);
      places = omega (arith, s.places);
    })
  where
    now : IsManned g (others g g.coordinator)
    now = record { some = none_left-below_but g two; among = λ j h. has-below_but-other g.members g.coordinator j h }

-- Expire
pub steady-expire : {V : Type 0} (g : Group V) (n here : ℕ) (m : Member V) (o : Option (ℕ × List ℕ)) → IsSteady g n m
    → IsSteady g (n + 1) (after g here m (expire_open g here o))
steady-expire g n here m None s = steady-more g n m s
steady-expire g n here m (Some o) s = steady-more g n (restarted m) (steady-restarted g n m s)

-- Submit
pub steady-queued : {V : Type 0} (g : Group V) → IsKeyed g.rules → (n : ℕ) (m : Member V) (u : V) → found (g.rules.same_key u) m.pending ≡ None
    → IsSteady g n m → IsSteady g (n + 1) (record m { pending = m.pending ++ u ∷ [] })
steady-queued g keyed n m u f s =
    record {
      once = λ v. once-more g.rules keyed u v m.pending f (s.once v);
      manned = s.manned;
      begun = s.begun;
      rounds = omega (arith, s.rounds);
      places = omega (arith, s.places);
    }

-- ticks and messages
pub steady-calm : {V : Type 0} (g : Group V) → IsKeyed g.rules → 2 ≤ g.members → (n here : ℕ) (m : Member V) (e : GroupEvent V) → IsCalmEvent here e
    → IsSteady g n m → IsSteady g (n + 1) (after g here m (row g here m e))
steady-calm {V} g keyed two n here m e calm s = go (bool_cases (eqb here g.coordinator))
  where
    as_lead : (h : ℕ) → h ≡ g.coordinator → IsCalmEvent h e → IsSteady g (n + 1) (after g h m (row g h m e))
    as_lead h q =
        subst (λ (j : ℕ). IsCalmEvent j e → IsSteady g (n + 1) (after g j m (row g j m e))) (sym q)
        (λ c. steady-lead g keyed two n m e (row g g.coordinator m e) (lead-does g m e c) s)

    go : (eqb here g.coordinator ≡ true) ⊎ (eqb here g.coordinator ≡ false) → IsSteady g (n + 1) (after g here m (row g here m e))
    go (inl q) = as_lead here (eqb_is here g.coordinator q) calm
    go (inr q) = steady-seat g n here m e (row g here m e) (seat-does g here m e (eqb_not here g.coordinator q) calm) s

-- any row keeps a member steady
pub steady-row : {V : Type 0} (g : Group V) → IsKeyed g.rules → 2 ≤ g.members → (n here : ℕ) (m : Member V) (e : GroupEvent V) → IsFair g here m e
    → IsSteady g n m → IsSteady g (n + 1) (after g here m (row g here m e))
steady-row g keyed two n here m event.Tick f s = steady-calm g keyed two n here m event.Tick tt s
steady-row g keyed two n here m (event.From a x) f s = steady-calm g keyed two n here m (event.From a x) f s
steady-row {V} g keyed two n here m event.Expire f s =
    if_holds (λ (p : GroupPlan V). IsSteady g (n + 1) (after g here m p)) (here == g.coordinator) _ _ (λ q. steady-expire g n here m m.opened s)
    (λ q. steady-more g n m s)
steady-row {V} g keyed two n here m (event.Submit v) f s =
    if_holds (λ (p : GroupPlan V). IsSteady g (n + 1) (after g here m p)) (here == g.coordinator) _ _ (λ q. steady-queued g keyed n m v f s)
    (λ q. steady-queued g keyed n m v f s)

-- a request of the coordinator for a round
abbrev pub Asks : {V : Type 0} → Group V → ℕ → GroupEvent V → Type 0
Asks {V} g r e = (gen : ℕ) × (place : ℕ) × (u : V) × (e ≡ event.From g.coordinator (msg.VoteRequest gen r place u))

-- what another member has seen is what it had seen, or what is asked now
pub seen-seat : {V : Type 0} (g : Group V) (here : ℕ) (m : Member V) (e : GroupEvent V) (p : GroupPlan V) → SeatDoes g here m e p
    → ((after g here m p).seen ≡ m.seen) ⊎ Asks g (after g here m p).seen e
seen-seat {V} g here m e p (Rests q) = inl (ap (λ (x : Member V). x.seen) q)
seen-seat {V} g here m e p (Sees gen r place u free eq q) = inr (subst (λ (x : Member V). Asks g x.seen e) (sym q) (gen, place, u, eq))
seen-seat {V} g here m e p (Promises gen r place u free eq q) = inr (subst (λ (x : Member V). Asks g x.seen e) (sym q) (gen, place, u, eq))
seen-seat {V} g here m e p (Commits gen r u held eq q) = inl (ap (λ (x : Member V). x.seen) q)
seen-seat {V} g here m e p (Aborts gen r u held eq q) = inl (ap (λ (x : Member V). x.seen) q)
seen-seat {V} g here m e p (Refuses u reason q) = inl (ap (λ (x : Member V). x.seen) q)

pub seen-row : {V : Type 0} (g : Group V) (here : ℕ) (m : Member V) (e : GroupEvent V) → here ≢ g.coordinator → IsFair g here m e
    → ((after g here m (row g here m e)).seen ≡ m.seen) ⊎ Asks g (after g here m (row g here m e)).seen e
seen-row g here m event.Tick d f = seen-seat g here m event.Tick (row g here m event.Tick) (seat-does g here m event.Tick d tt)
seen-row g here m (event.From a x) d f = seen-seat g here m (event.From a x) (row g here m (event.From a x)) (seat-does g here m (event.From a x) d f)
seen-row {V} g here m event.Expire d f =
    inl (if_holds (λ (p : GroupPlan V). (after g here m p).seen ≡ m.seen) (here == g.coordinator) _ _ (λ q. absurd (d (eqb_is here g.coordinator q)))
    (λ q. refl))
seen-row {V} g here m (event.Submit v) d f =
    inl (if_holds (λ (p : GroupPlan V). (after g here m p).seen ≡ m.seen) (here == g.coordinator) _ _ (λ q. refl) (λ q. refl))

-- the next round of the coordinator never falls
pub next-lead : {V : Type 0} (g : Group V) (m : Member V) (e : GroupEvent V) (p : GroupPlan V) → LeadDoes g m e p → m.next ≤ (after g g.coordinator m p).next
next-lead {V} g m e p (Stays q ss) = subst (λ (x : Member V). m.next ≤ x.next) (sym q) (omega arith)
next-lead {V} g m e p (Queues a gen u x y z q ss) = subst (λ (x : Member V). m.next ≤ x.next) (sym q) (omega arith)
next-lead {V} g m e p (Counts a gen t missing o c x q ss) = subst (λ (x : Member V). m.next ≤ x.next) (sym q) (omega arith)
next-lead {V} g m e p (Carries a t missing u us o c q ss) = subst (λ (x : Member V). m.next ≤ x.next) (sym q) (omega arith)
next-lead {V} g m e p (Fails t missing u us o c q ss) = subst (λ (x : Member V). m.next ≤ x.next) (sym q) (omega arith)
next-lead {V} g m e p (Drops u us reason o c q ss) = subst (λ (x : Member V). m.next ≤ x.next) (sym q) (omega arith)
next-lead {V} g m e p (Begins u us o c q ss) = subst (λ (x : Member V). m.next ≤ x.next) (sym q) (omega arith)

pub next-row : {V : Type 0} (g : Group V) (m : Member V) (e : GroupEvent V) → IsFair g g.coordinator m e
    → m.next ≤ (after g g.coordinator m (row g g.coordinator m e)).next
next-row g m event.Tick f = next-lead g m event.Tick (row g g.coordinator m event.Tick) (lead-does g m event.Tick tt)
next-row g m (event.From a x) f = next-lead g m (event.From a x) (row g g.coordinator m (event.From a x)) (lead-does g m (event.From a x) f)
next-row {V} g m event.Expire f =
    if_holds (λ (p : GroupPlan V). m.next ≤ (after g g.coordinator m p).next) (g.coordinator == g.coordinator) _ _ (λ q. by_open m.opened) (λ q. omega arith)
  where
    by_open : (o : Option (ℕ × List ℕ)) → m.next ≤ (after g g.coordinator m (expire_open g g.coordinator o)).next
    by_open None = omega arith
    by_open (Some o) = omega arith
next-row {V} g m (event.Submit v) f =
    if_holds (λ (p : GroupPlan V). m.next ≤ (after g g.coordinator m p).next) (g.coordinator == g.coordinator) _ _ (λ q. omega arith) (λ q. omega arith)

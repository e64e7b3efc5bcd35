-- A group that its events reach is fit for a calm.
use Rattle.std.{specs.Prelude.{Option, Some, None, ◌==◌, nat_lt, slice_get}, proofs.Common.{◌≡◌, ◌≢◌, ℕ, suc, ◌+◌, ◌<◌, ◌≤◌, ◌⊎◌, true, false, eqb, List, []}}
use Rattle.std.proofs.Common.{◌∷◌, length, refl, sym, subst, inl, inr, arith}
use Rattle.spl_agree.specs.{Member.{Group, Member, new_member, restarted}, Rows.row, World.{Sent, World, new_world, after, put, is_strange, Happening, Ticks}}
use Rattle.spl_agree.specs.{World.{Expires, Submits, Delivers, Strays, Restarts, acts, comes, happens, run}, Agreement.{Was, Agrees, MayHappen}}
use Rattle.spl_agree.{specs.declared.event.GroupEvent.GroupEvent, proofs.Tests.{if_holds, eqb_is, eqb_not, bool_cases, put-same, put-other}}
use Rattle.spl_agree.specs.declared.message.CommitMsg.TheVariants as msg
use Rattle.spl_agree.specs.declared.event.GroupEvent.TheVariants as event
use Rattle.spl_group_safety.proofs.Agreement.{put_holds, may_come-sent, may_come-strange, was-slice_get, agrees-happens, agrees-new, agrees-run}
use Rattle.spl_group_liveness.specs.{Bound.{Settles, IsKeyed, IsFit, IsGuarded, AllGuarded}, Calm.{group_calm, as_often, by_position}}
use Rattle.spl_group_liveness.proofs.{Orders.all_full, Milestones.orders-settle, Steady.{IsSteady, IsFair, Asks, steady-new, steady-more, steady-restarted}}
use Rattle.spl_group_liveness.proofs.Steady.{steady-row, seen-row, next-row}

-- after so many events
pub record Reached {V : Type 0} (g : Group V) (n : ℕ) (at : ℕ → Member V) : Type 0 where
  pub steady : (i : ℕ) → IsSteady g n (at i)
  pub heard : (i : ℕ) → i ≢ g.coordinator → (at i).seen < (at g.coordinator).next

pub reached-more : {V : Type 0} (g : Group V) (n : ℕ) (at : ℕ → Member V) → Reached g n at → Reached g (n + 1) at
reached-more g n at r = record { steady = λ i. steady-more g n (at i) (r.steady i); heard = r.heard }

-- what may happen here is fair, where what is submitted is guarded
abbrev pub IsNew : {V : Type 0} → Group V → Member V → GroupEvent V → Type 0
IsNew g m (event.Submit v) = IsFair g 0 m (event.Submit v)
IsNew g m _ = Unit {0}

pub fair-event : {V : Type 0} (g : Group V) (w : World V) (here : ℕ) (e : GroupEvent V) → MayHappen g w here e → IsNew g (w.at here) e
    → IsFair g here (w.at here) e
fair-event g w here (event.Submit v) may new = new
fair-event g w here (event.From a x) may new = may.other
fair-event g w here _ may new = tt

-- a request that may come is of a round that was begun
pub asked-begun : {V : Type 0} (g : Group V) (w : World V) (here r : ℕ) (e : GroupEvent V) → MayHappen g w here e → Asks g r e → r < (w.at g.coordinator).next
asked-begun {V} g w here r e may a = go (subst (λ (x : GroupEvent V). MayHappen g w here x) a.3 may)
  where
    go : MayHappen g w here (event.From g.coordinator (msg.VoteRequest a.0 r a.1 a.2)) → r < (w.at g.coordinator).next
    go m = (m.told refl).0

pub reached-row : {V : Type 0} (g : Group V) → IsKeyed g.rules → 2 ≤ g.members → (n : ℕ) (w : World V) (here : ℕ) (e : GroupEvent V) → MayHappen g w here e
    → IsNew g (w.at here) e → Reached g n w.at → Reached g (n + 1) (put w.at here (after g here (w.at here) (row g here (w.at here) e)))
reached-row {V} g keyed two n w here e may new r = record {
  steady = λ i. put_holds (λ j x. IsSteady g (n + 1) x) w.at here (after g here (w.at here) (row g here (w.at here) e)) i
      (steady-row g keyed two n here (w.at here) e fair (r.steady here)) (λ d. steady-more g n (w.at i) (r.steady i));
  heard = λ i o. heard (bool_cases (eqb here g.coordinator)) i o;
}
  where
    fair : IsFair g here (w.at here) e
    fair = fair-event g w here e may new

    as_lead : (h : ℕ) → h ≡ g.coordinator → IsFair g h (w.at h) e → (i : ℕ) → i ≢ g.coordinator
        → (put w.at h (after g h (w.at h) (row g h (w.at h) e)) i).seen < (put w.at h (after g h (w.at h) (row g h (w.at h) e)) g.coordinator).next
    as_lead h q =
        subst (λ (j : ℕ). IsFair g j (w.at j) e → (i : ℕ) → i ≢ g.coordinator
        → (put w.at j (after g j (w.at j) (row g j (w.at j) e)) i).seen < (put w.at j (after g j (w.at j) (row g j (w.at j) e)) g.coordinator).next) (sym q)
        (λ f i o. subst (λ (x : Member V). x.seen <
        (put w.at g.coordinator (after g g.coordinator (w.at g.coordinator) (row g g.coordinator (w.at g.coordinator) e)) g.coordinator).next)
        (sym (put-other w.at g.coordinator (after g g.coordinator (w.at g.coordinator) (row g g.coordinator (w.at g.coordinator) e)) i o))
        (subst (λ (x : Member V). (w.at i).seen < x.next)
        (sym (put-same w.at g.coordinator (after g g.coordinator (w.at g.coordinator) (row g g.coordinator (w.at g.coordinator) e))))
        (let z : (w.at i).seen < (w.at g.coordinator).next = r.heard i o in omega (arith, z, next-row g (w.at g.coordinator) e f))))

    as_seat : here ≢ g.coordinator → (i : ℕ) → i ≢ g.coordinator
        → (put w.at here (after g here (w.at here) (row g here (w.at here) e)) i).seen <
        (put w.at here (after g here (w.at here) (row g here (w.at here) e)) g.coordinator).next
    as_seat d i o =
        subst (λ (x : Member V). (put w.at here (after g here (w.at here) (row g here (w.at here) e)) i).seen < x.next)
        (sym (put-other w.at here (after g here (w.at here) (row g here (w.at here) e)) g.coordinator (λ q. d (sym q))))
        (put_holds (λ j x. j ≢ g.coordinator → x.seen < (w.at g.coordinator).next) w.at here (after g here (w.at here) (row g here (w.at here) e)) i
        (λ c. mine (seen-row g here (w.at here) e d fair)) (λ q c. r.heard i c) o)
      where
        mine : ((after g here (w.at here) (row g here (w.at here) e)).seen ≡ (w.at here).seen)
            ⊎ Asks g (after g here (w.at here) (row g here (w.at here) e)).seen e
            → (after g here (w.at here) (row g here (w.at here) e)).seen < (w.at g.coordinator).next
        mine (inl q) = subst (λ (k : ℕ). k < (w.at g.coordinator).next) (sym q) (r.heard here d)
        mine (inr a) = asked-begun g w here (after g here (w.at here) (row g here (w.at here) e)).seen e may a

    heard : (eqb here g.coordinator ≡ true) ⊎ (eqb here g.coordinator ≡ false) → (i : ℕ) → i ≢ g.coordinator
        → (put w.at here (after g here (w.at here) (row g here (w.at here) e)) i).seen <
        (put w.at here (after g here (w.at here) (row g here (w.at here) e)) g.coordinator).next
    heard (inl q) = as_lead here (eqb_is here g.coordinator q) fair
    heard (inr q) = as_seat (eqb_not here g.coordinator q)

pub reached-stopped : {V : Type 0} (g : Group V) (n : ℕ) (w : World V) (here : ℕ) → Reached g n w.at → Reached g (n + 1) (put w.at here (restarted (w.at here)))
reached-stopped {V} g n w here r = record {
  steady = λ i. put_holds (λ j x. IsSteady g (n + 1) x) w.at here (restarted (w.at here)) i
      (steady-more g n (restarted (w.at here)) (steady-restarted g n (w.at here) (r.steady here))) (λ d. steady-more g n (w.at i) (r.steady i));
  heard = λ i o. subst (λ (k : ℕ). k < (put w.at here (restarted (w.at here)) g.coordinator).next) (sym (seen i))
      (subst (λ (k : ℕ). (w.at i).seen < k) (sym (next g.coordinator)) (r.heard i o));
}
  where
    seen : (i : ℕ) → (put w.at here (restarted (w.at here)) i).seen ≡ (w.at i).seen
    seen i = put_holds (λ j x. x.seen ≡ (w.at j).seen) w.at here (restarted (w.at here)) i refl (λ d. refl)

    next : (i : ℕ) → (put w.at here (restarted (w.at here)) i).next ≡ (w.at i).next
    next i = put_holds (λ j x. x.next ≡ (w.at j).next) w.at here (restarted (w.at here)) i refl (λ d. refl)

pub reached-acts : {V : Type 0} (g : Group V) → IsKeyed g.rules → 2 ≤ g.members → (n : ℕ) (w : World V) (here : ℕ) (e : GroupEvent V)
    → MayHappen g w here e → IsNew g (w.at here) e → Reached g n w.at → Reached g (n + 1) (acts g w here e).at
reached-acts {V} g keyed two n w here e may new r =
    if_holds (λ (x : World V). Reached g (n + 1) x.at) (nat_lt here g.members) _ _ (λ q. reached-row g keyed two n w here e may new r)
    (λ q. reached-more g n w.at r)

pub reached-comes : {V : Type 0} (g : Group V) → IsKeyed g.rules → 2 ≤ g.members → (n : ℕ) (w : World V) (o : Option (Sent V))
    → ((s : Sent V) → o ≡ Some s → Was s w.sent) → Agrees g w → Reached g n w.at → Reached g (n + 1) (comes g w o).at
reached-comes g keyed two n w None was a r = reached-more g n w.at r
reached-comes {V} g keyed two n w (Some s) was a r =
    if_holds (λ (x : World V). Reached g (n + 1) x.at) (s.from == s.to) _ _ (λ q. reached-more g n w.at r)
    (λ q. reached-acts g keyed two n w s.to (event.From s.from s.message) (may_come-sent g w s (eqb_not s.from s.to q) (was s refl) a) tt r)

pub reached-happens : {V : Type 0} (g : Group V) → IsKeyed g.rules → 2 ≤ g.members → (n : ℕ) (w : World V) (e : Happening V) → IsGuarded g w e → Agrees g w
    → Reached g n w.at → Reached g (n + 1) (happens g w e).at
reached-happens g keyed two n w (Ticks here) c a r = reached-acts g keyed two n w here event.Tick tt tt r
reached-happens g keyed two n w (Expires here) c a r = reached-acts g keyed two n w here event.Expire tt tt r
reached-happens g keyed two n w (Submits here v) c a r = reached-acts g keyed two n w here (event.Submit v) tt c r
reached-happens g keyed two n w (Delivers which) c a r = reached-comes g keyed two n w (slice_get w.sent which) (λ s q. was-slice_get w.sent which s q) a r
reached-happens {V} g keyed two n w (Strays here sender x) c a r =
    if_holds (λ (y : World V). Reached g (n + 1) y.at) (is_strange g here sender x) _ _
    (λ q. reached-acts g keyed two n w here (event.From sender x) (may_come-strange g w here sender x q) tt r) (λ q. reached-more g n w.at r)
reached-happens {V} g keyed two n w (Restarts here) c a r =
    if_holds (λ (y : World V). Reached g (n + 1) y.at) (nat_lt here g.members) _ _ (λ q. reached-stopped g n w here r) (λ q. reached-more g n w.at r)

pub reached-run : {V : Type 0} (g : Group V) → IsKeyed g.rules → 2 ≤ g.members → (es : List (Happening V)) (n : ℕ) (w : World V) → AllGuarded g w es
    → Agrees g w → Reached g n w.at → Reached g (n + length es) (run g w es).at
reached-run g keyed two [] n w c a r = rw (let z : n + 0 ≡ n = omega arith in z) r
reached-run {V} g keyed two (e ∷ es) n w c a r =
    subst (λ (k : ℕ). Reached g k (run g (happens g w e) es).at) (let z : n + 1 + length es ≡ n + suc (length es) = omega arith in z)
    (reached-run g keyed two es (n + 1) (happens g w e) c.1 (agrees-happens g w e a) (reached-happens g keyed two n w e c.0 a r))

pub reached-new : {V : Type 0} (g : Group V) → Reached g 0 (λ _. new_member)
reached-new {V} g = record { steady = λ i. steady-new g 0; heard = λ i o. omega arith }

-- a group that agrees and is reached in few events is fit
pub fit-by : {V : Type 0} (g : Group V) → IsKeyed g.rules → 2 ≤ g.members → g.coordinator < g.members → (n : ℕ) (w : World V) → n ≤ 32768 → Agrees g w
    → ((i : ℕ) → i < g.members → IsSteady g n (w.at i)) → ((i : ℕ) → i < g.members → i ≢ g.coordinator → (w.at i).seen < (w.at g.coordinator).next)
    → IsFit g w
fit-by {V} g keyed two leads n w few agrees steady heard = record {
  keyed = keyed;
  two = two;
  leads = leads;
  agrees = agrees;
  heard = heard;
  once = λ i l v. (steady i l).once v;
  manned = (steady g.coordinator leads).manned;
  rounds = let z : (w.at g.coordinator).next ≤ n + 1 = (steady g.coordinator leads).rounds in omega (arith, z, few);
  places = let z : length (w.at g.coordinator).history ≤ n = (steady g.coordinator leads).places in omega (arith, z, few);
}

pub fit-reached : {V : Type 0} (g : Group V) → IsKeyed g.rules → 2 ≤ g.members → g.coordinator < g.members → (es : List (Happening V)) → length es ≤ 32768
    → AllGuarded g new_world es → IsFit g (run g new_world es)
fit-reached {V} g keyed two leads es few c =
    let r : Reached g (0 + length es) (run g new_world es).at = reached-run g keyed two es 0 new_world c (agrees-new g) (reached-new g) in
    fit-by g keyed two leads (0 + length es) (run g new_world es) (omega (arith, few)) (agrees-run g new_world es (agrees-new g)) (λ i l. r.steady i)
    (λ i l d. r.heard i d)

-- the calm bound
pub calm-reached : {V : Type 0} (g : Group V) → IsKeyed g.rules → 2 ≤ g.members → g.coordinator < g.members → (es : List (Happening V)) → length es ≤ 32768
    → AllGuarded g new_world es → (v : V) (rest : List V) → ((run g new_world es).at g.coordinator).pending ≡ v ∷ rest
    → Settles g v (group_calm g 8 (run g new_world es))
calm-reached g keyed two leads es few c v rest first =
    orders-settle g (run g new_world es) v rest (as_often 8 (by_position g.members)) (all_full 8 g.members) (omega arith)
    (fit-reached g keyed two leads es few c) first

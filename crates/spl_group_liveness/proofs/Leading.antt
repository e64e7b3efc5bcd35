-- What the coordinator does while the round of its first pending value is open.
use Rattle.std.{specs.Prelude.{Option, Some, None, if◌then◌else◌}, proofs.Common.{◌≡◌, ◌≢◌, ℕ, ◌<◌, ◌≤◌, ◌⊎◌, true, false, eqb, List, [], ◌∷◌, ◌++◌, refl}}
use Rattle.std.proofs.Common.{sym, ap, subst, ◌∙◌, inl, inr}
use Rattle.spl_agree.specs.{Member.{Group, Member, values, has_round, without, others, has, but, found}, Rows.{row, to_each, abort_each, vote_no}}
use Rattle.spl_agree.specs.{World.{World, after}, declared.{event.GroupEvent.GroupEvent, message.CommitMsg.CommitMsg, plan.GroupPlan.GroupPlan}}
use Rattle.spl_agree.{specs.declared.reason.Reason.Reason, proofs.Tests.{eqb_is, eqb_not, bool_cases, has_round-last, has-below_but, put-same, put-other}}
use Rattle.spl_agree.specs.declared.message.CommitMsg.TheVariants as msg
use Rattle.spl_group_safety.proofs.Sends.{AllSends}
use Rattle.spl_group_liveness.{specs.{Bound.{AnyOf, InHistory, IsKeyed}, Calm.{Calm, mail, mailed, move}}, proofs.{Keys.{no_key, found-more}, Does.IsAsked}}
use Rattle.spl_group_liveness.proofs.{Does.{LeadDoes, Stays, Queues, Counts, Carries, Fails, Drops, Begins, lead-does}, Kept.{Base, kept-base, ready-event}}
use Rattle.spl_group_liveness.proofs.{Kept.{due-old, got-last, same_pair, Holds, IsRefusal, IsCarried, IsDropped}, Moves.{any-right, MayMove, Ready}}
use Rattle.spl_group_liveness.proofs.{Moves.{mailed-here, mailed-cases, mail-sends}, Awaits.Awaits, Live.{IsOther, missing_of, Live, LiveOr, live-seat}}
use Rattle.spl_group_liveness.proofs.Lists.{has-but-less, has-but-none, same-last, mail-each, mail-abort}

pub none-other : {V : Type 0} (r : ℕ) (m : CommitMsg V) → (IsOther r m → ⊥) × IsOther r m → ⊥
none-other r m h = h.0 h.1

pub asked-other : {V : Type 0} (o : Option (ℕ × List ℕ)) (r : ℕ) (missing : List ℕ) → o ≡ Some (r, missing) → (m : CommitMsg V) → IsAsked o m → IsOther r m → ⊥
asked-other o r missing e (msg.VoteRequest gen q place v) a n = n (same_pair q r a.0 missing (sym a.1 ∙ e)).0
asked-other o r missing e _ a n = n

pub sends-more : {V : Type 0} (P Q : CommitMsg V → Type 0) → ((m : CommitMsg V) → P m → Q m) → (ss : List (ℕ × CommitMsg V)) → AllSends P ss → AllSends Q ss
sends-more P Q f [] a = tt
sends-more P Q f (s ∷ ss) a = (f s.1 a.0, sends-more P Q f ss a.1)

-- nothing of another round is on its way
pub asks-lead : {V : Type 0} (g : Group V) (r : ℕ) (k : Calm V) (e : GroupEvent V) (d : ℕ → ℕ → List (CommitMsg V)) → MayMove g k g.coordinator e d
    → ((i : ℕ) → AnyOf (IsOther r) (k.due g.coordinator i) → ⊥) → (ss : List (ℕ × CommitMsg V)) → AllSends (λ x. IsOther r x → ⊥) ss → (i : ℕ)
    → AnyOf (IsOther r) (mailed d g.coordinator ss g.coordinator i) → ⊥
asks-lead {V} g r k e d may asks ss all i h = go (mailed-cases (IsOther r) d g.coordinator ss g.coordinator i h)
  where
    go : AnyOf (IsOther r) (d g.coordinator i) ⊎ ((g.coordinator ≡ g.coordinator) × AnyOf (IsOther r) (mail i ss)) → ⊥
    go (inl x) = asks i (due-old g k g.coordinator e d (IsOther r) g.coordinator i may x)
    go (inr x) =
        let z : (m : CommitMsg V) × ((IsOther r m → ⊥) × IsOther r m) = mail-sends (λ y. IsOther r y → ⊥) (IsOther r) i ss all x.1 in none-other r z.0 z.1

-- the coordinator commits: the decision is on its way to each that has only promised
pub carried-done : {V : Type 0} (g : Group V) (v : V) (r : ℕ) (w : World V) (due : ℕ → ℕ → List (CommitMsg V)) (h : List (ℕ × V))
    → Base g v (record { world = w; due = due }) → (w.at g.coordinator).history ≡ h ++ (r, v) ∷ []
    → ((i : ℕ) → i < g.members → i ≢ g.coordinator → AnyOf (λ m. m ≡ msg.Decision g.generation r true) (due g.coordinator i))
    → IsCarried g v r (record { world = w; due = due })
carried-done {V} g v r w due h base grown sent = record {
  mine = subst (λ (l : List (ℕ × V)). AnyOf (λ u. u ≡ v) (values l)) (sym grown) (got-last v r h);
  theirs = λ i l n. go i l n (w.at i).promise refl (base.agrees.follows i l n).trails;
}
  where
    go : (i : ℕ) → i < g.members → i ≢ g.coordinator → (o : Option (ℕ × V)) → (w.at i).promise ≡ o
        → ((w.at i).history ≡ (w.at g.coordinator).history) ⊎ ((e : ℕ × V) × (o ≡ Some e) × ((w.at g.coordinator).history ≡ (w.at i).history ++ e ∷ []))
        → Awaits g.coordinator i (Holds g v r i) (λ m. m ≡ msg.Decision g.generation r true) (λ c. InHistory v (c.world.at i))
        (record { world = w; due = due })
    go i l n o q (inl e) = inr (subst (λ (x : List (ℕ × V)). AnyOf (λ u. u ≡ v) (values x)) (sym (e ∙ grown)) (got-last v r h))
    go i l n o q (inr e) = inl (
      record {
        base = base;
        promise = q ∙ (e.1 ∙ ap (λ (x : ℕ × V). Some x) (sym (same-last h (w.at i).history (r, v) e.0 (sym grown ∙ e.2))));
        carried = subst (λ (x : List (ℕ × V)). has_round r x ≡ true) (sym grown) (has_round-last h (r, v));
      },
      sent i l n,
    )

-- the coordinator refuses: the refusal is on its way to each
pub dropped-done : {V : Type 0} (g : Group V) → IsKeyed g.rules
    → (v : V) (w : World V) (due : ℕ → ℕ → List (CommitMsg V)) (m : Member V) (rest : List V) (reason : Reason)
    → Base g v (record { world = w; due = due }) → m.pending ≡ v ∷ rest → found (g.rules.same_key v) rest ≡ None
    → (w.at g.coordinator).pending ≡ without (g.rules.same_key v) m.pending → (w.at g.coordinator).refused ≡ m.refused ++ (v, reason) ∷ []
    → ((i : ℕ) → i < g.members → i ≢ g.coordinator → AnyOf (IsRefusal g.generation v) (due g.coordinator i)) → IsDropped g v (record { world = w; due = due })
dropped-done {V} g keyed v w due m rest reason base first once pending refused sent = record {
  mine = record {
    refused = subst (λ (l : List (V × Reason)). AnyOf (λ u. u.0 ≡ v) l) (sym refused) (any-right (λ u. u.0 ≡ v) m.refused ((v, reason) ∷ []) (inl refl));
    gone = λ h. no_key g.rules keyed v rest once
        (subst (λ (l : List V). AnyOf (λ u. u ≡ v) l) (pending ∙ (ap (λ (l : List V). without (g.rules.same_key v) l) first ∙ taken)) h);
  };
  theirs = λ i l n. inl (base, sent i l n);
}
  where
    taken : without (g.rules.same_key v) (v ∷ rest) ≡ rest
    taken = rw (keyed.self v)

-- a move at the coordinator
pub live-lead : {V : Type 0} (g : Group V) → IsKeyed g.rules → (v : V) (r : ℕ) (k : Calm V) (e : GroupEvent V) (d : ℕ → ℕ → List (CommitMsg V))
    → Ready g k g.coordinator e d → Live g v r k → LiveOr g v r k (move g k g.coordinator e d)
live-lead {V} g keyed v r k e d ready live = go (lead-does g m e (ready-event g k g.coordinator e d ready.may))
  where
    m : Member V
    m = k.world.at g.coordinator

    p : GroupPlan V
    p = row g g.coordinator m e

    l : Calm V
    l = move g k g.coordinator e d

    here : l.world.at g.coordinator ≡ after g g.coordinator m p
    here = put-same k.world.at g.coordinator (after g g.coordinator m p)

    base : Base g v l
    base = kept-base g v k g.coordinator e d ready live.base

    heard : (i : ℕ) → i < g.members → i ≢ g.coordinator → (l.world.at i).seen ≤ r
    heard i lt n = subst (λ (x : Member V). x.seen ≤ r) (sym (put-other k.world.at g.coordinator (after g g.coordinator m p) i n)) (live.heard i lt n)

    asks : AllSends (λ x. IsOther r x → ⊥) p.sends → (i : ℕ) → AnyOf (IsOther r) (l.due g.coordinator i) → ⊥
    asks all i h = asks-lead g r k e d ready.may live.asks p.sends all i h

    none : p.sends ≡ [] → AllSends (λ x. IsOther r x → ⊥) p.sends
    none q = subst (λ (ss : List (ℕ × CommitMsg V)). AllSends (λ x. IsOther r x → ⊥) ss) (sym q) tt

    posted_to : (P : CommitMsg V → Type 0) (ss : List (ℕ × CommitMsg V)) → p.sends ≡ ss → (i : ℕ) → AnyOf P (mail i ss) → AnyOf P (l.due g.coordinator i)
    posted_to P ss q i h =
        subst (λ (x : List (CommitMsg V)). AnyOf P x) (sym (mailed-here d g.coordinator p.sends i))
        (any-right P (d g.coordinator i) (mail i p.sends) (subst (λ (x : List (ℕ × CommitMsg V)). AnyOf P (mail i x)) (sym q) h))

    among : (i : ℕ) → i < g.members → i ≢ g.coordinator → has i (others g g.coordinator) ≡ true
    among i lt n = has-below_but g.members g.coordinator i lt n

    shut : m.opened ≡ None → ⊥
    shut q = let z : ◌≡◌ {A = Option (ℕ × List ℕ)} None (Some (r, live.missing)) = sym q ∙ live.opened in cc

    head : (u : V) (us : List V) → m.pending ≡ u ∷ us → u ≡ v
    head u us q = let z : u ∷ us ≡ v ∷ live.rest = sym q ∙ live.first in cc

    key : (u : V) → found (g.rules.same_key u) m.pending ≡ None → g.rules.same_key v u ≡ false
    key u q = sub (bool_cases (g.rules.same_key v u)) (bool_cases (g.rules.same_key u v))
        (subst (λ (us : List V). found (g.rules.same_key u) us ≡ None) live.first q)
      where
        sub : (g.rules.same_key v u ≡ true) ⊎ (g.rules.same_key v u ≡ false) → (g.rules.same_key u v ≡ true) ⊎ (g.rules.same_key u v ≡ false)
            → (if g.rules.same_key u v then Some v else found (g.rules.same_key u) live.rest) ≡ None → g.rules.same_key v u ≡ false
        sub (inr x) y z = x
        sub (inl x) (inr y) z = let t : g.rules.same_key u v ≡ true = keyed.turned v u x in cc
        sub (inl x) (inl y) z = let t : ◌≡◌ {A = Option V} (Some v) None = rw y at z in cc

    go : LeadDoes g m e p → LiveOr g v r k l
    go (Stays q s) = inl (
      record {
        base = base;
        heard = heard;
        asks = asks (sends-more (IsAsked m.opened) (λ x. IsOther r x → ⊥) (asked-other m.opened r live.missing live.opened) p.sends s);
        missing = live.missing;
        opened = ap (λ (x : Member V). x.opened) (here ∙ q) ∙ live.opened;
        manned = live.manned;
        rest = live.rest;
        first = ap (λ (x : Member V). x.pending) (here ∙ q) ∙ live.first;
        once = live.once;
      },
      λ j c. subst (λ (x : Member V). has j (missing_of x.opened) ≡ false) (sym (here ∙ q)) c,
    )
    go (Queues w gen u x a b q s) = inl (
      record {
        base = base;
        heard = heard;
        asks = asks (none s);
        missing = live.missing;
        opened = ap (λ (x : Member V). x.opened) (here ∙ q) ∙ live.opened;
        manned = live.manned;
        rest = live.rest ++ u ∷ [];
        first = ap (λ (x : Member V). x.pending) (here ∙ q) ∙ ap (λ (us : List V). us ++ u ∷ []) live.first;
        once = found-more g.rules v u live.rest live.once (key u a);
      },
      λ j c. subst (λ (x : Member V). has j (missing_of x.opened) ≡ false) (sym (here ∙ q)) c,
    )
    go (Counts a gen t missing o c n q s) = let same : (t ≡ r) × (missing ≡ live.missing) = same_pair t r missing live.missing (sym o ∙ live.opened) in inl (
      record {
        base = base;
        heard = heard;
        asks = asks (none s);
        missing = but a missing;
        opened = ap (λ (x : Member V). x.opened) (here ∙ q) ∙ ap (λ (x : ℕ). Some (x, but a missing)) same.0;
        manned = record { some = n; among = λ j h. live.manned.among j (subst (λ (xs : List ℕ). has j xs ≡ true) same.1 (has-but-less a j missing h)) };
        rest = live.rest;
        first = ap (λ (x : Member V). x.pending) (here ∙ q) ∙ live.first;
        once = live.once;
      },
      λ j h. subst (λ (x : Member V). has j (missing_of x.opened) ≡ false) (sym (here ∙ q))
          (has-but-none a j missing (let z : has j (missing_of m.opened) ≡ false = h in rw o at z)),
    )
    go (Carries a t missing u us o c q s) =
        let same : (t ≡ r) × (missing ≡ live.missing) = same_pair t r missing live.missing (sym o ∙ live.opened) in let hd : u ≡ v = head u us c in
        inr (inl (
          r,
          carried-done g v r l.world l.due m.history base
              (ap (λ (x : Member V). x.history) (here ∙ q) ∙ (ap (λ (x : ℕ). m.history ++ (x, u) ∷ []) same.0 ∙ ap (λ (x : V). m.history ++ (r, x) ∷ []) hd))
              (λ i lt n. posted_to (λ x. x ≡ msg.Decision g.generation r true) (to_each (msg.Decision g.generation t true) (others g g.coordinator)) s i
              (mail-each (λ x. x ≡ msg.Decision g.generation r true) (msg.Decision g.generation t true) i (others g g.coordinator)
              (ap (λ (x : ℕ). msg.Decision g.generation x true) same.0) (among i lt n))),
        ))
    go (Fails t missing u us o c q s) = let hd : u ≡ v = head u us c in
        inr (inr (dropped-done g keyed v l.world l.due m live.rest vote_no base live.first live.once
        (ap (λ (x : Member V). x.pending) (here ∙ q) ∙ ap (λ (x : V). without (g.rules.same_key x) m.pending) hd)
        (ap (λ (x : Member V). x.refused) (here ∙ q) ∙ ap (λ (x : V). m.refused ++ (x, vote_no) ∷ []) hd)
        (λ i lt n. posted_to (IsRefusal g.generation v) (abort_each g.generation t u vote_no (others g g.coordinator)) s i
        (mail-abort (IsRefusal g.generation v) g.generation t u vote_no i (others g g.coordinator)
        (vote_no, ap (λ (x : V). msg.Refused g.generation x vote_no) hd) (among i lt n)))))
    go (Drops u us reason o c q s) = absurd (shut o)
    go (Begins u us o c q s) = absurd (shut o)

pub live-move : {V : Type 0} (g : Group V) → IsKeyed g.rules → (v : V) (r : ℕ) (k : Calm V) (here : ℕ) (e : GroupEvent V) (d : ℕ → ℕ → List (CommitMsg V))
    → Ready g k here e d → Live g v r k → LiveOr g v r k (move g k here e d)
live-move {V} g keyed v r k here e d ready live = go (bool_cases (eqb here g.coordinator))
  where
    as_lead : (h : ℕ) → h ≡ g.coordinator → Ready g k h e d → LiveOr g v r k (move g k h e d)
    as_lead h q = subst (λ (j : ℕ). Ready g k j e d → LiveOr g v r k (move g k j e d)) (sym q) (λ x. live-lead g keyed v r k e d x live)

    go : (eqb here g.coordinator ≡ true) ⊎ (eqb here g.coordinator ≡ false) → LiveOr g v r k (move g k here e d)
    go (inl q) = as_lead here (eqb_is here g.coordinator q) ready
    go (inr q) = live-seat g v r k here e d ready (eqb_not here g.coordinator q) live

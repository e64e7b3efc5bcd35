-- What a member keeps by itself, whatever it hears: each value in its history had a good check, and so has its promise and its open round.
use Rattle.std.{specs.Prelude.{Option, Some, None, ◌==◌, nat_lt, is_none}, proofs.Common.{◌≡◌, ◌≢◌, ℕ, suc, ◌+◌, ◌-◌, ◌^◌, ◌<◌, ◌≤◌, Bool, true, false, ◌&&◌}}
use Rattle.std.proofs.Common.{List, [], ◌∷◌, ◌++◌, append_assoc, append-nil, length, refl, sym, ap, subst, ◌∙◌, arith}
use Rattle.spl_agree.specs.Member.{Rules, Group, Member, values, has_round, without, with_yes, others, has, but, decision, found, found_refused, is_spent}
use Rattle.spl_agree.specs.{Member.none_left, Rows.{row, requested, requested_free, fits_here, on_vote, counted_vote, commit_open, abort_open, decided, told}}
use Rattle.spl_agree.specs.Rows.{strayed, admitted, forwarded, forwarded_pending, forwarded_refused, forwarded_new, taken_back, on_message, coordinator_tick}
use Rattle.spl_agree.specs.{Rows.{ask_again, try_first, judge_first, member_tick, forward_first, expire_open}, World.after, Fits.{AllGood, IsJudged, IsSound}}
use Rattle.spl_agree.specs.{Fits.{IsDue, IsRoomy}, declared.{event.GroupEvent.GroupEvent, message.CommitMsg.CommitMsg, plan.GroupPlan.GroupPlan}}
use Rattle.spl_agree.{specs.declared.reason.{Admit.Admit, Reason.Reason}, proofs.Tests.{or_right, eqb_not, if_holds, eqb_is, and_right}}
use Rattle.spl_agree.specs.declared.reason.Admit.TheVariants as admit
use Rattle.spl_agree.specs.declared.message.CommitMsg.TheVariants as msg
use Rattle.spl_agree.specs.declared.event.GroupEvent.TheVariants as event
use Rattle.spl_group_safety.proofs.Leads.{some_is}

pub AllGood-more : {V : Type 0} (rules : Rules V) (before vs : List V) (v : V) → AllGood rules before vs → rules.check (before ++ vs) v ≡ None
    → AllGood rules before (vs ++ v ∷ [])
AllGood-more rules before [] v a c = (rw append-nil at c, tt)
AllGood-more rules before (u ∷ us) v a c = (a.0, AllGood-more rules (before ++ u ∷ []) us v a.1 (rw (append_assoc before (u ∷ []) us) c))

pub values-more : {V : Type 0} (h : List (ℕ × V)) (e : ℕ × V) → values (h ++ e ∷ []) ≡ values h ++ e.1 ∷ []
values-more [] e = refl
values-more (x ∷ xs) e = ap (λ vs. x.1 ∷ vs) (values-more xs e)

abbrev pub Sounds : {V : Type 0} → Group V → ℕ → Member V → GroupPlan V → Type 0
Sounds g here m p = IsSound g here (after g here m p)

pub sound-queue : {V : Type 0} (g : Group V) (here : ℕ) (m : Member V) (v : V) → IsSound g here m → IsSound g here (record m { pending = m.pending ++ v ∷ [] })
sound-queue g here m v s = record {
  good = s.good;
  held = s.held;
  settled = λ o e. let k : IsJudged g here m o = s.settled o e in
      record {
        here_leads = k.here_leads;
        latest = k.latest;
        room = k.room;
        first = k.first;
        rest = k.rest
            ++ v ∷ [];
        pending = ap (λ us. us ++ v ∷ []) k.pending;
        good = k.good;
      };
}

-- a value with a good check joins the history, and nothing is open then
pub sound-commit : {V : Type 0} (g : Group V) (here : ℕ) (m : Member V) (r : ℕ) (v : V) (us : List V) (o : Option (ℕ × List ℕ)) → o ≡ None
    → g.rules.check (values m.history) v ≡ None → IsSound g here m
    → IsSound g here (record m { history = m.history ++ (r, v) ∷ []; promise = None; pending = us; opened = o })
sound-commit g here m r v us o shut c s = record {
  good = rw (values-more m.history (r, v)) (AllGood-more g.rules [] (values m.history) v s.good c);
  held = λ e p. cc;
  settled = λ x p. cc;
}

-- no round is open at another member
pub shut-elsewhere : {V : Type 0} (g : Group V) (here : ℕ) (m : Member V) (o : Option (ℕ × List ℕ)) → m.opened ≡ o → here ≢ g.coordinator
    → IsSound g here m → m.opened ≡ None
shut-elsewhere g here m None e d s = e
shut-elsewhere g here m (Some o) e d s = absurd (d (s.settled o e).here_leads)

pub is_none_is : {A : Type 0} (o : Option A) → is_none o ≡ true → o ≡ None
is_none_is None h = refl
is_none_is (Some x) h = cc

-- VoteRequest
pub sound-free : {V : Type 0} (g : Group V) (here : ℕ) (m : Member V) (sender r place : ℕ) (v : V) → m.promise ≡ None → IsSound g here m
    → Sounds g here m (requested_free g.generation m.history m.seen sender r v (fits_here g.rules m.history place v))
sound-free g here m sender r place v none s =
    if_holds (Sounds g here m) (nat_lt r m.seen) _ _ (λ q. s) (λ q.
    if_holds (Sounds g here m) (r == m.seen && has_round r m.history) _ _ (λ q. s) (λ q.
    if_holds (Sounds g here m) (r == m.seen) _ _ (λ q. s) (λ q.
    if_holds (Sounds g here m) (fits_here g.rules m.history place v) _ _
    (λ f. record {
      good = s.good;
      held = λ e p. let x : (r, v) ≡ e = cc in
          let c : g.rules.check (values m.history) v ≡ None =
          is_none_is (g.rules.check (values m.history) v)
          (and_right (nat_lt (length m.history) (2 ^ 32 - 1)) (is_none (g.rules.check (values m.history) v))
          (and_right (place == length m.history) _ f)) in
          subst (λ (y : ℕ × _). g.rules.check (values m.history) y.1 ≡ None) x c;
      settled = λ o e. let k : IsJudged g here m o = s.settled o e in
          record { here_leads = k.here_leads; latest = k.latest; room = k.room; first = k.first; rest = k.rest; pending = k.pending; good = k.good };
    })
    (λ f. record {
      good = s.good;
      held = s.held;
      settled = λ o e. let k : IsJudged g here m o = s.settled o e in
          record { here_leads = k.here_leads; latest = k.latest; room = k.room; first = k.first; rest = k.rest; pending = k.pending; good = k.good };
    }))))

pub sound-requested : {V : Type 0} (g : Group V) (here : ℕ) (m : Member V) (p : Option (ℕ × V)) (sender r place : ℕ) (v : V) → m.promise ≡ p
    → IsSound g here m → Sounds g here m (requested g m p sender r place v)
sound-requested g here m (Some p) sender r place v e s = if_holds (Sounds g here m) (p.0 == r) _ _ (λ q. s) (λ q. s)
sound-requested g here m None sender r place v e s = sound-free g here m sender r place v e s

-- Decision, at another member
pub sound-decided : {V : Type 0} (g : Group V) (here : ℕ) (m : Member V) (p : Option (ℕ × V)) (r : ℕ) (commit : Bool) → m.promise ≡ p
    → here ≢ g.coordinator → IsSound g here m → Sounds g here m (decided p r commit)
sound-decided g here m None r commit e d s = s
sound-decided g here m (Some p) r true e d s =
    if_holds (Sounds g here m) (p.0 == r) _ _
    (λ q. sound-commit g here m r p.1 (without (g.rules.same_key p.1) m.pending) m.opened (shut-elsewhere g here m m.opened refl d s) (s.held p e) s)
    (λ q. s)
sound-decided g here m (Some p) r false e d s =
    if_holds (Sounds g here m) (p.0 == r) _ _
    (λ q. record {
      good = s.good;
      held = λ x y. cc;
      settled = λ o x. let k : IsJudged g here m o = s.settled o x in
          record { here_leads = k.here_leads; latest = k.latest; room = k.room; first = k.first; rest = k.rest; pending = k.pending; good = k.good };
    })
    (λ q. s)

-- Vote
pub sound-shut : {V : Type 0} (g : Group V) (here : ℕ) (m : Member V) (us : List V) (rs : List (V × Reason)) → IsSound g here m
    → IsSound g here (record m { pending = us; refused = rs; opened = None })
sound-shut g here m us rs s = record { good = s.good; held = s.held; settled = λ o e. cc }

pub sound-abort : {V : Type 0} (g : Group V) (here : ℕ) (m : Member V) (r : ℕ) (us : List V) → IsSound g here m → Sounds g here m (abort_open g here r us)
sound-abort g here m r [] s = s
sound-abort g here m r (v ∷ vs) s = record { good = s.good; held = s.held; settled = λ o e. cc }

pub sound-committed : {V : Type 0} (g : Group V) (here : ℕ) (m : Member V) (o : ℕ × List ℕ) (r : ℕ) (us : List V) → m.opened ≡ Some o → m.pending ≡ us
    → IsSound g here m → Sounds g here m (commit_open g here r us)
sound-committed g here m o r [] e p s = s
sound-committed {V} g here m o r (v ∷ vs) e p s =
    let k : IsJudged g here m o = s.settled o e in
    let same : k.first ≡ v = let x : k.first ∷ k.rest ≡ v ∷ vs = sym k.pending ∙ p in cc in
    sound-commit g here m r v (without (g.rules.same_key v) m.pending) None refl (subst (λ (u : V). g.rules.check (values m.history) u ≡ None) same k.good) s

pub sound-vote : {V : Type 0} (g : Group V) (here : ℕ) (m : Member V) (o : Option (ℕ × List ℕ)) (sender r : ℕ) (aye : Bool) → m.opened ≡ o
    → IsSound g here m → Sounds g here m (on_vote g here m o sender r aye)
sound-vote g here m None sender r aye e s = s
sound-vote g here m (Some o) sender r aye e s = if_holds (Sounds g here m) (here == g.coordinator && o.0 == r) _ _ (λ q. counted aye) (λ q. s)
  where
    same_round : (y : ℕ × List ℕ) → with_yes sender m.opened ≡ Some y → y.0 ≡ o.0
    same_round y z = ap (λ (x : ℕ × List ℕ). x.0) (sym (some_is (o.0, but sender o.1) y (rw e at z)))

    counted : (b : Bool) → Sounds g here m (counted_vote g here m sender r o.1 b)
    counted true = if_holds (Sounds g here m) (has sender (others g here) && has sender o.1) _ _
        (λ h. if_holds (Sounds g here m) (none_left (but sender o.1)) _ _
        (λ all. sound-committed g here m o r m.pending e refl s)
        (λ x. record {
          good = s.good;
          held = s.held;
          settled = λ y z. let k : IsJudged g here m o = s.settled o e in
              record {
                here_leads = k.here_leads;
                latest = ap (λ (n : ℕ). suc n) (same_round y z)
                    ∙ k.latest;
                room = k.room;
                first = k.first;
                rest = k.rest;
                pending = k.pending;
                good = k.good;
              };
        }))
        (λ h. s)
    counted false = if_holds (Sounds g here m) (has sender (others g here)) _ _ (λ h. sound-abort g here m r m.pending s) (λ h. s)

-- DecisionRequest
pub sound-told : {V : Type 0} (g : Group V) (here : ℕ) (m : Member V) (d : Option Bool) (sender r : ℕ) → IsSound g here m
    → Sounds g here m (told g.generation d sender r)
sound-told g here m None sender r s = s
sound-told g here m (Some c) sender r s = s

-- Forward
pub sound-new : {V : Type 0} (g : Group V) (here : ℕ) (m : Member V) (v : V) → IsSound g here m → Sounds g here m (forwarded_new m v)
sound-new g here m v s = if_holds (Sounds g here m) (length m.pending == 64) _ _ (λ q. s) (λ q. sound-queue g here m v s)

pub sound-forwarded_refused : {V : Type 0} (g : Group V) (here : ℕ) (m : Member V) (sender : ℕ) (v : V) (u : Option (V × Reason)) → IsSound g here m
    → Sounds g here m (forwarded_refused g m sender v u)
sound-forwarded_refused g here m sender v None s = sound-new g here m v s
sound-forwarded_refused g here m sender v (Some u) s = if_holds (Sounds g here m) (g.rules.same u.0 v) _ _ (λ q. s) (λ q. s)

pub sound-forwarded_pending : {V : Type 0} (g : Group V) (here : ℕ) (m : Member V) (sender : ℕ) (v : V) (u : Option V) → IsSound g here m
    → Sounds g here m (forwarded_pending g m sender v u)
sound-forwarded_pending g here m sender v None s = sound-forwarded_refused g here m sender v (found_refused (g.rules.same_key v) m.refused) s
sound-forwarded_pending g here m sender v (Some u) s = if_holds (Sounds g here m) (g.rules.same u v) _ _ (λ q. s) (λ q. s)

pub sound-forwarded : {V : Type 0} (g : Group V) (here : ℕ) (m : Member V) (sender : ℕ) (v : V) (u : Option V) → IsSound g here m
    → Sounds g here m (forwarded g m sender v u)
sound-forwarded g here m sender v None s = sound-forwarded_pending g here m sender v (found (g.rules.same_key v) m.pending) s
sound-forwarded g here m sender v (Some u) s = if_holds (Sounds g here m) (g.rules.same u v) _ _ (λ q. s) (λ q. s)

pub sound-admitted : {V : Type 0} (g : Group V) (here : ℕ) (m : Member V) (sender : ℕ) (v : V) (a : Admit) → IsSound g here m
    → Sounds g here m (admitted g m sender v a)
sound-admitted g here m sender v admit.Take s = sound-forwarded g here m sender v (found (g.rules.same_key v) (values m.history)) s
sound-admitted g here m sender v _ s = s

pub sound-strayed : {V : Type 0} (g : Group V) (here : ℕ) (m : Member V) (sender : ℕ) (v : V) (o : Option Reason) → IsSound g here m
    → Sounds g here m (strayed g.generation sender v o)
sound-strayed g here m sender v None s = s
sound-strayed g here m sender v (Some reason) s = s

-- Refused, at another member
pub sound-taken_back : {V : Type 0} (g : Group V) (here : ℕ) (m : Member V) (u : Option V) (v : V) (reason : Reason) → here ≢ g.coordinator
    → IsSound g here m → Sounds g here m (taken_back g.rules u v reason)
sound-taken_back g here m None v reason d s = s
sound-taken_back g here m (Some u) v reason d s =
    if_holds (Sounds g here m) (g.rules.same u v) _ _
    (λ q. let shut : m.opened ≡ None = shut-elsewhere g here m m.opened refl d s in record { good = s.good; held = s.held; settled = λ o e. cc })
    (λ q. s)

-- any message from another position
pub sound-message : {V : Type 0} (g : Group V) (here : ℕ) (m : Member V) (sender : ℕ) (x : CommitMsg V) → sender ≢ here → IsSound g here m
    → Sounds g here m (on_message g here m sender x)
sound-message g here m sender (msg.VoteRequest gen r place v) d s =
    if_holds (Sounds g here m) (sender == g.coordinator) _ _ (λ q. sound-requested g here m m.promise sender r place v refl s) (λ q. s)
sound-message g here m sender (msg.Vote gen r aye) d s = sound-vote g here m m.opened sender r aye refl s
sound-message g here m sender (msg.Decision gen r commit) d s =
    if_holds (Sounds g here m) (sender == g.coordinator) _ _
    (λ q. sound-decided g here m m.promise r commit refl (λ e. d (eqb_is sender g.coordinator q ∙ sym e)) s) (λ q. s)
sound-message g here m sender (msg.DecisionRequest gen r) d s =
    if_holds (Sounds g here m) (here == g.coordinator && has sender (others g here)) _ _ (λ q. sound-told g here m (decision m r) sender r s) (λ q. s)
sound-message g here m sender (msg.Forward gen v) d s = if_holds (Sounds g here m) (here == g.coordinator) _ _
    (λ q. if_holds (Sounds g here m) (has sender (others g here)) _ _ (λ h. sound-admitted g here m sender v (g.rules.admits sender v) s) (λ h. s))
    (λ q. sound-strayed g here m sender v (g.rules.stray v) s)
sound-message g here m sender (msg.Refused gen v reason) d s =
    if_holds (Sounds g here m) (sender == g.coordinator) _ _
    (λ q. sound-taken_back g here m (found (g.rules.same_key v) m.pending) v reason (λ e. d (eqb_is sender g.coordinator q ∙ sym e)) s) (λ q. s)

-- Tick and Expire
-- a place is left where it is not spent
pub has_space : {V : Type 0} (m : Member V) → is_spent m ≡ false → IsRoomy m → length m.history < 2 ^ 32 - 1
has_space m spent f =
    let k : length m.history ≢ 2 ^ 32 - 1 = eqb_not (length m.history) (2 ^ 32 - 1)
    (or_right (m.next == 2 ^ 64 - 1) (length m.history == 2 ^ 32 - 1) spent) in let l : length m.history ≤ 2 ^ 32 - 1 = f.room in omega arith

pub sound-judge : {V : Type 0} (g : Group V) (here : ℕ) (m : Member V) (v : V) (vs : List V) (o : Option Reason) → g.rules.check (values m.history) v ≡ o
    → here ≡ g.coordinator → m.opened ≡ None → m.pending ≡ v ∷ vs → length m.history < 2 ^ 32 - 1 → IsSound g here m
    → Sounds g here m (judge_first g here m v o)
sound-judge g here m v vs (Some reason) c h shut p space s = record { good = s.good; held = s.held; settled = λ o e. cc }
sound-judge g here m v vs None c h shut p space s =
    record {
      good = s.good;
      held = s.held;
      settled = λ o e. record { here_leads = h; latest = begun o e; room = space; first = v; rest = vs; pending = p; good = c };
    }
  where
    begun : (o : ℕ × List ℕ) → Some (m.next, others g here) ≡ Some o → suc o.0 ≡ m.next + 1
    begun o e = let q : m.next ≡ o.0 = ap (λ (x : ℕ × List ℕ). x.0) (some_is (m.next, others g here) o e) in omega arith

pub sound-try : {V : Type 0} (g : Group V) (here : ℕ) (m : Member V) (us : List V) → here ≡ g.coordinator → m.opened ≡ None → m.pending ≡ us
    → length m.history < 2 ^ 32 - 1 → IsSound g here m → Sounds g here m (try_first g here m us)
sound-try g here m [] h shut p space s = s
sound-try g here m (v ∷ vs) h shut p space s = sound-judge g here m v vs (g.rules.check (values m.history) v) refl h shut p space s

pub sound-ask : {V : Type 0} (g : Group V) (here : ℕ) (m : Member V) (o : ℕ × List ℕ) (us : List V) → IsSound g here m
    → Sounds g here m (ask_again g here m o us)
sound-ask g here m o [] s = s
sound-ask g here m o (v ∷ vs) s = s

pub sound-tick : {V : Type 0} (g : Group V) (here : ℕ) (m : Member V) (o : Option (ℕ × List ℕ)) → here ≡ g.coordinator → m.opened ≡ o → IsRoomy m
    → IsSound g here m → Sounds g here m (coordinator_tick g here m o)
sound-tick g here m (Some o) h e f s = sound-ask g here m o m.pending s
sound-tick g here m None h e f s = if_holds (Sounds g here m) (is_spent m) _ _ (λ q. s) (λ q. sound-try g here m m.pending h e refl (has_space m q f) s)

pub sound-expire : {V : Type 0} (g : Group V) (here : ℕ) (m : Member V) (o : Option (ℕ × List ℕ)) → IsSound g here m → Sounds g here m (expire_open g here o)
sound-expire g here m None s = s
sound-expire g here m (Some o) s = record { good = s.good; held = s.held; settled = λ x e. cc }

pub sound-forward : {V : Type 0} (g : Group V) (here : ℕ) (m : Member V) (us : List V) → IsSound g here m → Sounds g here m (forward_first g us)
sound-forward g here m [] s = s
sound-forward g here m (v ∷ vs) s = s

pub sound-member_tick : {V : Type 0} (g : Group V) (here : ℕ) (m : Member V) (p : Option (ℕ × V)) → IsSound g here m → Sounds g here m (member_tick g m p)
sound-member_tick g here m (Some p) s = s
sound-member_tick g here m None s = sound-forward g here m m.pending s

pub sound-row : {V : Type 0} (g : Group V) (here : ℕ) (m : Member V) (e : GroupEvent V) → IsDue g here m e → IsRoomy m → IsSound g here m
    → IsSound g here (after g here m (row g here m e))
sound-row g here m event.Tick d f s =
    if_holds (Sounds g here m) (here == g.coordinator) _ _ (λ q. sound-tick g here m m.opened (eqb_is here g.coordinator q) refl f s)
    (λ q. sound-member_tick g here m m.promise s)
sound-row g here m event.Expire d f s = if_holds (Sounds g here m) (here == g.coordinator) _ _ (λ q. sound-expire g here m m.opened s) (λ q. s)
sound-row g here m (event.Submit v) d f s =
    if_holds (Sounds g here m) (here == g.coordinator) _ _ (λ q. sound-queue g here m v s) (λ q. sound-queue g here m v s)
sound-row g here m (event.From sender x) d f s = sound-message g here m sender x d.1 s

-- A row has at most one change, and none that only a packed form has.
use Rattle.std.{specs.Prelude.{Option, Some, None, ◌==◌, nat_lt}, proofs.Common.{◌≡◌, ◌⊎◌, ℕ, Bool, true, false, ◌&&◌, List, [], ◌∷◌, ◌++◌, length, refl}}
use Rattle.std.proofs.Common.{inl, inr}
use Rattle.spl_agree.specs.{Member.{Group, Member, values, has_round, found, found_refused, others, has, but, none_left, is_spent, decision}, Rows.row}
use Rattle.spl_agree.specs.Rows.{requested, fits_here, on_vote, counted_vote, commit_open, abort_open, decided, told, strayed, admitted, forwarded}
use Rattle.spl_agree.specs.Rows.{forwarded_pending, forwarded_refused, taken_back, on_message, coordinator_tick, ask_again, try_first, judge_first}
use Rattle.spl_agree.specs.{Rows.{member_tick, forward_first, expire_open}, declared.event.{GroupChange.GroupChange, GroupEvent.GroupEvent}}
use Rattle.spl_agree.{specs.declared.{message.CommitMsg.CommitMsg, plan.GroupPlan.GroupPlan, reason.{Admit.Admit, Reason.Reason}}, proofs.Tests.if_holds}
use Rattle.spl_agree.specs.declared.reason.Admit.TheVariants as admit
use Rattle.spl_agree.specs.declared.message.CommitMsg.TheVariants as msg
use Rattle.spl_agree.specs.declared.event.GroupChange.TheVariants as change
use Rattle.spl_agree.specs.declared.event.GroupEvent.TheVariants as event

-- a change that a row may give
abbrev pub IsPlanned : {V : Type 0} → GroupChange V → Type 0
IsPlanned (change.Restore next seen) = ⊥
IsPlanned (change.Kept v why) = ⊥
IsPlanned _ = Unit {0}

abbrev pub IsSingle : {V : Type 0} → List (GroupChange V) → Type 0
IsSingle [] = Unit {0}
IsSingle (x ∷ []) = IsPlanned x
IsSingle (x ∷ y ∷ zs) = ⊥

-- a prefix of it is nothing, or the whole
pub single-prefix : {V : Type 0} (made rest cs : List (GroupChange V)) → made ++ rest ≡ cs → IsSingle cs → (made ≡ []) ⊎ (made ≡ cs)
single-prefix [] rest cs e s = inl refl
single-prefix (x ∷ xs) rest [] e s = absurd (let q : x ∷ (xs ++ rest) ≡ [] = e in cc)
single-prefix (x ∷ []) rest (c ∷ []) e s = inr (let q : x ∷ rest ≡ c ∷ [] = e in cc)
single-prefix (x ∷ y ∷ ys) rest (c ∷ []) e s = absurd (let q : x ∷ y ∷ (ys ++ rest) ≡ c ∷ [] = e in cc)
single-prefix (x ∷ xs) rest (c ∷ d ∷ ds) e s = absurd s

abbrev pub Single : {V : Type 0} → GroupPlan V → Type 0
Single p = IsSingle p.changes

pub single-requested : {V : Type 0} (g : Group V) (m : Member V) (p : Option (ℕ × V)) (sender r place : ℕ) (v : V) → Single (requested g m p sender r place v)
single-requested g m (Some p) sender r place v = if_holds Single (p.0 == r) _ _ (λ q. tt) (λ q. tt)
single-requested g m None sender r place v =
    if_holds Single (nat_lt r m.seen) _ _ (λ q. tt) (λ q.
    if_holds Single (r == m.seen && has_round r m.history) _ _ (λ q. tt) (λ q.
    if_holds Single (r == m.seen) _ _ (λ q. tt) (λ q.
    if_holds Single (fits_here g.rules m.history place v) _ _ (λ q. tt) (λ q. tt))))

pub single-commit : {V : Type 0} (g : Group V) (here r : ℕ) (us : List V) → Single (commit_open g here r us)
single-commit g here r [] = tt
single-commit g here r (v ∷ vs) = tt

pub single-abort : {V : Type 0} (g : Group V) (here r : ℕ) (us : List V) → Single (abort_open g here r us)
single-abort g here r [] = tt
single-abort g here r (v ∷ vs) = tt

pub single-vote : {V : Type 0} (g : Group V) (here : ℕ) (m : Member V) (o : Option (ℕ × List ℕ)) (sender r : ℕ) (aye : Bool)
    → Single (on_vote g here m o sender r aye)
single-vote g here m None sender r aye = tt
single-vote g here m (Some o) sender r aye = if_holds Single (here == g.coordinator && o.0 == r) _ _ (λ q. counted aye) (λ q. tt)
  where
    counted : (b : Bool) → Single (counted_vote g here m sender r o.1 b)
    counted true =
        if_holds Single (has sender (others g here) && has sender o.1) _ _
        (λ h. if_holds Single (none_left (but sender o.1)) _ _ (λ q. single-commit g here r m.pending) (λ q. tt)) (λ h. tt)
    counted false = if_holds Single (has sender (others g here)) _ _ (λ h. single-abort g here r m.pending) (λ h. tt)

pub single-decided : {V : Type 0} (p : Option (ℕ × V)) (r : ℕ) (commit : Bool) → Single (decided p r commit)
single-decided None r commit = tt
single-decided (Some p) r true = if_holds Single (p.0 == r) _ _ (λ q. tt) (λ q. tt)
single-decided (Some p) r false = if_holds Single (p.0 == r) _ _ (λ q. tt) (λ q. tt)

pub single-told : {V : Type 0} (g : Group V) (d : Option Bool) (sender r : ℕ) → Single (told {V = V} g.generation d sender r)
single-told g None sender r = tt
single-told g (Some c) sender r = tt

pub single-refused : {V : Type 0} (g : Group V) (m : Member V) (sender : ℕ) (v : V) (u : Option (V × Reason)) → Single (forwarded_refused g m sender v u)
single-refused g m sender v None = if_holds Single (length m.pending == 64) _ _ (λ q. tt) (λ q. tt)
single-refused g m sender v (Some u) = if_holds Single (g.rules.same u.0 v) _ _ (λ q. tt) (λ q. tt)

pub single-pending : {V : Type 0} (g : Group V) (m : Member V) (sender : ℕ) (v : V) (u : Option V) → Single (forwarded_pending g m sender v u)
single-pending g m sender v None = single-refused g m sender v (found_refused (g.rules.same_key v) m.refused)
single-pending g m sender v (Some u) = if_holds Single (g.rules.same u v) _ _ (λ q. tt) (λ q. tt)

pub single-forwarded : {V : Type 0} (g : Group V) (m : Member V) (sender : ℕ) (v : V) (u : Option V) → Single (forwarded g m sender v u)
single-forwarded g m sender v None = single-pending g m sender v (found (g.rules.same_key v) m.pending)
single-forwarded g m sender v (Some u) = if_holds Single (g.rules.same u v) _ _ (λ q. tt) (λ q. tt)

pub single-admitted : {V : Type 0} (g : Group V) (m : Member V) (sender : ℕ) (v : V) (a : Admit) → Single (admitted g m sender v a)
single-admitted g m sender v admit.Take = single-forwarded g m sender v (found (g.rules.same_key v) (values m.history))
single-admitted g m sender v _ = tt

pub single-strayed : {V : Type 0} (gen sender : ℕ) (v : V) (o : Option Reason) → Single (strayed gen sender v o)
single-strayed gen sender v None = tt
single-strayed gen sender v (Some reason) = tt

pub single-taken_back : {V : Type 0} (g : Group V) (u : Option V) (v : V) (reason : Reason) → Single (taken_back g.rules u v reason)
single-taken_back g None v reason = tt
single-taken_back g (Some u) v reason = if_holds Single (g.rules.same u v) _ _ (λ q. tt) (λ q. tt)

pub single-message : {V : Type 0} (g : Group V) (here : ℕ) (m : Member V) (sender : ℕ) (x : CommitMsg V) → Single (on_message g here m sender x)
single-message g here m sender (msg.VoteRequest gen r place v) =
    if_holds Single (sender == g.coordinator) _ _ (λ q. single-requested g m m.promise sender r place v) (λ q. tt)
single-message g here m sender (msg.Vote gen r aye) = single-vote g here m m.opened sender r aye
single-message g here m sender (msg.Decision gen r commit) = if_holds Single (sender == g.coordinator) _ _ (λ q. single-decided m.promise r commit) (λ q. tt)
single-message g here m sender (msg.DecisionRequest gen r) =
    if_holds Single (here == g.coordinator && has sender (others g here)) _ _ (λ q. single-told g (decision m r) sender r) (λ q. tt)
single-message g here m sender (msg.Forward gen v) =
    if_holds Single (here == g.coordinator) _ _
    (λ q. if_holds Single (has sender (others g here)) _ _ (λ h. single-admitted g m sender v (g.rules.admits sender v)) (λ h. tt))
    (λ q. single-strayed g.generation sender v (g.rules.stray v))
single-message g here m sender (msg.Refused gen v reason) =
    if_holds Single (sender == g.coordinator) _ _ (λ q. single-taken_back g (found (g.rules.same_key v) m.pending) v reason) (λ q. tt)

pub single-judge : {V : Type 0} (g : Group V) (here : ℕ) (m : Member V) (v : V) (o : Option Reason) → Single (judge_first g here m v o)
single-judge g here m v None = tt
single-judge g here m v (Some reason) = tt

pub single-try : {V : Type 0} (g : Group V) (here : ℕ) (m : Member V) (us : List V) → Single (try_first g here m us)
single-try g here m [] = tt
single-try g here m (v ∷ vs) = single-judge g here m v (g.rules.check (values m.history) v)

pub single-ask : {V : Type 0} (g : Group V) (here : ℕ) (m : Member V) (o : ℕ × List ℕ) (us : List V) → Single (ask_again g here m o us)
single-ask g here m o [] = tt
single-ask g here m o (v ∷ vs) = tt

pub single-tick : {V : Type 0} (g : Group V) (here : ℕ) (m : Member V) (o : Option (ℕ × List ℕ)) → Single (coordinator_tick g here m o)
single-tick g here m (Some o) = single-ask g here m o m.pending
single-tick g here m None = if_holds Single (is_spent m) _ _ (λ q. tt) (λ q. single-try g here m m.pending)

pub single-forward : {V : Type 0} (g : Group V) (us : List V) → Single (forward_first g us)
single-forward g [] = tt
single-forward g (v ∷ vs) = tt

pub single-member_tick : {V : Type 0} (g : Group V) (m : Member V) (p : Option (ℕ × V)) → Single (member_tick g m p)
single-member_tick g m (Some p) = tt
single-member_tick g m None = single-forward g m.pending

pub single-expire : {V : Type 0} (g : Group V) (here : ℕ) (o : Option (ℕ × List ℕ)) → Single (expire_open g here o)
single-expire g here None = tt
single-expire g here (Some o) = tt

pub single-row : {V : Type 0} (g : Group V) (here : ℕ) (m : Member V) (e : GroupEvent V) → Single (row g here m e)
single-row g here m event.Tick = if_holds Single (here == g.coordinator) _ _ (λ q. single-tick g here m m.opened) (λ q. single-member_tick g m m.promise)
single-row g here m event.Expire = if_holds Single (here == g.coordinator) _ _ (λ q. single-expire g here m.opened) (λ q. tt)
single-row g here m (event.Submit v) = if_holds Single (here == g.coordinator) _ _ (λ q. tt) (λ q. tt)
single-row g here m (event.From sender x) = single-message g here m sender x

-- What a tick or a message makes a member send: messages of the group's generation, and to members where a member asked.
use Rattle.std.{specs.Prelude.{Option, Some, None, ◌==◌, nat_lt}, proofs.Common.{◌≡◌, ℕ, ◌<◌, Bool, true, false, ◌&&◌, eqb, List, [], ◌∷◌, length, refl}}
use Rattle.spl_agree.specs.{Member.{Group, Member, values, has_round, others, has, but, decision, found, found_refused, is_spent, none_left}, Rows.row}
use Rattle.spl_agree.specs.Rows.{requested, fits_here, on_vote, counted_vote, commit_open, abort_open, decided, told, strayed, admitted, forwarded}
use Rattle.spl_agree.specs.Rows.{forwarded_pending, forwarded_refused, taken_back, on_message, coordinator_tick, ask_again, try_first, judge_first}
use Rattle.spl_agree.specs.{Rows.{member_tick, forward_first, to_each, abort_each, vote_no}, Fits.generation_of, declared.message.CommitMsg.CommitMsg}
use Rattle.spl_agree.{specs.declared.{plan.GroupPlan.GroupPlan, reason.{Admit.Admit, Reason.Reason}}, proofs.Tests.{if_holds, eqb_same, or_true}}
use Rattle.spl_agree.proofs.Tests.{has-below_but-other}
use Rattle.spl_agree.specs.declared.reason.Admit.TheVariants as admit
use Rattle.spl_agree.specs.declared.message.CommitMsg.TheVariants as msg
use Rattle.spl_agree.specs.declared.event.GroupEvent.TheVariants as event
use Rattle.spl_circuit_safety.proofs.GroupOfDefinition.{AllPosts}

-- of the group's generation, and to a member
abbrev pub IsPost : {V : Type 0} → Group V → ℕ → CommitMsg V → Type 0
IsPost g q x = (generation_of x ≡ g.generation) × (q < g.members)

abbrev pub Posts : {V : Type 0} → Group V → GroupPlan V → Type 0
Posts g p = AllPosts (IsPost g) p.sends

-- one message to each of these
pub to_each-in : {V : Type 0} (P : ℕ → CommitMsg V → Type 0) (x : CommitMsg V) (is : List ℕ) → ((i : ℕ) → has i is ≡ true → P i x) → AllPosts P (to_each x is)
to_each-in P x [] h = tt
to_each-in P x (i ∷ is) h = (h i (rw (eqb_same i)), to_each-in P x is (λ j k. h j (rw k (or_true (eqb i j)))))

pub abort_each-in : {V : Type 0} (P : ℕ → CommitMsg V → Type 0) (gen r : ℕ) (v : V) (why : Reason) (is : List ℕ)
    → ((i : ℕ) → has i is ≡ true → P i (msg.Decision gen r false) × P i (msg.Refused gen v why)) → AllPosts P (abort_each gen r v why is)
abort_each-in P gen r v why [] h = tt
abort_each-in P gen r v why (i ∷ is) h =
    ((h i (rw (eqb_same i))).0, ((h i (rw (eqb_same i))).1, abort_each-in P gen r v why is (λ j k. h j (rw k (or_true (eqb i j))))))

-- the others are members
pub among-others : {V : Type 0} (g : Group V) (here i : ℕ) → has i (others g here) ≡ true → i < g.members
among-others g here i h = (has-below_but-other g.members here i h).0

-- VoteRequest
pub posts-requested : {V : Type 0} (g : Group V) (m : Member V) (p : Option (ℕ × V)) (a r place : ℕ) (v : V) → a < g.members
    → Posts g (requested g m p a r place v)
posts-requested g m (Some p) a r place v l = if_holds (Posts g) (p.0 == r) _ _ (λ q. ((refl, l), tt)) (λ q. ((refl, l), tt))
posts-requested g m None a r place v l =
    if_holds (Posts g) (nat_lt r m.seen) _ _ (λ q. tt) (λ q.
    if_holds (Posts g) (r == m.seen && has_round r m.history) _ _ (λ q. tt) (λ q.
    if_holds (Posts g) (r == m.seen) _ _ (λ q. ((refl, l), tt)) (λ q.
    if_holds (Posts g) (fits_here g.rules m.history place v) _ _ (λ f. ((refl, l), tt)) (λ f. ((refl, l), tt)))))

-- Decision
pub posts-decided : {V : Type 0} (g : Group V) (p : Option (ℕ × V)) (r : ℕ) (commit : Bool) → Posts g (decided p r commit)
posts-decided g None r commit = tt
posts-decided g (Some p) r true = if_holds (Posts g) (p.0 == r) _ _ (λ q. tt) (λ q. tt)
posts-decided g (Some p) r false = if_holds (Posts g) (p.0 == r) _ _ (λ q. tt) (λ q. tt)

-- Vote
pub posts-commit : {V : Type 0} (g : Group V) (here r : ℕ) (us : List V) → Posts g (commit_open g here r us)
posts-commit g here r [] = tt
posts-commit g here r (v ∷ vs) = to_each-in (IsPost g) (msg.Decision g.generation r true) (others g here) (λ i h. (refl, among-others g here i h))

pub posts-abort : {V : Type 0} (g : Group V) (here r : ℕ) (us : List V) → Posts g (abort_open g here r us)
posts-abort g here r [] = tt
posts-abort g here r (v ∷ vs) =
    abort_each-in (IsPost g) g.generation r v vote_no (others g here) (λ i h. ((refl, among-others g here i h), (refl, among-others g here i h)))

pub posts-vote : {V : Type 0} (g : Group V) (here : ℕ) (m : Member V) (o : Option (ℕ × List ℕ)) (a r : ℕ) (aye : Bool) → Posts g (on_vote g here m o a r aye)
posts-vote g here m None a r aye = tt
posts-vote g here m (Some o) a r aye = if_holds (Posts g) (here == g.coordinator && o.0 == r) _ _ (λ q. counted aye) (λ q. tt)
  where
    counted : (b : Bool) → Posts g (counted_vote g here m a r o.1 b)
    counted true =
        if_holds (Posts g) (has a (others g here) && has a o.1) _ _
        (λ h. if_holds (Posts g) (none_left (but a o.1)) _ _ (λ all. posts-commit g here r m.pending) (λ x. tt)) (λ h. tt)
    counted false = if_holds (Posts g) (has a (others g here)) _ _ (λ h. posts-abort g here r m.pending) (λ h. tt)

-- DecisionRequest
pub posts-told : {V : Type 0} (g : Group V) (d : Option Bool) (a r : ℕ) → a < g.members → Posts g (told g.generation d a r)
posts-told g None a r l = tt
posts-told g (Some c) a r l = ((refl, l), tt)

-- Forward
pub posts-refused : {V : Type 0} (g : Group V) (m : Member V) (a : ℕ) (v : V) (u : Option (V × Reason)) → a < g.members → Posts g (forwarded_refused g m a v u)
posts-refused g m a v None l = if_holds (Posts g) (length m.pending == 64) _ _ (λ q. tt) (λ q. tt)
posts-refused g m a v (Some u) l = if_holds (Posts g) (g.rules.same u.0 v) _ _ (λ q. ((refl, l), tt)) (λ q. ((refl, l), tt))

pub posts-pending : {V : Type 0} (g : Group V) (m : Member V) (a : ℕ) (v : V) (u : Option V) → a < g.members → Posts g (forwarded_pending g m a v u)
posts-pending g m a v None l = posts-refused g m a v (found_refused (g.rules.same_key v) m.refused) l
posts-pending g m a v (Some u) l = if_holds (Posts g) (g.rules.same u v) _ _ (λ q. tt) (λ q. ((refl, l), tt))

pub posts-forwarded : {V : Type 0} (g : Group V) (m : Member V) (a : ℕ) (v : V) (u : Option V) → a < g.members → Posts g (forwarded g m a v u)
posts-forwarded g m a v None l = posts-pending g m a v (found (g.rules.same_key v) m.pending) l
posts-forwarded g m a v (Some u) l = if_holds (Posts g) (g.rules.same u v) _ _ (λ q. tt) (λ q. ((refl, l), tt))

pub posts-admitted : {V : Type 0} (g : Group V) (m : Member V) (a : ℕ) (v : V) (x : Admit) → a < g.members → Posts g (admitted g m a v x)
posts-admitted g m a v admit.Take l = posts-forwarded g m a v (found (g.rules.same_key v) (values m.history)) l
posts-admitted g m a v admit.Ignore l = tt
posts-admitted g m a v (admit.Return reason) l = ((refl, l), tt)

pub posts-strayed : {V : Type 0} (g : Group V) (a : ℕ) (v : V) (o : Option Reason) → a < g.members → Posts g (strayed g.generation a v o)
posts-strayed g a v None l = tt
posts-strayed g a v (Some reason) l = ((refl, l), tt)

-- Refused
pub posts-taken_back : {V : Type 0} (g : Group V) (u : Option V) (v : V) (reason : Reason) → Posts g (taken_back g.rules u v reason)
posts-taken_back g None v reason = tt
posts-taken_back g (Some u) v reason = if_holds (Posts g) (g.rules.same u v) _ _ (λ q. tt) (λ q. tt)

-- any message of a member
pub posts-message : {V : Type 0} (g : Group V) (here : ℕ) (m : Member V) (a : ℕ) (x : CommitMsg V) → a < g.members → Posts g (on_message g here m a x)
posts-message g here m a (msg.VoteRequest gen r place v) l =
    if_holds (Posts g) (a == g.coordinator) _ _ (λ q. posts-requested g m m.promise a r place v l) (λ q. ((refl, l), tt))
posts-message g here m a (msg.Vote gen r aye) l = posts-vote g here m m.opened a r aye
posts-message g here m a (msg.Decision gen r commit) l = if_holds (Posts g) (a == g.coordinator) _ _ (λ q. posts-decided g m.promise r commit) (λ q. tt)
posts-message g here m a (msg.DecisionRequest gen r) l =
    if_holds (Posts g) (here == g.coordinator && has a (others g here)) _ _ (λ q. posts-told g (decision m r) a r l) (λ q. tt)
posts-message g here m a (msg.Forward gen v) l = if_holds (Posts g) (here == g.coordinator) _ _
    (λ q. if_holds (Posts g) (has a (others g here)) _ _ (λ h. posts-admitted g m a v (g.rules.admits a v) l) (λ h. tt))
    (λ q. posts-strayed g a v (g.rules.stray v) l)
posts-message g here m a (msg.Refused gen v reason) l =
    if_holds (Posts g) (a == g.coordinator) _ _ (λ q. posts-taken_back g (found (g.rules.same_key v) m.pending) v reason) (λ q. tt)

-- ---- a tick

abbrev pub IsNamed : {V : Type 0} → Group V → ℕ → CommitMsg V → Type 0
IsNamed g q x = generation_of x ≡ g.generation

abbrev pub Names : {V : Type 0} → Group V → GroupPlan V → Type 0
Names g p = AllPosts (IsNamed g) p.sends

pub names-ask : {V : Type 0} (g : Group V) (here : ℕ) (m : Member V) (o : ℕ × List ℕ) (us : List V) → Names g (ask_again g here m o us)
names-ask g here m o [] = tt
names-ask g here m o (v ∷ vs) = to_each-in (IsNamed g) (msg.VoteRequest g.generation o.0 (length m.history) v) o.1 (λ i h. refl)

pub names-judge : {V : Type 0} (g : Group V) (here : ℕ) (m : Member V) (v : V) (o : Option Reason) → Names g (judge_first g here m v o)
names-judge g here m v (Some reason) = to_each-in (IsNamed g) (msg.Refused g.generation v reason) (others g here) (λ i h. refl)
names-judge g here m v None = to_each-in (IsNamed g) (msg.VoteRequest g.generation m.next (length m.history) v) (others g here) (λ i h. refl)

pub names-try : {V : Type 0} (g : Group V) (here : ℕ) (m : Member V) (us : List V) → Names g (try_first g here m us)
names-try g here m [] = tt
names-try g here m (v ∷ vs) = names-judge g here m v (g.rules.check (values m.history) v)

pub names-lead : {V : Type 0} (g : Group V) (here : ℕ) (m : Member V) (o : Option (ℕ × List ℕ)) → Names g (coordinator_tick g here m o)
names-lead g here m (Some o) = names-ask g here m o m.pending
names-lead g here m None = if_holds (Names g) (is_spent m) _ _ (λ q. tt) (λ q. names-try g here m m.pending)

pub names-forward : {V : Type 0} (g : Group V) (us : List V) → Names g (forward_first g us)
names-forward g [] = tt
names-forward g (v ∷ vs) = (refl, tt)

pub names-seat : {V : Type 0} (g : Group V) (m : Member V) (p : Option (ℕ × V)) → Names g (member_tick g m p)
names-seat g m (Some p) = (refl, tt)
names-seat g m None = names-forward g m.pending

pub names-tick : {V : Type 0} (g : Group V) (here : ℕ) (m : Member V) → Names g (row g here m event.Tick)
names-tick g here m = if_holds (Names g) (here == g.coordinator) _ _ (λ q. names-lead g here m m.opened) (λ q. names-seat g m m.promise)

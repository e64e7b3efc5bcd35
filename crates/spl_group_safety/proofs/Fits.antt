-- The changes of each row fit, and a member keeps its bounds.
use Rattle.std.{specs.Prelude.{Option, Some, None, ◌==◌, nat_lt, is_none}, proofs.Common.{◌≡◌, ◌≢◌, ℕ, ◌+◌, ◌-◌, ◌^◌, ◌<◌, ◌≤◌, ◌⊎◌, Bool, true, false, ◌&&◌}}
use Rattle.std.proofs.{Common.{◌||◌, eqb, List, [], ◌∷◌, ◌++◌, length, refl, sym, ap, subst, ◌∙◌, inl, inr, arith}, lemmas.Bool.Decides.nat_tests}
use Rattle.spl_agree.specs.Member.{Rules, Group, Member, values, has_round, new_member, restarted, without, with_yes, known, changed_by, others, has, but}
use Rattle.spl_agree.specs.{Member.{decision, found, found_refused, is_spent, none_left}, Rows.{row, requested, fits_here, on_vote, counted_vote}}
use Rattle.spl_agree.specs.Rows.{commit_open, abort_open, decided, told, strayed, admitted, forwarded, forwarded_pending, forwarded_refused, taken_back}
use Rattle.spl_agree.specs.{Rows.{on_message, coordinator_tick, ask_again, try_first, judge_first, member_tick, forward_first, expire_open}, World.after}
use Rattle.spl_agree.specs.Fits.{AllGood, KeysDiffer, RefusesKnown, IsJudged, IsSound, IsRoomy, IsDue, MayQueue, AllFit, CanMove, misses_more, any_value}
use Rattle.spl_agree.specs.{Fits.{fits, is_pending}, declared.{event.GroupEvent.GroupEvent, message.CommitMsg.CommitMsg, plan.GroupPlan.GroupPlan}}
use Rattle.spl_agree.{specs.declared.reason.{Admit.Admit, Reason.Reason}, proofs.Tests.{if_holds, eqb_is, eqb_not, eqb_same, and_left, and_right, bool_cases}}
use Rattle.spl_agree.proofs.Tests.{ltb_not, lt_is, or_left}
use Rattle.spl_agree.specs.declared.reason.Admit.TheVariants as admit
use Rattle.spl_agree.specs.declared.message.CommitMsg.TheVariants as msg
use Rattle.spl_agree.specs.declared.event.GroupEvent.TheVariants as event
use Rattle.spl_agree.specs.declared.event.GroupChange.TheVariants as change

abbrev pub Good : {V : Type 0} → Group V → (V → Bool) → ℕ → Member V → GroupPlan V → Type 0
Good g may here m p = AllFit g.rules may m p.changes × IsRoomy (after g here m p) × CanMove (changed_by g.rules m p.changes) p.opening

pub length-one : {A : Type 0} (xs : List A) (x : A) → length (xs ++ x ∷ []) ≡ length xs + 1
length-one [] x = refl
length-one (y ∷ ys) x = let h : length (ys ++ x ∷ []) ≡ length ys + 1 = length-one ys x in omega arith

pub length-without : {V : Type 0} (p : V → Bool) (us : List V) → length (without p us) ≤ length us
length-without p [] = omega arith
length-without p (u ∷ us) = go (bool_cases (p u)) (length-without p us)
  where
    go : (p u ≡ true) ⊎ (p u ≡ false) → length (without p us) ≤ length us → length (without p (u ∷ us)) ≤ length (u ∷ us)
    go (inl q) h = let e : without p (u ∷ us) ≡ us = rw q in let k : length (without p (u ∷ us)) ≡ length us = ap (λ (z : List _). length z) e in omega arith
    go (inr q) h =
        let e : without p (u ∷ us) ≡ u ∷ without p us = rw q in
        let k : length (without p (u ∷ us)) ≡ length (u ∷ without p us) = ap (λ (z : List _). length z) e in omega arith

pub pending-first : {V : Type 0} (rules : Rules V) (v : V) (vs us : List V) → ((x : V) → rules.same x x ≡ true) → us ≡ v ∷ vs → is_pending rules v us ≡ true
pending-first {V} rules v vs us same e = subst (λ (z : List V). is_pending rules v z ≡ true) (sym e) (rw (same v))

pub pending-found : {V : Type 0} (rules : Rules V) (v u : V) (us : List V) → found (rules.same_key v) us ≡ Some u → rules.same u v ≡ true
    → is_pending rules v us ≡ true
pending-found rules v u [] e h = cc
pending-found {V} rules v u (x ∷ xs) e h = go (bool_cases (rules.same_key v x)) (pending-found rules v u xs)
  where
    some_same : (a b : V) → Some a ≡ Some b → a ≡ b
    some_same a b k = cc

    or_true : (b : Bool) → (b || true) ≡ true
    or_true true = refl
    or_true false = refl

    go : (rules.same_key v x ≡ true) ⊎ (rules.same_key v x ≡ false)
        → (found (rules.same_key v) xs ≡ Some u → rules.same u v ≡ true → is_pending rules v xs ≡ true) → is_pending rules v (x ∷ xs) ≡ true
    go (inl q) hyp = let y : x ≡ u = some_same x u (rw q at e) in let k : rules.same x v ≡ true = subst (λ (z : V). rules.same z v ≡ true) (sym y) h in rw k
    go (inr q) hyp = let k : is_pending rules v xs ≡ true = hyp (rw q at e) h in rw k (or_true (rules.same x v))

-- the bounds after each change
pub roomy-refuse : {V : Type 0} (rules : Rules V) (m : Member V) (v : V) (rs : List (V × Reason)) (o : Option (ℕ × List ℕ)) → IsRoomy m
    → IsRoomy (record m { pending = without (rules.same_key v) m.pending; refused = rs; opened = o })
roomy-refuse rules m v rs o r = record {
  few = let k : length (without (rules.same_key v) m.pending) ≤ length m.pending = length-without (rules.same_key v) m.pending in
      let l : length m.pending ≤ 64 = r.few in omega arith;
  rounds = r.rounds;
  room = r.room;
  while_promised = r.while_promised;
}

pub roomy-commit : {V : Type 0} (rules : Rules V) (m : Member V) (n : ℕ) (v : V) (o : Option (ℕ × List ℕ)) → length m.history < 2 ^ 32 - 1 → IsRoomy m
    → IsRoomy (record m { history = m.history ++ (n, v) ∷ []; promise = None; pending = without (rules.same_key v) m.pending; opened = o })
roomy-commit rules m n v o l r = record {
  few = let k : length (without (rules.same_key v) m.pending) ≤ length m.pending = length-without (rules.same_key v) m.pending in
      let f : length m.pending ≤ 64 = r.few in omega arith;
  rounds = r.rounds;
  room = let k : length (m.history ++ (n, v) ∷ []) ≡ length m.history + 1 = length-one m.history (n, v) in omega arith;
  while_promised = λ x e. cc;
}

pub roomy-queue : {V : Type 0} (m : Member V) (v : V) → length m.pending < 64 → IsRoomy m → IsRoomy (record m { pending = m.pending ++ v ∷ [] })
roomy-queue m v l r =
    record {
      few = let k : length (m.pending ++ v ∷ []) ≡ length m.pending + 1 = length-one m.pending v in
          omega arith;
      rounds = r.rounds;
      room = r.room;
      while_promised = r.while_promised;
    }

pub roomy-open : {V : Type 0} (m : Member V) (o : Option (ℕ × List ℕ)) → IsRoomy m → IsRoomy (record m { opened = o })
roomy-open m o r = record { few = r.few; rounds = r.rounds; room = r.room; while_promised = r.while_promised }

pub commit-fits : {V : Type 0} (rules : Rules V) (may : V → Bool) (m : Member V) (n : ℕ) (v : V) → length m.history < 2 ^ 32 - 1
    → rules.check (values m.history) v ≡ None → fits rules may m (change.Commit n v) ≡ true
commit-fits rules may m n v l c = let k : nat_lt (length m.history) (2 ^ 32 - 1) ≡ true = lt_is (length m.history) (2 ^ 32 - 1) l in rw (k, c)

-- VoteRequest
pub good-requested : {V : Type 0} (g : Group V) (may : V → Bool) (here : ℕ) (m : Member V) (p : Option (ℕ × V)) (sender r place : ℕ) (v : V)
    → m.promise ≡ p → IsRoomy m → Good g may here m (requested g m p sender r place v)
good-requested g may here m (Some p) sender r place v e s = if_holds (Good g may here m) (p.0 == r) _ _ (λ q. (tt, s, tt)) (λ q. (tt, s, tt))
good-requested {V} g may here m None sender r place v e s =
    if_holds (Good g may here m) (nat_lt r m.seen) _ _ (λ q. (tt, s, tt)) (λ old.
    if_holds (Good g may here m) (r == m.seen && has_round r m.history) _ _ (λ q. (tt, s, tt)) (λ q.
    if_holds (Good g may here m) (r == m.seen) _ _ (λ x. (tt, s, tt)) (λ other.
    if_holds (Good g may here m) (fits_here g.rules m.history place v) _ _
    (λ f. ((promised (newer old other) f, tt), record { few = s.few; rounds = s.rounds; room = s.room; while_promised = λ x y. ltb_room f }, tt))
    (λ f. ((seen (newer old other), tt), record { few = s.few; rounds = s.rounds; room = s.room; while_promised = s.while_promised }, tt)))))
  where
    newer : nat_lt r m.seen ≡ false → (r == m.seen) ≡ false → nat_lt m.seen r ≡ true
    newer a b = let x : m.seen ≤ r = ltb_not r m.seen a in let y : r ≢ m.seen = eqb_not r m.seen b in lt_is m.seen r (omega arith)

    right : fits_here g.rules m.history place v ≡ true → (nat_lt (length m.history) (2 ^ 32 - 1) && is_none (g.rules.check (values m.history) v)) ≡ true
    right f = and_right (place == length m.history) _ f

    promised : nat_lt m.seen r ≡ true → fits_here g.rules m.history place v ≡ true → fits g.rules may m (change.Promise r v) ≡ true
    promised n f = rw (n, e, right f)

    seen : nat_lt m.seen r ≡ true → fits g.rules may m (change.Seen r) ≡ true
    seen n = rw (n, e)

    ltb_room : fits_here g.rules m.history place v ≡ true → length m.history < 2 ^ 32 - 1
    ltb_room f =
        let k : nat_lt (length m.history) (2 ^ 32 - 1)
        ≡ true = and_left (nat_lt (length m.history) (2 ^ 32 - 1)) (is_none (g.rules.check (values m.history) v)) (right f) in grind (arith, nat_tests)

-- Decision, at another member
pub good-decided : {V : Type 0} (g : Group V) (may : V → Bool) (here : ℕ) (m : Member V) (p : Option (ℕ × V)) (r : ℕ) (commit : Bool) → m.promise ≡ p
    → here ≢ g.coordinator → IsSound g here m → IsRoomy m → Good g may here m (decided p r commit)
good-decided g may here m None r commit e d s f = (tt, f, tt)
good-decided {V} g may here m (Some p) r true e d s f =
    if_holds (Good g may here m) (p.0 == r) _ _
    (λ q. ((commit-fits g.rules may m r p.1 (f.while_promised p e) (s.held p e), tt), roomy-commit g.rules m r p.1 m.opened (f.while_promised p e) f, tt))
    (λ q. (tt, f, tt))
good-decided g may here m (Some p) r false e d s f =
    if_holds (Good g may here m) (p.0 == r) _ _
    (λ q. ((rw e, tt), record { few = f.few; rounds = f.rounds; room = f.room; while_promised = λ x y. cc }, tt))
    (λ q. (tt, f, tt))

-- Vote
pub good-abort : {V : Type 0} (g : Group V) (may : V → Bool) (here : ℕ) (m : Member V) (r : ℕ) (us : List V) → ((x : V) → g.rules.same x x ≡ true)
    → m.pending ≡ us → IsRoomy m → Good g may here m (abort_open g here r us)
good-abort g may here m r [] same p f = (tt, f, tt)
good-abort g may here m r (v ∷ vs) same p f = ((pending-first g.rules v vs m.pending same p, tt), roomy-refuse g.rules m v _ None f, tt)

pub good-commit : {V : Type 0} (g : Group V) (may : V → Bool) (here : ℕ) (m : Member V) (o : ℕ × List ℕ) (r : ℕ) (us : List V) → m.opened ≡ Some o
    → m.pending ≡ us → IsSound g here m → IsRoomy m → Good g may here m (commit_open g here r us)
good-commit g may here m o r [] e p s f = (tt, f, tt)
good-commit {V} g may here m o r (v ∷ vs) e p s f =
    let k : IsJudged g here m o = s.settled o e in
    let same : k.first ≡ v = let x : k.first ∷ k.rest ≡ v ∷ vs = sym k.pending ∙ p in cc in (
      (commit-fits g.rules may m r v k.room (subst (λ (u : V). g.rules.check (values m.history) u ≡ None) same k.good), tt),
      roomy-commit g.rules m r v None k.room f,
      tt,
    )

pub good-vote : {V : Type 0} (g : Group V) (may : V → Bool) (here : ℕ) (m : Member V) (o : Option (ℕ × List ℕ)) (sender r : ℕ) (aye : Bool)
    → ((x : V) → g.rules.same x x ≡ true) → m.opened ≡ o → IsSound g here m → IsRoomy m → Good g may here m (on_vote g here m o sender r aye)
good-vote g may here m None sender r aye same e s f = (tt, f, tt)
good-vote g may here m (Some o) sender r aye same e s f =
    if_holds (Good g may here m) (here == g.coordinator && o.0 == r) _ _ (λ q. counted aye) (λ q. (tt, f, tt))
  where
    counts : has sender o.1 ≡ true → none_left (but sender o.1) ≡ false → misses_more sender m.opened ≡ true
    counts h x = rw (e, h, x)

    counted : (b : Bool) → Good g may here m (counted_vote g here m sender r o.1 b)
    counted true = if_holds (Good g may here m) (has sender (others g here) && has sender o.1) _ _
        (λ h. if_holds (Good g may here m) (none_left (but sender o.1)) _ _ (λ all. good-commit g may here m o r m.pending e refl s f)
        (λ x. (tt, roomy-open m (with_yes sender m.opened) f, counts (and_right (has sender (others g here)) (has sender o.1) h) x)))
        (λ h. (tt, f, tt))
    counted false = if_holds (Good g may here m) (has sender (others g here)) _ _ (λ h. good-abort g may here m r m.pending same refl f) (λ h. (tt, f, tt))

-- DecisionRequest
pub good-told : {V : Type 0} (g : Group V) (may : V → Bool) (here : ℕ) (m : Member V) (d : Option Bool) (sender r : ℕ) → IsRoomy m
    → Good g may here m (told g.generation d sender r)
good-told g may here m None sender r f = (tt, f, tt)
good-told g may here m (Some c) sender r f = (tt, f, tt)

-- Forward: a value that no list knows
pub not-full : {V : Type 0} (m : Member V) → length m.pending == 64 ≡ false → IsRoomy m → length m.pending < 64
not-full m h f = let k : length m.pending ≢ 64 = eqb_not (length m.pending) 64 h in let l : length m.pending ≤ 64 = f.few in omega arith

pub queue-fits : {V : Type 0} (rules : Rules V) (may : V → Bool) (m : Member V) (v : V) → known rules m v ≡ None → length m.pending < 64 → may v ≡ true
    → fits rules may m (change.Queue v) ≡ true
queue-fits rules may m v h l k = let n : nat_lt (length m.pending) 64 ≡ true = lt_is (length m.pending) 64 l in rw (h, n, k)

pub good-forwarded_refused : {V : Type 0} (g : Group V) (may : V → Bool) (here : ℕ) (m : Member V) (sender : ℕ) (v : V) (u : Option (V × Reason))
    → found_refused (g.rules.same_key v) m.refused ≡ u → found (g.rules.same_key v) m.pending ≡ None → found (g.rules.same_key v) (values m.history) ≡ None
    → may v ≡ true → IsRoomy m → Good g may here m (forwarded_refused g m sender v u)
good-forwarded_refused g may here m sender v None r p h k f =
    if_holds (Good g may here m) (length m.pending == 64) _ _ (λ q. (tt, f, tt))
    (λ q. ((queue-fits g.rules may m v (rw (h, p, r)) (not-full m q f) k, tt), roomy-queue m v (not-full m q f) f, tt))
good-forwarded_refused g may here m sender v (Some u) r p h k f = if_holds (Good g may here m) (g.rules.same u.0 v) _ _ (λ q. (tt, f, tt)) (λ q. (tt, f, tt))

pub good-forwarded_pending : {V : Type 0} (g : Group V) (may : V → Bool) (here : ℕ) (m : Member V) (sender : ℕ) (v : V) (u : Option V)
    → found (g.rules.same_key v) m.pending ≡ u → found (g.rules.same_key v) (values m.history) ≡ None → may v ≡ true → IsRoomy m
    → Good g may here m (forwarded_pending g m sender v u)
good-forwarded_pending g may here m sender v None p h k f =
    good-forwarded_refused g may here m sender v (found_refused (g.rules.same_key v) m.refused) refl p h k f
good-forwarded_pending g may here m sender v (Some u) p h k f = if_holds (Good g may here m) (g.rules.same u v) _ _ (λ q. (tt, f, tt)) (λ q. (tt, f, tt))

pub good-forwarded : {V : Type 0} (g : Group V) (may : V → Bool) (here : ℕ) (m : Member V) (sender : ℕ) (v : V) (u : Option V)
    → found (g.rules.same_key v) (values m.history) ≡ u → may v ≡ true → IsRoomy m → Good g may here m (forwarded g m sender v u)
good-forwarded g may here m sender v None h k f = good-forwarded_pending g may here m sender v (found (g.rules.same_key v) m.pending) refl h k f
good-forwarded g may here m sender v (Some u) h k f = if_holds (Good g may here m) (g.rules.same u v) _ _ (λ q. (tt, f, tt)) (λ q. (tt, f, tt))

pub good-admitted : {V : Type 0} (g : Group V) (may : V → Bool) (here : ℕ) (m : Member V) (sender : ℕ) (v : V) (a : Admit)
    → (a ≡ admit.Take → may v ≡ true) → IsRoomy m → Good g may here m (admitted g m sender v a)
good-admitted g may here m sender v admit.Take k f = good-forwarded g may here m sender v (found (g.rules.same_key v) (values m.history)) refl (k refl) f
good-admitted g may here m sender v _ k f = (tt, f, tt)

pub good-strayed : {V : Type 0} (g : Group V) (may : V → Bool) (here : ℕ) (m : Member V) (sender : ℕ) (v : V) (o : Option Reason) → IsRoomy m
    → Good g may here m (strayed g.generation sender v o)
good-strayed g may here m sender v None f = (tt, f, tt)
good-strayed g may here m sender v (Some reason) f = (tt, f, tt)

-- Refused, at another member
pub good-taken_back : {V : Type 0} (g : Group V) (may : V → Bool) (here : ℕ) (m : Member V) (u : Option V) (v : V) (reason : Reason)
    → found (g.rules.same_key v) m.pending ≡ u → here ≢ g.coordinator → IsSound g here m → IsRoomy m → Good g may here m (taken_back g.rules u v reason)
good-taken_back g may here m None v reason e d s f = (tt, f, tt)
good-taken_back g may here m (Some u) v reason e d s f =
    if_holds (Good g may here m) (g.rules.same u v) _ _
    (λ q. ((pending-found g.rules v u m.pending e q, tt), roomy-refuse g.rules m v _ m.opened f, tt))
    (λ q. (tt, f, tt))

-- any message
pub good-message : {V : Type 0} (g : Group V) (may : V → Bool) (here : ℕ) (m : Member V) (sender : ℕ) (x : CommitMsg V)
    → ((x : V) → g.rules.same x x ≡ true) → IsDue g here m (event.From sender x) → MayQueue g may (event.From sender x) → IsSound g here m → IsRoomy m
    → Good g may here m (on_message g here m sender x)
good-message g may here m sender (msg.VoteRequest gen r place v) same d k s f =
    if_holds (Good g may here m) (sender == g.coordinator) _ _ (λ q. good-requested g may here m m.promise sender r place v refl f) (λ q. (tt, f, tt))
good-message g may here m sender (msg.Vote gen r aye) same d k s f = good-vote g may here m m.opened sender r aye same refl s f
good-message g may here m sender (msg.Decision gen r commit) same d k s f =
    if_holds (Good g may here m) (sender == g.coordinator) _ _
    (λ q. good-decided g may here m m.promise r commit refl (λ e. d.1 (eqb_is sender g.coordinator q ∙ sym e)) s f) (λ q. (tt, f, tt))
good-message g may here m sender (msg.DecisionRequest gen r) same d k s f =
    if_holds (Good g may here m) (here == g.coordinator && has sender (others g here)) _ _ (λ q. good-told g may here m (decision m r) sender r f)
    (λ q. (tt, f, tt))
good-message g may here m sender (msg.Forward gen v) same d k s f = if_holds (Good g may here m) (here == g.coordinator) _ _
    (λ q. if_holds (Good g may here m) (has sender (others g here)) _ _ (λ h. good-admitted g may here m sender v (g.rules.admits sender v) k f)
    (λ h. (tt, f, tt)))
    (λ q. good-strayed g may here m sender v (g.rules.stray v) f)
good-message g may here m sender (msg.Refused gen v reason) same d k s f =
    if_holds (Good g may here m) (sender == g.coordinator) _ _
    (λ q. good-taken_back g may here m (found (g.rules.same_key v) m.pending) v reason refl (λ e. d.1 (eqb_is sender g.coordinator q ∙ sym e)) s f)
    (λ q. (tt, f, tt))

-- Tick and Expire
pub good-judge : {V : Type 0} (g : Group V) (may : V → Bool) (here : ℕ) (m : Member V) (v : V) (vs : List V) (o : Option Reason)
    → ((x : V) → g.rules.same x x ≡ true) → is_spent m ≡ false → m.opened ≡ None → m.pending ≡ v ∷ vs → IsRoomy m
    → Good g may here m (judge_first g here m v o)
good-judge g may here m v vs (Some reason) same spent shut p f = ((pending-first g.rules v vs m.pending same p, tt), roomy-refuse g.rules m v _ m.opened f, tt)
good-judge g may here m v vs None same spent shut p f = (
  (begins, tt),
  record { few = f.few; rounds = let k : m.next < 2 ^ 64 - 1 = below in omega arith; room = f.room; while_promised = f.while_promised },
  shut,
)
  where
    below : m.next < 2 ^ 64 - 1
    below = let k : m.next ≢ 2 ^ 64 - 1 = eqb_not m.next (2 ^ 64 - 1) (or_left (m.next == 2 ^ 64 - 1) (length m.history == 2 ^ 32 - 1) spent) in
        let l : m.next ≤ 2 ^ 64 - 1 = f.rounds in omega arith

    begins : fits g.rules may m (change.Begin m.next) ≡ true
    begins = let a : eqb m.next m.next ≡ true = eqb_same m.next in let b : nat_lt m.next (2 ^ 64 - 1) ≡ true = lt_is m.next (2 ^ 64 - 1) below in rw (a, b)

pub good-try : {V : Type 0} (g : Group V) (may : V → Bool) (here : ℕ) (m : Member V) (us : List V) → ((x : V) → g.rules.same x x ≡ true)
    → is_spent m ≡ false → m.opened ≡ None → m.pending ≡ us → IsRoomy m → Good g may here m (try_first g here m us)
good-try g may here m [] same spent shut p f = (tt, f, tt)
good-try g may here m (v ∷ vs) same spent shut p f = good-judge g may here m v vs (g.rules.check (values m.history) v) same spent shut p f

pub good-ask : {V : Type 0} (g : Group V) (may : V → Bool) (here : ℕ) (m : Member V) (o : ℕ × List ℕ) (us : List V) → IsRoomy m
    → Good g may here m (ask_again g here m o us)
good-ask g may here m o [] f = (tt, f, tt)
good-ask g may here m o (v ∷ vs) f = (tt, f, tt)

pub good-tick : {V : Type 0} (g : Group V) (may : V → Bool) (here : ℕ) (m : Member V) (o : Option (ℕ × List ℕ)) → ((x : V) → g.rules.same x x ≡ true)
    → m.opened ≡ o → IsRoomy m → Good g may here m (coordinator_tick g here m o)
good-tick g may here m (Some o) same e f = good-ask g may here m o m.pending f
good-tick g may here m None same e f = if_holds (Good g may here m) (is_spent m) _ _ (λ q. (tt, f, tt)) (λ q. good-try g may here m m.pending same q e refl f)

pub good-expire : {V : Type 0} (g : Group V) (may : V → Bool) (here : ℕ) (m : Member V) (o : Option (ℕ × List ℕ)) → IsRoomy m
    → Good g may here m (expire_open g here o)
good-expire g may here m None f = (tt, f, tt)
good-expire g may here m (Some o) f = (tt, roomy-open m None f, tt)

pub good-forward : {V : Type 0} (g : Group V) (may : V → Bool) (here : ℕ) (m : Member V) (us : List V) → IsRoomy m → Good g may here m (forward_first g us)
good-forward g may here m [] f = (tt, f, tt)
good-forward g may here m (v ∷ vs) f = (tt, f, tt)

pub good-member_tick : {V : Type 0} (g : Group V) (may : V → Bool) (here : ℕ) (m : Member V) (p : Option (ℕ × V)) → IsRoomy m
    → Good g may here m (member_tick g m p)
good-member_tick g may here m (Some p) f = (tt, f, tt)
good-member_tick g may here m None f = good-forward g may here m m.pending f

pub good-row : {V : Type 0} (g : Group V) (may : V → Bool) (here : ℕ) (m : Member V) (e : GroupEvent V) → ((x : V) → g.rules.same x x ≡ true)
    → IsDue g here m e → MayQueue g may e → IsSound g here m → IsRoomy m → Good g may here m (row g here m e)
good-row g may here m event.Tick same d k s f =
    if_holds (Good g may here m) (here == g.coordinator) _ _ (λ q. good-tick g may here m m.opened same refl f)
    (λ q. good-member_tick g may here m m.promise f)
good-row g may here m event.Expire same d k s f =
    if_holds (Good g may here m) (here == g.coordinator) _ _ (λ q. good-expire g may here m m.opened f) (λ q. (tt, f, tt))
good-row {V} g may here m (event.Submit v) same d k s f =
    if_holds (Good g may here m) (here == g.coordinator) _ _ (λ q. ((queue-fits g.rules may m v d.0 d.1 k, tt), roomy-queue m v d.1 f, tt))
    (λ q. ((queue-fits g.rules may m v d.0 d.1 k, tt), roomy-queue m v d.1 f, tt))
good-row g may here m (event.From sender x) same d k s f = good-message g may here m sender x same d k s f

-- no value of a history has the key of one before it, where the check refuses a known one
pub keys-differ : {V : Type 0} (rules : Rules V) (before vs : List V) → RefusesKnown rules → AllGood rules before vs → KeysDiffer rules before vs
keys-differ rules before [] r a = tt
keys-differ rules before (v ∷ vs) r a = (r before v a.0, keys-differ rules (before ++ v ∷ []) vs r a.1)

pub sound-new_member : {V : Type 0} (g : Group V) (here : ℕ) → IsSound g here new_member
sound-new_member g here = record { good = tt; held = λ e p. cc; settled = λ o e. cc }

pub roomy-new_member : {V : Type 0} → IsRoomy {V = V} new_member
roomy-new_member = record { few = omega arith; rounds = omega arith; room = omega arith; while_promised = λ e p. cc }

pub sound-restarted : {V : Type 0} (g : Group V) (here : ℕ) (m : Member V) → IsSound g here m → IsSound g here (restarted m)
sound-restarted g here m s = record { good = s.good; held = s.held; settled = λ o e. cc }

-- any value may be queued
pub may-any : {V : Type 0} (g : Group V) (e : GroupEvent V) → MayQueue g any_value e
may-any g (event.Submit v) = refl
may-any g (event.From s (msg.Forward gen v)) = λ e. refl
may-any g _ = tt

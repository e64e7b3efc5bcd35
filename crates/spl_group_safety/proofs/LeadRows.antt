-- Each row at the coordinator.
use Rattle.std.{specs.Prelude.{Option, Some, None, ◌==◌, nat_lt}, proofs.Common.{◌≡◌, ◌≢◌, ℕ, suc, ◌<◌, ◌⊎◌, Bool, true, false, not, ◌&&◌, eqb, List, []}}
use Rattle.std.proofs.Common.{◌∷◌, ◌++◌, length, refl, sym, ap, subst, ◌∙◌, inl, inr, arith}
use Rattle.spl_agree.specs.Member.{Group, Member, values, has_round, others, has, but, decision, none_left, found, found_refused, is_spent, is_open}
use Rattle.spl_agree.specs.Rows.{nothing, sends_one, changes_one, row, on_vote, on_message, counted_vote, abort_open, commit_open, told, admitted, forwarded}
use Rattle.spl_agree.specs.Rows.{forwarded_pending, forwarded_refused, forwarded_new, coordinator_tick, ask_again, try_first, judge_first, begin_at}
use Rattle.spl_agree.specs.{Rows.{refuse_first, expire_open, vote_no, other_value}, World.after, Agreement.{Ballot, ballot_of, Lead, lead, Seat, IsLed}}
use Rattle.spl_agree.specs.{Agreement.{Follows, Told, Said}, declared.{event.{GroupEvent.GroupEvent, Note.Note}, message.CommitMsg.CommitMsg}}
use Rattle.spl_agree.{specs.declared.{plan.GroupPlan.GroupPlan, reason.{Admit.Admit, Reason.Reason}}, proofs.Tests.{if_holds, if_true, if_false, eqb_is}}
use Rattle.spl_agree.proofs.Tests.{eqb_not, eqb_other, eqb_same, ltb_is, and_left, and_right, not_true, has_round-last, has-below_but, has-below_but-other}
use Rattle.spl_agree.proofs.Tests.{has-none_left, has-but, bool_cases}
use Rattle.spl_agree.specs.declared.reason.Admit.TheVariants as admit
use Rattle.spl_agree.specs.declared.message.CommitMsg.TheVariants as msg
use Rattle.spl_agree.specs.declared.event.GroupEvent.TheVariants as event
use Rattle.spl_agree.specs.declared.event.GroupChange.TheVariants as change
use Rattle.spl_agree.specs.declared.event.OpenMove.TheVariants as move
use Rattle.spl_agree.specs.declared.event.Note.TheVariants as note
use Rattle.spl_group_safety.proofs.Leads.{Keeps, with_round, with_aye, closed, committed, keeps-round, follows-round, keeps-aye, follows-aye, keeps-closed}
use Rattle.spl_group_safety.proofs.{Leads.{follows-closed, keeps-committed, follows-committed, round_is, value_is}, Sends.{AllSends, sends-to_each}}
use Rattle.spl_group_safety.proofs.Sends.{sends-abort_each}

-- the ballot of an open round
abbrev pub ballot_at : {V : Type 0} → ℕ × List ℕ → V → Ballot V
ballot_at o v = record { round = o.0; value = v; missing = o.1 }

-- the other members stand well to the coordinator
abbrev pub AllFollow : {V : Type 0} → Group V → ℕ → (ℕ → Seat V) → Lead V → Type 0
AllFollow g here at l = (i : ℕ) → i < g.members → i ≢ here → Follows l (at i) i

-- a plan keeps what the group needs of the coordinator
pub record LeadKeeps {V : Type 0} (g : Group V) (here : ℕ) (at : ℕ → Seat V) (m : Member V) (p : GroupPlan V) : Type 0 where
  pub keeps : Keeps (lead m) (lead (after g here m p))
  pub follow : AllFollow g here at (lead (after g here m p))
  pub new : AllSends (Told (lead (after g here m p))) p.sends

-- by what the coordinator is afterwards
pub lead-by : {V : Type 0} (g : Group V) (here : ℕ) (at : ℕ → Seat V) (m : Member V) (p : GroupPlan V) (l : Lead V) → l ≡ lead (after g here m p)
    → Keeps (lead m) l → AllFollow g here at l → AllSends (Told l) p.sends → LeadKeeps g here at m p
lead-by g here at m p l e keeps follow new = record {
  keeps = subst (λ k. Keeps (lead m) k) e keeps;
  follow = subst (λ k. AllFollow g here at k) e follow;
  new = subst (λ k. AllSends (Told k) p.sends) e new;
}

pub keeps-same : {V : Type 0} (l : Lead V) → IsLed l → Keeps l l
keeps-same l led = record { led = led; told = λ m h. h; said = λ s m h. h }

pub lead-nothing : {V : Type 0} (g : Group V) (here : ℕ) (at : ℕ → Seat V) (m : Member V) (n : Note) → IsLed (lead m) → AllFollow g here at (lead m)
    → LeadKeeps g here at m (nothing n)
lead-nothing g here at m n led f = lead-by g here at m (nothing n) (lead m) refl (keeps-same (lead m) led) f tt

pub lead-sends : {V : Type 0} (g : Group V) (here : ℕ) (at : ℕ → Seat V) (m : Member V) (n : Note) (to : ℕ) (x : CommitMsg V) → IsLed (lead m)
    → AllFollow g here at (lead m) → Told (lead m) x → LeadKeeps g here at m (sends_one n to x)
lead-sends g here at m n to x led f t = lead-by g here at m (sends_one n to x) (lead m) refl (keeps-same (lead m) led) f (t, tt)

-- an open round has a first pending value
pub no_empty : {V : Type 0} (o : ℕ × List ℕ) (us : List V) → us ≡ [] → ((b : Ballot V) × (ballot_of (Some o) us ≡ Some b)) → ⊥
no_empty o [] e h = let k : None ≡ Some h.0 = h.1 in cc
no_empty o (u ∷ us) e h = cc

-- one more pending value changes nothing of an open round
pub ballot-queue : {V : Type 0} (o : Option (ℕ × List ℕ)) (us : List V) (v : V)
    → ((x : ℕ × List ℕ) → o ≡ Some x → (b : Ballot V) × (ballot_of o us ≡ Some b)) → ballot_of o us ≡ ballot_of o (us ++ v ∷ [])
ballot-queue (Some o) [] v s = let k : (b : Ballot _) × (None ≡ Some b) = s o refl in let e : None ≡ Some k.0 = k.1 in cc
ballot-queue _ _ v s = refl

pub lead-queue : {V : Type 0} (g : Group V) (here : ℕ) (at : ℕ → Seat V) (m : Member V) (p : GroupPlan V) (v : V) → p.changes ≡ change.Queue v ∷ []
    → p.opening ≡ move.Keep → AllSends (Told (lead m)) p.sends → IsLed (lead m) → AllFollow g here at (lead m) → LeadKeeps g here at m p
lead-queue g here at m p v c o sends led f =
    lead-by g here at m p (lead m) (rw (c, o) (rw (← ballot-queue m.opened m.pending v led.settled))) (keeps-same (lead m) led) f sends

-- Tick
pub lead-ask_again : {V : Type 0} (g : Group V) (here : ℕ) (at : ℕ → Seat V) (m : Member V) (o : ℕ × List ℕ) (us : List V) → m.opened ≡ Some o
    → m.pending ≡ us → IsLed (lead m) → AllFollow g here at (lead m) → LeadKeeps g here at m (ask_again g here m o us)
lead-ask_again g here at m o [] e p led f = lead-nothing g here at m note.Idle led f
lead-ask_again {V} g here at m o (v ∷ vs) e p led f =
    lead-by g here at m (ask_again g here m o (v ∷ vs)) (lead m) refl (keeps-same (lead m) led) f
    (sends-to_each (Told (lead m)) (msg.VoteRequest g.generation o.0 (length m.history) v) o.1 (fresh, λ b x r. value_is ballot b (sym is ∙ x)))
  where
    ballot : Ballot V
    ballot = record { round = o.0; value = v; missing = o.1 }

    is : ballot_of m.opened m.pending ≡ Some (record { round = o.0; value = v; missing = o.1 })
    is = rw (e, p)

    fresh : o.0 < m.next
    fresh = let k : suc o.0 ≡ m.next = (led.latest (record { round = o.0; value = v; missing = o.1 }) is).0 in omega arith

pub lead-try : {V : Type 0} (g : Group V) (here : ℕ) (at : ℕ → Seat V) (m : Member V) (v : V) (vs : List V) (o : Option Reason) → m.opened ≡ None
    → m.pending ≡ v ∷ vs → IsLed (lead m) → AllFollow g here at (lead m) → LeadKeeps g here at m (judge_first g here m v o)
lead-try g here at m v vs (Some reason) e p led f =
    lead-by g here at m (refuse_first g here v reason) (lead m) (rw e) (keeps-same (lead m) led) f
    (sends-to_each (Told (lead m)) (msg.Refused g.generation v reason) (others g here) tt)
lead-try g here at m v vs None e p led f =
    lead-by g here at m (begin_at g.generation (others g here) m.next (length m.history) v) (with_round (others g here) (lead m) v) (rw p)
    (keeps-round (others g here) (lead m) v led)
    (λ i l d. follows-round (others g here) (lead m) v (at i) i (has-below_but g.members here i l d) (f i l d))
    (sends-to_each (Told (with_round (others g here) (lead m) v)) (msg.VoteRequest g.generation m.next (length m.history) v) (others g here)
    (omega arith, λ b x r. value_is (record { round = m.next; value = v; missing = others g here }) b x))

pub lead-try_first : {V : Type 0} (g : Group V) (here : ℕ) (at : ℕ → Seat V) (m : Member V) (us : List V) → m.opened ≡ None → m.pending ≡ us
    → IsLed (lead m) → AllFollow g here at (lead m) → LeadKeeps g here at m (try_first g here m us)
lead-try_first g here at m [] e p led f = lead-nothing g here at m note.Idle led f
lead-try_first g here at m (v ∷ vs) e p led f = lead-try g here at m v vs (g.rules.check (values m.history) v) e p led f

pub lead-tick : {V : Type 0} (g : Group V) (here : ℕ) (at : ℕ → Seat V) (m : Member V) (o : Option (ℕ × List ℕ)) → m.opened ≡ o → IsLed (lead m)
    → AllFollow g here at (lead m) → LeadKeeps g here at m (coordinator_tick g here m o)
lead-tick g here at m (Some o) e led f = lead-ask_again g here at m o m.pending e refl led f
lead-tick g here at m None e led f =
    if_holds (LeadKeeps g here at m) (is_spent m) _ _
    (λ q. lead-nothing g here at m note.Idle led f)
    (λ q. lead-try_first g here at m m.pending e refl led f)

-- what is open has a ballot
pub open_ballot : {V : Type 0} (l : Lead V) (o : ℕ × List ℕ) (us : List V) → l.opened ≡ Some o → l.ballot ≡ ballot_of (Some o) us → IsLed l
    → (b : Ballot V) × (l.ballot ≡ Some b) × (b.round ≡ o.0)
open_ballot l o [] e p led = let k : (b : Ballot _) × (l.ballot ≡ Some b) = led.settled o e in let q : l.ballot ≡ Some k.0 = k.1 in cc
open_ballot l o (v ∷ vs) e p led = (record { round = o.0; value = v; missing = o.1 }, p, refl)

-- that it is aborted may be reported of a round that was open, once it is closed
pub aborted-told : {V : Type 0} (l : Lead V) (o : ℕ × List ℕ) (us : List V) → l.opened ≡ Some o → l.ballot ≡ ballot_of (Some o) us → IsLed l
    → Told (closed l) (msg.Decision 0 o.0 false)
aborted-told {V} l o us e p led =
    let k : (b : Ballot V) × (l.ballot ≡ Some b) × (b.round ≡ o.0) = open_ballot l o us e p led in
    let n : (suc k.0.round ≡ l.next) × (has_round k.0.round l.history ≡ false) = led.latest k.0 k.1 in
    let r : k.0.round ≡ o.0 = k.2 in
    (omega arith, rw (← r) n.1, λ c x. cc)

-- Expire
pub lead-expire : {V : Type 0} (g : Group V) (here : ℕ) (at : ℕ → Seat V) (m : Member V) (o : Option (ℕ × List ℕ)) → m.opened ≡ o → IsLed (lead m)
    → AllFollow g here at (lead m) → LeadKeeps g here at m (expire_open g here o)
lead-expire g here at m None e led f = lead-nothing g here at m note.Idle led f
lead-expire {V} g here at m (Some o) e led f =
    lead-by g here at m (expire_open g here (Some o)) (closed (lead m)) refl (keeps-closed (lead m) led) (λ i l d. follows-closed (lead m) (at i) i (f i l d))
    (sends-to_each (Told (closed (lead m))) (msg.Decision g.generation o.0 false) (others g here)
    (aborted-told (lead m) o m.pending e (ap (λ (x : Option (ℕ × List ℕ)). ballot_of x m.pending) e) led))

-- Vote no
pub lead-abort : {V : Type 0} (g : Group V) (here : ℕ) (at : ℕ → Seat V) (m : Member V) (o : ℕ × List ℕ) (r : ℕ) (us : List V) → m.opened ≡ Some o
    → o.0 ≡ r → IsLed (lead m) → AllFollow g here at (lead m) → LeadKeeps g here at m (abort_open g here r us)
lead-abort g here at m o r [] e same led f = lead-nothing g here at m note.Ignored led f
lead-abort g here at m o r (v ∷ vs) e same led f =
    lead-by g here at m (abort_open g here r (v ∷ vs)) (closed (lead m)) refl (keeps-closed (lead m) led) (λ i l d. follows-closed (lead m) (at i) i (f i l d))
    (sends-abort_each (Told (closed (lead m))) g.generation r v vote_no (others g here)
    (subst (λ k. Told (closed (lead m)) (msg.Decision g.generation k false)) same
    (aborted-told (lead m) o m.pending e (ap (λ (x : Option (ℕ × List ℕ)). ballot_of x m.pending) e) led)) tt)

-- Vote yes
pub lead-commit : {V : Type 0} (g : Group V) (here : ℕ) (at : ℕ → Seat V) (m : Member V) (o : ℕ × List ℕ) (sender r : ℕ) (us : List V) → m.opened ≡ Some o
    → m.pending ≡ us → o.0 ≡ r → none_left (but sender o.1) ≡ true → IsLed (lead m) → AllFollow g here at (lead m)
    → Said (lead m) (at sender) (msg.Vote g.generation r true) → LeadKeeps g here at m (commit_open g here r us)
lead-commit g here at m o sender r [] e p same all led f heard = lead-nothing g here at m note.Ignored led f
lead-commit {V} g here at m o sender r (v ∷ vs) e p same all led f heard =
    lead-by g here at m (commit_open g here r (v ∷ vs)) (committed (lead m) (ballot_at o v)) (rw same) (keeps-committed (lead m) (ballot_at o v) led is)
    (λ i l d. follows-committed (lead m) (ballot_at o v) (at i) i led is (voted i l d) (f i l d))
    (sends-to_each (Told (committed (lead m) (ballot_at o v))) (msg.Decision g.generation r true) (others g here)
    (rw (← same) (has_round-last m.history (o.0, v))))
  where
    is : ballot_of m.opened m.pending ≡ Some (record { round = o.0; value = v; missing = o.1 })
    is = rw (e, p)

    one : (i : ℕ) → (eqb sender i ≡ true) ⊎ (eqb sender i ≡ false) → Follows (lead m) (at i) i → (at i).promise ≡ Some (o.0, v)
    one i (inl q) f = subst (λ k. (at k).promise ≡ Some (o.0, v)) (eqb_is sender i q) (heard.1 (record { round = o.0; value = v; missing = o.1 }) is same)
    one i (inr q) f =
        f.counted (record { round = o.0; value = v; missing = o.1 }) is
        (sym (has-but sender o.1 i (eqb_not sender i q)) ∙ has-none_left (but sender o.1) i all)

    voted : (i : ℕ) → i < g.members → i ≢ here → (at i).promise ≡ Some (o.0, v)
    voted i l d = one i (bool_cases (eqb sender i)) (f i l d)

pub lead-aye : {V : Type 0} (g : Group V) (here : ℕ) (at : ℕ → Seat V) (m : Member V) (o : ℕ × List ℕ) (sender r : ℕ) (us : List V) → m.opened ≡ Some o
    → m.pending ≡ us → o.0 ≡ r → IsLed (lead m) → AllFollow g here at (lead m) → Said (lead m) (at sender) (msg.Vote g.generation r true)
    → LeadKeeps g here at m (record { note = note.Counted r; changes = []; opening = move.Yes sender; sends = [] })
lead-aye g here at m o sender r [] e p same led f heard =
    absurd (no_empty o m.pending p (subst (λ (x : Option (ℕ × List ℕ)). (b : Ballot _) × (ballot_of x m.pending ≡ Some b)) e (led.settled o e)))
lead-aye {V} g here at m o sender r (v ∷ vs) e p same led f heard =
    lead-by g here at m _ (with_aye (lead m) (ballot_at o v) sender) (rw (e, p)) (keeps-aye (lead m) (ballot_at o v) sender led is)
    (λ i l d. follows-aye (lead m) (ballot_at o v) sender (at i) i is
    (λ q. subst (λ k. (at k).promise ≡ Some (o.0, v)) q (heard.1 (record { round = o.0; value = v; missing = o.1 }) is same)) (f i l d))
    tt
  where
    is : ballot_of m.opened m.pending ≡ Some (record { round = o.0; value = v; missing = o.1 })
    is = rw (e, p)

pub lead-counted : {V : Type 0} (g : Group V) (here : ℕ) (at : ℕ → Seat V) (m : Member V) (o : ℕ × List ℕ) (sender r : ℕ) (aye : Bool) → m.opened ≡ Some o
    → o.0 ≡ r → IsLed (lead m) → AllFollow g here at (lead m)
    → (sender < g.members → sender ≢ here → Said (lead m) (at sender) (msg.Vote g.generation r aye))
    → LeadKeeps g here at m (counted_vote g here m sender r o.1 aye)
lead-counted g here at m o sender r false e same led f heard =
    if_holds (LeadKeeps g here at m) (has sender (others g here)) _ _
    (λ q. lead-abort g here at m o r m.pending e same led f)
    (λ q. lead-nothing g here at m note.Ignored led f)
lead-counted g here at m o sender r true e same led f heard =
    if_holds (LeadKeeps g here at m) (has sender (others g here) && has sender o.1) _ _
    (λ h. let k : (sender < g.members)
    × (sender ≢ here) = has-below_but-other g.members here sender (and_left (has sender (others g here)) (has sender o.1) h) in
    if_holds (LeadKeeps g here at m) (none_left (but sender o.1)) _ _
    (λ all. lead-commit g here at m o sender r m.pending e refl same all led f (heard k.0 k.1))
    (λ x. lead-aye g here at m o sender r m.pending e refl same led f (heard k.0 k.1)))
    (λ h. lead-nothing g here at m note.Ignored led f)

pub lead-vote : {V : Type 0} (g : Group V) (here : ℕ) (at : ℕ → Seat V) (m : Member V) (o : Option (ℕ × List ℕ)) (sender r : ℕ) (aye : Bool) → m.opened ≡ o
    → IsLed (lead m) → AllFollow g here at (lead m) → (sender < g.members → sender ≢ here → Said (lead m) (at sender) (msg.Vote g.generation r aye))
    → LeadKeeps g here at m (on_vote g here m o sender r aye)
lead-vote g here at m None sender r aye e led f heard = lead-nothing g here at m note.Ignored led f
lead-vote g here at m (Some o) sender r aye e led f heard =
    if_holds (LeadKeeps g here at m) (here == g.coordinator && o.0 == r) _ _
    (λ q. lead-counted g here at m o sender r aye e (eqb_is o.0 r (and_right (here == g.coordinator) (o.0 == r) q)) led f heard)
    (λ q. lead-nothing g here at m note.Ignored led f)

-- DecisionRequest
pub not_open : {V : Type 0} (r : ℕ) (o : Option (ℕ × List ℕ)) (us : List V) (b : Ballot V) → is_open r o ≡ false → ballot_of o us ≡ Some b → b.round ≢ r
not_open r None us b h e = cc
not_open r (Some o) [] b h e = cc
not_open {V} r (Some o) (v ∷ vs) b h e =
    let k : b.round ≡ o.0 = round_is (record { round = o.0; value = v; missing = o.1 }) b e in let d : o.0 ≢ r = eqb_not o.0 r h in λ q. d (sym k ∙ q)

-- the decision that is known is reported
abbrev pub TellsTruly : {V : Type 0} → Lead V → ℕ → Option Bool → Type 0
TellsTruly l r None = Unit {0}
TellsTruly l r (Some commit) = Told l (msg.Decision 0 r commit)

pub decision-truly : {V : Type 0} (m : Member V) (r : ℕ) → TellsTruly (lead m) r (decision m r)
decision-truly m r =
    if_holds (TellsTruly (lead m) r) (has_round r m.history) _ _ (λ q. q) (λ q.
    if_holds (TellsTruly (lead m) r) (nat_lt r m.next && not (is_open r m.opened)) _ _
    (λ x. (
      ltb_is r m.next (and_left (nat_lt r m.next) (not (is_open r m.opened)) x),
      q,
      λ b e. not_open r m.opened m.pending b (not_true (is_open r m.opened) (and_right (nat_lt r m.next) (not (is_open r m.opened)) x)) e,
    ))
    (λ x. tt))

pub lead-told : {V : Type 0} (g : Group V) (here : ℕ) (at : ℕ → Seat V) (m : Member V) (d : Option Bool) (sender r : ℕ) → IsLed (lead m)
    → AllFollow g here at (lead m) → TellsTruly (lead m) r d → LeadKeeps g here at m (told g.generation d sender r)
lead-told g here at m None sender r led f t = lead-nothing g here at m note.Ignored led f
lead-told g here at m (Some commit) sender r led f t = lead-sends g here at m (note.Told r commit) sender (msg.Decision g.generation r commit) led f t

-- Forward
pub lead-forwarded_new : {V : Type 0} (g : Group V) (here : ℕ) (at : ℕ → Seat V) (m : Member V) (v : V) → IsLed (lead m) → AllFollow g here at (lead m)
    → LeadKeeps g here at m (forwarded_new m v)
lead-forwarded_new g here at m v led f =
    if_holds (LeadKeeps g here at m) (length m.pending == 64) _ _ (λ q. lead-nothing g here at m note.Ignored led f)
    (λ q. lead-queue g here at m (changes_one note.Queued (change.Queue v)) v refl refl tt led f)

pub lead-forwarded_refused : {V : Type 0} (g : Group V) (here : ℕ) (at : ℕ → Seat V) (m : Member V) (sender : ℕ) (v : V) (u : Option (V × Reason))
    → IsLed (lead m) → AllFollow g here at (lead m) → LeadKeeps g here at m (forwarded_refused g m sender v u)
lead-forwarded_refused g here at m sender v None led f = lead-forwarded_new g here at m v led f
lead-forwarded_refused g here at m sender v (Some u) led f =
    if_holds (LeadKeeps g here at m) (g.rules.same u.0 v) _ _ (λ q. lead-sends g here at m _ sender (msg.Refused g.generation v u.1) led f tt)
    (λ q. lead-sends g here at m _ sender (msg.Refused g.generation v other_value) led f tt)

pub lead-forwarded_pending : {V : Type 0} (g : Group V) (here : ℕ) (at : ℕ → Seat V) (m : Member V) (sender : ℕ) (v : V) (u : Option V) → IsLed (lead m)
    → AllFollow g here at (lead m) → LeadKeeps g here at m (forwarded_pending g m sender v u)
lead-forwarded_pending g here at m sender v None led f = lead-forwarded_refused g here at m sender v (found_refused (g.rules.same_key v) m.refused) led f
lead-forwarded_pending g here at m sender v (Some u) led f =
    if_holds (LeadKeeps g here at m) (g.rules.same u v) _ _ (λ q. lead-nothing g here at m note.Ignored led f)
    (λ q. lead-sends g here at m _ sender (msg.Refused g.generation v other_value) led f tt)

pub lead-forwarded : {V : Type 0} (g : Group V) (here : ℕ) (at : ℕ → Seat V) (m : Member V) (sender : ℕ) (v : V) (u : Option V) → IsLed (lead m)
    → AllFollow g here at (lead m) → LeadKeeps g here at m (forwarded g m sender v u)
lead-forwarded g here at m sender v None led f = lead-forwarded_pending g here at m sender v (found (g.rules.same_key v) m.pending) led f
lead-forwarded g here at m sender v (Some u) led f =
    if_holds (LeadKeeps g here at m) (g.rules.same u v) _ _ (λ q. lead-nothing g here at m note.Ignored led f)
    (λ q. lead-sends g here at m _ sender (msg.Refused g.generation v other_value) led f tt)

pub lead-admitted : {V : Type 0} (g : Group V) (here : ℕ) (at : ℕ → Seat V) (m : Member V) (sender : ℕ) (v : V) (a : Admit) → IsLed (lead m)
    → AllFollow g here at (lead m) → LeadKeeps g here at m (admitted g m sender v a)
lead-admitted g here at m sender v admit.Take led f = lead-forwarded g here at m sender v (found (g.rules.same_key v) (values m.history)) led f
lead-admitted g here at m sender v admit.Ignore led f = lead-nothing g here at m note.Ignored led f
lead-admitted g here at m sender v (admit.Return reason) led f = lead-sends g here at m _ sender (msg.Refused g.generation v reason) led f tt

-- any message
pub lead-message : {V : Type 0} (g : Group V) (here : ℕ) (at : ℕ → Seat V) (m : Member V) (sender : ℕ) (x : CommitMsg V) → here ≡ g.coordinator
    → sender ≢ here → IsLed (lead m) → AllFollow g here at (lead m) → (sender < g.members → sender ≢ here → Said (lead m) (at sender) x)
    → LeadKeeps g here at m (on_message g here m sender x)
lead-message g here at m sender (msg.VoteRequest gen r place v) c d led f heard =
    if_false (LeadKeeps g here at m) (sender == g.coordinator) _ _ (eqb_other sender g.coordinator (subst (λ k. sender ≢ k) c d))
    (lead-sends g here at m _ sender (msg.Vote g.generation r false) led f tt)
lead-message g here at m sender (msg.Vote gen r aye) c d led f heard = lead-vote g here at m m.opened sender r aye refl led f heard
lead-message g here at m sender (msg.DecisionRequest gen r) c d led f heard =
    if_holds (LeadKeeps g here at m) (here == g.coordinator && has sender (others g here)) _ _
    (λ q. lead-told g here at m (decision m r) sender r led f (decision-truly m r))
    (λ q. lead-nothing g here at m note.Ignored led f)
lead-message g here at m sender (msg.Forward gen v) c d led f heard =
    if_true (LeadKeeps g here at m) (here == g.coordinator) _ _ (rw c (eqb_same g.coordinator))
    (if_holds (LeadKeeps g here at m) (has sender (others g here)) _ _
    (λ q. lead-admitted g here at m sender v (g.rules.admits sender v) led f)
    (λ q. lead-nothing g here at m note.Ignored led f))
lead-message g here at m sender _ c d led f heard =
    if_false (LeadKeeps g here at m) (sender == g.coordinator) _ _ (eqb_other sender g.coordinator (subst (λ k. sender ≢ k) c d))
    (lead-nothing g here at m note.Ignored led f)

-- what is heard at the coordinator
abbrev pub HeardByLead : {V : Type 0} → Group V → ℕ → (ℕ → Seat V) → Lead V → GroupEvent V → Type 0
HeardByLead g here at l (event.From sender x) = (sender ≢ here) × (sender < g.members → sender ≢ here → Said l (at sender) x)
HeardByLead g here at l _ = Unit {0}

-- any event
pub lead-row : {V : Type 0} (g : Group V) (here : ℕ) (at : ℕ → Seat V) (m : Member V) (e : GroupEvent V) → here ≡ g.coordinator → IsLed (lead m)
    → AllFollow g here at (lead m) → HeardByLead g here at (lead m) e → LeadKeeps g here at m (row g here m e)
lead-row g here at m event.Tick c led f heard =
    if_true (LeadKeeps g here at m) (here == g.coordinator) _ _ (rw c (eqb_same g.coordinator)) (lead-tick g here at m m.opened refl led f)
lead-row g here at m event.Expire c led f heard =
    if_true (LeadKeeps g here at m) (here == g.coordinator) _ _ (rw c (eqb_same g.coordinator)) (lead-expire g here at m m.opened refl led f)
lead-row g here at m (event.Submit v) c led f heard =
    if_true (LeadKeeps g here at m) (here == g.coordinator) _ _ (rw c (eqb_same g.coordinator))
    (lead-queue g here at m (changes_one note.Queued (change.Queue v)) v refl refl tt led f)
lead-row g here at m (event.From sender x) c led f heard = lead-message g here at m sender x c heard.0 led f heard.1

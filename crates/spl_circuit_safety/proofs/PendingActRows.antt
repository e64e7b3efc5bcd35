-- Over the table of the admin group: what a row changes meets what it asks, and what it sends is pending or settled here.
use Rattle.std.{specs.{Prelude.{Option, Some, None, ◌==◌, nat_lt, is_some}, Str.bytes_eq}, proofs.Common.{◌≡◌, ◌≢◌, ℕ, ◌<◌, ◌⊎◌, Bool, true, false, ◌&&◌}}
use Rattle.std.proofs.Common.{List, [], ◌∷◌, length, refl, sym, ap, subst, ◌∙◌, inl, inr}
use Rattle.spl_agree.specs.{Fits.generation_of, Member.{Group, Member, values, has_round, others, has, but, decision, found, found_refused, known, or_else}}
use Rattle.spl_agree.specs.{Member.{value_of, is_spent, none_left}, Rows.{row, requested, fits_here, on_vote, counted_vote, commit_open, abort_open, decided}}
use Rattle.spl_agree.specs.Rows.{told, strayed, admitted, forwarded, forwarded_pending, forwarded_refused, taken_back, on_message, coordinator_tick}
use Rattle.spl_agree.specs.{Rows.{ask_again, try_first, judge_first, member_tick, forward_first, expire_open, vote_no}, declared.event.GroupEvent.GroupEvent}
use Rattle.spl_agree.{specs.declared.{message.CommitMsg.CommitMsg, plan.GroupPlan.GroupPlan, reason.{Admit.Admit, Reason.Reason}}, proofs.Tests.if_holds}
use Rattle.spl_agree.proofs.Tests.{bool_cases, eqb_is, eqb_not, and_left, has-below_but-other}
use Rattle.spl_agree.specs.declared.reason.Admit.TheVariants as admit
use Rattle.spl_agree.specs.declared.message.CommitMsg.TheVariants as msg
use Rattle.spl_agree.specs.declared.event.GroupEvent.TheVariants as event
use Rattle.spl_agree.specs.declared.event.GroupChange.TheVariants as change
use Rattle.spl_circuit.specs.{Nodes.{NodeId, position, node_or}, Rules.admin, Acts.{act_rules, admits_act, admits_kind, stray_act}, Equality.same_act_key}
use Rattle.spl_circuit.specs.{Equality.same_act, Same.{node_is, act_same, key_parts, act_is}, Positions.{member_below, node_at_position}}
use Rattle.spl_circuit.specs.declared.{act.{Act.Act, ActKind.ActKind}, definition.Definition.Definition}
use Rattle.spl_circuit.specs.declared.act.ActKind.TheVariants as kind
use Rattle.spl_circuit_safety.{specs.Agreement.is_proposal, proofs.{Positions.position-apart, GroupOfDefinition.{GroupMessage, Ever, IsPlaced, AllPosts}}}
use Rattle.spl_circuit_safety.proofs.{GroupOfDefinition.group_of, SentByRule.{posts-to_each, posts-abort_each}, GroupWorlds.admin_groups, CoupledSteps.Past}
use Rattle.spl_circuit_safety.proofs.{KnownStays.refused-last, PendingActLists.{Among, among-last, found-among, key-same, key-back, both-not}}
use Rattle.spl_circuit_safety.proofs.{PendingActsDue.Forwards, PendingActCells.{View, Sight, view, Settled, Returns, IsTidy, MayJoin, IsUnknown, MeetsOne}}
use Rattle.spl_circuit_safety.proofs.{PendingActCells.{shifted, shifted_by}, PendingActMessages.IsFew}

-- the admin group of a definition
abbrev pub group : Definition → Group Act
group e = group_of admin_groups e

-- what a cell sends with these acts: what it forwards is pending there, what it returns is settled there or a proposal
abbrev pub IsMild : NodeId → Definition → View → ℕ → CommitMsg Act → Type 0
IsMild n e w q (msg.Forward g u) = (g ≡ e.generation) × (q ≡ position e.members (admin e)) × (n ≢ admin e) × Among u w.pending
IsMild n e w q (msg.Refused g u why) = (g ≡ e.generation) × ((is_proposal u.kind ≡ true) ⊎ Settled w u)
IsMild n e w q _ = Unit {0}

-- a plan's changes and sends
abbrev pub Fit : Past → (GroupMessage Act → Type 0) → NodeId → Definition → Member Act → GroupPlan Act → Type 0
Fit past said n e a p = MeetsOne past said n e (view a) p.changes × AllPosts (IsMild n e (shifted_by (view a) p.changes)) p.sends

-- what an event asks
abbrev pub IsReady : Past → (GroupMessage Act → Type 0) → NodeId → NodeId → Definition → Member Act → GroupEvent Act → Type 0
IsReady past said n back e a (event.Submit v) = MayJoin past said n e (view a) v × IsUnknown (view a) v
IsReady past said n back e a (event.From s x) =
    (s ≡ position e.members back) × said (record { from = back; to = n; body = x }) × (generation_of x ≡ e.generation) × (back ≢ n)
IsReady past said n back e a _ = Unit {0}

-- what isn't known is in none of the lists
pub unknown-is : (d : Definition) (a : Member Act) (v : Act) → known (act_rules d) a v ≡ None → IsUnknown (view a) v
unknown-is d a v h = go (found (same_act_key v) (values a.history)) (found (same_act_key v) a.pending) (found_refused (same_act_key v) a.refused) h
  where
    go : (x y : Option Act) (z : Option (Act × Reason)) → or_else x (or_else y (value_of z)) ≡ None → (x ≡ None) × (y ≡ None) × (z ≡ None)
    go None None None k = (refl, refl, refl)
    go _ _ _ k = cc

-- what is found is some value
pub some-found : {A : Type 0} (o : Option A) (x : A) → o ≡ Some x → is_some o ≡ true
some-found o x h = subst (λ (z : Option _). is_some z ≡ true) (sym h) refl

-- a request
pub fit-requested : (past : Past) (said : GroupMessage Act → Type 0) (n : NodeId) (e : Definition) (a : Member Act) (p : Option (ℕ × Act))
    (sender r place : ℕ) (v : Act) → Fit past said n e a (requested (group e) a p sender r place v)
fit-requested past said n e a (Some p) sender r place v = if_holds (Fit past said n e a) (p.0 == r) _ _ (λ q. (tt, (tt, tt))) (λ q. (tt, (tt, tt)))
fit-requested past said n e a None sender r place v =
    if_holds (Fit past said n e a) (nat_lt r a.seen) _ _ (λ q. (tt, tt)) (λ q.
    if_holds (Fit past said n e a) (r == a.seen && has_round r a.history) _ _ (λ q. (tt, tt)) (λ q.
    if_holds (Fit past said n e a) (r == a.seen) _ _ (λ q. (tt, (tt, tt))) (λ q.
    if_holds (Fit past said n e a) (fits_here (act_rules e) a.history place v) _ _ (λ f. (tt, (tt, tt))) (λ f. (tt, (tt, tt))))))

-- a decision
pub fit-decided : (past : Past) (said : GroupMessage Act → Type 0) (n : NodeId) (e : Definition) (a : Member Act) (p : Option (ℕ × Act)) (r : ℕ)
    (commit : Bool) → Fit past said n e a (decided p r commit)
fit-decided past said n e a None r commit = (tt, tt)
fit-decided past said n e a (Some p) r true = if_holds (Fit past said n e a) (p.0 == r) _ _ (λ q. (tt, tt)) (λ q. (tt, tt))
fit-decided past said n e a (Some p) r false = if_holds (Fit past said n e a) (p.0 == r) _ _ (λ q. (tt, tt)) (λ q. (tt, tt))

-- what is refused now is settled
pub settled-refused : (w : View) (v : Act) (why : Reason) → Settled (shifted w (change.Refuse v why)) v
settled-refused w v why = inr (refused-last (same_act_key v) (v, why) w.refused (key-same v))

-- a vote
pub fit-abort : (past : Past) (said : GroupMessage Act → Type 0) (n : NodeId) (e : Definition) (a : Member Act) (r : ℕ) (us : List Act) → n ≡ admin e
    → Fit past said n e a (abort_open (group e) (position e.members n) r us)
fit-abort past said n e a r [] l = (tt, tt)
fit-abort past said n e a r (v ∷ vs) l = (
  inl l,
  posts-abort_each (IsMild n e (shifted (view a) (change.Refuse v vote_no))) e.generation r v vote_no (others (group e) (position e.members n))
      (λ i. tt) (λ i. (refl, inr (settled-refused (view a) v vote_no))),
)

-- the last yes
pub fit-commit : (past : Past) (said : GroupMessage Act → Type 0) (n : NodeId) (e : Definition) (a : Member Act) (r : ℕ) (us : List Act)
    → Fit past said n e a (commit_open (group e) (position e.members n) r us)
fit-commit past said n e a r [] = (tt, tt)
fit-commit past said n e a r (v ∷ vs) = (
  tt,
  posts-to_each (IsMild n e (shifted (view a) (change.Commit r v))) (msg.Decision e.generation r true) (others (group e) (position e.members n))
      (λ i. tt),
)

-- any vote
pub fit-vote : (past : Past) (said : GroupMessage Act → Type 0) (n : NodeId) (e : Definition) (a : Member Act) (o : Option (ℕ × List ℕ)) (sender r : ℕ)
    (aye : Bool) → IsPlaced admin_groups e n → Fit past said n e a (on_vote (group e) (position e.members n) a o sender r aye)
fit-vote past said n e a None sender r aye p = (tt, tt)
fit-vote past said n e a (Some o) sender r aye p = if_holds (Fit past said n e a) (position e.members n == position e.members (admin e) && o.0 == r) _ _
    (λ q. counted (position-apart e.members n (admin e) p.few p.here
    (eqb_is (position e.members n) (position e.members (admin e)) (and_left (position e.members n == position e.members (admin e)) (o.0 == r) q))) aye)
    (λ q. (tt, tt))
  where
    counted : n ≡ admin e → (b : Bool) → Fit past said n e a (counted_vote (group e) (position e.members n) a sender r o.1 b)
    counted l true = if_holds (Fit past said n e a) (has sender (others (group e) (position e.members n)) && has sender o.1) _ _
        (λ h. if_holds (Fit past said n e a) (none_left (but sender o.1)) _ _ (λ all. fit-commit past said n e a r a.pending) (λ x. (tt, tt)))
        (λ h. (tt, tt))
    counted l false =
        if_holds (Fit past said n e a) (has sender (others (group e) (position e.members n))) _ _ (λ h. fit-abort past said n e a r a.pending l)
        (λ h. (tt, tt))

-- a question for a decision
pub fit-told : (past : Past) (said : GroupMessage Act → Type 0) (n : NodeId) (e : Definition) (a : Member Act) (d : Option Bool) (sender r : ℕ)
    → Fit past said n e a (told e.generation d sender r)
fit-told past said n e a None sender r = (tt, tt)
fit-told past said n e a (Some c) sender r = (tt, (tt, tt))

-- a forwarded act, by what is refused
pub fit-forwarded_refused : (past : Past) (said : GroupMessage Act → Type 0) (n : NodeId) (e : Definition) (a : Member Act) (sender : ℕ) (v : Act)
    (o : Option (Act × Reason)) → found_refused (same_act_key v) a.refused ≡ o → found (same_act_key v) (values a.history) ≡ None
    → found (same_act_key v) a.pending ≡ None → MayJoin past said n e (view a) v → Fit past said n e a (forwarded_refused (group e) a sender v o)
fit-forwarded_refused past said n e a sender v None r h p j =
    if_holds (Fit past said n e a) (length a.pending == 64) _ _ (λ q. (tt, tt)) (λ q. ((j, (h, p, r)), tt))
fit-forwarded_refused past said n e a sender v (Some u) r h p j =
    if_holds (Fit past said n e a) (same_act u.0 v) _ _ (λ q. (tt, ((refl, settled), tt))) (λ q. (tt, ((refl, settled), tt)))
  where
    settled : (is_proposal v.kind ≡ true) ⊎ Settled (view a) v
    settled = inr (inr (some-found _ u r))

-- by what is pending
pub fit-forwarded_pending : (past : Past) (said : GroupMessage Act → Type 0) (n : NodeId) (e : Definition) (a : Member Act) (sender : ℕ) (v : Act)
    (o : Option Act) → found (same_act_key v) a.pending ≡ o → found (same_act_key v) (values a.history) ≡ None
    → ((u : Act) → Among u a.pending → same_act_key v u ≡ true → u ≡ v) → MayJoin past said n e (view a) v
    → Fit past said n e a (forwarded_pending (group e) a sender v o)
fit-forwarded_pending past said n e a sender v None p h one j =
    fit-forwarded_refused past said n e a sender v (found_refused (same_act_key v) a.refused) refl h p j
fit-forwarded_pending past said n e a sender v (Some u) p h one j =
    if_holds (Fit past said n e a) (same_act u v) _ _ (λ q. (tt, tt))
    (λ q. absurd (both-not (same_act u v) (subst (λ (z : Act). same_act u z ≡ true) (one u was.0 was.1) (act_same u)) q))
  where
    was : Among u a.pending × (same_act_key v u ≡ true)
    was = found-among (same_act_key v) u a.pending p

-- by what is committed
pub fit-forwarded : (past : Past) (said : GroupMessage Act → Type 0) (n : NodeId) (e : Definition) (a : Member Act) (sender : ℕ) (v : Act) (o : Option Act)
    → found (same_act_key v) (values a.history) ≡ o → ((u : Act) → Among u a.pending → same_act_key v u ≡ true → u ≡ v) → MayJoin past said n e (view a) v
    → Fit past said n e a (forwarded (group e) a sender v o)
fit-forwarded past said n e a sender v None h one j = fit-forwarded_pending past said n e a sender v (found (same_act_key v) a.pending) refl h one j
fit-forwarded past said n e a sender v (Some u) h one j =
    if_holds (Fit past said n e a) (same_act u v) _ _ (λ q. (tt, tt)) (λ q. (tt, ((refl, inr (inl (some-found _ u h))), tt)))

-- an act that is taken in is of the node that sent it
pub admits-take : (e : Definition) (s : ℕ) (v : Act) → admits_act e s v ≡ admit.Take → node_or e.members [] s ≡ v.node
admits-take e s v h = go (bool_cases (bytes_eq (node_or e.members [] s) v.node))
  where
    not_take : admit.Ignore ≡ admit.Take → ⊥
    not_take x = cc

    go : (bytes_eq (node_or e.members [] s) v.node ≡ true) ⊎ (bytes_eq (node_or e.members [] s) v.node ≡ false) → node_or e.members [] s ≡ v.node
    go (inl q) = node_is (node_or e.members [] s) v.node q
    go (inr q) = absurd (not_take (rw q at h))

-- one that goes back is a proposal
pub admits-return : (e : Definition) (s : ℕ) (v : Act) (why : Reason) → admits_act e s v ≡ admit.Return why → is_proposal v.kind ≡ true
admits-return e s v why h = go (bool_cases (bytes_eq (node_or e.members [] s) v.node))
  where
    by_kind : (k : ActKind) → admits_kind e k ≡ admit.Return why → is_proposal k ≡ true
    by_kind (kind.Propose d) x = refl
    by_kind _ x = cc

    not_return : admit.Ignore ≡ admit.Return why → ⊥
    not_return x = cc

    go : (bytes_eq (node_or e.members [] s) v.node ≡ true) ⊎ (bytes_eq (node_or e.members [] s) v.node ≡ false) → is_proposal v.kind ≡ true
    go (inl q) = by_kind v.kind (rw q at h)
    go (inr q) = absurd (not_return (rw q at h))

-- a forwarded act, as it is admitted
pub fit-admitted : (past : Past) (said : GroupMessage Act → Type 0) (n : NodeId) (e : Definition) (a : Member Act) (sender : ℕ) (v : Act) (o : Admit)
    → admits_act e sender v ≡ o → (node_or e.members [] sender ≡ v.node → (u : Act) → Among u a.pending → same_act_key v u ≡ true → u ≡ v)
    → (node_or e.members [] sender ≡ v.node → MayJoin past said n e (view a) v) → Fit past said n e a (admitted (group e) a sender v o)
fit-admitted past said n e a sender v admit.Take h one j =
    fit-forwarded past said n e a sender v (found (same_act_key v) (values a.history)) refl (one (admits-take e sender v h)) (j (admits-take e sender v h))
fit-admitted past said n e a sender v admit.Ignore h one j = (tt, tt)
fit-admitted past said n e a sender v (admit.Return why) h one j = (tt, ((refl, inl (admits-return e sender v why h)), tt))

-- at another member
pub fit-strayed : (past : Past) (said : GroupMessage Act → Type 0) (n : NodeId) (e : Definition) (a : Member Act) (sender : ℕ) (v : Act)
    (o : Option Reason) → stray_act v.kind ≡ o → Fit past said n e a (strayed e.generation sender v o)
fit-strayed past said n e a sender v None h = (tt, tt)
fit-strayed past said n e a sender v (Some why) h = (tt, ((refl, inl (by_kind v.kind h)), tt))
  where
    by_kind : (k : ActKind) → stray_act k ≡ Some why → is_proposal k ≡ true
    by_kind (kind.Propose d) x = refl
    by_kind _ x = cc

-- an act comes back
pub fit-taken_back : (past : Past) (said : GroupMessage Act → Type 0) (n : NodeId) (e : Definition) (a : Member Act) (o : Option Act) (v : Act)
    (why : Reason) → found (same_act_key v) a.pending ≡ o → Returns said (admin e) n e.generation v why
    → Fit past said n e a (taken_back (act_rules e) o v why)
fit-taken_back past said n e a None v why h was = (tt, tt)
fit-taken_back past said n e a (Some u) v why h was =
    if_holds (Fit past said n e a) (same_act u v) _ _
    (λ q. (inr (subst (λ (z : Act). Among z a.pending) (act_is u v q) (found-among (same_act_key v) u a.pending h).0, was), tt)) (λ q. (tt, tt))

-- a forwarded act comes from the coordinator's group
pub fit-forward : (past past2 : Past) (see : NodeId → Sight) (said : GroupMessage Act → Type 0) (n back : NodeId) (e : Definition) (a : Member Act)
    (sender gen : ℕ) (v : Act) → IsFew past see said → Ever n e past2 → IsPlaced admin_groups e n → IsTidy past2 said n e (view a) → n ≡ admin e
    → has sender (others (group e) (position e.members n)) ≡ true
    → IsReady past2 said n back e a (event.From sender (msg.Forward gen v)) → Fit past2 said n e a (admitted (group e) a sender v (admits_act e sender v))
fit-forward past past2 see said n back e a sender gen v f ever p t lead member ready =
    fit-admitted past2 said n e a sender v (admits_act e sender v) refl one join
  where
    below : position e.members back < length e.members
    below = subst (λ (i : ℕ). i < length e.members) ready.0 (has-below_but-other (length e.members) (position e.members n) sender member).0

    at_sender : node_or e.members [] sender ≡ back
    at_sender = ap (λ (i : ℕ). node_or e.members [] i) ready.0 ∙ node_at_position e.members [] back (member_below e.members back p.few below)

    sent : Forwards said back n e.generation v
    sent = subst (λ (i : ℕ). Forwards said back n i v) ready.2 ready.1

    one : node_or e.members [] sender ≡ v.node → (u : Act) → Among u a.pending → same_act_key v u ≡ true → u ≡ v
    one h u k q = go (t.came lead u k)
      where
        from : v.node ≡ back
        from = sym h ∙ at_sender

        same : u.node ≡ v.node
        same = (key_parts u v (key-back v u q)).0

        go : (u.node ≡ n) ⊎ Forwards said u.node n e.generation u → u ≡ v
        go (inl x) = absurd (ready.3 (sym from ∙ (sym same ∙ x)))
        go (inr x) = f.one back n n e.generation u v (subst (λ (m : NodeId). Forwards said m n e.generation u) (same ∙ from) x) sent (key-back v u q)

    join : node_or e.members [] sender ≡ v.node → MayJoin past2 said n e (view a) v
    join h = record {
      first = f.first back n e.generation v sent;
      own = λ o. absurd (o lead);
      alone = λ x. absurd (ready.3 (sym at_sender ∙ (h ∙ x)));
      lively = λ o. subst (λ (m : NodeId). Ever m e past2) lead ever;
      came = λ o. inr (subst (λ (m : NodeId). Forwards said m n e.generation v) (sym at_sender ∙ h) sent);
    }

-- any message
pub fit-message : (past past2 : Past) (see : NodeId → Sight) (said : GroupMessage Act → Type 0) (n back : NodeId) (e : Definition) (a : Member Act)
    (sender : ℕ) (x : CommitMsg Act) → IsFew past see said → Ever n e past2 → IsPlaced admin_groups e n → IsTidy past2 said n e (view a)
    → IsReady past2 said n back e a (event.From sender x) → Fit past2 said n e a (on_message (group e) (position e.members n) a sender x)
fit-message past past2 see said n back e a sender (msg.VoteRequest gen r place v) f ever p t ready =
    if_holds (Fit past2 said n e a) (sender == position e.members (admin e)) _ _ (λ q. fit-requested past2 said n e a a.promise sender r place v)
    (λ q. (tt, (tt, tt)))
fit-message past past2 see said n back e a sender (msg.Vote gen r aye) f ever p t ready = fit-vote past2 said n e a a.opened sender r aye p
fit-message past past2 see said n back e a sender (msg.Decision gen r commit) f ever p t ready =
    if_holds (Fit past2 said n e a) (sender == position e.members (admin e)) _ _ (λ q. fit-decided past2 said n e a a.promise r commit) (λ q. (tt, tt))
fit-message past past2 see said n back e a sender (msg.DecisionRequest gen r) f ever p t ready =
    if_holds (Fit past2 said n e a) (position e.members n == position e.members (admin e) && has sender (others (group e) (position e.members n))) _ _
    (λ q. fit-told past2 said n e a (decision a r) sender r) (λ q. (tt, tt))
fit-message past past2 see said n back e a sender (msg.Forward gen v) f ever p t ready =
    if_holds (Fit past2 said n e a) (position e.members n == position e.members (admin e)) _ _
    (λ q. if_holds (Fit past2 said n e a) (has sender (others (group e) (position e.members n))) _ _
    (λ h. fit-forward past past2 see said n back e a sender gen v f ever p t
    (position-apart e.members n (admin e) p.few p.here (eqb_is _ _ q)) h ready) (λ h. (tt, tt)))
    (λ q. fit-strayed past2 said n e a sender v (stray_act v.kind) refl)
fit-message past past2 see said n back e a sender (msg.Refused gen v why) f ever p t ready =
    if_holds (Fit past2 said n e a) (sender == position e.members (admin e)) _ _
    (λ q. fit-taken_back past2 said n e a (found (same_act_key v) a.pending) v why refl (was (eqb_is _ _ q))) (λ q. (tt, tt))
  where
    was : sender ≡ position e.members (admin e) → Returns said (admin e) n e.generation v why
    was q =
        let same : admin e ≡ back = position-apart e.members (admin e) back p.few p.leads (sym q ∙ ready.0) in
        subst (λ (i : ℕ). Returns said (admin e) n i v why) ready.2 (subst (λ (m : NodeId). Returns said m n gen v why) (sym same) ready.1)

-- the first pending act is tried
pub fit-judge : (past : Past) (said : GroupMessage Act → Type 0) (n : NodeId) (e : Definition) (a : Member Act) (v : Act) (o : Option Reason) → n ≡ admin e
    → Fit past said n e a (judge_first (group e) (position e.members n) a v o)
fit-judge past said n e a v (Some why) l = (
  inl l,
  posts-to_each (IsMild n e (shifted (view a) (change.Refuse v why))) (msg.Refused e.generation v why) (others (group e) (position e.members n))
      (λ i. (refl, inr (settled-refused (view a) v why))),
)
fit-judge past said n e a v None l = (
  tt,
  posts-to_each (IsMild n e (shifted (view a) (change.Begin a.next))) (msg.VoteRequest e.generation a.next (length a.history) v)
      (others (group e) (position e.members n)) (λ i. tt),
)

pub fit-try : (past : Past) (said : GroupMessage Act → Type 0) (n : NodeId) (e : Definition) (a : Member Act) (us : List Act) → n ≡ admin e
    → Fit past said n e a (try_first (group e) (position e.members n) a us)
fit-try past said n e a [] l = (tt, tt)
fit-try past said n e a (v ∷ vs) l = fit-judge past said n e a v ((act_rules e).check (values a.history) v) l

-- a request goes again
pub fit-ask : (past : Past) (said : GroupMessage Act → Type 0) (n : NodeId) (e : Definition) (a : Member Act) (o : ℕ × List ℕ) (us : List Act)
    → Fit past said n e a (ask_again (group e) (position e.members n) a o us)
fit-ask past said n e a o [] = (tt, tt)
fit-ask past said n e a o (v ∷ vs) = (tt, posts-to_each (IsMild n e (view a)) (msg.VoteRequest e.generation o.0 (length a.history) v) o.1 (λ i. tt))

-- a tick at the coordinator
pub fit-tick : (past : Past) (said : GroupMessage Act → Type 0) (n : NodeId) (e : Definition) (a : Member Act) (o : Option (ℕ × List ℕ)) → n ≡ admin e
    → Fit past said n e a (coordinator_tick (group e) (position e.members n) a o)
fit-tick past said n e a (Some o) l = fit-ask past said n e a o a.pending
fit-tick past said n e a None l = if_holds (Fit past said n e a) (is_spent a) _ _ (λ q. (tt, tt)) (λ q. fit-try past said n e a a.pending l)

-- an expire
pub fit-expire : (past : Past) (said : GroupMessage Act → Type 0) (n : NodeId) (e : Definition) (a : Member Act) (o : Option (ℕ × List ℕ))
    → Fit past said n e a (expire_open (group e) (position e.members n) o)
fit-expire past said n e a None = (tt, tt)
fit-expire past said n e a (Some o) =
    (tt, posts-to_each (IsMild n e (view a)) (msg.Decision e.generation o.0 false) (others (group e) (position e.members n)) (λ i. tt))

-- a tick at another member forwards the first pending act
pub fit-member_tick : (past : Past) (said : GroupMessage Act → Type 0) (n : NodeId) (e : Definition) (a : Member Act) (p : Option (ℕ × Act)) → n ≢ admin e
    → Fit past said n e a (member_tick (group e) a p)
fit-member_tick past said n e a (Some p) o = (tt, (tt, tt))
fit-member_tick past said n e a None o = go a.pending refl
  where
    go : (us : List Act) → a.pending ≡ us → Fit past said n e a (forward_first (group e) us)
    go [] h = (tt, tt)
    go (v ∷ vs) h = (tt, ((refl, refl, o, subst (λ (us : List Act). Among v us) (sym h) (inl refl)), tt))

-- any event
pub fit-row : (past past2 : Past) (see : NodeId → Sight) (said : GroupMessage Act → Type 0) (n back : NodeId) (e : Definition) (a : Member Act)
    (ev : GroupEvent Act) → IsFew past see said → Ever n e past2 → IsPlaced admin_groups e n → IsTidy past2 said n e (view a)
    → IsReady past2 said n back e a ev → Fit past2 said n e a (row (group e) (position e.members n) a ev)
fit-row past past2 see said n back e a event.Tick f ever p t ready = if_holds (Fit past2 said n e a) (position e.members n == position e.members (admin e)) _ _
    (λ q. fit-tick past2 said n e a a.opened (position-apart e.members n (admin e) p.few p.here (eqb_is _ _ q)))
    (λ q. fit-member_tick past2 said n e a a.promise (λ x. eqb_not _ _ q (ap (λ (z : NodeId). position e.members z) x)))
fit-row past past2 see said n back e a event.Expire f ever p t ready =
    if_holds (Fit past2 said n e a) (position e.members n == position e.members (admin e)) _ _ (λ q. fit-expire past2 said n e a a.opened) (λ q. (tt, tt))
fit-row past past2 see said n back e a (event.Submit v) f ever p t ready =
    if_holds (Fit past2 said n e a) (position e.members n == position e.members (admin e)) _ _ (λ q. (ready, tt))
    (λ q. (ready, ((refl, refl, (λ x. eqb_not _ _ q (ap (λ (z : NodeId). position e.members z) x)), among-last v a.pending), tt)))
fit-row past past2 see said n back e a (event.From sender x) f ever p t ready = fit-message past past2 see said n back e a sender x f ever p t ready

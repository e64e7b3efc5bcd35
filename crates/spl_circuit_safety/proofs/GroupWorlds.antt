-- The cells of one circuit id, beside a world of each group of each definition.
use Rattle.std.{specs.Prelude.{Some, None, ◌==◌}, proofs.Common.{◌≡◌, ◌≢◌, ℕ, ◌<◌, ◌⊎◌, true, false, List, [], ◌∷◌, ◌++◌, length, refl, sym, ap, subst, ◌∙◌}}
use Rattle.std.proofs.{Common.{inl, inr}, lemmas.Option.none-some}
use Rattle.spl_agree.specs.{Member.{Member, new_member, values}, World.IsPrefixOf, Agreement.{Follows, lead, seat}, Fits.{IsSound, IsRoomy}}
use Rattle.spl_agree.{specs.declared.{event.GroupEvent.GroupEvent, message.CommitMsg.CommitMsg, reason.Reason.Reason}, proofs.Tests.{if_holds, bool_cases}}
use Rattle.spl_agree.specs.declared.message.CommitMsg.TheVariants as msg
use Rattle.spl_agree.specs.declared.event.GroupEvent.TheVariants as event
use Rattle.spl_circuit.specs.{Nodes.{NodeId, CircuitId, ServiceId, has_node, position, node_or}, Rules.{broken, admin, service, is_member}, Acts.misfit}
use Rattle.spl_circuit.specs.{Acts.{misfit_kind, act_rules}, Equality.same_definition, Lifecycle.{life, is_running}, Same.definition_is}
use Rattle.spl_circuit.specs.{Positions.position_below, declared.{act.{Act.Act, ActKind.ActKind}, definition.Definition.Definition}}
use Rattle.spl_circuit.specs.declared.act.ActKind.TheVariants as kind
use Rattle.spl_command.specs.declared.batch.Batch.{Batch}
use Rattle.spl_scabbard.specs.Checks.{batch_rules}
use Rattle.spl_wire.specs.declared.message.Message.TheVariants as message
use Rattle.spl_group_safety.proofs.Agreement.{prefix-agrees}
use Rattle.spl_cell_rules.specs.{Cells.{Cell, Held, site_at}, Plans.{service_on, group_sends, admin_lane, service_lane}}
use Rattle.spl_circuit_world.{specs.Worlds.{SentMessage, posted_outgoing}, proofs.Nodes.node_cases}
use Rattle.spl_circuit_safety.{specs.Agreement.IsPast, proofs.{Positions.position-apart, Rosters.{IsRoster, roster}, GroupOfDefinition.{Presence, Away}}}
use Rattle.spl_circuit_safety.proofs.GroupOfDefinition.{There, GroupMessage, Ever, IsOne, IsQuiet, IsPlaced, SomeWorld, InGroups, IsMessageOf, MayHear}
use Rattle.spl_circuit_safety.proofs.{GroupOfDefinition.{after_row, Groups, group_of}, SentByRule.{IsFirst, quiet-row}}

-- the two groups of each definition
abbrev pub admin_groups : Groups Act
admin_groups = record { rules = act_rules; leader = admin }

abbrev pub service_groups : Groups Batch
service_groups = record { rules = λ d. batch_rules; leader = service }

-- what each group sees of a cell
abbrev pub admin_presence : Cell → Presence Act
admin_presence (Held h) = There h.definition h.acts
admin_presence _ = Away

abbrev pub service_presence : Cell → Presence Batch
service_presence (Held h) = There h.definition h.batches
service_presence _ = Away

-- the message was sent
abbrev pub WasSent : SentMessage → List SentMessage → Type 0
WasSent x [] = ⊥
WasSent x (y ∷ ys) = (x ≡ y) ⊎ WasSent x ys

-- what was sent in each group
abbrev pub admin_said : List SentMessage → GroupMessage Act → Type 0
admin_said sent l = (i : CircuitId) × WasSent (record { from = l.from; to = l.to; message = message.Admin i l.body }) sent

abbrev pub service_said : List SentMessage → GroupMessage Batch → Type 0
service_said sent l =
    (i : CircuitId) × (s : ServiceId) × (t : ServiceId) × WasSent (record { from = l.from; to = l.to; message = message.Scabbard i s t l.body }) sent

-- a bound cell: its definition breaks no rule, the node is a member, and what it keeps of each group is sound and roomy
pub record IsValid (d : Definition) (n : NodeId) (a : Member Act) (b : Member Batch) : Type 0 where
  pub whole : broken d ≡ None
  pub member : has_node d.members n ≡ true
  pub acts : IsSound (group_of admin_groups d) (position d.members n) a
  pub batches : IsSound (group_of service_groups d) (position d.members n) b
  pub acts_room : IsRoomy a
  pub batches_room : IsRoomy b

-- a cell that is not bound is valid
abbrev pub IsValidCell : NodeId → Cell → Type 0
IsValidCell n (Held h) = IsValid h.definition n h.acts h.batches
IsValidCell n _ = Unit {0}

-- what holds of the cells and the sent messages of one id: of all bindings that ever were, and in both groups of each definition
pub record InWorld (past : List (NodeId × Definition)) (at : NodeId → Cell) (sent : List SentMessage) (acts : Definition → List Act)
    (batches : Definition → List Batch) : Type 0 where
  pub law : IsOne past
  pub ruled : (n : NodeId) (e : Definition) → Ever n e past → broken e ≡ None
  pub since : (n : NodeId) (e : Definition) → Ever n e past → IsPast e (at n)
  pub valid : (n : NodeId) → IsValidCell n (at n)
  pub admins : (d : Definition) → InGroups admin_groups d past (λ n. admin_presence (at n)) (admin_said sent) (acts d)
  pub services : (d : Definition) → InGroups service_groups d past (λ n. service_presence (at n)) (service_said sent) (batches d)

-- no cell changes but that of this node
abbrev pub Others : NodeId → (NodeId → Cell) → (NodeId → Cell) → Type 0
Others n at at2 = (k : NodeId) → k ≢ n → at2 k ≡ at k

-- placed by validity
pub placed-admin : (d : Definition) (n : NodeId) → broken d ≡ None → has_node d.members n ≡ true → IsPlaced admin_groups d n
placed-admin d n h m =
    let r : IsRoster d = roster d h in
    record { few = r.few; here_in = m; lead_in = r.admin_in; here = position_below d.members n m; leads = position_below d.members (admin d) r.admin_in }

-- a member has its position in the service group
pub placed-service : (d : Definition) (n : NodeId) → broken d ≡ None → has_node d.members n ≡ true → IsPlaced service_groups d n
placed-service d n h m =
    let r : IsRoster d = roster d h in
    record {
      few = r.few;
      here_in = m;
      lead_in = r.service_in;
      here = position_below d.members n m;
      leads = position_below d.members (service d) r.service_in;
    }

no_reason : {why : Reason} → Some why ≡ None → ⊥
no_reason e = cc

-- what is proposed first is the definition itself
pub first_kind : (d : Definition) (n : NodeId) (k : ActKind) → misfit_kind d [] n k ≡ None → (x : Definition) × (k ≡ kind.Propose x) × (x ≡ d)
first_kind d n (kind.Propose x) h = go (bool_cases (same_definition x d))
  where
    go : (same_definition x d ≡ true) ⊎ (same_definition x d ≡ false) → (y : Definition) × (kind.Propose x ≡ kind.Propose y) × (y ≡ d)
    go (inl q) = (x, refl, definition_is x d q)
    go (inr q) = absurd (no_reason (rw q at h))
first_kind d n kind.Accept h = cc
first_kind d n kind.Disband h = absurd (go (bool_cases (d.version == 2)))
  where
    go : ((d.version == 2) ≡ true) ⊎ ((d.version == 2) ≡ false) → ⊥
    go (inl q) = no_reason (rw q at h)
    go (inr q) = no_reason (rw q at h)
first_kind d n _ h = cc

-- an act that is good before all others is the proposal of the definition
pub first_act : (d : Definition) (v : Act) → misfit d [] v ≡ None → (x : Definition) × (v.kind ≡ kind.Propose x) × (x ≡ d)
first_act d v h = go (bool_cases (is_member d v.node))
  where
    go : (is_member d v.node ≡ true) ⊎ (is_member d v.node ≡ false) → (x : Definition) × (v.kind ≡ kind.Propose x) × (x ≡ d)
    go (inl q) = first_kind d v.node v.kind (rw q at h)
    go (inr q) = absurd (no_reason (rw q at h))

-- so it is good first in one definition alone
pub same_first : (d e : Definition) (v : Act) → misfit d [] v ≡ None → misfit e [] v ≡ None → d ≡ e
same_first d e v h k =
    let x : (x : Definition) × (v.kind ≡ kind.Propose x) × (x ≡ d) = first_act d v h in
    let y : (x : Definition) × (v.kind ≡ kind.Propose x) × (x ≡ e) = first_act e v k in
    let z : kind.Propose x.0 ≡ kind.Propose y.0 = sym x.1 ∙ y.1 in
    let u : x.0 ≡ y.0 = propose_is x.0 y.0 z in sym x.2 ∙ (u ∙ y.2)
  where
    propose_is : (p q : Definition) → kind.Propose p ≡ kind.Propose q → p ≡ q
    propose_is p q r = cc

-- a row of the admin group leaves a member quiet, or the coordinator was bound
pub quiet-admin : (e : Definition) (past : List (NodeId × Definition)) (at : NodeId → Presence Act) (said : GroupMessage Act → Type 0) (list : List Act)
    (n back : NodeId) (m : Member Act) (ev : GroupEvent Act) → at n ≡ There e m → MayHear e said n back ev → InGroups admin_groups e past at said list
    → IsQuiet (after_row admin_groups e n m ev) ⊎ Ever (admin e) e past
quiet-admin e past at said list n back m ev is may c = go (node_cases n (admin e)) (c.quiet n e m is)
  where
    spot : IsPlaced admin_groups e n
    spot = c.placed n e m is

    first : (x : GroupEvent Act) → MayHear e said n back x → IsFirst (group_of admin_groups e) x → Ever (admin e) e past
    first (event.From s (msg.VoteRequest gen r place v)) h f =
        let same : admin e ≡ back = position-apart e.members (admin e) back spot.few spot.leads (sym f.0 ∙ h.0) in
        let shown : (g : Definition) × Ever back g past × (g.generation ≡ gen) × (place ≡ 0 → misfit g [] v ≡ None) =
        c.shows (record { from = back; to = n; body = msg.VoteRequest gen r place v }) h.1 in
        let it : e ≡ shown.0 = same_first e shown.0 v f.2 (shown.3 f.1) in
        subst (λ (z : NodeId). Ever z e past) (sym same) (subst (λ (z : Definition). Ever back z past) (sym it) shown.1)
    first _ h f = absurd f

    sub : IsQuiet (after_row admin_groups e n m ev) ⊎ IsFirst (group_of admin_groups e) ev → IsQuiet (after_row admin_groups e n m ev) ⊎ Ever (admin e) e past
    sub (inl x) = inl x
    sub (inr x) = inr (first ev may x)

    go : (n ≡ admin e) ⊎ (n ≢ admin e) → IsQuiet m ⊎ Ever (admin e) e past → IsQuiet (after_row admin_groups e n m ev) ⊎ Ever (admin e) e past
    go (inl q) x = inr (subst (λ (z : NodeId). Ever z e past) q (c.ever n e m is))
    go (inr q) (inr x) = inr x
    go (inr q) (inl x) =
        sub (quiet-row (group_of admin_groups e) (position e.members n) m ev (λ y. q (position-apart e.members n (admin e) spot.few spot.here y)) x)

-- where the circuit runs at a member, every member was bound
pub active-ever : (e : Definition) (past : List (NodeId × Definition)) (at : NodeId → Presence Act) (said : GroupMessage Act → Type 0) (list : List Act)
    (n other : NodeId) (a : Member Act) → at n ≡ There e a → is_running (life e (values a.history)).state ≡ true → has_node e.members other ≡ true
    → InGroups admin_groups e past at said list → Ever other e past
active-ever e past at said list n other a is active mem c = go (c.quiet n e a is)
  where
    spot : IsPlaced admin_groups e n
    spot = c.placed n e a is

    not_empty : a.history ≡ [] → ⊥
    not_empty h = let k : is_running (life e (values a.history)).state ≡ false = ap (λ (x : List (ℕ × Act)). is_running (life e (values x)).state) h in cc

    nothing_before : {A : Type 0} (xs ys : List A) → xs ++ ys ≡ [] → xs ≡ []
    nothing_before [] ys h = refl
    nothing_before (x ∷ xs) ys h = cc

    last_not : {A : Type 0} (xs : List A) (y : A) → xs ++ y ∷ [] ≡ [] → ⊥
    last_not [] y h = cc
    last_not (x ∷ xs) y h = cc

    by_world : SomeWorld admin_groups e past at said list → Ever other e past
    by_world w = pick (w.1.never other below) (node_cases other (admin e))
      where
        below : position e.members other < length e.members
        below = position_below e.members other mem

        mine : w.0.at (position e.members n) ≡ a
        mine = w.1.there n a is

        prefix : IsPrefixOf (w.0.at (position e.members n)).history (w.0.at (position e.members (admin e))).history
        prefix = prefix-agrees (group_of admin_groups e) w.0 (position e.members n) spot.here w.1.agrees

        lead_not : (w.0.at (position e.members (admin e))).history ≡ [] → ⊥
        lead_not h = not_empty (ap (λ (x : Member Act). x.history) (sym mine) ∙ nothing_before (w.0.at (position e.members n)).history prefix.0 (prefix.1 ∙ h))

        pick : (w.0.at (position e.members other) ≡ new_member) ⊎ Ever other e past → (other ≡ admin e) ⊎ (other ≢ admin e) → Ever other e past
        pick (inr x) y = x
        pick (inl x) (inl y) = absurd (lead_not (subst (λ (z : NodeId). (w.0.at (position e.members z)).history ≡ []) y (ap (λ (z : Member Act). z.history) x)))
        pick (inl x) (inr y) = absurd (none (f.trails))
          where
            f : Follows (lead (w.0.at (position e.members (admin e)))) (seat (w.0.at (position e.members other))) (position e.members other)
            f = w.1.agrees.follows (position e.members other) below (λ q. y (position-apart e.members other (admin e) spot.few below q))

            none : ((w.0.at (position e.members other)).history ≡ (w.0.at (position e.members (admin e))).history)
                ⊎ ((p : ℕ × Act) × ((w.0.at (position e.members other)).promise ≡ Some p)
                × ((w.0.at (position e.members (admin e))).history ≡ (w.0.at (position e.members other)).history ++ p ∷ [])) → ⊥
            none (inl h) = lead_not (sym h ∙ ap (λ (z : Member Act). z.history) x)
            none (inr h) = none-some h.0 (sym (ap (λ (z : Member Act). z.promise) x) ∙ h.1)

    go : IsQuiet a ⊎ Ever (admin e) e past → Ever other e past
    go (inl x) = absurd (not_empty x.0)
    go (inr x) = by_world (c.coupled x)

-- what is among the sent messages
pub was-split : (x : SentMessage) (xs ys : List SentMessage) → WasSent x (xs ++ ys) → WasSent x xs ⊎ WasSent x ys
was-split x [] ys h = inr h
was-split x (z ∷ zs) ys (inl e) = inl (inl e)
was-split x (z ∷ zs) ys (inr h) = go (was-split x zs ys h)
  where
    go : WasSent x zs ⊎ WasSent x ys → WasSent x (z ∷ zs) ⊎ WasSent x ys
    go (inl k) = inl (inr k)
    go (inr k) = inr k

-- what was sent stays sent
pub was-left : (x : SentMessage) (xs ys : List SentMessage) → WasSent x xs → WasSent x (xs ++ ys)
was-left x [] ys h = absurd h
was-left x (z ∷ zs) ys (inl e) = inl e
was-left x (z ∷ zs) ys (inr h) = inr (was-left x zs ys h)

-- a message, by its parts
abbrev made_message : {V : Type 0} → NodeId → NodeId → CommitMsg V → GroupMessage V
made_message f t x = record { from = f; to = t; body = x }

made_message_is : {V : Type 0} (f f2 t t2 : NodeId) (x x2 : CommitMsg V) → f ≡ f2 → t ≡ t2 → x ≡ x2 → made_message f t x ≡ made_message f2 t2 x2
made_message_is f f2 t t2 x x2 p q r = cc

-- messages that are equal have equal bodies
pub admin_is : (i j : CircuitId) (x y : CommitMsg Act) → message.Admin i x ≡ message.Admin j y → x ≡ y
admin_is i j x y h = cc

-- messages of services that are equal have equal bodies
pub scabbard_is : (i j : CircuitId) (s s2 t t2 : ServiceId) (x y : CommitMsg Batch) → message.Scabbard i s t x ≡ message.Scabbard j s2 t2 y → x ≡ y
scabbard_is i j s s2 t t2 x y h = cc

-- a message of acts is none of batches
pub not_admin : (i j : CircuitId) (s t : ServiceId) (x : CommitMsg Act) (y : CommitMsg Batch) → message.Admin i x ≡ message.Scabbard j s t y → ⊥
not_admin i j s t x y h = cc

-- what the admin group of a plan posts are its messages
pub posted-admin : (ns : List NodeId) (n : NodeId) (c : CircuitId) (d : Definition) (back : NodeId) (ss : List (ℕ × CommitMsg Act)) (i : CircuitId)
    (l : GroupMessage Act) → WasSent (record { from = l.from; to = l.to; message = message.Admin i l.body })
    (posted_outgoing ns n (group_sends (admin_lane (site_at n c) d) back ss)) → IsMessageOf n d back ss l
posted-admin ns n c d back [] i l h = absurd h
posted-admin ns n c d back (s ∷ ss) i l h =
    if_holds (λ (ps : List SentMessage). WasSent (record { from = l.from; to = l.to; message = message.Admin i l.body }) ps
    → IsMessageOf n d back (s ∷ ss) l) (has_node ns (node_or d.members back s.0)) _ _
    (λ q. here (posted-admin ns n c d back ss i l)) (λ q k. inr (posted-admin ns n c d back ss i l k)) h
  where
    here : (WasSent (record { from = l.from; to = l.to; message = message.Admin i l.body })
        (posted_outgoing ns n (group_sends (admin_lane (site_at n c) d) back ss)) → IsMessageOf n d back ss l)
        → WasSent (record { from = l.from; to = l.to; message = message.Admin i l.body })
        (record { from = n; to = node_or d.members back s.0; message = message.Admin c s.1 }
        ∷ posted_outgoing ns n (group_sends (admin_lane (site_at n c) d) back ss)) → IsMessageOf n d back (s ∷ ss) l
    here hyp (inl e) =
        inl (made_message_is l.from n l.to (node_or d.members back s.0) l.body s.1 (ap (λ (z : SentMessage). z.from) e) (ap (λ (z : SentMessage). z.to) e)
        (admin_is i c l.body s.1 (ap (λ (z : SentMessage). z.message) e)))
    here hyp (inr k) = inr (hyp k)

-- and none is one of batches
pub posted-no_service : (ns : List NodeId) (n : NodeId) (c : CircuitId) (d : Definition) (back : NodeId) (ss : List (ℕ × CommitMsg Act)) (f to : NodeId)
    (i : CircuitId) (s t : ServiceId) (x : CommitMsg Batch)
    → WasSent (record { from = f; to = to; message = message.Scabbard i s t x }) (posted_outgoing ns n (group_sends (admin_lane (site_at n c) d) back ss)) → ⊥
posted-no_service ns n c d back [] f to i s t x h = h
posted-no_service ns n c d back (z ∷ zs) f to i s t x h =
    if_holds (λ (ps : List SentMessage). WasSent (record { from = f; to = to; message = message.Scabbard i s t x }) ps → ⊥)
    (has_node ns (node_or d.members back z.0)) _ _
    (λ q. here (posted-no_service ns n c d back zs f to i s t x)) (λ q k. posted-no_service ns n c d back zs f to i s t x k) h
  where
    here : (WasSent (record { from = f; to = to; message = message.Scabbard i s t x })
        (posted_outgoing ns n (group_sends (admin_lane (site_at n c) d) back zs)) → ⊥)
        → WasSent (record { from = f; to = to; message = message.Scabbard i s t x })
        (record { from = n; to = node_or d.members back z.0; message = message.Admin c z.1 }
        ∷ posted_outgoing ns n (group_sends (admin_lane (site_at n c) d) back zs)) → ⊥
    here hyp (inl e) = not_admin c i s t z.1 x (sym (ap (λ (u : SentMessage). u.message) e))
    here hyp (inr k) = hyp k

-- what the service group of a plan posts are its messages
pub posted-service : (ns : List NodeId) (n : NodeId) (c : CircuitId) (d : Definition) (back : NodeId) (ss : List (ℕ × CommitMsg Batch)) (i : CircuitId)
    (s t : ServiceId) (l : GroupMessage Batch)
    → WasSent (record { from = l.from; to = l.to; message = message.Scabbard i s t l.body })
    (posted_outgoing ns n (group_sends (service_lane (site_at n c) d) back ss)) → IsMessageOf n d back ss l
posted-service ns n c d back [] i s t l h = absurd h
posted-service ns n c d back (z ∷ zs) i s t l h =
    if_holds (λ (ps : List SentMessage). WasSent (record { from = l.from; to = l.to; message = message.Scabbard i s t l.body }) ps
    → IsMessageOf n d back (z ∷ zs) l) (has_node ns (node_or d.members back z.0)) _ _
    (λ q. here (posted-service ns n c d back zs i s t l)) (λ q k. inr (posted-service ns n c d back zs i s t l k)) h
  where
    here : (WasSent (record { from = l.from; to = l.to; message = message.Scabbard i s t l.body })
        (posted_outgoing ns n (group_sends (service_lane (site_at n c) d) back zs)) → IsMessageOf n d back zs l)
        → WasSent (record { from = l.from; to = l.to; message = message.Scabbard i s t l.body })
        (record {
          from = n;
          to = node_or d.members back z.0;
          message = message.Scabbard c (service_on d n) (service_on d (node_or d.members back z.0)) z.1;
        }
        ∷ posted_outgoing ns n (group_sends (service_lane (site_at n c) d) back zs)) → IsMessageOf n d back (z ∷ zs) l
    here hyp (inl e) =
        inl (made_message_is l.from n l.to (node_or d.members back z.0) l.body z.1 (ap (λ (u : SentMessage). u.from) e) (ap (λ (u : SentMessage). u.to) e)
        (scabbard_is i c s _ t _ l.body z.1 (ap (λ (u : SentMessage). u.message) e)))
    here hyp (inr k) = inr (hyp k)

-- and none is one of acts
pub posted-no_admin : (ns : List NodeId) (n : NodeId) (c : CircuitId) (d : Definition) (back : NodeId) (ss : List (ℕ × CommitMsg Batch)) (f to : NodeId)
    (i : CircuitId) (x : CommitMsg Act)
    → WasSent (record { from = f; to = to; message = message.Admin i x }) (posted_outgoing ns n (group_sends (service_lane (site_at n c) d) back ss)) → ⊥
posted-no_admin ns n c d back [] f to i x h = h
posted-no_admin ns n c d back (z ∷ zs) f to i x h =
    if_holds (λ (ps : List SentMessage). WasSent (record { from = f; to = to; message = message.Admin i x }) ps → ⊥)
    (has_node ns (node_or d.members back z.0)) _ _
    (λ q. here (posted-no_admin ns n c d back zs f to i x)) (λ q k. posted-no_admin ns n c d back zs f to i x k) h
  where
    here : (WasSent (record { from = f; to = to; message = message.Admin i x }) (posted_outgoing ns n (group_sends (service_lane (site_at n c) d) back zs))
        → ⊥) → WasSent (record { from = f; to = to; message = message.Admin i x })
        (record {
          from = n;
          to = node_or d.members back z.0;
          message = message.Scabbard c (service_on d n) (service_on d (node_or d.members back z.0)) z.1;
        }
        ∷ posted_outgoing ns n (group_sends (service_lane (site_at n c) d) back zs)) → ⊥
    here hyp (inl e) = not_admin i c _ _ x z.1 (ap (λ (u : SentMessage). u.message) e)
    here hyp (inr k) = hyp k

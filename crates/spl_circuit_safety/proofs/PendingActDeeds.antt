-- A planned deed is a step of the acts that the cells keep.
use Rattle.std.{specs.Prelude.map, proofs.Common.{◌≡◌, ◌≢◌, ℕ, ◌<◌, ◌⊎◌, List, [], ◌∷◌, ◌++◌, refl, sym, ap, subst, ◌∙◌, inl, inr, arith}}
use Rattle.spl_agree.specs.{Member.{Member, new_member, changed_by}, declared.event.{GroupChange.GroupChange, GroupEvent.GroupEvent}}
use Rattle.spl_agree.{specs.declared.{message.CommitMsg.CommitMsg, plan.GroupPlan.GroupPlan}, proofs.Tests.if_holds}
use Rattle.spl_agree.specs.declared.message.CommitMsg.TheVariants as msg
use Rattle.spl_agree.specs.declared.event.GroupEvent.TheVariants as group
use Rattle.spl_circuit.specs.{Nodes.{NodeId, CircuitId, has_node}, Rules.admin, Acts.act_rules, declared.{act.Act.Act, definition.Definition.Definition}}
use Rattle.spl_command.specs.declared.batch.Batch.{Batch}
use Rattle.spl_wire.specs.declared.message.Message.{Message}
use Rattle.spl_wire.specs.declared.message.Message.TheVariants as message
use Rattle.spl_wire.specs.declared.change.Change.TheVariants as durable
use Rattle.spl_cell_rules.specs.Cells.{Cell, Held, Deed, Refuses, Tells, Replies, Binds, Acts, Serves, Turns, Abandons, Purges, Bound, fresh, site_at}
use Rattle.spl_cell_rules.specs.{Changes.{changes_made, made_one}, Plans.{planned, group_sends, admin_lane, service_lane}}
use Rattle.spl_circuit_safety.{specs.Agreement.is_proposal, proofs.GroupOfDefinition.{GroupMessage, Ever, IsMessageOf, MayHear, IsQuiet, plan_row}}
use Rattle.spl_circuit_safety.proofs.GroupWorlds.{admin_groups, service_groups, admin_said, admin_presence, InWorld, Others, WasSent, placed-admin}
use Rattle.spl_circuit_safety.proofs.{GroupWorlds.{posted-admin, posted-no_admin, was-split}, CoupledSteps.{Past, IsNew, free-past}, DeedsAreSteps.IsStepOf}
use Rattle.spl_circuit_safety.proofs.{CoupledDeeds.{made-bind, made-admin, made-service, made-append, posted-both}, PendingActLists.both-not}
use Rattle.spl_circuit_safety.proofs.PendingActCells.{View, Sight, Sees, Nowhere, view, no_view, sight, view-by, MayJoin, tidy-new, tidy-more, shifted_by}
use Rattle.spl_circuit_safety.proofs.{PendingActMessages.{IsFew, IsNews}, PendingActRows.{IsReady, unknown-is}, PendingActSteps.{sights, step-still}}
use Rattle.spl_circuit_safety.proofs.{PendingActSteps.{step-drop, step-row}, PendingActsDue.{Forwards, Apt, IsNextAct, IsFirstAct, IsReplyOf, IsReply}}
use Rattle.spl_circuit_world.specs.Worlds.{SentMessage, posted_outgoing}

-- the acts after changes of the admin group, and after changes of the service group
pub sight-admin : (n : NodeId) (b : Bound) (xs : List (GroupChange Act))
    → sight (changes_made n (Held b) (map durable.Admin xs)) ≡ Sees b.definition (shifted_by (view b.acts) xs)
sight-admin n b xs =
    let k : (t2 : ℕ) × (changes_made n (Held b) (map durable.Admin xs)
    ≡ Held (record b { turn = t2; acts = changed_by (act_rules b.definition) b.acts xs })) = made-admin n b xs in
    ap sight k.1 ∙ ap (λ (w : View). Sees b.definition w) (view-by b.definition b.acts xs)

pub sight-both : (n : NodeId) (b : Bound) (xs : List (GroupChange Act)) (ys : List (GroupChange Batch))
    → sight (changes_made n (Held b) (map durable.Admin xs ++ map durable.Service ys)) ≡ Sees b.definition (shifted_by (view b.acts) xs)
sight-both n b xs ys =
    let k : (t2 : ℕ) × (changes_made n (Held b) (map durable.Admin xs)
    ≡ Held (record b { turn = t2; acts = changed_by (act_rules b.definition) b.acts xs })) = made-admin n b xs in
    ap sight (made-append n (Held b) (map durable.Admin xs) (map durable.Service ys)
    ∙ (ap (λ (z : Cell). changes_made n z (map durable.Service ys)) k.1
    ∙ made-service n (record b { turn = k.0; acts = changed_by (act_rules b.definition) b.acts xs }) ys))
    ∙ ap (λ (w : View). Sees b.definition w) (view-by b.definition b.acts xs)

-- what an event asks of the acts of a bound cell
pub ready-next : (past : Past) (said : GroupMessage Act → Type 0) (n back : NodeId) (d : Definition) (a : Member Act) (e : GroupEvent Act)
    → MayHear d said n back e → IsNew (act_rules d) a e → IsNextAct n a e → (IsQuiet a ⊎ Ever (admin d) d past) → IsReady past said n back d a e
ready-next past said n back d a (group.From s x) h new next quiet = h
ready-next past said n back d a (group.Submit v) h new next quiet = (
  record {
    first = λ p. absurd (both-not (is_proposal v.kind) p next.0);
    own = λ o. next.1;
    alone = λ o. next.2;
    lively = λ o. led quiet;
    came = λ o. inl next.1;
  },
  unknown-is d a v new.0,
)
  where
    led : IsQuiet a ⊎ Ever (admin d) d past → Ever (admin d) d past
    led (inl q) = absurd (next.3 q.0)
    led (inr q) = q
ready-next past said n back d a _ h new next quiet = tt

-- and where a cell is bound
pub ready-first : (past : Past) (see : NodeId → Sight) (said : GroupMessage Act → Type 0) (n back : NodeId) (d : Definition) (past2 : Past)
    (e : GroupEvent Act) → IsFew past see said → MayHear d said n back e → IsFirstAct said n d e → IsReady past2 said n back d new_member e
ready-first past see said n back d past2 group.Tick f h first = tt
ready-first past see said n back d past2 group.Expire f h first = tt
ready-first past see said n back d past2 (group.From s x) f h first = h
ready-first past see said n back d past2 (group.Submit v) f h first = (join first.1, (refl, refl, refl))
  where
    join : ((v.node ≡ n) × (v.turn ≡ 1)) ⊎ ((n ≡ admin d) × (v.node ≢ n) × Forwards said v.node n d.generation v) → MayJoin past2 said n d no_view v
    join (inl x) = record {
      first = λ p. x.1;
      own = λ o. x.0;
      alone = λ o y k. absurd k;
      lively = λ o. absurd (both-not (is_proposal v.kind) first.0 o);
      came = λ o. inl x.0;
    }
    join (inr x) = record {
      first = λ p. f.first v.node n d.generation v x.2 p;
      own = λ o. absurd (o x.0);
      alone = λ o y k. absurd k;
      lively = λ o. absurd (both-not (is_proposal v.kind) first.0 o);
      came = λ o. inr x.2;
    }

-- a reply is no news
pub reply-news : (see : NodeId → Sight) (from to : NodeId) (x : CommitMsg Act) → IsReplyOf x → IsNews see from to x
reply-news see from to (msg.Forward g u) h = absurd h
reply-news see from to (msg.Refused g u why) h = inl h
reply-news see from to _ h = tt

-- what a deed posts
pub reply-message : (ns : List NodeId) (n to : NodeId) (m : Message) (i : CircuitId) (l : GroupMessage Act) → IsReply m
    → WasSent (record { from = l.from; to = l.to; message = message.Admin i l.body }) (posted_outgoing ns n (record { to = to; message = m } ∷ []))
    → IsReplyOf l.body
reply-message ns n to m i l h was =
    if_holds (λ (ps : List SentMessage). WasSent (record { from = l.from; to = l.to; message = message.Admin i l.body }) ps → IsReplyOf l.body)
    (has_node ns to) _ _ (λ q. one_of) (λ q y. absurd y) was
  where
    one_of : WasSent (record { from = l.from; to = l.to; message = message.Admin i l.body }) (record { from = n; to = to; message = m } ∷ []) → IsReplyOf l.body
    one_of (inl e) = subst (λ (z : Message). IsReply z) (sym (ap (λ (s : SentMessage). s.message) e)) h
    one_of (inr y) = absurd y

-- where nothing is sent
pub no-news : (sent sent2 : List SentMessage) (see : NodeId → Sight) → ((x : SentMessage) → WasSent x sent2 → WasSent x sent ⊎ ⊥) → (l : GroupMessage Act)
    → admin_said sent2 l → admin_said sent l ⊎ IsNews see l.from l.to l.body
no-news sent sent2 see messages l s = go (messages _ s.1)
  where
    go : WasSent (record { from = l.from; to = l.to; message = message.Admin s.0 l.body }) sent ⊎ ⊥ → admin_said sent l ⊎ IsNews see l.from l.to l.body
    go (inl x) = inl (s.0, x)
    go (inr x) = absurd x

-- any deed, by its kind
pub few-deed : (past past2 : Past) (ns : List NodeId) (c : CircuitId) (n : NodeId) (at at2 : NodeId → Cell) (sent sent2 : List SentMessage)
    (acts acts2 : Definition → List Act) (batches batches2 : Definition → List Batch) (deed : Deed)
    → ((k : NodeId) (f : Definition) → Ever k f past → Ever k f past2) → Others n at at2 → ((x : SentMessage) → WasSent x sent → WasSent x sent2)
    → ((x : SentMessage) → WasSent x sent2 → WasSent x sent ⊎ WasSent x (posted_outgoing ns n (planned (site_at n c) deed).sends))
    → sights at2 n ≡ sight (changes_made n (at n) (planned (site_at n c) deed).changes)
    → IsStepOf n sent (at n) deed → Apt (admin_said sent) n deed
    → InWorld past at sent acts batches → InWorld past2 at2 sent2 acts2 batches2 → IsFew past (sights at) (admin_said sent)
    → IsFew past2 (sights at2) (admin_said sent2)
few-deed past past2 ns c n at at2 sent sent2 acts acts2 batches batches2 (Refuses r) ever others olds messages is fair apt w v f =
    step-still past past2 at at2 sent sent2 acts acts2 batches batches2 n ever others olds v f is (no-news sent sent2 (sights at2) messages)
few-deed past past2 ns c n at at2 sent sent2 acts acts2 batches batches2 (Tells r) ever others olds messages is fair apt w v f =
    step-still past past2 at at2 sent sent2 acts acts2 batches batches2 n ever others olds v f is (no-news sent sent2 (sights at2) messages)
few-deed past past2 ns c n at at2 sent sent2 acts acts2 batches batches2 (Replies note to m) ever others olds messages is fair apt w v f =
    step-still past past2 at at2 sent sent2 acts acts2 batches batches2 n ever others olds v f is news
  where
    news : (l : GroupMessage Act) → admin_said sent2 l → admin_said sent l ⊎ IsNews (sights at2) l.from l.to l.body
    news l s = go (messages _ s.1)
      where
        go : WasSent (record { from = l.from; to = l.to; message = message.Admin s.0 l.body }) sent
            ⊎ WasSent (record { from = l.from; to = l.to; message = message.Admin s.0 l.body })
            (posted_outgoing ns n (record { to = to; message = m } ∷ [])) → admin_said sent l ⊎ IsNews (sights at2) l.from l.to l.body
        go (inl x) = inl (s.0, x)
        go (inr x) = inr (reply-news (sights at2) l.from l.to l.body (reply-message ns n to m s.0 l apt x))
few-deed past past2 ns c n at at2 sent sent2 acts acts2 batches batches2 (Binds say d back e) ever others olds messages is fair apt w v f =
    step-row past past2 at at2 sent sent2 acts acts2 batches batches2 n back d new_member e ever others olds v f now news
    (placed-admin d n fair.0 fair.1) (tidy-new past2 (admin_said sent) n d) (ready-first past (sights at) (admin_said sent) n back d past2 e f fair.3 apt)
    (inr higher)
  where
    plan : GroupPlan Act
    plan = plan_row admin_groups d n new_member e

    now : sights at2 n ≡ Sees d (shifted_by no_view plan.changes)
    now = is ∙ (ap (λ (z : Cell). sight (changes_made n z (map durable.Admin plan.changes))) (made-bind n (at n) d) ∙ sight-admin n (fresh d) plan.changes)

    higher : (g : Definition) → Ever n g past → g.generation ≢ d.generation
    higher g h q = let x : g.generation < d.generation = free-past g (at n) d.generation fair.2 (w.since n g h) in omega arith

    news : (l : GroupMessage Act) → admin_said sent2 l → admin_said sent l ⊎ IsMessageOf n d back plan.sends l
    news l s = go (messages _ s.1)
      where
        go : WasSent (record { from = l.from; to = l.to; message = message.Admin s.0 l.body }) sent
            ⊎ WasSent (record { from = l.from; to = l.to; message = message.Admin s.0 l.body })
            (posted_outgoing ns n (group_sends (admin_lane (site_at n c) d) back plan.sends)) → admin_said sent l ⊎ IsMessageOf n d back plan.sends l
        go (inl x) = inl (s.0, x)
        go (inr x) = inr (posted-admin ns n c d back plan.sends s.0 l x)
few-deed past past2 ns c n at at2 sent sent2 acts acts2 batches batches2 (Acts say b back e) ever others olds messages is fair apt w v f =
    step-row past past2 at at2 sent sent2 acts acts2 batches batches2 n back b.definition b.acts e ever others olds v f now news
    ((w.admins b.definition).placed n b.definition b.acts (ap admin_presence fair.0))
    (tidy-more past past2 (admin_said sent) (admin_said sent) n b.definition (view b.acts) ever (λ l x. x)
    (f.tidy n b.definition (view b.acts) (ap sight fair.0)))
    (ready-next past2 (admin_said sent) n back b.definition b.acts e fair.1 fair.2 apt
    (quiet ((w.admins b.definition).quiet n b.definition b.acts (ap admin_presence fair.0)))) (inl (ap sight fair.0))
  where
    plan : GroupPlan Act
    plan = plan_row admin_groups b.definition n b.acts e

    now : sights at2 n ≡ Sees b.definition (shifted_by (view b.acts) plan.changes)
    now = is ∙ (ap (λ (z : Cell). sight (changes_made n z (map durable.Admin plan.changes))) fair.0 ∙ sight-admin n b plan.changes)

    quiet : IsQuiet b.acts ⊎ Ever (admin b.definition) b.definition past → IsQuiet b.acts ⊎ Ever (admin b.definition) b.definition past2
    quiet (inl q) = inl q
    quiet (inr q) = inr (ever (admin b.definition) b.definition q)

    news : (l : GroupMessage Act) → admin_said sent2 l → admin_said sent l ⊎ IsMessageOf n b.definition back plan.sends l
    news l s = go (messages _ s.1)
      where
        go : WasSent (record { from = l.from; to = l.to; message = message.Admin s.0 l.body }) sent
            ⊎ WasSent (record { from = l.from; to = l.to; message = message.Admin s.0 l.body })
            (posted_outgoing ns n (group_sends (admin_lane (site_at n c) b.definition) back plan.sends))
            → admin_said sent l ⊎ IsMessageOf n b.definition back plan.sends l
        go (inl x) = inl (s.0, x)
        go (inr x) = inr (posted-admin ns n c b.definition back plan.sends s.0 l x)
few-deed past past2 ns c n at at2 sent sent2 acts acts2 batches batches2 (Serves say b back e) ever others olds messages is fair apt w v f =
    step-still past past2 at at2 sent sent2 acts acts2 batches batches2 n ever others olds v f same news
  where
    plan : GroupPlan Batch
    plan = plan_row service_groups b.definition n b.batches e

    same : sights at2 n ≡ sights at n
    same = is ∙ (ap (λ (z : Cell). sight (changes_made n z (map durable.Service plan.changes))) fair.0
        ∙ (ap sight (made-service n b plan.changes) ∙ sym (ap sight fair.0)))

    news : (l : GroupMessage Act) → admin_said sent2 l → admin_said sent l ⊎ IsNews (sights at2) l.from l.to l.body
    news l s = go (messages _ s.1)
      where
        go : WasSent (record { from = l.from; to = l.to; message = message.Admin s.0 l.body }) sent
            ⊎ WasSent (record { from = l.from; to = l.to; message = message.Admin s.0 l.body })
            (posted_outgoing ns n (group_sends (service_lane (site_at n c) b.definition) back plan.sends))
            → admin_said sent l ⊎ IsNews (sights at2) l.from l.to l.body
        go (inl x) = inl (s.0, x)
        go (inr x) = absurd (posted-no_admin ns n c b.definition back plan.sends l.from l.to s.0 l.body x)
few-deed past past2 ns c n at at2 sent sent2 acts acts2 batches batches2 (Turns b x y) ever others olds messages is fair apt w v f =
    step-row past past2 at at2 sent sent2 acts acts2 batches batches2 n n b.definition b.acts x ever others olds v f now news
    ((w.admins b.definition).placed n b.definition b.acts (ap admin_presence fair.0))
    (tidy-more past past2 (admin_said sent) (admin_said sent) n b.definition (view b.acts) ever (λ l z. z)
    (f.tidy n b.definition (view b.acts) (ap sight fair.0)))
    (ready-next past2 (admin_said sent) n n b.definition b.acts x fair.2 fair.4 apt
    (quiet ((w.admins b.definition).quiet n b.definition b.acts (ap admin_presence fair.0)))) (inl (ap sight fair.0))
  where
    p : GroupPlan Act
    p = plan_row admin_groups b.definition n b.acts x

    q : GroupPlan Batch
    q = plan_row service_groups b.definition n b.batches y

    now : sights at2 n ≡ Sees b.definition (shifted_by (view b.acts) p.changes)
    now = is ∙ (ap (λ (z : Cell). sight (changes_made n z (map durable.Admin p.changes ++ map durable.Service q.changes))) fair.0
        ∙ sight-both n b p.changes q.changes)

    quiet : IsQuiet b.acts ⊎ Ever (admin b.definition) b.definition past → IsQuiet b.acts ⊎ Ever (admin b.definition) b.definition past2
    quiet (inl z) = inl z
    quiet (inr z) = inr (ever (admin b.definition) b.definition z)

    news : (l : GroupMessage Act) → admin_said sent2 l → admin_said sent l ⊎ IsMessageOf n b.definition n p.sends l
    news l s = go (messages _ s.1)
      where
        sub : WasSent (record { from = l.from; to = l.to; message = message.Admin s.0 l.body })
            (posted_outgoing ns n (group_sends (admin_lane (site_at n c) b.definition) n p.sends))
            ⊎ WasSent (record { from = l.from; to = l.to; message = message.Admin s.0 l.body })
            (posted_outgoing ns n (group_sends (service_lane (site_at n c) b.definition) n q.sends))
            → admin_said sent l ⊎ IsMessageOf n b.definition n p.sends l
        sub (inl z) = inr (posted-admin ns n c b.definition n p.sends s.0 l z)
        sub (inr z) = absurd (posted-no_admin ns n c b.definition n q.sends l.from l.to s.0 l.body z)

        go : WasSent (record { from = l.from; to = l.to; message = message.Admin s.0 l.body }) sent
            ⊎ WasSent (record { from = l.from; to = l.to; message = message.Admin s.0 l.body })
            (posted_outgoing ns n (group_sends (admin_lane (site_at n c) b.definition) n p.sends
            ++ group_sends (service_lane (site_at n c) b.definition) n q.sends)) → admin_said sent l ⊎ IsMessageOf n b.definition n p.sends l
        go (inl z) = inl (s.0, z)
        go (inr z) =
            sub (was-split _ (posted_outgoing ns n (group_sends (admin_lane (site_at n c) b.definition) n p.sends))
            (posted_outgoing ns n (group_sends (service_lane (site_at n c) b.definition) n q.sends))
            (subst (λ (ss : List SentMessage). WasSent (record { from = l.from; to = l.to; message = message.Admin s.0 l.body }) ss)
            (posted-both ns n (group_sends (admin_lane (site_at n c) b.definition) n p.sends)
            (group_sends (service_lane (site_at n c) b.definition) n q.sends)) z))
few-deed past past2 ns c n at at2 sent sent2 acts acts2 batches batches2 Abandons ever others olds messages is fair apt w v f =
    step-still past past2 at at2 sent sent2 acts acts2 batches batches2 n ever others olds v f same (no-news sent sent2 (sights at2) messages)
  where
    same : sights at2 n ≡ sights at n
    same = is ∙ (ap (λ (z : Cell). sight (made_one n z durable.Abandon)) fair.1 ∙ sym (ap sight fair.1))
few-deed past past2 ns c n at at2 sent sent2 acts acts2 batches batches2 Purges ever others olds messages is fair apt w v f =
    step-drop past past2 at at2 sent sent2 acts acts2 batches batches2 n ever others olds v f gone (no-news sent sent2 (sights at2) messages)
  where
    gone : sights at2 n ≡ Nowhere
    gone = is ∙ ap (λ (z : Cell). sight (made_one n z durable.Purge)) fair.1

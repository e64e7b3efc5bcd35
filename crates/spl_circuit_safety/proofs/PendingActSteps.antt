-- What a deed does to the acts that the cells keep and to the messages of acts is a step.
use Rattle.std.{specs.Prelude.is_some, proofs.Common.{◌≡◌, ◌≢◌, ℕ, ◌⊎◌, Bool, true, false, List, [], ◌∷◌, ◌++◌, sym, ap, subst, ◌∙◌, inl, inr}}
use Rattle.spl_agree.specs.{Member.{Member, values, found}, World.IsPrefixOf, declared.{event.GroupEvent.GroupEvent, message.CommitMsg.CommitMsg}}
use Rattle.spl_agree.proofs.Tests.{bool_cases}
use Rattle.spl_agree.specs.declared.message.CommitMsg.TheVariants as msg
use Rattle.spl_circuit.specs.{Nodes.{NodeId, position, node_or}, Rules.admin, Equality.same_act_key, Positions.node_at_position, declared.act.Act.Act}
use Rattle.spl_circuit.specs.declared.definition.Definition.{Definition}
use Rattle.spl_command.specs.declared.batch.Batch.{Batch}
use Rattle.spl_group_safety.proofs.Agreement.{prefix-agrees}
use Rattle.spl_cell_rules.specs.Cells.{Cell, Held}
use Rattle.spl_circuit_safety.{specs.Agreement.is_proposal, proofs.GroupOfDefinition.{GroupMessage, There, Ever, IsPlaced, IsMessageOf, SomeWorld, plan_row}}
use Rattle.spl_circuit_safety.proofs.{GroupOfDefinition.{message-by_rule, group_of}, GroupWorlds.{admin_groups, admin_said, admin_presence, InWorld, Others}}
use Rattle.spl_circuit_safety.proofs.{GroupWorlds.WasSent, CoupledSteps.Past, PendingActCells.{View, Sight, Sees, Nowhere, view, sight, sees_is, sees_not}}
use Rattle.spl_circuit_safety.proofs.{PendingActCells.{Settled, IsTidy, tidy-more, tidy-by, grows-same, grows-by, shifted_by}, PendingActMessages.IsFew}
use Rattle.spl_circuit_safety.proofs.{PendingActMessages.{IsNews, CameFrom, few-step}, PendingActRows.{IsMild, Fit, IsReady, fit-row}}
use Rattle.spl_circuit_world.{specs.Worlds.SentMessage, proofs.Nodes.node_cases}

-- what the cells keep of acts
abbrev pub sights : (NodeId → Cell) → NodeId → Sight
sights at n = sight (at n)

-- a cell that is seen to be bound is so
pub seen : (k : Cell) (e : Definition) (w : View) → sight k ≡ Sees e w → (a : Member Act) × (admin_presence k ≡ There e a) × (view a ≡ w)
seen (Held b) e w h =
    let p : (b.definition ≡ e) × (view b.acts ≡ w) = sees_is b.definition e (view b.acts) w h in (b.acts, ap (λ (z : Definition). There z b.acts) p.0, p.1)
seen _ e w h = absurd (sees_not e w h)

-- what is found in a beginning is found in the whole
pub found-prefix : (p : Act → Bool) (xs ys : List (ℕ × Act)) → is_some (found p (values xs)) ≡ true → is_some (found p (values (xs ++ ys))) ≡ true
found-prefix p [] ys h = cc
found-prefix p (x ∷ xs) ys h = go (bool_cases (p x.1)) (found-prefix p xs ys)
  where
    go : (p x.1 ≡ true) ⊎ (p x.1 ≡ false) → (is_some (found p (values xs)) ≡ true → is_some (found p (values (xs ++ ys))) ≡ true)
        → is_some (found p (values ((x ∷ xs) ++ ys))) ≡ true
    go (inl q) hyp = rw q
    go (inr q) hyp = rw q (hyp (rw q at h))

-- what is committed at a member is at the coordinator
pub found-leads : (past : Past) (at : NodeId → Cell) (sent : List SentMessage) (acts : Definition → List Act) (batches : Definition → List Batch)
    → InWorld past at sent acts batches → (k : NodeId) (e : Definition) (w w3 : View) (u : Act) → sights at k ≡ Sees e w → sights at (admin e) ≡ Sees e w3
    → is_some (found (same_act_key u) w.done) ≡ true → is_some (found (same_act_key u) w3.done) ≡ true
found-leads past at sent acts batches v k e w w3 u is is3 h = go ((v.admins e).coupled ((v.admins e).ever (admin e) e there.0 there.1))
  where
    here : (a : Member Act) × (admin_presence (at k) ≡ There e a) × (view a ≡ w)
    here = seen (at k) e w is

    there : (a : Member Act) × (admin_presence (at (admin e)) ≡ There e a) × (view a ≡ w3)
    there = seen (at (admin e)) e w3 is3

    done : is_some (found (same_act_key u) (values here.0.history)) ≡ true
    done = subst (λ (z : View). is_some (found (same_act_key u) z.done) ≡ true) (sym here.2) h

    go : SomeWorld admin_groups e past (λ n. admin_presence (at n)) (admin_said sent) (acts e) → is_some (found (same_act_key u) w3.done) ≡ true
    go x =
        let p : IsPrefixOf (x.0.at (position e.members k)).history (x.0.at (position e.members (admin e))).history =
        prefix-agrees (group_of admin_groups e) x.0 (position e.members k) ((v.admins e).placed k e here.0 here.1).here x.1.agrees in
        let q : here.0.history ++ p.0 ≡ there.0.history =
        subst (λ (z : Member Act). here.0.history ++ p.0 ≡ z.history) (x.1.there (admin e) there.0 there.1)
        (subst (λ (z : Member Act). z.history ++ p.0 ≡ (x.0.at (position e.members (admin e))).history) (x.1.there k here.0 here.1) p.1) in
        subst (λ (z : View). is_some (found (same_act_key u) z.done) ≡ true) there.2
        (subst (λ (z : List (ℕ × Act)). is_some (found (same_act_key u) (values z)) ≡ true) q (found-prefix (same_act_key u) here.0.history p.0 done))

-- where one cell changes
pub step-at : (past past2 : Past) (at at2 : NodeId → Cell) (sent sent2 : List SentMessage) (acts acts2 : Definition → List Act)
    (batches batches2 : Definition → List Batch) (n : NodeId)
    → ((k : NodeId) (f : Definition) → Ever k f past → Ever k f past2) → Others n at at2 → ((x : SentMessage) → WasSent x sent → WasSent x sent2)
    → InWorld past2 at2 sent2 acts2 batches2 → IsFew past (sights at) (admin_said sent)
    → ((e : Definition) (w2 : View) → sights at2 n ≡ Sees e w2 → CameFrom past (sights at) (admin_said sent) n e w2)
    → ((l : GroupMessage Act) → admin_said sent2 l → admin_said sent l ⊎ IsNews (sights at2) l.from l.to l.body)
    → ((e : Definition) (w2 : View) → sights at2 n ≡ Sees e w2 → IsTidy past2 (admin_said sent2) n e w2)
    → IsFew past2 (sights at2) (admin_said sent2)
step-at past past2 at at2 sent sent2 acts acts2 batches batches2 n ever others olds v f mine news tidies =
    few-step past past2 (sights at) (sights at2) (admin_said sent) (admin_said sent2) (record {
      ever = ever;
      law = v.law;
      bound = bound;
      before = before;
      prefix = found-leads past2 at2 sent2 acts2 batches2 v;
      news = news;
      tidy = tidy;
    }) f
  where
    bound : (k : NodeId) (e : Definition) (w : View) → sights at2 k ≡ Sees e w → Ever k e past2
    bound k e w is = let x : (a : Member Act) × (admin_presence (at2 k) ≡ There e a) × (view a ≡ w) = seen (at2 k) e w is in (v.admins e).ever k e x.0 x.1

    more : (l : GroupMessage Act) → admin_said sent l → admin_said sent2 l
    more l s = (s.0, olds _ s.1)

    before : (k : NodeId) (e : Definition) (w2 : View) → sights at2 k ≡ Sees e w2 → CameFrom past (sights at) (admin_said sent) k e w2
    before k e w2 is = go (node_cases k n)
      where
        go : (k ≡ n) ⊎ (k ≢ n) → CameFrom past (sights at) (admin_said sent) k e w2
        go (inl q) =
            subst (λ (z : NodeId). CameFrom past (sights at) (admin_said sent) z e w2) (sym q)
            (mine e w2 (subst (λ (z : NodeId). sights at2 z ≡ Sees e w2) q is))
        go (inr q) = inl (w2, sym (ap sight (others k q)) ∙ is, grows-same (admin_said sent) k e w2)

    tidy : (k : NodeId) (e : Definition) (w : View) → sights at2 k ≡ Sees e w → IsTidy past2 (admin_said sent2) k e w
    tidy k e w is = go (node_cases k n)
      where
        go : (k ≡ n) ⊎ (k ≢ n) → IsTidy past2 (admin_said sent2) k e w
        go (inl q) = subst (λ (z : NodeId). IsTidy past2 (admin_said sent2) z e w) (sym q) (tidies e w (subst (λ (z : NodeId). sights at2 z ≡ Sees e w) q is))
        go (inr q) = tidy-more past past2 (admin_said sent) (admin_said sent2) k e w ever more (f.tidy k e w (sym (ap sight (others k q)) ∙ is))

-- where no acts change
pub step-still : (past past2 : Past) (at at2 : NodeId → Cell) (sent sent2 : List SentMessage) (acts acts2 : Definition → List Act)
    (batches batches2 : Definition → List Batch) (n : NodeId)
    → ((k : NodeId) (f : Definition) → Ever k f past → Ever k f past2) → Others n at at2 → ((x : SentMessage) → WasSent x sent → WasSent x sent2)
    → InWorld past2 at2 sent2 acts2 batches2 → IsFew past (sights at) (admin_said sent)
    → sights at2 n ≡ sights at n
    → ((l : GroupMessage Act) → admin_said sent2 l → admin_said sent l ⊎ IsNews (sights at2) l.from l.to l.body)
    → IsFew past2 (sights at2) (admin_said sent2)
step-still past past2 at at2 sent sent2 acts acts2 batches batches2 n ever others olds v f same news =
    step-at past past2 at at2 sent sent2 acts acts2 batches batches2 n ever others olds v f
    (λ e w2 is. inl (w2, sym same ∙ is, grows-same (admin_said sent) n e w2)) news
    (λ e w2 is. tidy-more past past2 (admin_said sent) (admin_said sent2) n e w2 ever (λ l s. (s.0, olds _ s.1)) (f.tidy n e w2 (sym same ∙ is)))

-- where a cell is purged
pub step-drop : (past past2 : Past) (at at2 : NodeId → Cell) (sent sent2 : List SentMessage) (acts acts2 : Definition → List Act)
    (batches batches2 : Definition → List Batch) (n : NodeId)
    → ((k : NodeId) (f : Definition) → Ever k f past → Ever k f past2) → Others n at at2 → ((x : SentMessage) → WasSent x sent → WasSent x sent2)
    → InWorld past2 at2 sent2 acts2 batches2 → IsFew past (sights at) (admin_said sent)
    → sights at2 n ≡ Nowhere
    → ((l : GroupMessage Act) → admin_said sent2 l → admin_said sent l ⊎ IsNews (sights at2) l.from l.to l.body)
    → IsFew past2 (sights at2) (admin_said sent2)
step-drop past past2 at at2 sent sent2 acts acts2 batches batches2 n ever others olds v f gone news =
    step-at past past2 at at2 sent sent2 acts acts2 batches batches2 n ever others olds v f
    (λ e w2 is. absurd (sees_not e w2 (sym gone ∙ is))) news
    (λ e w2 is. absurd (sees_not e w2 (sym gone ∙ is)))

-- what a row sends
pub mild-news : (see : NodeId → Sight) (n back : NodeId) (e : Definition) (w : View) (q : ℕ) (from to : NodeId) (x : CommitMsg Act) → see n ≡ Sees e w
    → IsPlaced admin_groups e n → IsMild n e w q x → from ≡ n → to ≡ node_or e.members back q → IsNews see from to x
mild-news see n back e w q from to (msg.Forward g u) is p m a b = (
  e,
  w,
  subst (λ (z : NodeId). see z ≡ Sees e w) (sym a) is,
  sym m.0,
  b ∙ (ap (λ (z : ℕ). node_or e.members back z) m.1 ∙ node_at_position e.members back (admin e) p.lead_in),
  subst (λ (z : NodeId). z ≢ admin e) (sym a) m.2,
  m.3,
)
mild-news see n back e w q from to (msg.Refused g u why) is p m a b = go m.1
  where
    go : (is_proposal u.kind ≡ true) ⊎ Settled w u → IsNews see from to (msg.Refused g u why)
    go (inl x) = inl x
    go (inr x) = inr (e, w, subst (λ (z : NodeId). see z ≡ Sees e w) (sym a) is, sym m.0, x)
mild-news see n back e w q from to (msg.VoteRequest g r place u) is p m a b = tt
mild-news see n back e w q from to _ is p m a b = tt

-- where the admin group of a cell does something; the cell was bound, or is bound now
pub step-row : (past past2 : Past) (at at2 : NodeId → Cell) (sent sent2 : List SentMessage) (acts acts2 : Definition → List Act)
    (batches batches2 : Definition → List Batch) (n back : NodeId) (e : Definition) (a : Member Act) (ev : GroupEvent Act)
    → ((k : NodeId) (f : Definition) → Ever k f past → Ever k f past2) → Others n at at2 → ((x : SentMessage) → WasSent x sent → WasSent x sent2)
    → InWorld past2 at2 sent2 acts2 batches2 → IsFew past (sights at) (admin_said sent)
    → sights at2 n ≡ Sees e (shifted_by (view a) (plan_row admin_groups e n a ev).changes)
    → ((l : GroupMessage Act) → admin_said sent2 l → admin_said sent l ⊎ IsMessageOf n e back (plan_row admin_groups e n a ev).sends l)
    → IsPlaced admin_groups e n → IsTidy past2 (admin_said sent) n e (view a) → IsReady past2 (admin_said sent) n back e a ev
    → (sights at n ≡ Sees e (view a)) ⊎ ((f : Definition) → Ever n f past → f.generation ≢ e.generation)
    → IsFew past2 (sights at2) (admin_said sent2)
step-row past past2 at at2 sent sent2 acts acts2 batches batches2 n back e a ev ever others olds v f is messages spot t ready was =
    step-at past past2 at at2 sent sent2 acts acts2 batches batches2 n ever others olds v f mine news tidy
  where
    w2 : View
    w2 = shifted_by (view a) (plan_row admin_groups e n a ev).changes

    bound : Ever n e past2
    bound = let x : (a : Member Act) × (admin_presence (at2 n) ≡ There e a) × (view a ≡ w2) = seen (at2 n) e w2 is in (v.admins e).ever n e x.0 x.1

    fit : Fit past2 (admin_said sent) n e a (plan_row admin_groups e n a ev)
    fit = fit-row past past2 (sights at) (admin_said sent) n back e a ev f bound spot t ready

    from : (sights at n ≡ Sees e (view a)) ⊎ ((f : Definition) → Ever n f past → f.generation ≢ e.generation)
        → CameFrom past (sights at) (admin_said sent) n e w2
    from (inl x) = inl (view a, x, grows-by past2 (admin_said sent) n e (view a) (plan_row admin_groups e n a ev).changes fit.0 t)
    from (inr x) = inr x

    mine : (g : Definition) (w : View) → sights at2 n ≡ Sees g w → CameFrom past (sights at) (admin_said sent) n g w
    mine g w h =
        let p : (e ≡ g) × (w2 ≡ w) = sees_is e g w2 w (sym is ∙ h) in
        subst (λ (z : Definition). CameFrom past (sights at) (admin_said sent) n z w) p.0
        (subst (λ (z : View). CameFrom past (sights at) (admin_said sent) n e z) p.1 (from was))

    tidy : (g : Definition) (w : View) → sights at2 n ≡ Sees g w → IsTidy past2 (admin_said sent2) n g w
    tidy g w h =
        let p : (e ≡ g) × (w2 ≡ w) = sees_is e g w2 w (sym is ∙ h) in
        subst (λ (z : Definition). IsTidy past2 (admin_said sent2) n z w) p.0 (subst (λ (z : View). IsTidy past2 (admin_said sent2) n e z) p.1
        (tidy-more past2 past2 (admin_said sent) (admin_said sent2) n e w2 (λ k f x. x) (λ l s. (s.0, olds _ s.1))
        (tidy-by past2 (admin_said sent) n e (view a) (plan_row admin_groups e n a ev).changes fit.0 t)))

    news : (l : GroupMessage Act) → admin_said sent2 l → admin_said sent l ⊎ IsNews (sights at2) l.from l.to l.body
    news l s = go (messages l s)
      where
        go : admin_said sent l ⊎ IsMessageOf n e back (plan_row admin_groups e n a ev).sends l → admin_said sent l ⊎ IsNews (sights at2) l.from l.to l.body
        go (inl x) = inl x
        go (inr x) =
            let y : (q : ℕ) × IsMild n e w2 q l.body × (l.from ≡ n)
            × (l.to ≡ node_or e.members back q) = message-by_rule (IsMild n e w2) n e back (plan_row admin_groups e n a ev).sends l fit.1 x in
            inr (mild-news (sights at2) n back e w2 y.0 l.from l.to l.body is spot y.1 y.2 y.3)

-- Each kind of step of the cells keeps the coupling.
use Rattle.std.{specs.Prelude.{None, ◌==◌}, proofs.Common.{◌≡◌, ◌≢◌, ℕ, ◌<◌, ◌≤◌, ◌⊎◌, true, false, List, [], ◌∷◌, ◌++◌, length, refl, sym, ap, subst, ◌∙◌}}
use Rattle.std.proofs.Common.{inl, inr, arith}
use Rattle.spl_cell_rules.specs.{Plans.{group_sends, admin_lane, service_lane}, Cells.{Cell, Empty, Held, Purged, Bound, fresh, is_free, site_at}}
use Rattle.spl_cell_rules.specs.Changes.{stopped_cell}
use Rattle.spl_agree.specs.{Member.{Rules, Group, Member, restarted, known}, Fits.{IsSound, IsRoomy, IsDue, any_value}, declared.event.GroupEvent.GroupEvent}
use Rattle.spl_agree.proofs.Tests.{ltb_is}
use Rattle.spl_agree.specs.declared.event.GroupEvent.TheVariants as event
use Rattle.spl_circuit.specs.{Nodes.{NodeId, CircuitId, has_node, position}, Rules.{broken, admin, service}, Acts.act_rules, Same.act_same}
use Rattle.spl_circuit.specs.declared.{act.Act.Act, definition.Definition.Definition, lifecycle.Mark.Mark}
use Rattle.spl_command.specs.declared.batch.Batch.{Batch}
use Rattle.spl_scabbard.specs.{Checks.batch_rules, Same.same_batches}
use Rattle.spl_wire.specs.declared.message.Message.{Message}
use Rattle.spl_wire.specs.declared.message.Message.TheVariants as message
use Rattle.spl_group_safety.proofs.{Fits.{good-row, not-full, may-any, sound-new_member, roomy-new_member, sound-restarted, roomy-open}, Sound.sound-row}
use Rattle.spl_circuit_world.{specs.Worlds.{SentMessage, posted_outgoing}, proofs.Nodes.node_cases}
use Rattle.spl_circuit_safety.{specs.Agreement.IsPast, proofs.{Positions.position-apart, GroupOfDefinition.{GroupMessage, Ever, IsOne, IsPlaced}}}
use Rattle.spl_circuit_safety.proofs.GroupOfDefinition.{IsMessageOf, MayHear, all_committed, after_row, plan_row, groups-row, Groups, group_of}
use Rattle.spl_circuit_safety.proofs.{GroupBindings.{IsHarmless, groups-messages, groups-drop, groups-restart, groups-fresh}, SentByRule.fine-row}
use Rattle.spl_circuit_safety.proofs.GroupWorlds.{admin_presence, service_presence, WasSent, admin_said, service_said, IsValid, IsValidCell, InWorld, Others}
use Rattle.spl_circuit_safety.proofs.GroupWorlds.{placed-admin, placed-service, quiet-admin, posted-admin, posted-no_service, posted-service, posted-no_admin}
use Rattle.spl_circuit_safety.proofs.GroupWorlds.{admin_groups, service_groups}

-- all bindings that ever were
abbrev pub Past : Type 0
Past = List (NodeId × Definition)

-- a value that is submitted isn't known yet, and there is room for it
abbrev pub IsNew : {V : Type 0} → Rules V → Member V → GroupEvent V → Type 0
IsNew rules m (event.Submit v) = (known rules m v ≡ None) × ((length m.pending == 64) ≡ false)
IsNew rules m _ = Unit {0}

-- an event that may happen here is due
pub due-row : {V : Type 0} (groups : Groups V) (d : Definition) (n back : NodeId) (said : GroupMessage V → Type 0) (m : Member V) (e : GroupEvent V)
    → IsPlaced groups d n → MayHear d said n back e → IsNew (groups.rules d) m e → IsRoomy m → IsDue (group_of groups d) (position d.members n) m e
due-row groups d n back said m (event.Submit v) p h new room = (new.0, not-full m new.1 room)
due-row groups d n back said m (event.From s x) p h new room = (h.2, λ q. h.3 (sym (position-apart d.members n back p.few p.here (sym q ∙ h.0))))
due-row groups d n back said m _ p h new room = tt

-- a member stays sound and roomy
pub sound-after : {V : Type 0} (groups : Groups V) (d : Definition) (n back : NodeId) (said : GroupMessage V → Type 0) (m : Member V) (e : GroupEvent V)
    → ((x : V) → (groups.rules d).same x x ≡ true) → IsPlaced groups d n → MayHear d said n back e → IsNew (groups.rules d) m e
    → IsSound (group_of groups d) (position d.members n) m → IsRoomy m
    → IsSound (group_of groups d) (position d.members n) (after_row groups d n m e) × IsRoomy (after_row groups d n m e)
sound-after {V} groups d n back said m e same p h new sound room = (
  sound-row g (position d.members n) m e due room sound,
  (good-row g any_value (position d.members n) m e same due (may-any g e) sound room).1,
)
  where
    g : Group V
    g = group_of groups d

    due : IsDue g (position d.members n) m e
    due = due-row groups d n back said m e p h new room

-- facts of one cell, where one cell changes
pub each_cell : (P : NodeId → Cell → Type 0) (at at2 : NodeId → Cell) (n : NodeId) (k : Cell) → at2 n ≡ k → Others n at at2 → P n k
    → ((j : NodeId) → j ≢ n → P j (at j)) → (j : NodeId) → P j (at2 j)
each_cell P at at2 n k is others new old j = go (node_cases j n)
  where
    go : (j ≡ n) ⊎ (j ≢ n) → P j (at2 j)
    go (inl q) = subst (λ (z : NodeId). P z (at2 z)) (sym q) (subst (λ (c : Cell). P n c) (sym is) new)
    go (inr q) = subst (λ (c : Cell). P j c) (sym (others j q)) (old j q)

-- the admin group of a cell does something
pub world-acts : (past : Past) (at at2 : NodeId → Cell) (sent sent2 : List SentMessage) (acts more : Definition → List Act)
    (batches : Definition → List Batch) (ns : List NodeId) (c : CircuitId) (n back : NodeId) (b : Bound) (m2 : Mark) (t2 : ℕ) (e : GroupEvent Act)
    → at n ≡ Held b → at2 n ≡ Held (record b { mark = m2; turn = t2; acts = after_row admin_groups b.definition n b.acts e }) → Others n at at2
    → ((x : SentMessage) → WasSent x sent2
    → WasSent x sent ⊎ WasSent x
    (posted_outgoing ns n (group_sends (admin_lane (site_at n c) b.definition) back (plan_row admin_groups b.definition n b.acts e).sends)))
    → MayHear b.definition (admin_said sent) n back e → IsNew (act_rules b.definition) b.acts e
    → ((f : Definition) → b.definition ≡ f → n ≡ admin f → more f ≡ all_committed (plan_row admin_groups b.definition n b.acts e).changes)
    → ((f : Definition) → (b.definition ≢ f) ⊎ (n ≢ admin f) → more f ≡ [])
    → InWorld past at sent acts batches → InWorld past at2 sent2 (λ f. acts f ++ more f) batches
world-acts past at at2 sent sent2 acts more batches ns c n back b m2 t2 e is new others messages may fresh leads follows w = record {
  law = w.law;
  ruled = w.ruled;
  since = λ k f h. each_cell (λ k z. Ever k f past → IsPast f z) at at2 n
      (Held (record b { mark = m2; turn = t2; acts = after_row admin_groups b.definition n b.acts e })) new others
      (λ x. subst (λ (z : Cell). IsPast f z) is (w.since n f x)) (λ k q x. w.since k f x) k h;
  valid = each_cell IsValidCell at at2 n (Held (record b { mark = m2; turn = t2; acts = after_row admin_groups b.definition n b.acts e })) new others valid
      (λ j q. w.valid j);
  admins = λ f. groups-row admin_groups f b.definition past (λ k. admin_presence (at k)) (λ k. admin_presence (at2 k)) (admin_said sent) (admin_said sent2)
      (acts f) (more f) n back b.acts e w.law (ap admin_presence is) may valid.acts.good
      (quiet-admin b.definition past (λ k. admin_presence (at k)) (admin_said sent) (acts b.definition) n back b.acts e (ap admin_presence is) may
      (w.admins b.definition))
      (fine-row (group_of admin_groups b.definition) (position b.definition.members n) b.acts e before.acts)
      (ap admin_presence new) (λ k q. ap admin_presence (others k q))
      (λ l s. admin_messages l s) (leads f) (follows f) (w.admins f);
  services =
      λ f. groups-messages service_groups f past (λ k. service_presence (at k)) (λ k. service_presence (at2 k)) (service_said sent) (service_said sent2)
      (batches f) still (λ l s. inl (service_messages l s)) (w.services f);
}
  where
    before : IsValid b.definition n b.acts b.batches
    before = subst (λ (z : Cell). IsValidCell n z) is (w.valid n)

    kept : IsSound (group_of admin_groups b.definition) (position b.definition.members n) (after_row admin_groups b.definition n b.acts e)
        × IsRoomy (after_row admin_groups b.definition n b.acts e)
    kept = sound-after admin_groups b.definition n back (admin_said sent) b.acts e act_same
        (placed-admin b.definition n before.whole before.member) may fresh before.acts before.acts_room

    valid : IsValid b.definition n (after_row admin_groups b.definition n b.acts e) b.batches
    valid = record {
      whole =
          before.whole;
      member = before.member;
      acts = kept.0;
      batches = before.batches;
      acts_room = kept.1;
      batches_room = before.batches_room;
    }

    still : (k : NodeId) → service_presence (at2 k) ≡ service_presence (at k)
    still k = go (node_cases k n)
      where
        go : (k ≡ n) ⊎ (k ≢ n) → service_presence (at2 k) ≡ service_presence (at k)
        go (inl q) = subst (λ (z : NodeId). service_presence (at2 z) ≡ service_presence (at z)) (sym q) (ap service_presence new ∙ sym (ap service_presence is))
        go (inr q) = ap service_presence (others k q)

    admin_messages : (l : GroupMessage Act) → admin_said sent2 l
        → admin_said sent l ⊎ IsMessageOf n b.definition back (plan_row admin_groups b.definition n b.acts e).sends l
    admin_messages l s = go (messages _ s.1)
      where
        go : WasSent (record { from = l.from; to = l.to; message = message.Admin s.0 l.body }) sent
            ⊎ WasSent (record { from = l.from; to = l.to; message = message.Admin s.0 l.body })
            (posted_outgoing ns n (group_sends (admin_lane (site_at n c) b.definition) back (plan_row admin_groups b.definition n b.acts e).sends))
            → admin_said sent l ⊎ IsMessageOf n b.definition back (plan_row admin_groups b.definition n b.acts e).sends l
        go (inl x) = inl (s.0, x)
        go (inr x) = inr (posted-admin ns n c b.definition back (plan_row admin_groups b.definition n b.acts e).sends s.0 l x)

    service_messages : (l : GroupMessage Batch) → service_said sent2 l → service_said sent l
    service_messages l s = go (messages _ s.3)
      where
        go : WasSent (record { from = l.from; to = l.to; message = message.Scabbard s.0 s.1 s.2 l.body }) sent
            ⊎ WasSent (record { from = l.from; to = l.to; message = message.Scabbard s.0 s.1 s.2 l.body })
            (posted_outgoing ns n (group_sends (admin_lane (site_at n c) b.definition) back (plan_row admin_groups b.definition n b.acts e).sends))
            → service_said sent l
        go (inl x) = (s.0, s.1, s.2, x)
        go (inr x) = absurd (posted-no_service ns n c b.definition back (plan_row admin_groups b.definition n b.acts e).sends l.from l.to s.0 s.1 s.2 l.body x)

-- the service group of a cell does something
pub world-serves : (past : Past) (at at2 : NodeId → Cell) (sent sent2 : List SentMessage) (acts : Definition → List Act)
    (batches more : Definition → List Batch) (ns : List NodeId) (c : CircuitId) (n back : NodeId) (b : Bound) (m2 : Mark) (t2 : ℕ) (e : GroupEvent Batch)
    → at n ≡ Held b → at2 n ≡ Held (record b { mark = m2; turn = t2; batches = after_row service_groups b.definition n b.batches e }) → Others n at at2
    → ((x : SentMessage) → WasSent x sent2
    → WasSent x sent ⊎ WasSent x
    (posted_outgoing ns n (group_sends (service_lane (site_at n c) b.definition) back (plan_row service_groups b.definition n b.batches e).sends)))
    → Ever (service b.definition) b.definition past
    → MayHear b.definition (service_said sent) n back e → IsNew batch_rules b.batches e
    → ((f : Definition) → b.definition ≡ f → n ≡ service f → more f ≡ all_committed (plan_row service_groups b.definition n b.batches e).changes)
    → ((f : Definition) → (b.definition ≢ f) ⊎ (n ≢ service f) → more f ≡ [])
    → InWorld past at sent acts batches → InWorld past at2 sent2 acts (λ f. batches f ++ more f)
world-serves past at at2 sent sent2 acts batches more ns c n back b m2 t2 e is new others messages led may fresh leads follows w = record {
  law = w.law;
  ruled = w.ruled;
  since = λ k f h. each_cell (λ k z. Ever k f past → IsPast f z) at at2 n
      (Held (record b { mark = m2; turn = t2; batches = after_row service_groups b.definition n b.batches e })) new others
      (λ x. subst (λ (z : Cell). IsPast f z) is (w.since n f x)) (λ k q x. w.since k f x) k h;
  valid = each_cell IsValidCell at at2 n
      (Held (record b { mark = m2; turn = t2; batches = after_row service_groups b.definition n b.batches e })) new others valid (λ j q. w.valid j);
  admins = λ f. groups-messages admin_groups f past (λ k. admin_presence (at k)) (λ k. admin_presence (at2 k)) (admin_said sent) (admin_said sent2)
      (acts f) still (λ l s. inl (admin_messages l s)) (w.admins f);
  services =
      λ f. groups-row service_groups f b.definition past (λ k. service_presence (at k)) (λ k. service_presence (at2 k)) (service_said sent)
      (service_said sent2) (batches f) (more f) n back b.batches e w.law (ap service_presence is) may valid.batches.good
      (inr led)
      (fine-row (group_of service_groups b.definition) (position b.definition.members n) b.batches e before.batches)
      (ap service_presence new) (λ k q. ap service_presence (others k q))
      (λ l s. service_messages l s) (leads f) (follows f) (w.services f);
}
  where
    before : IsValid b.definition n b.acts b.batches
    before = subst (λ (z : Cell). IsValidCell n z) is (w.valid n)

    kept : IsSound (group_of service_groups b.definition) (position b.definition.members n) (after_row service_groups b.definition n b.batches e)
        × IsRoomy (after_row service_groups b.definition n b.batches e)
    kept = sound-after service_groups b.definition n back (service_said sent) b.batches e (λ x. (same_batches x x).1 refl)
        (placed-service b.definition n before.whole before.member) may fresh before.batches before.batches_room

    valid : IsValid b.definition n b.acts (after_row service_groups b.definition n b.batches e)
    valid = record { whole = before.whole; member = before.member; acts = before.acts; batches = kept.0; acts_room = before.acts_room; batches_room = kept.1 }

    still : (k : NodeId) → admin_presence (at2 k) ≡ admin_presence (at k)
    still k = go (node_cases k n)
      where
        go : (k ≡ n) ⊎ (k ≢ n) → admin_presence (at2 k) ≡ admin_presence (at k)
        go (inl q) = subst (λ (z : NodeId). admin_presence (at2 z) ≡ admin_presence (at z)) (sym q) (ap admin_presence new ∙ sym (ap admin_presence is))
        go (inr q) = ap admin_presence (others k q)

    service_messages : (l : GroupMessage Batch) → service_said sent2 l
        → service_said sent l ⊎ IsMessageOf n b.definition back (plan_row service_groups b.definition n b.batches e).sends l
    service_messages l s = go (messages _ s.3)
      where
        go : WasSent (record { from = l.from; to = l.to; message = message.Scabbard s.0 s.1 s.2 l.body }) sent
            ⊎ WasSent (record { from = l.from; to = l.to; message = message.Scabbard s.0 s.1 s.2 l.body })
            (posted_outgoing ns n (group_sends (service_lane (site_at n c) b.definition) back (plan_row service_groups b.definition n b.batches e).sends))
            → service_said sent l ⊎ IsMessageOf n b.definition back (plan_row service_groups b.definition n b.batches e).sends l
        go (inl x) = inl (s.0, s.1, s.2, x)
        go (inr x) = inr (posted-service ns n c b.definition back (plan_row service_groups b.definition n b.batches e).sends s.0 s.1 s.2 l x)

    admin_messages : (l : GroupMessage Act) → admin_said sent2 l → admin_said sent l
    admin_messages l s = go (messages _ s.1)
      where
        go : WasSent (record { from = l.from; to = l.to; message = message.Admin s.0 l.body }) sent
            ⊎ WasSent (record { from = l.from; to = l.to; message = message.Admin s.0 l.body })
            (posted_outgoing ns n (group_sends (service_lane (site_at n c) b.definition) back (plan_row service_groups b.definition n b.batches e).sends))
            → admin_said sent l
        go (inl x) = (s.0, x)
        go (inr x) = absurd (posted-no_admin ns n c b.definition back (plan_row service_groups b.definition n b.batches e).sends l.from l.to s.0 l.body x)

-- a message that counts in no group
abbrev pub IsIdle : Message → Type 0
IsIdle (message.Admin i x) = IsHarmless x
IsIdle (message.Scabbard i s t x) = IsHarmless x

-- no cell changes; there may be fewer messages, and new ones that count in no group
pub world-messages : (past : Past) (at at2 : NodeId → Cell) (sent sent2 : List SentMessage) (acts : Definition → List Act)
    (batches : Definition → List Batch) → ((k : NodeId) → at2 k ≡ at k) → ((x : SentMessage) → WasSent x sent2 → WasSent x sent ⊎ IsIdle x.message)
    → InWorld past at sent acts batches → InWorld past at2 sent2 acts batches
world-messages past at at2 sent sent2 acts batches still messages w = record {
  law = w.law;
  ruled = w.ruled;
  since = λ k f h. subst (λ (z : Cell). IsPast f z) (sym (still k)) (w.since k f h);
  valid = λ k. subst (λ (z : Cell). IsValidCell k z) (sym (still k)) (w.valid k);
  admins = λ f. groups-messages admin_groups f past (λ k. admin_presence (at k)) (λ k. admin_presence (at2 k)) (admin_said sent) (admin_said sent2)
      (acts f) (λ k. ap admin_presence (still k)) (λ l s. admin_messages l s) (w.admins f);
  services =
      λ f. groups-messages service_groups f past (λ k. service_presence (at k)) (λ k. service_presence (at2 k)) (service_said sent) (service_said sent2)
      (batches f) (λ k. ap service_presence (still k)) (λ l s. service_messages l s) (w.services f);
}
  where
    admin_messages : (l : GroupMessage Act) → admin_said sent2 l → admin_said sent l ⊎ IsHarmless l.body
    admin_messages l s = go (messages _ s.1)
      where
        go : WasSent (record { from = l.from; to = l.to; message = message.Admin s.0 l.body }) sent ⊎ IsHarmless l.body → admin_said sent l ⊎ IsHarmless l.body
        go (inl x) = inl (s.0, x)
        go (inr x) = inr x

    service_messages : (l : GroupMessage Batch) → service_said sent2 l → service_said sent l ⊎ IsHarmless l.body
    service_messages l s = go (messages _ s.3)
      where
        go : WasSent (record { from = l.from; to = l.to; message = message.Scabbard s.0 s.1 s.2 l.body }) sent ⊎ IsHarmless l.body
            → service_said sent l ⊎ IsHarmless l.body
        go (inl x) = inl (s.0, s.1, s.2, x)
        go (inr x) = inr x

-- a bound cell forgets its open rounds, whatever its mark
pub world-restart : (past : Past) (at at2 : NodeId → Cell) (sent : List SentMessage) (acts : Definition → List Act) (batches : Definition → List Batch)
    (n : NodeId) (b : Bound) (m2 : Mark) (t2 : ℕ)
    → at n ≡ Held b → at2 n ≡ Held (record b { mark = m2; turn = t2; acts = restarted b.acts; batches = restarted b.batches }) → Others n at at2
    → InWorld past at sent acts batches → InWorld past at2 sent acts batches
world-restart past at at2 sent acts batches n b m2 t2 is new others w = record {
  law = w.law;
  ruled = w.ruled;
  since = λ k f h. each_cell (λ k z. Ever k f past → IsPast f z) at at2 n
      (Held (record b { mark = m2; turn = t2; acts = restarted b.acts; batches = restarted b.batches })) new others
      (λ x. subst (λ (z : Cell). IsPast f z) is (w.since n f x)) (λ k q x. w.since k f x) k h;
  valid = each_cell IsValidCell at at2 n (Held (record b { mark = m2; turn = t2; acts = restarted b.acts; batches = restarted b.batches })) new others
      (record {
        whole = before.whole;
        member = before.member;
        acts = sound-restarted _ _ b.acts before.acts;
        batches = sound-restarted _ _ b.batches before.batches;
        acts_room = roomy-open b.acts None before.acts_room;
        batches_room = roomy-open b.batches None before.batches_room;
      }) (λ j q. w.valid j);
  admins = λ f. groups-restart admin_groups f b.definition past (λ k. admin_presence (at k)) (λ k. admin_presence (at2 k)) (admin_said sent)
      (acts f) n b.acts (ap admin_presence is) (ap admin_presence new) (λ k q. ap admin_presence (others k q)) (w.admins f);
  services =
      λ f. groups-restart service_groups f b.definition past (λ k. service_presence (at k)) (λ k. service_presence (at2 k)) (service_said sent)
      (batches f) n b.batches (ap service_presence is) (ap service_presence new) (λ k q. ap service_presence (others k q)) (w.services f);
}
  where
    before : IsValid b.definition n b.acts b.batches
    before = subst (λ (z : Cell). IsValidCell n z) is (w.valid n)

-- a node stops
pub world-stop : (past : Past) (at at2 : NodeId → Cell) (sent : List SentMessage) (acts : Definition → List Act) (batches : Definition → List Batch)
    (n : NodeId) (k : Cell) → at n ≡ k → at2 n ≡ stopped_cell k → Others n at at2 → InWorld past at sent acts batches → InWorld past at2 sent acts batches
world-stop past at at2 sent acts batches n Empty is new others w =
    world-messages past at at2 sent sent acts batches (λ k. go k (node_cases k n)) (λ x s. inl s) w
  where
    go : (k : NodeId) → (k ≡ n) ⊎ (k ≢ n) → at2 k ≡ at k
    go k (inl q) = subst (λ (z : NodeId). at2 z ≡ at z) (sym q) (new ∙ sym is)
    go k (inr q) = others k q
world-stop past at at2 sent acts batches n (Purged old) is new others w =
    world-messages past at at2 sent sent acts batches (λ k. go k (node_cases k n)) (λ x s. inl s) w
  where
    go : (k : NodeId) → (k ≡ n) ⊎ (k ≢ n) → at2 k ≡ at k
    go k (inl q) = subst (λ (z : NodeId). at2 z ≡ at z) (sym q) (new ∙ sym is)
    go k (inr q) = others k q
world-stop past at at2 sent acts batches n (Held h) is new others w = world-restart past at at2 sent acts batches n h h.mark h.turn is new others w

-- a bound cell is purged
pub world-purge : (past : Past) (at at2 : NodeId → Cell) (sent : List SentMessage) (acts : Definition → List Act) (batches : Definition → List Batch)
    (n : NodeId) (b : Bound)
    → at n ≡ Held b → at2 n ≡ Purged b.definition.generation → Others n at at2 → InWorld past at sent acts batches → InWorld past at2 sent acts batches
world-purge past at at2 sent acts batches n b is new others w = record {
  law = w.law;
  ruled = w.ruled;
  since = λ k f h. each_cell (λ k z. Ever k f past → IsPast f z) at at2 n (Purged b.definition.generation) new others
      (λ x. passed f (subst (λ (z : Cell). IsPast f z) is (w.since n f x))) (λ k q x. w.since k f x) k h;
  valid = each_cell IsValidCell at at2 n (Purged b.definition.generation) new others tt (λ j q. w.valid j);
  admins = λ f. groups-drop admin_groups f past (λ k. admin_presence (at k)) (λ k. admin_presence (at2 k)) (admin_said sent) (acts f) n
      (ap admin_presence new) (λ k q. ap admin_presence (others k q)) (w.admins f);
  services =
      λ f. groups-drop service_groups f past (λ k. service_presence (at k)) (λ k. service_presence (at2 k)) (service_said sent) (batches f) n
      (ap service_presence new) (λ k q. ap service_presence (others k q)) (w.services f);
}
  where
    passed : (f : Definition) → (b.definition ≡ f) ⊎ (f.generation < b.definition.generation) → f.generation ≤ b.definition.generation
    passed f (inl q) = let x : b.definition.generation ≡ f.generation = ap (λ (z : Definition). z.generation) q in omega arith
    passed f (inr q) = omega arith

-- the cell is free for a definition of this generation
abbrev pub IsFree : Cell → ℕ → Type 0
IsFree Empty g = Unit {0}
IsFree (Held h) g = ⊥
IsFree (Purged old) g = old < g

pub free-is : (k : Cell) (g : ℕ) → is_free k g ≡ true → IsFree k g
free-is Empty g x = tt
free-is (Held e) g x = cc
free-is (Purged old) g x = ltb_is old g x

-- what was bound where a cell is free is of an earlier generation
pub free-past : (f : Definition) (k : Cell) (g : ℕ) → IsFree k g → IsPast f k → f.generation < g
free-past f Empty g h p = absurd p
free-past f (Purged old) g h p = omega arith
free-past f (Held k) g h p = absurd h

-- a free cell is bound
pub world-bind : (past : Past) (at at2 : NodeId → Cell) (sent : List SentMessage) (acts : Definition → List Act) (batches : Definition → List Batch)
    (n : NodeId) (d : Definition)
    → IsFree (at n) d.generation → broken d ≡ None → has_node d.members n ≡ true → at2 n ≡ Held (fresh d) → Others n at at2
    → InWorld past at sent acts batches → InWorld ((n, d) ∷ past) at2 sent acts batches
world-bind past at at2 sent acts batches n d free whole member new others w = record {
  law = law;
  ruled = ruled;
  since = λ k f h. each_cell (λ k z. Ever k f ((n, d) ∷ past) → IsPast f z) at at2 n (Held (fresh d)) new others (λ x. mine f x) (λ k q x. theirs k f x q) k h;
  valid = each_cell IsValidCell at at2 n (Held (fresh d)) new others
      (record {
        whole = whole;
        member = member;
        acts = sound-new_member _ _;
        batches = sound-new_member _ _;
        acts_room = roomy-new_member;
        batches_room = roomy-new_member;
      }) (λ j q. w.valid j);
  admins = λ f. groups-fresh admin_groups f d past (λ k. admin_presence (at k)) (λ k. admin_presence (at2 k)) (admin_said sent) (acts f) n higher
      (placed-admin d n whole member) (ap admin_presence new) (λ k q. ap admin_presence (others k q)) (w.admins f);
  services =
      λ f. groups-fresh service_groups f d past (λ k. service_presence (at k)) (λ k. service_presence (at2 k)) (service_said sent) (batches f) n higher
      (placed-service d n whole member) (ap service_presence new) (λ k q. ap service_presence (others k q)) (w.services f);
}
  where
    lower : (f : Definition) → Ever n f past → f.generation < d.generation
    lower f h = free-past f (at n) d.generation free (w.since n f h)

    higher : (f : Definition) → Ever n f past → f.generation ≢ d.generation
    higher f h e = let x : f.generation < d.generation = lower f h in omega arith

    ruled : (k : NodeId) (e : Definition) → Ever k e ((n, d) ∷ past) → broken e ≡ None
    ruled k e (inl x) = subst (λ (z : Definition). broken z ≡ None) (sym x.1) whole
    ruled k e (inr x) = w.ruled k e x

    law : IsOne ((n, d) ∷ past)
    law k e f (inl x) (inl y) g = x.1 ∙ sym y.1
    law k e f (inl x) (inr y) g = absurd (higher f (subst (λ (z : NodeId). Ever z f past) x.0 y) (sym g ∙ ap (λ (z : Definition). z.generation) x.1))
    law k e f (inr x) (inl y) g = absurd (higher e (subst (λ (z : NodeId). Ever z e past) y.0 x) (g ∙ ap (λ (z : Definition). z.generation) y.1))
    law k e f (inr x) (inr y) g = w.law k e f x y g

    mine : (f : Definition) → Ever n f ((n, d) ∷ past) → (d ≡ f) ⊎ (f.generation < d.generation)
    mine f (inl x) = inl (sym x.1)
    mine f (inr x) = inr (lower f x)

    theirs : (k : NodeId) (f : Definition) → Ever k f ((n, d) ∷ past) → k ≢ n → IsPast f (at k)
    theirs k f (inl x) q = absurd (q x.0)
    theirs k f (inr x) q = w.since k f x

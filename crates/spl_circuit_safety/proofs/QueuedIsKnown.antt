-- What an event is answered to have queued is what it brought, and the cell then knows it.
use Rattle.std.{specs.Prelude.{Option, Some, None, slice_get, ◌==◌, is_some}, proofs.Common.{◌≡◌, ℕ, ◌-◌, true, false, [], ◌∷◌, ◌++◌, refl, sym, ap, subst}}
use Rattle.std.proofs.Common.{inl, inr}
use Rattle.spl_agree.specs.{Member.{Member, new_member, known}, Rows.row, declared.{message.CommitMsg.CommitMsg, plan.GroupPlan.GroupPlan}}
use Rattle.spl_agree.proofs.Tests.{if_holds, eqb_same}
use Rattle.spl_agree.specs.declared.event.GroupEvent.TheVariants as group
use Rattle.spl_agree.specs.declared.event.GroupChange.TheVariants as change
use Rattle.spl_agree.specs.declared.event.OpenMove.TheVariants as move
use Rattle.spl_agree.specs.declared.message.CommitMsg.TheVariants as msg
use Rattle.spl_circuit.specs.{Nodes.{NodeId, CircuitId, ServiceId, position}, Equality.same_act_key, Acts.act_rules, Same.node_same, declared.act.Act.Act}
use Rattle.spl_circuit.specs.declared.{act.ActKind.ActKind, definition.Definition.Definition}
use Rattle.spl_command.specs.declared.batch.Batch.{Batch}
use Rattle.spl_scabbard.specs.Checks.{batch_rules}
use Rattle.spl_wire.specs.declared.{answer.{Answer.Answer, Refusal.Refusal}, event.Event.Event, message.Message.Message, plan.Plan.Plan}
use Rattle.spl_wire.specs.declared.message.Message.TheVariants as message
use Rattle.spl_wire.specs.declared.change.Change.TheVariants as durable
use Rattle.spl_wire.specs.declared.event.Event.TheVariants as event
use Rattle.spl_wire.specs.declared.answer.Answer.TheVariants as answer
use Rattle.spl_wire.specs.declared.answer.Refusal.TheVariants as refusal
use Rattle.spl_cell_rules.specs.Cells.{Cell, Held, Deed, Refuses, Tells, Binds, Acts, Serves, Turns, Abandons, Purges, admin_group, service_group, own_life}
use Rattle.spl_cell_rules.specs.{Cells.{next_act, proposal, Bound, Site, Submitted, Delivered, Alone, Say, said, site_at}, Events.{next_kind, does}}
use Rattle.spl_cell_rules.specs.{Plans.{tells_only, planned, plan_of, group_plan, admin_lane, service_lane}, Changes.{changes_made, made_one, moved_cell}}
use Rattle.spl_cell_rules.{specs.Changes.after_plan, proofs.Does.{is_queued, Does, Refused, Told, Declined, Returned, Unserved, Proposed, Asked, Handed}}
use Rattle.spl_cell_rules.proofs.Does.{Acted, Taken, Heard, Served, GoesOn, BothGoOn, Left, Forgot, does-is}
use Rattle.spl_sched.specs.{Grammar.step_node, declared.line.Step.Step}
use Rattle.spl_sched.specs.declared.line.Step.TheVariants as step
use Rattle.spl_circuit_world.{specs.Worlds.{World, messages, delivery_plan, plan_up, step_plan}, proofs.Puts.put_at-same}
use Rattle.spl_circuit_safety.specs.Agreement.{Value, OfActs, OfBatches, knows_value, handed_on, handed_over, next_of, brought_to, brought, IsQueued}
use Rattle.spl_circuit_safety.{specs.Agreement.KnowsQueued, proofs.{CoupledDeeds.made-bind, KnownStays.{known-in, found-last}, NotedQueued.{handed, IsNoted}}}
use Rattle.spl_circuit_safety.proofs.NotedQueued.{noted-message}

-- the value that was brought is known after the plan
pub record IsKnown (n : NodeId) (k : Cell) (brings : Option Value) (p : Plan) : Type 0 where
  pub value : Value
  pub is : brings ≡ Some value
  pub there : knows_value value (after_plan n k p) ≡ true

-- ---- what is pending is known

-- an act has its own key
pub act-key : (v : Act) → same_act_key v v ≡ true
act-key v = rw (node_same v.node, eqb_same v.turn)

act-known : (d : Definition) (a : Member Act) (v : Act) → is_some (known (act_rules d) (record a { pending = a.pending ++ v ∷ [] }) v) ≡ true
act-known d a v = known-in (act_rules d) v (record a { pending = a.pending ++ v ∷ [] }) (inr (inl (found-last (same_act_key v) v a.pending (act-key v))))

batch-known : (b : Member Batch) (v : Batch) → is_some (known batch_rules (record b { pending = b.pending ++ v ∷ [] }) v) ≡ true
batch-known b v =
    known-in batch_rules v (record b { pending = b.pending ++ v ∷ [] }) (inr (inl (found-last (batch_rules.same_key v) v b.pending (eqb_same v.id))))

-- which value of a group is handed on is the one that the message hands on
act-handed : (c : CircuitId) (x : CommitMsg Act) (v : Act) → handed x ≡ Some v → handed_on (message.Admin c x) ≡ Some (OfActs v)
act-handed c (msg.Forward gen u) v h = cc
act-handed c _ v h = cc

batch-handed : (c : CircuitId) (s t : ServiceId) (x : CommitMsg Batch) (v : Batch) → handed x ≡ Some v
    → handed_on (message.Scabbard c s t x) ≡ Some (OfBatches v)
batch-handed c s t (msg.Forward gen u) v h = cc
batch-handed c s t _ v h = cc

-- an answer that isn't that a value is queued
not_queued : (a : Answer) → is_queued a ≡ false → IsQueued a → ⊥
not_queued a h (inl q) = let x : true ≡ false = subst (λ (z : Answer). is_queued z ≡ false) q h in cc
not_queued a h (inr q) = let x : true ≡ false = subst (λ (z : Answer). is_queued z ≡ false) q h in cc

module _ (site : Site) where
  -- a deed at a cell to which this value is brought, if any is
  record Knows (k : Cell) (o : Option Value) (deed : Deed) : Type 0 where
    known : IsQueued (planned site deed).answer → IsKnown site.here k o (planned site deed)

  none : (k : Cell) (o : Option Value) (deed : Deed) → is_queued (planned site deed).answer ≡ false → Knows k o deed
  none k o deed h = record { known = λ q. absurd (not_queued _ h q) }

  -- ---- the groups

  -- a cell is bound, and what its admin group is handed is pending
  known-binds : (k : Cell) (o : Option Value) (say : Say) (d : Definition) (back : NodeId) (v : Act) → o ≡ Some (OfActs v)
      → Knows k o (Binds say d back (group.Submit v))
  known-binds k o say d back v e = record {
    known = if_holds (λ (p : GroupPlan Act). IsQueued (said say p.note)
        → IsKnown site.here k o (group_plan (admin_lane site d) say (durable.Bind d ∷ []) back p))
        (position d.members site.here == (admin_group d).coordinator) _ _
        (λ q z. record { value = OfActs v; is = e; there = bound })
        (λ q z. record { value = OfActs v; is = e; there = bound });
  }
    where
      bound : knows_value (OfActs v)
          (moved_cell site.here (changes_made site.here k (durable.Bind d ∷ durable.Admin (change.Queue v) ∷ [])) move.Keep move.Keep) ≡ true
      bound = subst (λ (z : Cell). knows_value (OfActs v)
          (moved_cell site.here (made_one site.here z (durable.Admin (change.Queue v))) move.Keep move.Keep) ≡ true) (sym (made-bind site.here k d))
          (act-known d new_member v)

  -- a request binds it, and queues nothing
  known-asked : (k : Cell) (o : Option Value) (d : Definition) (back : NodeId) (i gen r place : ℕ) (v : Act)
      → Knows k o (Binds Delivered d back (group.From i (msg.VoteRequest gen r place v)))
  known-asked k o d back i gen r place v = record { known = queued }
    where
      x : CommitMsg Act
      x = msg.VoteRequest gen r place v

      no : IsNoted (handed x) (row (admin_group d) (position d.members site.here) new_member (group.From i x)) → ⊥
      no z = let h : None ≡ Some z.value = z.is in cc

      queued : IsQueued (answer.Delivered (row (admin_group d) (position d.members site.here) new_member (group.From i x)).note)
          → IsKnown site.here k o (planned site (Binds Delivered d back (group.From i x)))
      queued (inl q) = cc
      queued (inr q) = absurd (no (noted-message (admin_group d) (position d.members site.here) new_member i x cc))

  -- an act of the node, or a batch
  known-act : (b : Bound) (o : Option Value) (v : Act) → o ≡ Some (OfActs v) → Knows (Held b) o (Acts Submitted b site.here (group.Submit v))
  known-act b o v e = record {
    known = if_holds (λ (p : GroupPlan Act). IsQueued (said Submitted p.note)
        → IsKnown site.here (Held b) o (group_plan (admin_lane site b.definition) Submitted [] site.here p))
        (position b.definition.members site.here == (admin_group b.definition).coordinator) _ _
        (λ q z. record { value = OfActs v; is = e; there = act-known b.definition b.acts v })
        (λ q z. record { value = OfActs v; is = e; there = act-known b.definition b.acts v });
  }

  known-batch : (b : Bound) (o : Option Value) (v : Batch) → o ≡ Some (OfBatches v) → Knows (Held b) o (Serves Submitted b site.here (group.Submit v))
  known-batch b o v e = record {
    known = if_holds (λ (p : GroupPlan Batch). IsQueued (said Submitted p.note)
        → IsKnown site.here (Held b) o (group_plan (service_lane site b.definition) Submitted [] site.here p))
        (position b.definition.members site.here == (service_group b.definition).coordinator) _ _
        (λ q z. record { value = OfBatches v; is = e; there = batch-known b.batches v })
        (λ q z. record { value = OfBatches v; is = e; there = batch-known b.batches v });
  }

  -- a message of a group
  known-heard : (b : Bound) (c2 : CircuitId) (back : NodeId) (i : ℕ) (x : CommitMsg Act)
      → Knows (Held b) (handed_on (message.Admin c2 x)) (Acts Delivered b back (group.From i x))
  known-heard b c2 back i x = record { known = queued }
    where
      p : GroupPlan Act
      p = row (admin_group b.definition) (position b.definition.members site.here) b.acts (group.From i x)

      found_it : IsNoted (handed x) p
          → IsKnown site.here (Held b) (handed_on (message.Admin c2 x)) (group_plan (admin_lane site b.definition) Delivered [] back p)
      found_it z = record {
        value = OfActs z.value;
        is = act-handed c2 x z.value z.is;
        there = subst (λ (y : GroupPlan Act). knows_value (OfActs z.value)
            (after_plan site.here (Held b) (group_plan (admin_lane site b.definition) Delivered [] back y)) ≡ true) (sym z.plan)
            (act-known b.definition b.acts z.value);
      }

      queued : IsQueued (answer.Delivered p.note)
          → IsKnown site.here (Held b) (handed_on (message.Admin c2 x)) (group_plan (admin_lane site b.definition) Delivered [] back p)
      queued (inl q) = cc
      queued (inr q) = found_it (noted-message (admin_group b.definition) (position b.definition.members site.here) b.acts i x cc)

  known-served : (b : Bound) (c2 : CircuitId) (s u : ServiceId) (back : NodeId) (i : ℕ) (x : CommitMsg Batch)
      → Knows (Held b) (handed_on (message.Scabbard c2 s u x)) (Serves Delivered b back (group.From i x))
  known-served b c2 s u back i x = record { known = queued }
    where
      p : GroupPlan Batch
      p = row (service_group b.definition) (position b.definition.members site.here) b.batches (group.From i x)

      found_it : IsNoted (handed x) p
          → IsKnown site.here (Held b) (handed_on (message.Scabbard c2 s u x)) (group_plan (service_lane site b.definition) Delivered [] back p)
      found_it z = record {
        value = OfBatches z.value;
        is = batch-handed c2 s u x z.value z.is;
        there = subst (λ (y : GroupPlan Batch). knows_value (OfBatches z.value)
            (after_plan site.here (Held b) (group_plan (service_lane site b.definition) Delivered [] back y)) ≡ true) (sym z.plan)
            (batch-known b.batches z.value);
      }

      queued : IsQueued (answer.Delivered p.note)
          → IsKnown site.here (Held b) (handed_on (message.Scabbard c2 s u x)) (group_plan (service_lane site b.definition) Delivered [] back p)
      queued (inl q) = cc
      queued (inr q) = found_it (noted-message (service_group b.definition) (position b.definition.members site.here) b.batches i x cc)

  -- ---- what an event does

  next-brought : (h : Bound) (e : Event) (w : ActKind) → next_kind (own_life h) e ≡ Some w
      → brought_to site.here (Held h) e ≡ Some (OfActs (next_act site.here h.turn w))
  next-brought h (event.Propose d) w is = cc
  next-brought h (event.Submit v) w is = cc
  next-brought h (event.Deliver from m) w is = cc
  next-brought h _ w is = ap (next_of site.here h.turn) is

  known-of : (k : Cell) (e : Event) (deed : Deed) → Does site k e deed → Knows k (brought_to site.here k e) deed
  known-of k e deed (Refused why) = none k _ (Refuses why) refl
  known-of k e deed (Told a q) = none k _ (Tells a) q
  known-of k e deed (Declined from i gen r place v) = none k _ _ refl
  known-of k e deed (Returned from i gen v d is) = none k _ _ refl
  known-of k e deed (Unserved from i s t gen r place v) = none k _ _ refl
  known-of k e deed (Proposed d b) = known-binds k _ Submitted d site.here (proposal site.here d) refl
  known-of k e deed (Asked d from i gen r place v is b leads) = known-asked k _ d from (position d.members from) gen r place v
  known-of k e deed (Handed d from i gen v is b leads its) = known-binds k _ Delivered d from v refl
  known-of k e deed (Acted h f w next kept unclosed pending some) = known-act h _ (next_act site.here h.turn w) (next-brought h f w next)
  known-of k e deed (Taken h v unclosed active good unknown room) = known-batch h _ v refl
  known-of k e deed (Heard h from i x unclosed same) = known-heard h i from (position h.definition.members from) x
  known-of k e deed (Served h from i s t x unclosed active same) = known-served h i s t from (position h.definition.members from) x
  known-of k e deed (GoesOn h x unclosed p) = none (Held h) _ (Acts Alone h site.here x) refl
  known-of k e deed (BothGoOn h x y unclosed active p q) = none (Held h) _ (Turns h x y) refl
  known-of k e deed (Left h unclosed active) = none (Held h) _ Abandons refl
  known-of k e deed (Forgot h) = none (Held h) _ Purges refl

  known-plan : (k : Cell) (e : Event) → IsQueued (plan_of site k e).answer → IsKnown site.here k (brought_to site.here k e) (plan_of site k e)
  known-plan k e q = (known-of k e (does site k e) (does-is site k e)).known q

-- ---- steps

abbrev KnowsPlan : NodeId → Cell → Option Value → Plan → Type 0
KnowsPlan n k o p = IsQueued p.answer → IsKnown n k o p

-- nothing is queued by a refusal
known-refusal : (n : NodeId) (k : Cell) (o : Option Value) (why : Refusal) → KnowsPlan n k o (tells_only (answer.Refused why))
known-refusal n k o why q = absurd (not_queued _ refl q)

known-delivery : (c : CircuitId) (w : World) (from to : NodeId) (o : Option Message) → KnowsPlan to (w.at to) (handed_over o) (delivery_plan c w from to o)
known-delivery c w from to None = known-refusal to (w.at to) None refusal.NoMessage
known-delivery c w from to (Some m) = known-plan (site_at to c) (w.at to) (event.Deliver from m)

known-up : (w : World) (s : Step) → KnowsPlan (step_node s) (w.at (step_node s)) (brought w s) (plan_up w s)
known-up w (step.At n c e) = known-plan (site_at n c) (w.at n) e
known-up w (step.Deliver from to c k) = known-delivery c w from to (slice_get (messages w from to) (k - 1))

known-step : (w : World) (s : Step) → KnowsPlan (step_node s) (w.at (step_node s)) (brought w s) (step_plan w s)
known-step w s =
    if_holds (KnowsPlan (step_node s) (w.at (step_node s)) (brought w s)) (w.up (step_node s)) _ _ (λ q. known-up w s)
    (λ q. known-refusal (step_node s) (w.at (step_node s)) (brought w s) refusal.Down)

-- what a step is answered to have queued
pub knows-queued : (w : World) (s : Step) → KnowsQueued w s
knows-queued w s q =
    let k : IsKnown (step_node s) (w.at (step_node s)) (brought w s) (step_plan w s) = known-step w s q in (
      k.value,
      k.is,
      subst (λ (x : Cell). knows_value k.value x ≡ true)
          (sym (put_at-same w.at (step_node s) (after_plan (step_node s) (w.at (step_node s)) (step_plan w s)))) k.there,
    )

-- Worlds in which all that touches a circuit is among some nodes, and what happens among them.
use Rattle.std.{specs.{Prelude.{Option, Some, None, if◌then◌else◌, slice_get}, List.list_all, Str.bytes_eq}, proofs.Common.{◌≡◌, ◌≢◌, ℕ, zero, suc, ◌-◌, ◌⊎◌}}
use Rattle.std.proofs.Common.{Bool, true, false, ◌&&◌, List, [], ◌∷◌, ◌++◌, refl, sym, subst, inl, inr}
use Rattle.spl_agree.proofs.Tests.{if_holds, bool_cases, and_left, and_right}
use Rattle.spl_circuit.specs.{Nodes.{NodeId, CircuitId, has_node}, Same.node_is}
use Rattle.spl_wire.specs.declared.{event.Event.Event, message.Message.Message, plan.{Outgoing.Outgoing, Plan.Plan}}
use Rattle.spl_wire.specs.declared.event.Event.TheVariants as event
use Rattle.spl_sched.specs.{Grammar.step_node, declared.line.Step.Step}
use Rattle.spl_sched.specs.declared.line.Step.TheVariants as step
use Rattle.spl_cell_rules.specs.{Changes.{changes_made, stopped_cell, after_plan}, Cells.site_at}
use Rattle.spl_circuit_world.specs.Worlds.{SentMessage, Origin, World, first_world, put_at, on_pair, messages, posted_outgoing, delivery_plan, step_plan}
use Rattle.spl_circuit_world.specs.Worlds.{circuit_carried_out, step_world, node_stopped, started, halted, Occurrence, Steps, Stops, Starts, Halts}
use Rattle.spl_circuit_world.specs.{Worlds.{circuit_happens, occur}, Projection.{proposed_members, step_concerns, IsPlainEvent, IsPlainStep}}
use Rattle.spl_circuit_world.proofs.{Nodes.node_cases, Puts.{put_at-same, put_at-other}, Within.{are_within, is_message_within, IsCellWithin, within-made}}
use Rattle.spl_circuit_world.proofs.Within.{within-stopped, within-after, AllGo, is_outgoing_within, IsPlanWithin, IsDueWithin, within-plan}

-- something holds at each node, where it holds of what is put at one
pub put_at-each : {A : Type 0} (P : NodeId → A → Type 0) (f : NodeId → A) (n : NodeId) (x : A) → P n x → ((j : NodeId) → P j (f j)) → (j : NodeId)
    → P j (put_at f n x j)
put_at-each {A} P f n x h k j = go (node_cases j n)
  where
    go : (j ≡ n) ⊎ (j ≢ n) → P j (put_at f n x j)
    go (inl q) = subst (λ (z : NodeId). P z (put_at f n x z)) (sym q) (subst (λ (y : A). P n y) (sym (put_at-same f n x)) h)
    go (inr q) = subst (λ (y : A). P j y) (sym (put_at-other f n x j q)) (k j)

module _ (ns : List NodeId) where
  -- a message that was sent is among the nodes
  abbrev pub is_sent_within : SentMessage → Bool
  is_sent_within s = has_node ns s.from && (has_node ns s.to && is_message_within ns s.message)

  abbrev pub AllSent : List SentMessage → Type 0
  AllSent ss = list_all is_sent_within ss ≡ true

  -- all that a world has of the circuit is among the nodes
  pub record IsConfined (w : World) : Type 0 where
    pub cells : (n : NodeId) → IsCellWithin ns n (w.at n)
    pub sent : AllSent w.sent

  pub confined-first : (o : Origin) (c : CircuitId) → ((n : NodeId) → IsCellWithin ns n (o.kept c n)) → IsConfined (first_world o c)
  confined-first o c h = record { cells = h; sent = refl }

  all-sent : (xs ys : List SentMessage) → AllSent xs → AllSent ys → AllSent (xs ++ ys)
  all-sent [] ys h k = k
  all-sent (x ∷ xs) ys h k =
      rw (and_left (is_sent_within x) (list_all is_sent_within xs) h) (all-sent xs ys (and_right (is_sent_within x) (list_all is_sent_within xs) h) k)

  posted-within : (all : List NodeId) (n : NodeId) (os : List Outgoing) → has_node ns n ≡ true → AllGo ns os → AllSent (posted_outgoing all n os)
  posted-within all n [] h k = refl
  posted-within all n (o ∷ os) h k = go (posted-within all n os h (and_right (is_outgoing_within ns o) (list_all (is_outgoing_within ns) os) k))
    where
      first : is_outgoing_within ns o ≡ true
      first = and_left (is_outgoing_within ns o) (list_all (is_outgoing_within ns) os) k

      to : has_node ns o.to ≡ true
      to = and_left (has_node ns o.to) (is_message_within ns o.message) first

      body : is_message_within ns o.message ≡ true
      body = and_right (has_node ns o.to) (is_message_within ns o.message) first

      go : AllSent (posted_outgoing all n os) → AllSent (posted_outgoing all n (o ∷ os))
      go rest = if_holds AllSent (has_node all o.to) _ _ (λ q. rw (h, to, body) rest) (λ q. rest)

  pub confined-carried : (w : World) (n : NodeId) (p : Plan) → has_node ns n ≡ true → IsPlanWithin ns p → IsConfined w → IsConfined (circuit_carried_out w n p)
  confined-carried w n p h k c = record {
    cells = put_at-each (IsCellWithin ns) w.at n (after_plan n (w.at n) p) (within-after ns n (w.at n) p h k (c.cells n)) c.cells;
    sent = all-sent w.sent (posted_outgoing w.nodes n p.sends) c.sent (posted-within w.nodes n p.sends h k.sends);
  }

  -- what is on a pair comes from one of the nodes
  pair-within : (from to : NodeId) (ss : List SentMessage) (k : ℕ) (m : Message) → AllSent ss → slice_get (on_pair from to ss) k ≡ Some m
      → (has_node ns from ≡ true) × (is_message_within ns m ≡ true)
  pair-within from to [] k m h e = cc
  pair-within from to (s ∷ ss) k m h e = go (bool_cases (bytes_eq s.from from && bytes_eq s.to to)) (λ j x. pair-within from to ss j m rest x)
    where
      first : is_sent_within s ≡ true
      first = and_left (is_sent_within s) (list_all is_sent_within ss) h

      rest : AllSent ss
      rest = and_right (is_sent_within s) (list_all is_sent_within ss) h

      some_same : (x y : Message) → Some x ≡ Some y → x ≡ y
      some_same x y q = cc

      here : (j : ℕ) → s.from ≡ from → ((i : ℕ) → slice_get (on_pair from to ss) i ≡ Some m → (has_node ns from ≡ true) × (is_message_within ns m ≡ true))
          → slice_get (s.message ∷ on_pair from to ss) j ≡ Some m → (has_node ns from ≡ true) × (is_message_within ns m ≡ true)
      here zero q hyp x = (
        subst (λ (z : NodeId). has_node ns z ≡ true) q (and_left (has_node ns s.from) _ first),
        subst (λ (z : Message). is_message_within ns z ≡ true) (some_same s.message m x)
            (and_right (has_node ns s.to) _ (and_right (has_node ns s.from) _ first)),
      )
      here (suc j) q hyp x = hyp j x

      go : ((bytes_eq s.from from && bytes_eq s.to to) ≡ true) ⊎ ((bytes_eq s.from from && bytes_eq s.to to) ≡ false)
          → ((i : ℕ) → slice_get (on_pair from to ss) i ≡ Some m → (has_node ns from ≡ true) × (is_message_within ns m ≡ true))
          → (has_node ns from ≡ true) × (is_message_within ns m ≡ true)
      go (inl q) hyp = here k (node_is s.from from (and_left (bytes_eq s.from from) (bytes_eq s.to to) q)) hyp (rw q at e)
      go (inr q) hyp = hyp k (rw q at e)

  -- to another node nothing was sent
  pair-none : (from to : NodeId) (ss : List SentMessage) → AllSent ss → has_node ns to ≡ false → on_pair from to ss ≡ []
  pair-none from to [] h k = refl
  pair-none from to (s ∷ ss) h k =
      go (bool_cases (bytes_eq s.from from && bytes_eq s.to to)) (pair-none from to ss (and_right (is_sent_within s) (list_all is_sent_within ss) h) k)
    where
      there : has_node ns s.to ≡ true
      there = and_left (has_node ns s.to) _ (and_right (has_node ns s.from) _ (and_left (is_sent_within s) (list_all is_sent_within ss) h))

      not_there : s.to ≡ to → ⊥
      not_there e = let q : has_node ns to ≡ true = subst (λ (z : NodeId). has_node ns z ≡ true) e there in cc

      go : ((bytes_eq s.from from && bytes_eq s.to to) ≡ true) ⊎ ((bytes_eq s.from from && bytes_eq s.to to) ≡ false) → on_pair from to ss ≡ []
          → on_pair from to (s ∷ ss) ≡ []
      go (inl q) hyp = absurd (not_there (node_is s.to to (and_right (bytes_eq s.from from) (bytes_eq s.to to) q)))
      go (inr q) hyp = rw q hyp

  pub messages-none : (w : World) (from to : NodeId) → IsConfined w → has_node ns to ≡ false → messages w from to ≡ []
  messages-none w from to c k = if_holds (λ ms. ms ≡ []) (bytes_eq from to) _ _ (λ q. refl) (λ q. pair-none from to w.sent c.sent k)

  -- ---- steps

  -- the step takes place at one of the nodes, and proposes no other
  abbrev pub IsStepWithin : Step → Type 0
  IsStepWithin s = are_within ns (step_concerns s) ≡ true

  pub step-here : (s : Step) → IsStepWithin s → has_node ns (step_node s) ≡ true
  step-here (step.At n c e) h = and_left (has_node ns n) (are_within ns (proposed_members e)) h
  step-here (step.Deliver from to c k) h = and_left (has_node ns to) true h

  event-due : (e : Event) → IsPlainEvent e → are_within ns (proposed_members e) ≡ true → IsDueWithin ns e
  event-due (event.Propose d) p h = h
  event-due (event.Deliver from x) p h = absurd p
  event-due _ p h = tt

  delivery-within : (c : CircuitId) (w : World) (from to : NodeId) (k : ℕ) (o : Option Message) → has_node ns to ≡ true → IsConfined w
      → slice_get (messages w from to) k ≡ o → IsPlanWithin ns (delivery_plan c w from to o)
  delivery-within c w from to k None h i e = record { changes = refl; sends = refl }
  delivery-within c w from to k (Some m) h i e =
      within-plan ns (site_at to c) (w.at to) (event.Deliver from m) h (go (bool_cases (bytes_eq from to))) (i.cells to)
    where
      none_there : (xs : List Message) (j : ℕ) → xs ≡ [] → slice_get xs j ≡ Some m → ⊥
      none_there [] j q x = cc
      none_there (y ∷ ys) j q x = cc

      empty : bytes_eq from to ≡ true → messages w from to ≡ []
      empty q = rw q

      go : (bytes_eq from to ≡ true) ⊎ (bytes_eq from to ≡ false) → (has_node ns from ≡ true) × (is_message_within ns m ≡ true)
      go (inl q) = absurd (none_there (messages w from to) k (empty q) e)
      go (inr q) = pair-within from to w.sent k m i.sent (rw q at e)

  pub step-within : (w : World) (s : Step) → IsPlainStep s → IsStepWithin s → IsConfined w → IsPlanWithin ns (step_plan w s)
  step-within w (step.At n c e) p h i = if_holds (IsPlanWithin ns) (w.up n) _ _
      (λ q. within-plan ns (site_at n c) (w.at n) e (step-here (step.At n c e) h)
      (event-due e p (and_right (has_node ns n) (are_within ns (proposed_members e)) h)) (i.cells n))
      (λ q. record { changes = refl; sends = refl })
  step-within w (step.Deliver from to c k) p h i = if_holds (IsPlanWithin ns) (w.up to) _ _
      (λ q. delivery-within c w from to (k - 1) (slice_get (messages w from to) (k - 1)) (step-here (step.Deliver from to c k) h) i refl)
      (λ q. record { changes = refl; sends = refl })

  pub confined-step : (w : World) (s : Step) → IsPlainStep s → IsStepWithin s → IsConfined w → IsConfined (step_world w s)
  confined-step w s p h i = confined-carried w (step_node s) (step_plan w s) (step-here s h) (step-within w s p h i) i

  -- ---- what may happen

  -- a step is among the nodes; a stop or a start may be of any node
  abbrev pub IsWithin : Occurrence → Type 0
  IsWithin (Steps s) = IsPlainStep s × IsStepWithin s
  IsWithin (Stops n) = Unit {0}
  IsWithin (Starts n) = Unit {0}
  IsWithin (Halts kept s) = IsPlainStep s × IsStepWithin s

  confined-stopped : (w : World) (n : NodeId) → IsConfined w → IsConfined (node_stopped w n)
  confined-stopped w n i =
      record { cells = put_at-each (IsCellWithin ns) w.at n (stopped_cell (w.at n)) (within-stopped ns n (w.at n) (i.cells n)) i.cells; sent = i.sent }

  confined-halted : (w : World) (n : NodeId) (kept : Bool) (p : Plan) → has_node ns n ≡ true → IsPlanWithin ns p → IsConfined w → IsConfined (halted w n kept p)
  confined-halted w n kept p h k i = record {
    cells = put_at-each (IsCellWithin ns) w.at n (stopped_cell (if kept then changes_made n (w.at n) p.changes else w.at n))
        (within-stopped ns n (if kept then changes_made n (w.at n) p.changes else w.at n)
        (if_holds (IsCellWithin ns n) kept (changes_made n (w.at n) p.changes) (w.at n)
        (λ q. within-made ns n (w.at n) p.changes h k.changes (i.cells n)) (λ q. i.cells n))) i.cells;
    sent = i.sent;
  }

  pub confined-happens : (w : World) (e : Occurrence) → IsWithin e → IsConfined w → IsConfined (circuit_happens w e)
  confined-happens w (Steps s) h i = confined-step w s h.0 h.1 i
  confined-happens w (Stops n) h i = if_holds IsConfined (w.up n) (node_stopped w n) w (λ q. confined-stopped w n i) (λ q. i)
  confined-happens w (Starts n) h i = if_holds IsConfined (w.up n) w (started w n) (λ q. i) (λ q. record { cells = i.cells; sent = i.sent })
  confined-happens w (Halts kept s) h i = if_holds IsConfined (w.up (step_node s)) (halted w (step_node s) kept (step_plan w s)) w
      (λ q. confined-halted w (step_node s) kept (step_plan w s) (step-here s h.1) (step-within w s h.0 h.1 i) i) (λ q. i)

  abbrev pub AllWithin : List Occurrence → Type 0
  AllWithin [] = Unit {0}
  AllWithin (e ∷ es) = IsWithin e × AllWithin es

  pub confined-run : (w : World) (es : List Occurrence) → AllWithin es → IsConfined w → IsConfined (occur w es)
  confined-run w [] h i = i
  confined-run w (e ∷ es) h i = confined-run (circuit_happens w e) es h.1 (confined-happens w e h.0 i)

  pub within-append : (xs ys : List Occurrence) → AllWithin xs → AllWithin ys → AllWithin (xs ++ ys)
  within-append [] ys h k = k
  within-append (x ∷ xs) ys h k = (h.0, within-append xs ys h.1 k)

-- In every run, few acts of one node are pending at the coordinator.
use Rattle.std.{specs.{Prelude.{if◌then◌else◌, not}, Str.bytes_eq}, proofs.Common.{◌≡◌, ◌≢◌, ℕ, ◌⊎◌, Bool, true, false, ◌&&◌, List, [], ◌∷◌, ◌++◌, refl, sym}}
use Rattle.std.proofs.Common.{ap, subst, ◌∙◌, inl, inr}
use Rattle.spl_agree.{specs.{Member.{Group, Member, moved}, declared.event.OpenMove.OpenMove}, proofs.Tests.{and_left, and_right, not_true}}
use Rattle.spl_agree.specs.declared.event.OpenMove.TheVariants as move
use Rattle.spl_circuit.specs.{Nodes.{NodeId, position}, Rules.admin, Equality.same_act_key, Same.{node_is, key_from}, declared.act.Act.Act}
use Rattle.spl_circuit.specs.declared.definition.Definition.{Definition}
use Rattle.spl_command.specs.declared.batch.Batch.{Batch}
use Rattle.spl_wire.specs.declared.plan.Plan.{Plan}
use Rattle.spl_cell_rules.specs.{Cells.{Cell, Empty, Held}, Changes.{changes_made, moved_cell, stopped_cell, after_plan}}
use Rattle.spl_sched.specs.Grammar.{step_node}
use Rattle.spl_circuit_world.specs.Worlds.{SentMessage, World, Occurrence, Steps, Stops, Starts, Halts, put_at, posted_outgoing, step_plan, node_stopped}
use Rattle.spl_circuit_world.specs.{Worlds.{started, halted, circuit_happens, occur, empty_world, world_after}, Projection.{AllPlain, IsPlain}}
use Rattle.spl_circuit_world.proofs.{Nodes.node_cases, Puts.put_at-same}
use Rattle.spl_circuit_safety.{specs.Agreement.{AtEach, AreFew, is_proposal, is_proposal_of, is_other_act_of}, proofs.GroupOfDefinition.{GroupMessage, Ever}}
use Rattle.spl_circuit_safety.proofs.{GroupOfDefinition.group_of, GroupWorlds.{InWorld, Others, WasSent, admin_groups, admin_said, was-split, was-left}}
use Rattle.spl_circuit_safety.proofs.{CoupledSteps.Past, CoupledDeeds.{SomePast, put-others}, Occurrences.{IsDeed, step-deed, happens-keeps, world-start}}
use Rattle.spl_circuit_safety.proofs.{PendingActLists.{Among, OtherKey, pairs-map, single-one, filter-few, key-same, both-not}, PendingActsDue.IsOther}
use Rattle.spl_circuit_safety.proofs.{PendingActsDue.Forwards, PendingActCells.{View, Sight, Sees, Nowhere, view, sight, sees_not, settled-not, IsTidy}}
use Rattle.spl_circuit_safety.proofs.{PendingActMessages.{IsFew, IsOneOf}, PendingActSteps.{sights, step-still}, PendingActDeeds.few-deed}

-- a move, and a stop, leave the acts
pub view-moved : (g : Group Act) (i : ℕ) (a : Member Act) (o : OpenMove) → view (moved g i a o) ≡ view a
view-moved g i a move.Keep = refl
view-moved g i a _ = refl

pub sight-moved : (n : NodeId) (k : Cell) (x y : OpenMove) → sight (moved_cell n k x y) ≡ sight k
sight-moved n (Held h) x y = ap (λ (w : View). Sees h.definition w) (view-moved (group_of admin_groups h.definition) (position h.definition.members n) h.acts x)
sight-moved n _ x y = refl

pub sight-stopped : (k : Cell) → sight (stopped_cell k) ≡ sight k
sight-stopped Empty = refl
sight-stopped _ = refl

-- a step that some deed gives
pub few-plan : (past past2 : Past) (w : World) (n : NodeId) (p : Plan) (at2 : NodeId → Cell) (sent2 : List SentMessage)
    (acts acts2 : Definition → List Act) (batches batches2 : Definition → List Batch)
    → IsDeed w n p → ((k : NodeId) (f : Definition) → Ever k f past → Ever k f past2) → Others n w.at at2
    → ((x : SentMessage) → WasSent x w.sent → WasSent x sent2)
    → ((x : SentMessage) → WasSent x sent2 → WasSent x w.sent ⊎ WasSent x (posted_outgoing w.nodes n p.sends))
    → sights at2 n ≡ sight (changes_made n (w.at n) p.changes)
    → InWorld past w.at w.sent acts batches → InWorld past2 at2 sent2 acts2 batches2 → IsFew past (sights w.at) (admin_said w.sent)
    → IsFew past2 (sights at2) (admin_said sent2)
few-plan past past2 w n p at2 sent2 acts acts2 batches batches2 i ever others olds messages is v u f =
    few-deed past past2 w.nodes i.2 n w.at at2 w.sent sent2 acts acts2 batches batches2 i.0 ever others olds
    (subst (λ (z : Plan). (x : SentMessage) → WasSent x sent2 → WasSent x w.sent ⊎ WasSent x (posted_outgoing w.nodes n z.sends)) i.3 messages)
    (subst (λ (z : Plan). sights at2 n ≡ sight (changes_made n (w.at n) z.changes)) i.3 is)
    i.1 i.4 v u f

-- where no acts change and nothing is sent
pub few-quiet : (past past2 : Past) (w : World) (n : NodeId) (at2 : NodeId → Cell) (acts2 : Definition → List Act) (batches2 : Definition → List Batch)
    → ((k : NodeId) (f : Definition) → Ever k f past → Ever k f past2) → Others n w.at at2 → sights at2 n ≡ sights w.at n
    → InWorld past2 at2 w.sent acts2 batches2 → IsFew past (sights w.at) (admin_said w.sent) → IsFew past2 (sights at2) (admin_said w.sent)
few-quiet past past2 w n at2 acts2 batches2 ever others same u f =
    step-still past past2 w.at at2 w.sent w.sent acts2 acts2 batches2 batches2 n ever others (λ x h. h) u f same (λ l s. inl s)

-- a stop, a start, and a stop in a step
pub few-stopped : (past past2 : Past) (w : World) (n : NodeId) (acts2 : Definition → List Act) (batches2 : Definition → List Batch)
    → ((k : NodeId) (f : Definition) → Ever k f past → Ever k f past2)
    → InWorld past2 (put_at w.at n (stopped_cell (w.at n))) w.sent acts2 batches2 → IsFew past (sights w.at) (admin_said w.sent)
    → IsFew past2 (sights (put_at w.at n (stopped_cell (w.at n)))) (admin_said w.sent)
few-stopped past past2 w n acts2 batches2 ever u f =
    few-quiet past past2 w n (put_at w.at n (stopped_cell (w.at n))) acts2 batches2 ever (put-others w.at n (stopped_cell (w.at n)))
    (ap sight (put_at-same w.at n (stopped_cell (w.at n))) ∙ sight-stopped (w.at n)) u f

pub few-stops : (past past2 : Past) (w : World) (n : NodeId) (up : Bool) (acts2 : Definition → List Act) (batches2 : Definition → List Batch)
    → ((k : NodeId) (f : Definition) → Ever k f past → Ever k f past2)
    → InWorld past2 (if up then node_stopped w n else w).at (if up then node_stopped w n else w).sent acts2 batches2
    → IsFew past (sights w.at) (admin_said w.sent)
    → IsFew past2 (sights (if up then node_stopped w n else w).at) (admin_said (if up then node_stopped w n else w).sent)
few-stops past past2 w n true acts2 batches2 ever u f = few-stopped past past2 w n acts2 batches2 ever u f
few-stops past past2 w n false acts2 batches2 ever u f = few-quiet past past2 w n w.at acts2 batches2 ever (λ k q. refl) refl u f

pub few-starts : (past past2 : Past) (w : World) (n : NodeId) (up : Bool) (acts2 : Definition → List Act) (batches2 : Definition → List Batch)
    → ((k : NodeId) (f : Definition) → Ever k f past → Ever k f past2)
    → InWorld past2 (if up then w else started w n).at (if up then w else started w n).sent acts2 batches2 → IsFew past (sights w.at) (admin_said w.sent)
    → IsFew past2 (sights (if up then w else started w n).at) (admin_said (if up then w else started w n).sent)
few-starts past past2 w n true acts2 batches2 ever u f = few-quiet past past2 w n w.at acts2 batches2 ever (λ k q. refl) refl u f
few-starts past past2 w n false acts2 batches2 ever u f = few-quiet past past2 w n w.at acts2 batches2 ever (λ k q. refl) refl u f

pub few-halts : (past past2 : Past) (w : World) (n : NodeId) (p : Plan) (kept up : Bool) (acts acts2 : Definition → List Act)
    (batches batches2 : Definition → List Batch) → IsDeed w n p → ((k : NodeId) (f : Definition) → Ever k f past → Ever k f past2)
    → InWorld past w.at w.sent acts batches
    → InWorld past2 (if up then halted w n kept p else w).at (if up then halted w n kept p else w).sent acts2 batches2
    → IsFew past (sights w.at) (admin_said w.sent)
    → IsFew past2 (sights (if up then halted w n kept p else w).at) (admin_said (if up then halted w n kept p else w).sent)
few-halts past past2 w n p kept false acts acts2 batches batches2 i ever v u f = few-quiet past past2 w n w.at acts2 batches2 ever (λ k q. refl) refl u f
few-halts past past2 w n p false true acts acts2 batches batches2 i ever v u f = few-stopped past past2 w n acts2 batches2 ever u f
few-halts past past2 w n p true true acts acts2 batches batches2 i ever v u f =
    few-plan past past2 w n p (put_at w.at n (stopped_cell (changes_made n (w.at n) p.changes))) w.sent acts acts2 batches batches2 i ever
    (put-others w.at n (stopped_cell (changes_made n (w.at n) p.changes))) (λ x h. h) (λ x h. inl h)
    (ap sight (put_at-same w.at n (stopped_cell (changes_made n (w.at n) p.changes))) ∙ sight-stopped (changes_made n (w.at n) p.changes)) v u f

pub few-steps : (past past2 : Past) (w : World) (n : NodeId) (p : Plan) (acts acts2 : Definition → List Act) (batches batches2 : Definition → List Batch)
    → IsDeed w n p → ((k : NodeId) (f : Definition) → Ever k f past → Ever k f past2)
    → InWorld past w.at w.sent acts batches
    → InWorld past2 (put_at w.at n (after_plan n (w.at n) p)) (w.sent ++ posted_outgoing w.nodes n p.sends) acts2 batches2
    → IsFew past (sights w.at) (admin_said w.sent)
    → IsFew past2 (sights (put_at w.at n (after_plan n (w.at n) p))) (admin_said (w.sent ++ posted_outgoing w.nodes n p.sends))
few-steps past past2 w n p acts acts2 batches batches2 i ever v u f =
    few-plan past past2 w n p (put_at w.at n (after_plan n (w.at n) p)) (w.sent ++ posted_outgoing w.nodes n p.sends) acts acts2 batches batches2 i ever
    (put-others w.at n (after_plan n (w.at n) p)) (λ x h. was-left x w.sent (posted_outgoing w.nodes n p.sends) h)
    (λ x h. was-split x w.sent (posted_outgoing w.nodes n p.sends) h)
    (ap sight (put_at-same w.at n (after_plan n (w.at n) p)) ∙ sight-moved n (changes_made n (w.at n) p.changes) p.admin p.service) v u f

-- there are bindings and lists with which the coupling holds, and few acts are pending
abbrev pub SomeFew : (NodeId → Cell) → List SentMessage → Type 0
SomeFew at sent =
    (past : Past) × (acts : Definition → List Act) × (batches : Definition → List Batch) × InWorld past at sent acts batches
    × IsFew past (sights at) (admin_said sent)

-- any event
pub few-happens : (w : World) (e : Occurrence) → IsPlain e → SomeFew w.at w.sent → SomeFew (circuit_happens w e).at (circuit_happens w e).sent
few-happens w (Steps s) h v =
    let u : SomePast v.0 (circuit_happens w (Steps s)).at (circuit_happens w (Steps s)).sent _ _ = happens-keeps v.0 w (Steps s) v.1 v.2 h
    (v.0, (λ k f x. x), v.3) in
    (u.0, _, _, u.2, few-steps v.0 u.0 w (step_node s) (step_plan w s) v.1 _ v.2 _ (step-deed w s h) u.1 v.3 u.2 v.4)
few-happens w (Stops n) h v =
    let u : SomePast v.0 (circuit_happens w (Stops n)).at (circuit_happens w (Stops n)).sent _ _ = happens-keeps v.0 w (Stops n) v.1 v.2 h
    (v.0, (λ k f x. x), v.3) in
    (u.0, _, _, u.2, few-stops v.0 u.0 w n (w.up n) _ _ u.1 u.2 v.4)
few-happens w (Starts n) h v =
    let u : SomePast v.0 (circuit_happens w (Starts n)).at (circuit_happens w (Starts n)).sent _ _ = happens-keeps v.0 w (Starts n) v.1 v.2 h
    (v.0, (λ k f x. x), v.3) in
    (u.0, _, _, u.2, few-starts v.0 u.0 w n (w.up n) _ _ u.1 u.2 v.4)
few-happens w (Halts kept s) h v =
    let u : SomePast v.0 (circuit_happens w (Halts kept s)).at (circuit_happens w (Halts kept s)).sent _ _ = happens-keeps v.0 w (Halts kept s) v.1 v.2 h
    (v.0, (λ k f x. x), v.3) in
    (u.0, _, _, u.2, few-halts v.0 u.0 w (step_node s) (step_plan w s) kept (w.up (step_node s)) v.1 _ v.2 _ (step-deed w s h) u.1 v.3 u.2 v.4)

-- any run
pub few-run : (w : World) (es : List Occurrence) → AllPlain es → SomeFew w.at w.sent → SomeFew (occur w es).at (occur w es).sent
few-run w [] h v = v
few-run w (e ∷ es) h v = few-run (circuit_happens w e) es h.1 (few-happens w e h.0 v)

-- at first
pub few-start : IsFew [] (λ n. Nowhere) (admin_said [])
few-start = record {
  tidy = λ n e w is. absurd (sees_not e w is);
  own = λ n k g u s. absurd s.1;
  first = λ n k g u s. absurd s.1;
  bound = λ n k g u s. absurd s.1;
  one = λ n k k2 g u v s t. absurd s.1;
  kept = λ n k g u s. absurd s.1;
  few = λ n k g u v s. absurd s.1;
  back = λ n k g u why s. absurd s.1;
}

-- at a coordinator, at most one proposal and at most one other act of each node is pending
pub are-few : (past : Past) (see : NodeId → Sight) (said : GroupMessage Act → Type 0) (n : NodeId) (d : Definition) (w : View) → IsFew past see said
    → see n ≡ Sees d w → n ≡ admin d → AreFew w.pending
are-few past see said n d w f is lead = record {
  proposals =
      λ q. filter-few (is_proposal_of q) w.pending
      (pairs-map OtherKey (λ x y. is_proposal_of q x ≡ true → is_proposal_of q y ≡ true → ⊥) w.pending
      (λ x y h k o a b. proposals q x y h k o a b) tidy.keys);
  others = λ q. filter-few (is_other_act_of q) w.pending
      (pairs-map OtherKey (λ x y. is_other_act_of q x ≡ true → is_other_act_of q y ≡ true → ⊥) w.pending
      (λ x y h k o a b. others q x y h k o a b (node_cases q n)) tidy.keys);
}
  where
    tidy : IsTidy past said n d w
    tidy = f.tidy n d w is

    not_one : (x y : Act) → OtherKey x y → x ≡ y → ⊥
    not_one x y o e = both-not (same_act_key y y) (key-same y) (subst (λ (z : Act). same_act_key y z ≡ false) e o)

    of_node : (q : NodeId) (x : Act) (b : Bool) → (bytes_eq x.node q && b) ≡ true → x.node ≡ q
    of_node q x b h = node_is x.node q (and_left (bytes_eq x.node q) b h)

    proposals : (q : NodeId) (x y : Act) → Among x w.pending → Among y w.pending → OtherKey x y → is_proposal_of q x ≡ true → is_proposal_of q y ≡ true → ⊥
    proposals q x y h k o a b =
        let i : x.turn ≡ 1 = tidy.first x h (and_right (bytes_eq x.node q) (is_proposal x.kind) a) in
        let j : y.turn ≡ 1 = tidy.first y k (and_right (bytes_eq y.node q) (is_proposal y.kind) b) in
        both-not (same_act_key y x) (key_from y x (of_node q y (is_proposal y.kind) b ∙ sym (of_node q x (is_proposal x.kind) a)) (j ∙ sym i)) o

    other_kind : (q : NodeId) (x : Act) → is_other_act_of q x ≡ true → IsOther x
    other_kind q x a = not_true (is_proposal x.kind) (and_right (bytes_eq x.node q) (not (is_proposal x.kind)) a)

    came : (q : NodeId) (x : Act) → q ≢ n → x.node ≡ q → (x.node ≡ n) ⊎ Forwards said x.node n d.generation x → Forwards said q n d.generation x
    came q x o e (inl h) = absurd (o (sym e ∙ h))
    came q x o e (inr h) = subst (λ (z : NodeId). Forwards said z n d.generation x) e h

    unsettled : (x y : Act) → Among x w.pending → Among y w.pending → OtherKey x y → IsOneOf w x y → ⊥
    unsettled x y h k o (inl e) = not_one x y o e
    unsettled x y h k o (inr (inl s)) = settled-not w x s (tidy.unsettled x h)
    unsettled x y h k o (inr (inr s)) = settled-not w y s (tidy.unsettled y k)

    others : (q : NodeId) (x y : Act) → Among x w.pending → Among y w.pending → OtherKey x y → is_other_act_of q x ≡ true → is_other_act_of q y ≡ true
        → (q ≡ n) ⊎ (q ≢ n) → ⊥
    others q x y h k o a b (inl e) =
        not_one x y o (single-one n x y w.pending tidy.single h k (of_node q x (not (is_proposal x.kind)) a ∙ e)
        (of_node q y (not (is_proposal y.kind)) b ∙ e))
    others q x y h k o a b (inr e) = unsettled x y h k o (f.few q n d.generation x y
        (came q x e (of_node q x (not (is_proposal x.kind)) a) (tidy.came lead x h))
        (came q y e (of_node q y (not (is_proposal y.kind)) b) (tidy.came lead y k))
        (other_kind q x a) (other_kind q y b) d w is refl lead)

-- after anything that happened
pub few-after : (ns : List NodeId) (es : List Occurrence) (d : Definition) → AllPlain es
    → AtEach (world_after ns es) d (λ n b. n ≡ admin d → AreFew b.acts.pending)
few-after ns es d h n b is same lead =
    let v : SomeFew (world_after ns es).at (world_after ns es).sent = few-run (empty_world ns) es h ([], (λ f. []), (λ f. []), world-start, few-start) in
    are-few v.0 (sights (world_after ns es).at) (admin_said (world_after ns es).sent) n d (view b.acts) v.4
    (ap sight is ∙ ap (λ (z : Definition). Sees z (view b.acts)) same) lead

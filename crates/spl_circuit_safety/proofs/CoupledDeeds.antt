-- A planned deed keeps the coupling.
use Rattle.std.{specs.{Prelude.{if◌then◌else◌, map}, Str.bytes_eq}, proofs.Common.{◌≡◌, ◌≢◌, ℕ, ◌⊎◌, true, false, List, [], ◌∷◌, ◌++◌, append-nil}}
use Rattle.std.proofs.Common.{append_assoc, refl, sym, ap, subst, ◌∙◌, inl, inr}
use Rattle.spl_agree.specs.{Member.{Group, Member, new_member, changed, changed_by, moved, restarted}, declared.event.GroupChange.GroupChange}
use Rattle.spl_agree.{specs.declared.{event.{GroupEvent.GroupEvent, OpenMove.OpenMove}, plan.GroupPlan.GroupPlan}, proofs.Tests.{if_holds, bool_cases}}
use Rattle.spl_agree.specs.declared.event.OpenMove.TheVariants as move
use Rattle.spl_agree.specs.declared.event.GroupEvent.TheVariants as group
use Rattle.spl_circuit.specs.{Nodes.{NodeId, CircuitId, has_node, position}, Rules.{admin, service}, Acts.act_rules, Equality.same_definition, Same.node_is}
use Rattle.spl_circuit.specs.{Same.{node_same, definition_same, definition_is}, declared.{act.Act.Act, definition.Definition.Definition}}
use Rattle.spl_circuit.specs.declared.lifecycle.Mark.TheVariants as mark
use Rattle.spl_command.specs.declared.batch.Batch.{Batch}
use Rattle.spl_scabbard.specs.Checks.{batch_rules}
use Rattle.spl_wire.specs.declared.{change.Change.Change, plan.{Outgoing.Outgoing, Plan.Plan}}
use Rattle.spl_wire.specs.declared.change.Change.TheVariants as durable
use Rattle.spl_cell_rules.specs.Cells.{Cell, Empty, Held, Purged, Deed, Refuses, Tells, Replies, Binds, Acts, Serves, Turns, Abandons, Purges, Bound, fresh}
use Rattle.spl_cell_rules.specs.{Cells.site_at, Changes.{changes_made, made_one, moved_cell, stopped_cell, after_plan, turn_after}, Plans.planned}
use Rattle.spl_cell_rules.specs.Plans.{group_sends, admin_lane, service_lane}
use Rattle.spl_circuit_world.{specs.Worlds.{SentMessage, put_at, posted_outgoing}, proofs.Puts.{put_at-same, put_at-other, put_at-still}}
use Rattle.spl_circuit_world.proofs.{Unmoved.moved-keep, Nodes.node_other}
use Rattle.spl_circuit_safety.{specs.Agreement.{committed, act_of, batch_of, acts_in, batches_in, is_bound_to}, proofs.GroupOfDefinition.{MayHear, Ever}}
use Rattle.spl_circuit_safety.proofs.{GroupOfDefinition.{InGroups, all_committed, after_row, plan_row, group_of}, GroupWorlds.{admin_said, service_said}}
use Rattle.spl_circuit_safety.proofs.GroupWorlds.{admin_presence, service_presence, WasSent, IsValid, IsValidCell, InWorld, Others, active-ever, was-split}
use Rattle.spl_circuit_safety.proofs.{GroupWorlds.{admin_groups, service_groups}, CoupledSteps.{Past, world-acts, world-serves, world-messages}}
use Rattle.spl_circuit_safety.proofs.{CoupledSteps.{world-restart, world-purge, world-bind, IsIdle, IsFree}, DeedsAreSteps.IsStepOf, Rosters.roster}

-- a cell is bound once more
pub made-bind : (n : NodeId) (k : Cell) (d : Definition) → made_one n k (durable.Bind d) ≡ Held (fresh d)
made-bind n Empty d = refl
made-bind n _ d = refl

-- changes of the admin group change the member of acts, and the turn
pub made-admin : (n : NodeId) (b : Bound) (xs : List (GroupChange Act))
    → (t2 : ℕ) × (changes_made n (Held b) (map durable.Admin xs) ≡ Held (record b { turn = t2; acts = changed_by (act_rules b.definition) b.acts xs }))
made-admin n b [] = (b.turn, refl)
made-admin n b (x ∷ xs) = made-admin n (record b { turn = turn_after n b.turn x; acts = changed (act_rules b.definition) b.acts x }) xs

-- changes of the service group change the member of batches
pub made-service : (n : NodeId) (b : Bound) (xs : List (GroupChange Batch))
    → changes_made n (Held b) (map durable.Service xs) ≡ Held (record b { batches = changed_by batch_rules b.batches xs })
made-service n b [] = refl
made-service n b (x ∷ xs) = made-service n (record b { batches = changed batch_rules b.batches x }) xs

-- changes are made one list after the other
pub made-append : (n : NodeId) (k : Cell) (xs ys : List Change) → changes_made n k (xs ++ ys) ≡ changes_made n (changes_made n k xs) ys
made-append n k [] ys = refl
made-append n k (x ∷ xs) ys = made-append n (made_one n k x) xs ys

-- a restart forgets any move
pub restarted-moved : {V : Type 0} (g : Group V) (i : ℕ) (m : Member V) (o : OpenMove) → restarted (moved g i m o) ≡ restarted m
restarted-moved g i m move.Keep = refl
restarted-moved g i m _ = refl

-- so does a stop of the cell
pub stopped-moved : (n : NodeId) (k : Cell) (x y : OpenMove) → stopped_cell (moved_cell n k x y) ≡ stopped_cell k
stopped-moved n (Held h) x y =
    ap (λ (z : Member Act). Held
    (record h { acts = z; batches = restarted (moved (group_of service_groups h.definition) (position h.definition.members n) h.batches y) }))
    (restarted-moved (group_of admin_groups h.definition) (position h.definition.members n) h.acts x)
    ∙ ap (λ (z : Member Batch). Held (record h { acts = restarted h.acts; batches = z }))
    (restarted-moved (group_of service_groups h.definition) (position h.definition.members n) h.batches y)
stopped-moved n _ x y = refl

-- what changes add to the lists
pub acts-admin : (xs : List (GroupChange Act)) → acts_in (map durable.Admin xs) ≡ all_committed xs
acts-admin [] = refl
acts-admin (x ∷ xs) = ap (λ z. committed x ++ z) (acts-admin xs)

-- changes of batches commit no act
pub acts-service : (xs : List (GroupChange Batch)) → acts_in (map durable.Service xs) ≡ []
acts-service [] = refl
acts-service (x ∷ xs) = acts-service xs

-- changes of batches commit these batches
pub batches-service : (xs : List (GroupChange Batch)) → batches_in (map durable.Service xs) ≡ all_committed xs
batches-service [] = refl
batches-service (x ∷ xs) = ap (λ z. committed x ++ z) (batches-service xs)

-- changes of acts commit no batch
pub batches-admin : (xs : List (GroupChange Act)) → batches_in (map durable.Admin xs) ≡ []
batches-admin [] = refl
batches-admin (x ∷ xs) = batches-admin xs

-- the acts of two lists of changes
pub acts-append : (xs ys : List Change) → acts_in (xs ++ ys) ≡ acts_in xs ++ acts_in ys
acts-append [] ys = refl
acts-append (x ∷ xs) ys = ap (λ z. act_of x ++ z) (acts-append xs ys) ∙ sym (append_assoc (act_of x) (acts_in xs) (acts_in ys))

-- the batches of two lists of changes
pub batches-append : (xs ys : List Change) → batches_in (xs ++ ys) ≡ batches_in xs ++ batches_in ys
batches-append [] ys = refl
batches-append (x ∷ xs) ys = ap (λ z. batch_of x ++ z) (batches-append xs ys) ∙ sym (append_assoc (batch_of x) (batches_in xs) (batches_in ys))

-- what is added, by the cell before and the values
abbrev pub added : {V : Type 0} → NodeId → NodeId → Definition → (NodeId → Cell) → List V → List V
added n leader f at vs = if bytes_eq n leader then (if is_bound_to f (at leader) then vs else []) else []

-- at the coordinator's cell that is bound to the definition, all is added
pub added-mine : {V : Type 0} (n leader : NodeId) (f : Definition) (at : NodeId → Cell) (vs : List V) (b : Bound) → at n ≡ Held b → b.definition ≡ f
    → n ≡ leader → added n leader f at vs ≡ vs
added-mine {V} n leader f at vs b is same leads =
    let bound : is_bound_to f (at leader) ≡ true =
    subst (λ (z : NodeId). is_bound_to f (at z) ≡ true) leads
    (subst (λ (k : Cell). is_bound_to f k ≡ true) (sym is)
    (subst (λ (g : Definition). same_definition b.definition g ≡ true) same (definition_same b.definition))) in
    let here : bytes_eq n leader ≡ true = subst (λ (z : NodeId). bytes_eq n z ≡ true) leads (node_same n) in rw (here, bound)

-- at another cell, or one of another definition, nothing is
pub added-other : {V : Type 0} (n leader : NodeId) (f : Definition) (at : NodeId → Cell) (vs : List V) (b : Bound) → at n ≡ Held b
    → (b.definition ≢ f) ⊎ (n ≢ leader) → added n leader f at vs ≡ []
added-other {V} n leader f at vs b is (inr q) = rw (node_other n leader q)
added-other {V} n leader f at vs b is (inl q) =
    if_holds (λ (z : List V). z ≡ []) (bytes_eq n leader) _ _
    (λ x. if_holds (λ (z : List V). z ≡ []) (is_bound_to f (at leader)) vs []
    (λ y. absurd (q (definition_is b.definition f (bound (node_is n leader x) y)))) (λ y. refl)) (λ x. refl)
  where
    bound : n ≡ leader → is_bound_to f (at leader) ≡ true → same_definition b.definition f ≡ true
    bound x y = subst (λ (k : Cell). is_bound_to f k ≡ true) is (subst (λ (z : NodeId). is_bound_to f (at z) ≡ true) (sym x) y)

-- where nothing is committed, nothing is added
pub added-none : {V : Type 0} (n leader : NodeId) (f : Definition) (at : NodeId → Cell) (vs : List V) → vs ≡ [] → added n leader f at vs ≡ []
added-none {V} n leader f at vs h =
    if_holds (λ (z : List V). z ≡ []) (bytes_eq n leader) _ _
    (λ x. if_holds (λ (z : List V). z ≡ []) (is_bound_to f (at leader)) vs [] (λ y. h) (λ y. refl)) (λ x. refl)

-- at a free cell nothing is added
pub added-free : {V : Type 0} (n leader : NodeId) (f : Definition) (at : NodeId → Cell) (vs : List V) (g : ℕ) → IsFree (at n) g → added n leader f at vs ≡ []
added-free {V} n leader f at vs g h =
    if_holds (λ (z : List V). z ≡ []) (bytes_eq n leader) _ _ (λ x. unbound (subst (λ (z : NodeId). IsFree (at z) g) (node_is n leader x) h)) (λ x. refl)
  where
    not_bound : (k : Cell) → IsFree k g → is_bound_to f k ≡ false
    not_bound (Held h) y = absurd y
    not_bound _ y = refl

    unbound : IsFree (at leader) g → (if is_bound_to f (at leader) then vs else []) ≡ []
    unbound y = rw (not_bound (at leader) y)

-- the lists may be given as any functions with the same values
pub world-lists : (past : Past) (at : NodeId → Cell) (sent : List SentMessage) (acts acts2 : Definition → List Act)
    (batches batches2 : Definition → List Batch) → ((f : Definition) → acts f ≡ acts2 f) → ((f : Definition) → batches f ≡ batches2 f)
    → InWorld past at sent acts batches → InWorld past at sent acts2 batches2
world-lists past at sent acts acts2 batches batches2 p q w = record {
  law = w.law;
  ruled = w.ruled;
  since = w.since;
  valid = w.valid;
  admins = λ f. subst (λ (z : List Act). InGroups admin_groups f past (λ n. admin_presence (at n)) (admin_said sent) z) (p f) (w.admins f);
  services = λ f. subst (λ (z : List Batch). InGroups service_groups f past (λ n. service_presence (at n)) (service_said sent) z) (q f) (w.services f);
}

-- there are bindings, among them these, with which the coupling holds
abbrev pub SomePast : Past → (NodeId → Cell) → List SentMessage → (Definition → List Act) → (Definition → List Batch) → Type 0
SomePast base at sent acts batches = (past : Past) × ((k : NodeId) (f : Definition) → Ever k f base → Ever k f past) × InWorld past at sent acts batches

-- after a plan at a cell
abbrev pub Planned : Past → List NodeId → NodeId → (NodeId → Cell) → List SentMessage → (Definition → List Act) → (Definition → List Batch) → Plan → Type 0
Planned base ns n at sent acts batches p =
    SomePast base (put_at at n (after_plan n (at n) p)) (sent ++ posted_outgoing ns n p.sends) (λ f. acts f ++ added n (admin f) f at (acts_in p.changes))
    (λ f. batches f ++ added n (service f) f at (batches_in p.changes))

-- a list with nothing added
pub none-more : {V : Type 0} (xs ys : List V) → ys ≡ [] → xs ≡ xs ++ ys
none-more xs ys h = sym (append-nil xs) ∙ ap (λ z. xs ++ z) (sym h)

-- no change, and messages that count in no group
pub planned-messages : (base : Past) (ns : List NodeId) (n : NodeId) (at : NodeId → Cell) (sent news : List SentMessage) (acts : Definition → List Act)
    (batches : Definition → List Batch) (k : Cell) → k ≡ at n → ((x : SentMessage) → WasSent x news → IsIdle x.message)
    → SomePast base at sent acts batches
    → SomePast base (put_at at n k) (sent ++ news) (λ f. acts f ++ added n (admin f) f at []) (λ f. batches f ++ added n (service f) f at [])
planned-messages base ns n at sent news acts batches k same idle w = (
  w.0,
  w.1,
  world-lists w.0 (put_at at n k) (sent ++ news) acts (λ f. acts f ++ added n (admin f) f at []) batches (λ f. batches f ++ added n (service f) f at [])
      (λ f. none-more (acts f) _ (added-none n (admin f) f at [] refl)) (λ f. none-more (batches f) _ (added-none n (service f) f at [] refl))
      (world-messages w.0 at (put_at at n k) sent (sent ++ news) acts batches (put_at-still at n k same) (λ x h. go x (was-split x sent news h)) w.2),
)
  where
    go : (x : SentMessage) → WasSent x sent ⊎ WasSent x news → WasSent x sent ⊎ IsIdle x.message
    go x (inl h) = inl h
    go x (inr h) = inr (idle x h)

-- putting a cell leaves the others
pub put-others : (at : NodeId → Cell) (n : NodeId) (k : Cell) → Others n at (put_at at n k)
put-others at n k = λ j q. put_at-other at n k j q

-- what is posted in two lists
pub posted-both : (ns : List NodeId) (n : NodeId) (xs ys : List Outgoing) → posted_outgoing ns n (xs ++ ys) ≡ posted_outgoing ns n xs ++ posted_outgoing ns n ys
posted-both ns n [] ys = refl
posted-both ns n (z ∷ zs) ys = go (bool_cases (has_node ns z.to)) (posted-both ns n zs ys)
  where
    go : (has_node ns z.to ≡ true) ⊎ (has_node ns z.to ≡ false) → posted_outgoing ns n (zs ++ ys) ≡ posted_outgoing ns n zs ++ posted_outgoing ns n ys
        → posted_outgoing ns n ((z ∷ zs) ++ ys) ≡ posted_outgoing ns n (z ∷ zs) ++ posted_outgoing ns n ys
    go (inl r) hyp = rw (r, hyp)
    go (inr r) hyp = rw (r, hyp)

-- any deed, by its kind
pub planned-deed : (base : Past) (ns : List NodeId) (c : CircuitId) (n : NodeId) (at : NodeId → Cell) (sent : List SentMessage)
    (acts : Definition → List Act) (batches : Definition → List Batch) (deed : Deed) → IsStepOf n sent (at n) deed → SomePast base at sent acts batches
    → Planned base ns n at sent acts batches (planned (site_at n c) deed)
planned-deed base ns c n at sent acts batches (Refuses r) fair w =
    planned-messages base ns n at sent [] acts batches (moved_cell n (at n) move.Keep move.Keep) (moved-keep n (at n)) (λ x h. absurd h) w
planned-deed base ns c n at sent acts batches (Tells a) fair w =
    planned-messages base ns n at sent [] acts batches (moved_cell n (at n) move.Keep move.Keep) (moved-keep n (at n)) (λ x h. absurd h) w
planned-deed base ns c n at sent acts batches (Replies note to m) fair w =
    planned-messages base ns n at sent (posted_outgoing ns n (record { to = to; message = m } ∷ [])) acts batches (moved_cell n (at n) move.Keep move.Keep)
    (moved-keep n (at n)) idle w
  where
    idle : (x : SentMessage) → WasSent x (posted_outgoing ns n (record { to = to; message = m } ∷ [])) → IsIdle x.message
    idle x h = if_holds (λ (ps : List SentMessage). WasSent x ps → IsIdle x.message) (has_node ns to) _ _ (λ q. one_of) (λ q y. absurd y) h
      where
        one_of : WasSent x (record { from = n; to = to; message = m } ∷ []) → IsIdle x.message
        one_of (inl e) = subst (λ (z : SentMessage). IsIdle z.message) (sym e) fair
        one_of (inr y) = absurd y
planned-deed base ns c n at sent acts batches (Binds say d back e) fair w = (
  (n, d) ∷ w.0,
  (λ k f h. inr (w.1 k f h)),
  world-acts ((n, d) ∷ w.0) at1 at2 sent
      (sent ++ posted_outgoing ns n (group_sends (admin_lane (site_at n c) d) back (plan_row admin_groups d n new_member e).sends)) acts
      (λ f. added n (admin f) f at (acts_in changes)) (λ f. batches f ++ added n (service f) f at (batches_in changes)) ns c n back
      (fresh d) mark.Open turn.0 e
      (put_at-same at n bound) now others (λ x h. was-split x sent _ h) fair.3 fair.4
      (λ f p q. added-free n (admin f) f at (acts_in changes) d.generation fair.2 ∙ sym (fair.5 (q ∙ ap (λ (z : Definition). admin z) (sym p))))
      (λ f p. added-free n (admin f) f at (acts_in changes) d.generation fair.2)
      (world-lists ((n, d) ∷ w.0) at1 sent acts acts batches (λ f. batches f ++ added n (service f) f at (batches_in changes)) (λ f. refl)
      (λ f. none-more (batches f) _ (added-free n (service f) f at (batches_in changes) d.generation fair.2))
      (world-bind w.0 at at1 sent acts batches n d fair.2 fair.0 fair.1 (put_at-same at n bound) (put-others at n bound) w.2)),
)
  where
    plan : GroupPlan Act
    plan = plan_row admin_groups d n new_member e

    changes : List Change
    changes = durable.Bind d ∷ map durable.Admin plan.changes

    bound : Cell
    bound = Held (fresh d)

    at1 : NodeId → Cell
    at1 = put_at at n bound

    at2 : NodeId → Cell
    at2 = put_at at n (moved_cell n (changes_made n (at n) changes) plan.opening move.Keep)

    turn : (t2 : ℕ) × (changes_made n bound (map durable.Admin plan.changes)
        ≡ Held (record (fresh d) { turn = t2; acts = changed_by (act_rules d) new_member plan.changes }))
    turn = made-admin n (fresh d) plan.changes

    now : at2 n ≡ Held (record (fresh d) { turn = turn.0; acts = after_row admin_groups d n new_member e })
    now = put_at-same at n _
        ∙ (ap (λ (z : Cell). moved_cell n (changes_made n z (map durable.Admin plan.changes)) plan.opening move.Keep) (made-bind n (at n) d)
        ∙ ap (λ (z : Cell). moved_cell n z plan.opening move.Keep) turn.1)

    others : Others n at1 at2
    others j q = put_at-other at n _ j q ∙ sym (put_at-other at n bound j q)
planned-deed base ns c n at sent acts batches (Acts say b back e) fair w = (
  w.0,
  w.1,
  world-lists w.0 at2 sent2 (λ f. acts f ++ added n (admin f) f at (acts_in changes)) (λ f. acts f ++ added n (admin f) f at (acts_in changes)) batches
      (λ f. batches f ++ added n (service f) f at (batches_in changes)) (λ f. refl)
      (λ f. none-more (batches f) _ (added-none n (service f) f at (batches_in changes) (batches-admin plan.changes)))
      (world-acts w.0 at at2 sent sent2 acts (λ f. added n (admin f) f at (acts_in changes)) batches ns c n back b b.mark turn.0 e
      fair.0 now (put-others at n _) (λ x h. was-split x sent _ h) fair.1 fair.2
      (λ f p q. added-mine n (admin f) f at (acts_in changes) b fair.0 p q ∙ acts-admin plan.changes)
      (λ f p. added-other n (admin f) f at (acts_in changes) b fair.0 p)
      w.2),
)
  where
    plan : GroupPlan Act
    plan = plan_row admin_groups b.definition n b.acts e

    changes : List Change
    changes = map durable.Admin plan.changes

    at2 : NodeId → Cell
    at2 = put_at at n (moved_cell n (changes_made n (at n) changes) plan.opening move.Keep)

    sent2 : List SentMessage
    sent2 = sent ++ posted_outgoing ns n (group_sends (admin_lane (site_at n c) b.definition) back plan.sends)

    turn : (t2 : ℕ) × (changes_made n (Held b) changes ≡ Held (record b { turn = t2; acts = changed_by (act_rules b.definition) b.acts plan.changes }))
    turn = made-admin n b plan.changes

    now : at2 n ≡ Held (record b { turn = turn.0; acts = after_row admin_groups b.definition n b.acts e })
    now = put_at-same at n _
        ∙ (ap (λ (z : Cell). moved_cell n (changes_made n z changes) plan.opening move.Keep) fair.0
        ∙ ap (λ (z : Cell). moved_cell n z plan.opening move.Keep) turn.1)
planned-deed base ns c n at sent acts batches (Serves say b back e) fair w = (
  w.0,
  w.1,
  world-lists w.0 at2 sent2 acts (λ f. acts f ++ added n (admin f) f at (acts_in changes))
      (λ f. batches f ++ added n (service f) f at (batches_in changes)) (λ f. batches f ++ added n (service f) f at (batches_in changes))
      (λ f. none-more (acts f) _ (added-none n (admin f) f at (acts_in changes) (acts-service plan.changes))) (λ f. refl)
      (world-serves w.0 at at2 sent sent2 acts batches (λ f. added n (service f) f at (batches_in changes)) ns c n back b b.mark b.turn e
      fair.0 now (put-others at n _) (λ x h. was-split x sent _ h) led fair.2 fair.3
      (λ f p q. added-mine n (service f) f at (batches_in changes) b fair.0 p q ∙ batches-service plan.changes)
      (λ f p. added-other n (service f) f at (batches_in changes) b fair.0 p)
      w.2),
)
  where
    plan : GroupPlan Batch
    plan = plan_row service_groups b.definition n b.batches e

    changes : List Change
    changes = map durable.Service plan.changes

    at2 : NodeId → Cell
    at2 = put_at at n (moved_cell n (changes_made n (at n) changes) move.Keep plan.opening)

    sent2 : List SentMessage
    sent2 = sent ++ posted_outgoing ns n (group_sends (service_lane (site_at n c) b.definition) back plan.sends)

    now : at2 n ≡ Held (record b { batches = after_row service_groups b.definition n b.batches e })
    now = put_at-same at n _
        ∙ (ap (λ (z : Cell). moved_cell n (changes_made n z changes) move.Keep plan.opening) fair.0
        ∙ ap (λ (z : Cell). moved_cell n z move.Keep plan.opening) (made-service n b plan.changes))

    before : IsValid b.definition n b.acts b.batches
    before = subst (λ (z : Cell). IsValidCell n z) fair.0 (w.2.valid n)

    led : Ever (service b.definition) b.definition w.0
    led = active-ever b.definition w.0 (λ k. admin_presence (at k)) _ (acts b.definition) n (service b.definition) b.acts (ap admin_presence fair.0) fair.1
        (roster b.definition before.whole).service_in (w.2.admins b.definition)
planned-deed base ns c n at sent acts batches (Turns b x y) fair w = (
  w.0,
  w.1,
  world-lists w.0 at2 sent2 (λ f. acts f ++ added n (admin f) f at (acts_in (map durable.Admin p.changes)))
      (λ f. acts f ++ added n (admin f) f at (acts_in changes)) (λ f. batches f ++ added n (service f) f at (batches_in (map durable.Service q.changes)))
      (λ f. batches f ++ added n (service f) f at (batches_in changes))
      (λ f. ap (λ z. acts f ++ added n (admin f) f at z) (sym more_acts)) (λ f. ap (λ z. batches f ++ added n (service f) f at z) (sym more_batches))
      (world-serves w.0 at1 at2 sent1 sent2 (λ f. acts f ++ added n (admin f) f at (acts_in (map durable.Admin p.changes))) batches
      (λ f. added n (service f) f at (batches_in (map durable.Service q.changes))) ns c n n mid b.mark turn.0 y
      thus now others2 (λ z h. more_sent z h) led (due y fair.3) fair.5
      (λ f r s. added-mine n (service f) f at (batches_in (map durable.Service q.changes)) b fair.0 r s ∙ batches-service q.changes)
      (λ f r. added-other n (service f) f at (batches_in (map durable.Service q.changes)) b fair.0 r)
      (world-acts w.0 at at1 sent sent1 acts (λ f. added n (admin f) f at (acts_in (map durable.Admin p.changes))) batches ns c n n b b.mark turn.0 x
      fair.0 thus (put-others at n (Held mid)) (λ z h. was-split z sent _ h) fair.2 fair.4
      (λ f r s. added-mine n (admin f) f at (acts_in (map durable.Admin p.changes)) b fair.0 r s ∙ acts-admin p.changes)
      (λ f r. added-other n (admin f) f at (acts_in (map durable.Admin p.changes)) b fair.0 r)
      w.2)),
)
  where
    p : GroupPlan Act
    p = plan_row admin_groups b.definition n b.acts x

    q : GroupPlan Batch
    q = plan_row service_groups b.definition n b.batches y

    changes : List Change
    changes = map durable.Admin p.changes ++ map durable.Service q.changes

    turn : (t2 : ℕ) × (changes_made n (Held b) (map durable.Admin p.changes)
        ≡ Held (record b { turn = t2; acts = changed_by (act_rules b.definition) b.acts p.changes }))
    turn = made-admin n b p.changes

    mid : Bound
    mid = record b { turn = turn.0; acts = after_row admin_groups b.definition n b.acts x }

    at1 : NodeId → Cell
    at1 = put_at at n (Held mid)

    sent1 : List SentMessage
    sent1 = sent ++ posted_outgoing ns n (group_sends (admin_lane (site_at n c) b.definition) n p.sends)

    at2 : NodeId → Cell
    at2 = put_at at n (moved_cell n (changes_made n (at n) changes) p.opening q.opening)

    sent2 : List SentMessage
    sent2 = sent ++ posted_outgoing ns n
        (group_sends (admin_lane (site_at n c) b.definition) n p.sends ++ group_sends (service_lane (site_at n c) b.definition) n q.sends)

    thus : at1 n ≡ Held mid
    thus = put_at-same at n (Held mid)

    whole : changes_made n (at n) changes
        ≡ Held (record b { turn = turn.0; acts = changed_by (act_rules b.definition) b.acts p.changes; batches = changed_by batch_rules b.batches q.changes })
    whole = ap (λ (z : Cell). changes_made n z changes) fair.0
        ∙ (made-append n (Held b) (map durable.Admin p.changes) (map durable.Service q.changes)
        ∙ (ap (λ (z : Cell). changes_made n z (map durable.Service q.changes)) turn.1
        ∙ made-service n (record b { turn = turn.0; acts = changed_by (act_rules b.definition) b.acts p.changes }) q.changes))

    now : at2 n ≡ Held (record b {
      turn =
          turn.0;
      acts = after_row admin_groups b.definition n b.acts x;
      batches = after_row service_groups b.definition n b.batches y;
    })
    now = put_at-same at n _ ∙ ap (λ (z : Cell). moved_cell n z p.opening q.opening) whole

    others2 : Others n at1 at2
    others2 j r = put_at-other at n _ j r ∙ sym (put_at-other at n (Held mid) j r)

    more_sent : (z : SentMessage) → WasSent z sent2
        → WasSent z sent1 ⊎ WasSent z (posted_outgoing ns n (group_sends (service_lane (site_at n c) b.definition) n q.sends))
    more_sent z h =
        was-split z sent1 (posted_outgoing ns n (group_sends (service_lane (site_at n c) b.definition) n q.sends))
        (subst (λ (s : List SentMessage). WasSent z s)
        (ap (λ s. sent ++ s) (posted-both ns n (group_sends (admin_lane (site_at n c) b.definition) n p.sends)
        (group_sends (service_lane (site_at n c) b.definition) n q.sends))
        ∙ sym (append_assoc sent (posted_outgoing ns n (group_sends (admin_lane (site_at n c) b.definition) n p.sends))
        (posted_outgoing ns n (group_sends (service_lane (site_at n c) b.definition) n q.sends)))) h)

    before : IsValid b.definition n b.acts b.batches
    before = subst (λ (z : Cell). IsValidCell n z) fair.0 (w.2.valid n)

    led : Ever (service b.definition) b.definition w.0
    led = active-ever b.definition w.0 (λ k. admin_presence (at k)) _ (acts b.definition) n (service b.definition) b.acts (ap admin_presence fair.0) fair.1
        (roster b.definition before.whole).service_in (w.2.admins b.definition)

    due : (e : GroupEvent Batch) → MayHear b.definition (service_said sent) n n e → MayHear b.definition (service_said sent1) n n e
    due (group.From s v) h = absurd (h.3 refl)
    due _ h = tt

    more_acts : acts_in changes ≡ acts_in (map durable.Admin p.changes)
    more_acts =
        acts-append (map durable.Admin p.changes) (map durable.Service q.changes)
        ∙ (ap (λ z. acts_in (map durable.Admin p.changes) ++ z) (acts-service q.changes) ∙ append-nil _)

    more_batches : batches_in changes ≡ batches_in (map durable.Service q.changes)
    more_batches =
        batches-append (map durable.Admin p.changes) (map durable.Service q.changes)
        ∙ ap (λ z. z ++ batches_in (map durable.Service q.changes)) (batches-admin p.changes)
planned-deed base ns c n at sent acts batches Abandons fair w = (
  w.0,
  w.1,
  world-lists w.0 at2 (sent ++ []) acts (λ f. acts f ++ added n (admin f) f at []) batches (λ f. batches f ++ added n (service f) f at [])
      (λ f. none-more (acts f) _ (added-none n (admin f) f at [] refl)) (λ f. none-more (batches f) _ (added-none n (service f) f at [] refl))
      (subst (λ (s : List SentMessage). InWorld w.0 at2 s acts batches) (sym (append-nil sent))
      (world-restart w.0 at at2 sent acts batches n fair.0 mark.Abandoned fair.0.turn fair.1 now (put-others at n _) w.2)),
)
  where
    at2 : NodeId → Cell
    at2 = put_at at n (moved_cell n (made_one n (at n) durable.Abandon) move.Close move.Close)

    now : at2 n ≡ Held (record fair.0 { mark = mark.Abandoned; acts = restarted fair.0.acts; batches = restarted fair.0.batches })
    now = put_at-same at n _ ∙ ap (λ (z : Cell). moved_cell n (made_one n z durable.Abandon) move.Close move.Close) fair.1
planned-deed base ns c n at sent acts batches Purges fair w = (
  w.0,
  w.1,
  world-lists w.0 at2 (sent ++ []) acts (λ f. acts f ++ added n (admin f) f at []) batches (λ f. batches f ++ added n (service f) f at [])
      (λ f. none-more (acts f) _ (added-none n (admin f) f at [] refl)) (λ f. none-more (batches f) _ (added-none n (service f) f at [] refl))
      (subst (λ (s : List SentMessage). InWorld w.0 at2 s acts batches) (sym (append-nil sent))
      (world-purge w.0 at at2 sent acts batches n fair.0 fair.1 now (put-others at n _) w.2)),
)
  where
    at2 : NodeId → Cell
    at2 = put_at at n (moved_cell n (made_one n (at n) durable.Purge) move.Keep move.Keep)

    now : at2 n ≡ Purged fair.0.definition.generation
    now = put_at-same at n _ ∙ ap (λ (z : Cell). moved_cell n (made_one n z durable.Purge) move.Keep move.Keep) fair.1

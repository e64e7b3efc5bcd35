-- Messages that are delivered, and the places of the nodes between which they go.
use Rattle.std.proofs.Common.{append-nil}
use Rattle.spl_cell_rules.specs.{Cells.{site_at, Held}, Valid.IsFor}
use Rattle.spl_circuit_world.specs.Worlds.{delivery_plan, on_pair, put_at}
use Rattle.spl_pump.specs.Wires.{AllBytesTaken}
use Rattle.spl_wire.specs.Messages.{circuit_of}
use Rattle.spl_wire.specs.declared.answer.Answer.TheVariants as answer
use Rattle.spl_wire.specs.declared.answer.Refusal.TheVariants as refusal
use Rattle.spl_wire.specs.declared.event.Event.TheVariants as event
use Rattle.spl_world.specs.{Halts.{IsEventOf, delivery_of}, Kept.belongs, Links.{AreLinksReady, LinkView, Places, carried_at, carried_of, DeliversMessages}}
use Rattle.spl_world.specs.{Views.{Nodes, HoldsWorld, Moves, slot_id, Sits, slot_ids, slot_places}, declared.{fault.WorldFault.WorldFault, slot.Slot.Slot}}
use Rattle.spl_world.proofs.Common.{◌≡◌, ℕ, ◌+◌, ◌-◌, inl, inr, true, false, Option, Some, None, slice_get, refl, ap, sym, ◌∙◌, subst, arith, ◌≢◌, ◌<◌}
use Rattle.spl_world.proofs.Common.{true≢false, List, [], length, Result, bytes_eq, bool_cases, bytes_are, bytes_same, both_true, NodeId, CircuitId}
use Rattle.spl_world.proofs.Common.{put_at-here, put_at-other, CircuitWorld, messages, circuit_carried_out, step_plan, Steps, only, Cell, after_plan, plan_of}
use Rattle.spl_world.proofs.{Common.{tells_only, is_legal, Answer, Event, Message, Plan}, Linking.delivers_as, Reading.step_up, Slots.{id_at, place_at}}
use Rattle.spl_node.proofs.Positions.{some_at}
use Rattle.spl_sched.specs.declared.line.Step.TheVariants as step

-- ---- a delivery in the world of its circuit

pub number : (index : ℕ) → (index + 1) - 1 ≡ index
number index = omega arith

pub delivery_is : (m : CircuitWorld) (c : CircuitId) (a b : NodeId) (index : ℕ) (x : Message) → slice_get (messages m a b) index ≡ Some x → m.up b ≡ true
    → plan_of (site_at b c) (m.at b) (event.Deliver a x) ≡ step_plan m (step.Deliver a b c (index + 1))
delivery_is m c a b index x found up = sym (step_up m (step.Deliver a b c (index + 1)) up ∙ (ap (λ (k : ℕ). delivery_plan c m a b (slice_get (messages m a b) k)) (number index) ∙ ap (delivery_plan c m a b) found))

pub no_delivery : (m : CircuitWorld) (c : CircuitId) (a b : NodeId) (index : ℕ) → slice_get (messages m a b) index ≡ None → m.up b ≡ true
    → step_plan m (step.Deliver a b c (index + 1)) ≡ tells_only (answer.Refused refusal.NoMessage)
no_delivery m c a b index found up = step_up m (step.Deliver a b c (index + 1)) up ∙ ap (λ (k : ℕ). delivery_plan c m a b (slice_get (messages m a b) k)) (number index) ∙ ap (delivery_plan c m a b) found

-- an event that is the delivery of a message, or of none, does what the step does
delivery_by : (m : CircuitWorld) (c : CircuitId) (a b : NodeId) (index : ℕ) (e : Event) (o : Option Message) → slice_get (messages m a b) index ≡ o
    → Some e ≡ delivery_of a o → m.up b ≡ true → plan_of (site_at b c) (m.at b) e ≡ step_plan m (step.Deliver a b c (index + 1))
delivery_by m c a b index e None found is up = cc
delivery_by m c a b index e (Some x) found is up = let same : e ≡ event.Deliver a x = cc in ap (plan_of (site_at b c) (m.at b)) same ∙ delivery_is m c a b index x found up

pub delivered_as : (m : CircuitWorld) (c : CircuitId) (a b : NodeId) (index : ℕ) (e : Event) → Some e ≡ delivery_of a (slice_get (messages m a b) index)
    → m.up b ≡ true → plan_of (site_at b c) (m.at b) e ≡ step_plan m (step.Deliver a b c (index + 1))
delivered_as m c a b index e is up = delivery_by m c a b index e (slice_get (messages m a b) index) refl is up

pub none_delivered : (a : NodeId) (o : Option Message) → None ≡ delivery_of a o → o ≡ None
none_delivered a None is = refl
none_delivered a (Some x) is = cc

-- the event of a message that was found
pub found_delivery : (a i : NodeId) (x y : Message) (o : Option Message) → i ≡ a → y ≡ x → Some x ≡ o → Some (event.Deliver i y) ≡ delivery_of a o
found_delivery a i x y o from same is = ap (λ (n : NodeId). Some (event.Deliver n y)) from ∙ ap (λ (z : Message). Some (event.Deliver a z)) same ∙ ap (delivery_of a) is

-- it is one for a node that didn't send it
pub is_for : (n i : NodeId) (c : CircuitId) (x : Message) → bytes_eq i n ≡ false → belongs c x ≡ true → IsFor (site_at n c) (event.Deliver i x)
is_for n i c x off about = let both = both_true (bytes_eq (circuit_of x) c) (is_legal x) about in (both.0, off, both.1)

-- so where a node stops in it
pub event_at : (m : CircuitWorld) (n : NodeId) (c : CircuitId) (e : Event) → m.up n ≡ true → IsEventOf (Some e) m (step.At n c e)
event_at m n c e up = ap (λ (p : Plan). p.changes) (sym (step_up m (step.At n c e) up))

pub event_delivered : (m : CircuitWorld) (a b : NodeId) (c : CircuitId) (index : ℕ) (o : Option Event)
    → o ≡ delivery_of a (slice_get (messages m a b) index) → m.up b ≡ true → IsEventOf o m (step.Deliver a b c (index + 1))
event_delivered m a b c index None is up = ap (λ (p : Plan). p.changes) (sym (no_delivery m c a b index (none_delivered a (slice_get (messages m a b) index) is) up))
event_delivered m a b c index (Some e) is up = ap (λ (p : Plan). p.changes) (delivered_as m c a b index e is up)

-- the same by other words
pub moves_as : (c : CircuitId) (f g : CircuitWorld → CircuitWorld) (xs ys : Nodes) → ((m : CircuitWorld) → HoldsWorld c m xs → f m ≡ g m) → Moves c f xs ys → Moves c g xs ys
moves_as c f g xs ys same mv = record {
  own = λ m h. subst (λ (k : CircuitWorld). HoldsWorld c k ys) (same m h) (mv.own m h);
  others = mv.others;
}

-- ---- an answer alone moves nothing

quiet : (here : NodeId) (k : Cell) (a : Answer) → after_plan here k (tells_only a) ≡ k
quiet here (Held h) a = refl
quiet here _ a = refl

quiet_at : (m : CircuitWorld) (n z : NodeId) (a : Answer) → put_at m.at n (after_plan n (m.at n) (tells_only a)) z ≡ m.at z
quiet_at m n z a = elim (bool_cases (bytes_eq z n)) [
  | inl q ↦ put_at-here m.at n z (after_plan n (m.at n) (tells_only a)) q ∙ quiet n (m.at n) a ∙ ap m.at (sym (bytes_are z n q))
  | inr q ↦ put_at-other m.at n z (after_plan n (m.at n) (tells_only a)) q
]

pub quiet_holds : (c : CircuitId) (n : NodeId) (m : CircuitWorld) (a : Answer) (xs : Nodes) → HoldsWorld c m xs → HoldsWorld c (circuit_carried_out m n (tells_only a)) xs
quiet_holds c n m a xs h = record {
  ordered = h.ordered;
  nodes = h.nodes;
  each = λ i x there. let stood = h.each i x there in record {
    up = stood.up;
    state = stood.state ∙ sym (quiet_at m n (slot_id x) a);
    sent = λ b known. stood.sent b known ∙ ap (on_pair (slot_id x) b) (sym (append-nil m.sent));
  };
  told = h.told;
}

-- ---- the places of nodes, where a message goes from one to another

pub position_at : (xs : List Slot) (i : ℕ) (s : Slot) (k : ℕ) → slice_get xs i ≡ Some s → slice_get (slot_places xs) i ≡ Some k → s.position ≡ k
position_at xs i s k there at = let same : Some s.position ≡ Some k = sym (place_at xs i s there) ∙ at in cc

-- nodes that differ have other places
pub seats_differ : (xs : Nodes) (i j : ℕ) (x y : ℕ) → Sits xs → i < length xs.slots → j < length xs.slots
    → ((a b : NodeId) → slice_get (slot_ids xs.slots) i ≡ Some a → slice_get (slot_ids xs.slots) j ≡ Some b → bytes_eq a b ≡ false)
    → slice_get (slot_places xs.slots) i ≡ Some x → slice_get (slot_places xs.slots) j ≡ Some y → x ≢ y
seats_differ xs i j x y sits below also apart at to same =
    let s = some_at xs.slots i below in
    let t = some_at xs.slots j also in
    let one : s.0.position ≡ t.0.position = position_at xs.slots i s.0 x s.1 at ∙ same ∙ sym (position_at xs.slots j t.0 y t.1 to) in
    let index : j ≡ i = sits.apart i j s.0 t.0 s.1 t.1 one in
    let id = id_at xs.slots i s.0 s.1 in
    absurd (true≢false (sym (bytes_same (slot_id s.0)) ∙ apart (slot_id s.0) (slot_id s.0) id (ap (slice_get (slot_ids xs.slots)) index ∙ id)))

-- a place has a slot
pub ready_at : (xs : List Slot) (x : LinkView) (i : ℕ) (s : Slot) → AreLinksReady (slot_places xs) x → slice_get xs i ≡ Some s → s.position < x.slots
ready_at xs x i s ready there = ready.below s.position (i, place_at xs i s there)

-- the message of a delivery to a node that is up
carried_up : (place : NodeId → ℕ) (m : CircuitWorld) (a b : NodeId) (c : CircuitId) (index : ℕ) → m.up b ≡ true
    → carried_of (place a) (place b) (slice_get (messages m a b) index) ≡ carried_at place m (Steps (step.Deliver a b c (index + 1)))
carried_up place m a b c index up = sym (rw up (ap (λ (k : ℕ). carried_of (place a) (place b) (slice_get (messages m a b) k)) (number index)))

pub delivers_up : {A : Type 0} (r : Result A WorldFault) (place : NodeId → ℕ) (m : CircuitWorld) (a b : NodeId) (c : CircuitId) (index : ℕ) (x y : LinkView) → m.up b ≡ true
    → DeliversMessages r (carried_of (place a) (place b) (slice_get (messages m a b) index)) x y → DeliversMessages r (carried_at place m (Steps (step.Deliver a b c (index + 1)))) x y
delivers_up r place m a b c index x y up h = delivers_as r _ _ x y (carried_up place m a b c index up) h

pub carried_down : (place : NodeId → ℕ) (m : CircuitWorld) (a b : NodeId) (c : CircuitId) (k : ℕ) → m.up b ≡ false → [] ≡ carried_at place m (Steps (step.Deliver a b c k))
carried_down place m a b c k down = sym (rw down refl)

-- that between the nodes of two indexes
pub carried_between : (place : NodeId → ℕ) (xs : List Slot) (i j : ℕ) (x y : Slot) (a b : NodeId) (m : Message) (o : Option Message)
    → Places place (slot_ids xs) (slot_places xs) → slice_get xs i ≡ Some x → slice_get xs j ≡ Some y
    → slice_get (slot_ids xs) i ≡ Some a → slice_get (slot_ids xs) j ≡ Some b → o ≡ Some m → only x.position y.position m ≡ carried_of (place a) (place b) o
carried_between place xs i j x y a b m o placed there also at to is =
    ap (λ (k : ℕ). only k y.position m) (sym (placed i a x.position at (place_at xs i x there)))
    ∙ ap (λ (k : ℕ). only (place a) k m) (sym (placed j b y.position to (place_at xs j y also))) ∙ ap (carried_of (place a) (place b)) (sym is)

pub places_as : (place : NodeId → ℕ) (ns ms : List NodeId) (ks ls : List ℕ) → ms ≡ ns → ls ≡ ks → Places place ns ks → Places place ms ls
places_as place ns ms ks ls same also placed = subst (λ (ids : List NodeId). Places place ids ls) (sym same) (subst (λ (ps : List ℕ). Places place ns ps) (sym also) placed)

-- after a message that was carried
pub moved_ready : (ks : List ℕ) (x y : LinkView) → y.slots ≡ x.slots → y.failed ≡ false → AllBytesTaken y.put y.taken → AreLinksReady ks x → AreLinksReady ks y
moved_ready ks x y same going taken ready = record { below = λ k at. subst (λ (n : ℕ). k < n) (sym same) (ready.below k at); going = going; taken = taken }

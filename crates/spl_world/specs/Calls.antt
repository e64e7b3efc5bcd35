-- What a call of a world does, and how it leaves the nodes and all around them.
use Rattle.std.specs.Prelude.{◌≡◌, ◌+◌, ◌<◌, ◌≤◌, ℕ, Bool, true, false, List, [], ◌∷◌, ◌++◌, slice_get, Option, Some, Result, IfErr, IfOk, IsErrOf, OnErr}
use Rattle.std.specs.{Prelude.OnOk, List.list_all, Str.bytes_eq}
use Rattle.spl_circuit.specs.Nodes.{NodeId, CircuitId, has_node}
use Rattle.spl_edge.specs.{Devices.{DiskView, FabricView, PairView, bench}, declared.bench.Pair.Pair}
use Rattle.spl_circuit_world.specs.{Answers.{answer_to, line_answer, events_of, stops_of}, Projection.{by_rule, keeps_record, Ran}, Worlds.{Halts, Origin}}
use Rattle.spl_circuit_world.specs.Worlds.{Starts, Steps, Stops, World as CircuitWorld, circuit_carried_out, circuit_happens, step_plan, step_world}
use Rattle.spl_circuit_world.specs.{Whole.{whole_world, world_after_line}, declared.TheConstants.{MOST_EVENTS, MOST_STOPS}}
use Rattle.spl_cell_rules.specs.{Cells.site_at, Plans.plan_of}
use Rattle.spl_node.specs.{Stopping.{has_changes, keeps}, Benches.{Images, AllUnarmed, NoneForgotten, images}, declared.stopping.Stopping.Stopping}
use Rattle.spl_pump.specs.Wires.{CarryView}
use Rattle.spl_sched.specs.{Grammar.{is_line, is_step, line_nodes, step_circuit, step_node, step_nodes, is_calm}, declared.line.{Line.Line, Step.Step}}
use Rattle.spl_sched.specs.declared.line.Line.TheVariants as line
use Rattle.spl_wire.specs.declared.{answer.{Answer.Answer, Bit.Bit, Refusal.Refusal}, event.Event.Event}
use Rattle.spl_wire.specs.declared.answer.Answer.TheVariants as answer
use Rattle.spl_world.specs.{Held.{IsOverLimit, LineEnds, cells_after_lines, stopping_of, stops_at, stops, starts}, Disks.{LeavesDisks, is_of_journal}}
use Rattle.spl_world.specs.{Ended.EventEnds, Halts.bit_in, Picks.{AllHeld, FailsBy, HigherAt, IsInCheckpointIn, OnlyBy, OnlyOf, PickUnarmed, StopsAt}}
use Rattle.spl_world.specs.{Picks.{StopsBy, StopsPair, StopsSlot}, Links.{DeliversMessages, AreLinksReady, LeavesLinks, LinkView, Places, carried_at}}
use Rattle.spl_world.specs.{Links.{is_of_links, line_carried, link_view}, Views.{HasPlace, HoldsWorld, IsNodeAt, IsPlace, Moves, Nodes, OnlyAt, PicksOnceAt}}
use Rattle.spl_world.specs.Views.{Sits, SpareStay, StandsAfterLines, WorldsStay, world_node_ids, is_world_halted, nodes_over, places_of, slot_id, slot_up}
use Rattle.spl_world.specs.{Views.ups_of, declared.{fault.WorldFault.{WorldFault, TheVariants.{Disk, NoMemory, NotAJournal, TooMany}}, slot.Slot.Slot}}
use Rattle.spl_world.specs.declared.world.World.{World}

-- ---- all around the nodes

-- their disks: what each pair reports of itself, and what it holds
pub record DisksView : Type 0 where
  pub pairs : List PairView
  pub held : List Images

abbrev pub disks_view : {D : Type 0} → (D → DiskView) → List (Pair D) → DisksView
disks_view view ps = record { pairs = bench view ps; held = images view ps }

-- and the links between them
pub record Around : Type 0 where
  pub disks : DisksView
  pub links : LinkView

abbrev pub around : {D C F : Type 0} → (D → DiskView) → (C → CarryView) → (F → FabricView) → List (Pair D) → C → F → Around
around disk carry fabric ps c f = record { disks = disks_view disk ps; links = link_view (carry c) (fabric f) }

-- each node of a world is over its own disks, and the links are ready
pub record IsReadyOver (w : World) (x : Around) : Type 0 where
  pub sits : Sits (nodes_over w x.disks.held)
  pub ready : AreLinksReady (places_of w) x.links

-- and it isn't halted
pub record MayGo (w : World) (x : Around) : Type 0 where
  pub running : is_world_halted w ≡ false
  pub sits : Sits (nodes_over w x.disks.held)
  pub ready : AreLinksReady (places_of w) x.links

-- ---- what a call leaves, whatever comes of it

-- the nodes are those that were there, and stand over their disks; these went on, and those of no node are as they were; a
-- disk that failed is one of a node
pub record LeavesNodes {A : Type 0} (r : Result A WorldFault) (w v : World) (old new : DisksView) : Type 0 where
  pub ids : world_node_ids v ≡ world_node_ids w
  pub places : places_of v ≡ places_of w
  pub sits : OnOk r (Sits (nodes_over v new.held))
  pub disks : LeavesDisks r old.pairs new.pairs
  pub spare : SpareStay (places_of w) old.pairs new.pairs
  pub place : (k : ℕ) → IsErrOf r (Disk k) → IsPlace (places_of w) k

-- and the links are ready for the next
pub record Leaves {A : Type 0} (r : Result A WorldFault) (w v : World) (old new : Around) : Type 0 where
  pub nodes : LeavesNodes r w v old.disks new.disks
  pub ready : OnOk r (AreLinksReady (places_of v) new.links)
  pub links : LeavesLinks r old.links new.links

-- nothing was counted
pub record CountsNone (w v : World) : Type 0 where
  pub events : v.events ≡ w.events
  pub stops : v.stops ≡ w.stops

-- and those nodes are up that were
pub record StaysUp (w v : World) : Type 0 where
  pub counts : CountsNone w v
  pub ups : ups_of v ≡ ups_of w

-- one event was, and there are no more than may be
pub record CountsOne {A : Type 0} (r : Result A WorldFault) (w v : World) : Type 0 where
  pub counted : OnOk r (v.events ≡ w.events + 1)
  pub within : v.events ≤ MOST_EVENTS

-- an event ends because of no journal, and of no limit
pub record FailsInEvent {A : Type 0} (r : Result A WorldFault) : Type 0 where
  pub sound : IfErr r (λ e. is_of_journal e ≡ false)
  pub few : (which : ℕ) → IsErrOf r (TooMany which) → ⊥

-- and, where no message is carried, of no link
pub record FailsAtNode {A : Type 0} (r : Result A WorldFault) : Type 0 where
  pub event : FailsInEvent r
  pub unlinked : IfErr r (λ e. is_of_links e ≡ false)

-- the world is halted exactly where the call ended with an error
pub record IsHaltedBy {A : Type 0} (r : Result A WorldFault) (v : World) : Type 0 where
  pub running : OnOk r (is_world_halted v ≡ false)
  pub halted : OnErr r (is_world_halted v ≡ true)

-- ---- an event of a circuit

-- in each world of the circuit that the nodes stood for it is answered so, and leads to this one; where it ended with an error
-- their disks hold what they kept, or what they keep after it
pub record IsEvent (c : CircuitId) (told : CircuitWorld → Answer) (after : CircuitWorld → CircuitWorld) (r : Result Answer WorldFault) (old new : Nodes)
    : Type 0 where
  pub answer : (m : CircuitWorld) → HoldsWorld c m old → IfOk r (λ a. a ≡ told m)
  pub moves : OnOk r (Moves c after old new)
  pub ended : (m : CircuitWorld) → HoldsWorld c m old → IfErr r (λ e. EventEnds c (after m) e old new.disks)

-- the plan of an event was carried out at a node
abbrev pub HandlesEvent : NodeId → CircuitId → Event → Result Answer WorldFault → Nodes → Nodes → Type 0
HandlesEvent n c e r old new =
    IsEvent c (λ m. (plan_of (site_at n c) (m.at n) e).answer) (λ m. circuit_carried_out m n (plan_of (site_at n c) (m.at n) e)) r old new

-- a step ran
abbrev pub RunsStep : Step → Result Answer WorldFault → Nodes → Nodes → Type 0
RunsStep s r old new = IsEvent (step_circuit s) (λ m. (step_plan m s).answer) (λ m. step_world m s) r old new

-- and its message, where it has one, was carried
abbrev pub CarriesStep : Step → {A : Type 0} → Result A WorldFault → World → Around → Around → Type 0
CarriesStep s r w old new =
    (place : NodeId → ℕ) (m : CircuitWorld) → Places place (world_node_ids w) (places_of w) → HoldsWorld (step_circuit s) m (nodes_over w old.disks.held)
    → DeliversMessages r (carried_at place m (Steps s)) old.links new.links

-- a step names nodes of these
pub record IsStepAt (ids : List NodeId) (s : Step) : Type 0 where
  pub known : list_all (has_node ids) (step_nodes s) ≡ true
  pub fits : is_step s ≡ true

-- it ran, and its message was carried
pub record RunsAndCarries (s : Step) (r : Result Answer WorldFault) (w v : World) (old new : Around) : Type 0 where
  pub event : RunsStep s r (nodes_over w old.disks.held) (nodes_over v new.disks.held)
  pub links : CarriesStep s r w old new

-- ---- a line

-- these lines, and this one
abbrev pub with_line : List Ran → Line → List Ran
with_line before l = before ++ by_rule l ∷ []

-- a line ran after these, with so many events beside them: it is answered by the rules, and the nodes stand after it; where it ended with
-- an error their disks hold what they kept, but for one event of one node
pub record RunsLine (o : Origin) (others : ℕ) (before : List Ran) (l : Line) (r : Result Answer WorldFault) (w v : World) (is : List Images) : Type 0 where
  pub answer : IfOk r (λ a. a ≡ answer_to o before (by_rule l))
  pub stands : OnOk r (StandsAfterLines o others (with_line before l) v is)
  pub ended : IfErr r (λ e. LineEnds (λ c. whole_world o c before) l e (world_node_ids w) (places_of w) is)

-- a line that stops no node names nodes of these, and is no calm
pub record CanStep (ids : List NodeId) (l : Line) : Type 0 where
  pub known : list_all (has_node ids) (line_nodes l) ≡ true
  pub fits : is_line l ≡ true
  pub steps : stops l ≡ false
  pub single : is_calm l ≡ false

-- it ran: there are too many events only where these lines have them, disks that say what they hold are a journal, and its message was carried
pub record StepsLine (o : Origin) (others : ℕ) (before : List Ran) (l : Line) (r : Result Answer WorldFault) (w v : World) (old new : Around) : Type 0 where
  pub ran : RunsLine o others before l r w v new.disks.held
  pub many : (which : ℕ) → IsErrOf r (TooMany which) → (which ≡ 1) × (MOST_EVENTS < events_of o (with_line before l) + others)
  pub sound : (k at : ℕ) → IsErrOf r (NotAJournal k at) → ⊥
  pub links : (place : NodeId → ℕ) → Places place (world_node_ids w) (places_of w)
      → DeliversMessages r (line_carried place (λ c. whole_world o c before) l) old.links new.links

abbrev pub Stepping : Line → Result Answer WorldFault → World → World → Around → Around → Type 0
Stepping l r w v old new =
    (o : Origin) (others : ℕ) (before : List Ran) → StandsAfterLines o others before w old.disks.held → StepsLine o others before l r w v old new

-- what the disks hold stands for what the nodes keep after it, and so does what they picked; and all lines are within the limit of events
pub record KeepsLine (o : Origin) (others : ℕ) (before : List Ran) (l : Line) (r : Result Answer WorldFault) (w v : World) (old new : DisksView) : Type 0 where
  pub few : OnOk r (events_of o (with_line before l) + others ≤ MOST_EVENTS)
  pub held : (start : List PairView) → AllHeld o start before w old.pairs → OnOk r (AllHeld o start (with_line before l) v new.pairs)

abbrev pub Keeping : Line → Result Answer WorldFault → World → World → DisksView → DisksView → Type 0
Keeping l r w v old new =
    (o : Origin) (others : ℕ) (before : List Ran) → StandsAfterLines o others before w old.held → KeepsLine o others before l r w v old new

-- only a line that starts a node ends because disks hold no journal: those of that node
pub record StartsFrom (l : Line) {A : Type 0} (r : Result A WorldFault) (w : World) : Type 0 where
  pub place : (k at : ℕ) → IsErrOf r (NotAJournal k at) → IsPlace (places_of w) k × (starts l ≡ true)
  pub own : (n : NodeId) (k at : ℕ) → l ≡ line.Start n → IsErrOf r (NotAJournal k at) → HasPlace w n k

-- a line that stops no node ran, or ended with an error. Where it is refused, whatever the refusal, no node keeps anything else, and
-- nothing is sent
pub record RunsOrFails (l : Line) (r : Result Answer WorldFault) (w v : World) (old new : Around) : Type 0 where
  pub leaves : Leaves r w v old new
  pub steps : Stepping l r w v old new
  pub refused : (why : Refusal) → IfOk r (λ a. a ≡ answer.Refused why → WorldsStay (nodes_over w old.disks.held) (nodes_over v new.disks.held))
  pub journal : StartsFrom l r w

-- ---- a line that stops a node

-- it names nodes of these
pub record CanHalt (ids : List NodeId) (l : Line) : Type 0 where
  pub known : list_all (has_node ids) (line_nodes l) ≡ true
  pub fits : is_line l ≡ true
  pub stops : stops l ≡ true

-- how a call that stops a node leaves all nodes and their disks: no fault is forgotten
pub record LeavesHalted {A E : Type 0} (r : Result A E) (w v : World) (old new : DisksView) : Type 0 where
  pub ids : world_node_ids v ≡ world_node_ids w
  pub places : places_of v ≡ places_of w
  pub sits : OnOk r (Sits (nodes_over v new.held))
  pub onward : NoneForgotten old.pairs new.pairs

-- the pairs of nodes that the line doesn't stop, and those of no node, stay as they were, and no disk has more than one pick more
pub record ChangesOne (l : Line) (w : World) (old new : List PairView) : Type 0 where
  pub others : (i : ℕ) (s : Slot) → slice_get w.slots.items i ≡ Some s → stops_at (slot_id s) l ≡ false → slice_get new s.position ≡ slice_get old s.position
  pub once : (k : ℕ) → PicksOnceAt k old new
  pub spare : SpareStay (places_of w) old new

-- it ends because of a limit, or because memory ran out
pub record FailsInHalt {A : Type 0} (r : Result A WorldFault) : Type 0 where
  pub disk : (k : ℕ) → IsErrOf r (Disk k) → ⊥
  pub sound : IfErr r (λ e. is_of_journal e ≡ false)
  pub unlinked : IfErr r (λ e. is_of_links e ≡ false)

-- it ran: a limit is passed only where these lines pass it
pub record HaltsLine (o : Origin) (others : ℕ) (before : List Ran) (l : Line) (r : Result Answer WorldFault) (w v : World) (is : List Images) : Type 0 where
  pub ran : RunsLine o others before l r w v is
  pub many : (which : ℕ) → IsErrOf r (TooMany which) → IsOverLimit o others (with_line before l) which

abbrev pub Halting : Line → Result Answer WorldFault → World → World → List Images → List Images → Type 0
Halting l r w v was is = (o : Origin) (others : ℕ) (before : List Ran) → StandsAfterLines o others before w was → HaltsLine o others before l r w v is

-- with it these lines are within both limits
pub record IsWithinLimits (o : Origin) (others : ℕ) (before : List Ran) (l : Line) (r : Result Answer WorldFault) : Type 0 where
  pub few : OnOk r (events_of o (with_line before l) + others ≤ MOST_EVENTS)
  pub fewer : OnOk r (stops_of (with_line before l) ≤ MOST_STOPS)

-- these lines are within the limits, and the disks hold what the nodes keep after them, and so does what they picked. Each disk of the
-- node, where that was up and they weren't armed, has one pick more; and where it stopped in a checkpoint the disk that didn't count
-- keeps a higher count of faults with it
pub record PicksLine (o : Origin) (others : ℕ) (before : List Ran) (l : Line) (r : Result Answer WorldFault) (w v : World)
    (old new : List PairView) : Type 0 where
  pub within : IsWithinLimits o others before l r
  pub held : (start : List PairView) → AllHeld o start before w old → OnOk r (AllHeld o start (with_line before l) v new)
  pub picks : (i : ℕ) (s : Slot) → slice_get w.slots.items i ≡ Some s → AllUnarmed old → stops_at (slot_id s) l ≡ true
      → OnOk r (StopsPair (slot_id s) (slot_up s) (stopping_of l) (cells_after_lines o (with_line before l) (slot_id s)) s.position old new)
  pub risen_other : (i : ℕ) (s : Slot) → slice_get w.slots.items i ≡ Some s → stops_at (slot_id s) l ≡ true → IsInCheckpointIn (λ c. whole_world o c before) l s
      → OnOk r (HigherAt s.position old new)

abbrev pub Picking : Line → Result Answer WorldFault → World → World → DisksView → DisksView → Type 0
Picking l r w v old new = (o : Origin) (others : ℕ) (before : List Ran) → StandsAfterLines o others before w old.held
    → PicksLine o others before l r w v old.pairs new.pairs

-- what such a line leaves, and does, where it is counted
pub record LineHalts (l : Line) (r : Result Answer WorldFault) (w v : World) (old new : DisksView) : Type 0 where
  pub leaves : LeavesHalted r w v old new
  pub runs : Halting l r w v old.held new.held
  pub one : ChangesOne l w old.pairs new.pairs
  pub slot : OnOk r (StopsBy l (nodes_over w old.held) old.pairs new.pairs)
  pub faults : FailsInHalt r

-- ---- one node

-- the node of this index comes up, over disks that hold a journal where they say what they hold
pub record StartsNode (i : ℕ) {A : Type 0} (r : Result A WorldFault) (w v : World) (old new : DisksView) : Type 0 where
  pub leaves : LeavesNodes r w v old new
  pub holds : (c : CircuitId) (n : NodeId) (m : CircuitWorld) → IsNodeAt w i n → HoldsWorld c m (nodes_over w old.held)
      → OnOk r (HoldsWorld c (circuit_happens m (Starts n)) (nodes_over v new.held))
  pub sound : (c : CircuitId) (m : CircuitWorld) (slot at : ℕ) → HoldsWorld c m (nodes_over w old.held) → IsErrOf r (NotAJournal slot at) → ⊥
  pub journal : (position at : ℕ) → IsErrOf r (NotAJournal position at) → slice_get (places_of w) i ≡ Some position
  pub ended : (c : CircuitId) (m : CircuitWorld) → HoldsWorld c m (nodes_over w old.held) → IfErr r (λ e. EventEnds c m e (nodes_over w old.held) new.held)
  pub few : (which : ℕ) → IsErrOf r (TooMany which) → ⊥
  pub unlinked : IfErr r (λ e. is_of_links e ≡ false)

-- the node of this index goes down so: no other pair changes, and where it was up its disks pick
pub record StopsAlone (i : ℕ) (how : Option Stopping) {A E : Type 0} (r : Result A E) (w v : World) (old new : DisksView) : Type 0 where
  pub leaves : LeavesHalted r w v old new
  pub only : (s : Slot) → slice_get w.slots.items i ≡ Some s → OnlyAt s.position old.pairs new.pairs
  pub picks : (s : Slot) → slice_get w.slots.items i ≡ Some s → OnOk r (StopsAt (PickUnarmed how) (slot_up s) s.position old.pairs new.pairs)

-- the node of this index stopped in a step, in a world of its circuit: it is said whether the step has changes, and the node keeps them or not; its disks
-- failed as they had to; where memory ran out they hold what it kept, or what it keeps with those changes
pub record StopsInStep (i : ℕ) (c : CircuitId) (m : CircuitWorld) (h : Stopping) (s : Step) {E : Type 0} (r : Result Bool E) (xs ys : Nodes)
    (old new : List PairView) : Type 0 where
  pub tells : IfOk r (λ b. b ≡ has_changes (step_plan m s).changes)
  pub own : OnOk r (HoldsWorld c (circuit_happens m (Halts (keeps h) s)) ys)
  pub risen : (t : Slot) → slice_get xs.slots i ≡ Some t → OnOk r (FailsBy m h s t old new)
  pub ended : OnErr r (EventEnds c (circuit_happens m (Halts true s)) NoMemory xs ys.disks)

-- the node of a step goes down in it: it is said what became of its record; nothing where it was down
pub record HaltsStep (s : Step) (h : Stopping) {E : Type 0} (r : Result (Option Bit) E) (w v : World) (old new : DisksView) : Type 0 where
  pub leaves : LeavesHalted r w v old new
  pub bit : (m : CircuitWorld) → HoldsWorld (step_circuit s) m (nodes_over w old.held) → IfOk r (λ b. b ≡ bit_in m s (keeps h))
  pub own : (m : CircuitWorld) → HoldsWorld (step_circuit s) m (nodes_over w old.held)
      → OnOk r (HoldsWorld (step_circuit s) (circuit_happens m (Halts (keeps h) s)) (nodes_over v new.held))
  pub others : (d : CircuitId) (m : CircuitWorld) → bytes_eq (step_circuit s) d ≡ false → HoldsWorld d m (nodes_over w old.held)
      → OnOk r (HoldsWorld d (circuit_happens m (Stops (step_node s))) (nodes_over v new.held))
  pub only : OnlyOf (step_node s) (nodes_over w old.held) old.pairs new.pairs
  pub slot : OnOk r (StopsSlot (step_node s) (Some h) (λ worlds. FailsBy (worlds (step_circuit s)) h s) (nodes_over w old.held) old.pairs new.pairs)
  pub ended : (m : CircuitWorld) → HoldsWorld (step_circuit s) m (nodes_over w old.held)
      → OnErr r (EventEnds (step_circuit s) (circuit_happens m (Halts true s)) NoMemory (nodes_over w old.held) new.held)

-- the node of a line stops
pub record HaltsNode (l : Line) {E : Type 0} (r : Result Answer E) (w v : World) (old new : DisksView) : Type 0 where
  pub leaves : LeavesHalted r w v old new
  pub answer : (worlds : CircuitId → CircuitWorld) (roll : NodeId → Answer) → ((c : CircuitId) → HoldsWorld c (worlds c) (nodes_over w old.held))
      → IfOk r (λ a. a ≡ line_answer worlds roll l (keeps_record l))
  pub holds : (c : CircuitId) (m : CircuitWorld) → HoldsWorld c m (nodes_over w old.held)
      → OnOk r (HoldsWorld c (world_after_line c m (by_rule l)) (nodes_over v new.held))
  pub only : OnlyBy l (nodes_over w old.held) old.pairs new.pairs
  pub slot : OnOk r (StopsBy l (nodes_over w old.held) old.pairs new.pairs)
  pub ended : (worlds : CircuitId → CircuitWorld) → ((c : CircuitId) → HoldsWorld c (worlds c) (nodes_over w old.held))
      → OnErr r (LineEnds worlds l NoMemory (world_node_ids w) (places_of w) new.held)

-- The lists of a circuit: one at all members, and what answers tell of it (docs/RULES.md, Agreement of circuits).
use Rattle.std.specs.Prelude.{Bool, false, List, [], ◌∷◌, ◌++◌, if◌then◌else◌, ◌≡◌, ℕ, ◌-◌, ◌⊎◌, true, slice_get, Option, Some, None, is_some, length, map}
use Rattle.std.specs.{Prelude.{take, ◌≢◌, ◌<◌, ◌≤◌, not, ◌&&◌, suc, ◌+◌}, Str.bytes_eq, List.filter, Map.lookup, BTreeMap.is_at}
use Rattle.spl_circuit_world.specs.Worlds.{node_of, World, Occurrence, Steps, Stops, Starts, Halts, step_plan, circuit_happens, empty_world, messages}
use Rattle.spl_circuit_world.specs.{Worlds.{step_world, Origin, blank, occur, world_after, SentMessage, on_pair, first_world}, Projection.{Ran, plainly}}
use Rattle.spl_circuit_world.specs.{Projection.AllPlain, Answers.{circuit_world, answer_to, occurrences}, Whole.whole_happened}
use Rattle.spl_agree.specs.{Member.{known, Member, values}, World.IsPrefixOf, declared.event.GroupChange.GroupChange}
use Rattle.spl_agree.specs.declared.event.GroupChange.TheVariants as change
use Rattle.spl_agree.specs.declared.event.Note.TheVariants as note
use Rattle.spl_agree.specs.declared.message.CommitMsg.TheVariants as msg
use Rattle.spl_circuit.specs.{Nodes.{NodeId, CircuitId, has_node}, Rules.{admin, service}, Equality.same_definition, Lifecycle.{Life, no_life, life}}
use Rattle.spl_circuit.specs.{Lifecycle.{is_running, current}, Acts.act_rules, Forms.definition, declared.act.{Act.Act, ActKind.ActKind}}
use Rattle.spl_circuit.specs.declared.{definition.Definition.Definition, lifecycle.Lifecycle.Lifecycle}
use Rattle.spl_circuit.specs.declared.act.ActKind.TheVariants as kind
use Rattle.spl_circuit.specs.declared.lifecycle.Lifecycle.TheVariants as lifecycle
use Rattle.spl_command.specs.{Lists.{state_of, receipts_at}, declared.{batch.Batch.Batch, receipt.Receipt.Receipt}}
use Rattle.spl_wire.specs.declared.{answer.Answer.Answer, change.Change.Change, event.Event.Event, message.Message.Message}
use Rattle.spl_wire.specs.declared.change.Change.TheVariants as durable
use Rattle.spl_wire.specs.declared.message.Message.TheVariants as message
use Rattle.spl_wire.specs.declared.event.Event.TheVariants as event
use Rattle.spl_wire.specs.declared.answer.Answer.TheVariants as answer
use Rattle.spl_wire.specs.declared.answer.BatchStatus.TheVariants as status
use Rattle.spl_wire.specs.declared.answer.Refusal.TheVariants as refusal
use Rattle.spl_sched.specs.{Grammar.step_node, declared.line.Step.Step}
use Rattle.spl_sched.specs.declared.line.Step.TheVariants as step
use Rattle.spl_sched.specs.declared.line.Line.TheVariants as line
use Rattle.spl_cell_rules.specs.{Cells.{Cell, Held, own_life, next_act, proposal, Bound, Site, Empty, Purged, site_at}, Events.next_kind, Batches.entry_told}
use Rattle.spl_cell_rules.specs.Batches.{has_prefix}
use Rattle.spl_scabbard.specs.{Checks.{batch_rules, is_taken}, Readers.{ids_of, place_of}}
use Rattle.sha2.specs.Sha256.{sha256}
use Rattle.spl_state.specs.{Entries.address_cmp, Root.node_at, declared.address.Address.Address}
use Rattle.spl_proof.specs.{Made.proof, Forms.proof as proof_form}

-- the changes that are made
abbrev pub changes_of : World → Occurrence → List Change
changes_of w (Steps s) = (step_plan w s).changes
changes_of w (Halts kept s) = if w.up (step_node s) then (if kept then (step_plan w s).changes else []) else []
changes_of w _ = []

-- what a change commits
abbrev pub committed : {V : Type 0} → GroupChange V → List V
committed (change.Commit r v) = v ∷ []
committed _ = []

abbrev pub act_of : Change → List Act
act_of (durable.Admin x) = committed x
act_of _ = []

abbrev pub batch_of : Change → List Batch
batch_of (durable.Service x) = committed x
batch_of _ = []

abbrev pub acts_in : List Change → List Act
acts_in [] = []
acts_in (x ∷ xs) = act_of x ++ acts_in xs

abbrev pub batches_in : List Change → List Batch
batches_in [] = []
batches_in (x ∷ xs) = batch_of x ++ batches_in xs

-- the cell is bound to this definition
abbrev pub is_bound_to : Definition → Cell → Bool
is_bound_to d (Held h) = same_definition h.definition d
is_bound_to d _ = false

-- what is committed at the cell of a circuit's coordinator while it is bound to the circuit
abbrev pub adds : {V : Type 0} → (List Change → List V) → NodeId → Definition → World → Occurrence → List V
adds values leader d w e =
    if bytes_eq (node_of e) leader then (if is_bound_to d (w.at leader) then values (changes_of w e) else []) else []

abbrev pub list_from : {V : Type 0} → (List Change → List V) → NodeId → Definition → World → List Occurrence → List V
list_from values leader d w [] = []
list_from values leader d w (e ∷ es) = adds values leader d w e ++ list_from values leader d (circuit_happens w e) es

abbrev pub acts_from : Definition → World → List Occurrence → List Act
acts_from d w es = list_from acts_in (admin d) d w es

abbrev pub batches_from : Definition → World → List Occurrence → List Batch
batches_from d w es = list_from batches_in (service d) d w es

-- the list of acts of a circuit, after what happened
abbrev pub act_list : List NodeId → Definition → List Occurrence → List Act
act_list ns d es = acts_from d (empty_world ns) es

-- its list of batches
abbrev pub batch_list : List NodeId → Definition → List Occurrence → List Batch
batch_list ns d es = batches_from d (empty_world ns) es

-- a value of one of the two groups
pub data Value : Type 0 where
  OfActs : Act → Value
  OfBatches : Batch → Value

-- it is known at a cell
abbrev pub knows_value : Value → Cell → Bool
knows_value (OfActs v) (Held h) = is_some (known (act_rules h.definition) h.acts v)
knows_value (OfBatches v) (Held h) = is_some (known batch_rules h.batches v)
knows_value v _ = false

-- the turn of the node's last act
abbrev pub turn_of : Cell → ℕ
turn_of (Held h) = h.turn
turn_of _ = 0

-- the lifecycle at the node
abbrev pub life_at : Cell → Life
life_at (Held h) = own_life h
life_at _ = no_life

-- the value that a message hands on
abbrev pub handed_on : Message → Option Value
handed_on (message.Admin c (msg.Forward gen v)) = Some (OfActs v)
handed_on (message.Scabbard c s t (msg.Forward gen v)) = Some (OfBatches v)
handed_on _ = None

-- the node's next act of a kind
abbrev pub next_of : NodeId → ℕ → Option ActKind → Option Value
next_of n turn None = None
next_of n turn (Some k) = Some (OfActs (next_act n turn k))

-- the value that an event brings to a cell: a proposal, a batch, what is handed on, or the node's next act
abbrev pub brought_to : NodeId → Cell → Event → Option Value
brought_to n k (event.Propose d) = Some (OfActs (proposal n d))
brought_to n k (event.Submit v) = Some (OfBatches v)
brought_to n k (event.Deliver from m) = handed_on m
brought_to n k e = next_of n (turn_of k) (next_kind (life_at k) e)

abbrev pub handed_over : Option Message → Option Value
handed_over None = None
handed_over (Some m) = handed_on m

-- the value that a step brings
abbrev pub brought : World → Step → Option Value
brought w (step.At n c e) = brought_to n (w.at n) e
brought w (step.Deliver from to c k) = handed_over (slice_get (messages w from to) (k - 1))

-- the answer that a value is queued, to a line or of a message
abbrev pub IsQueued : Answer → Type 0
IsQueued a = (a ≡ answer.Submitted false) ⊎ (a ≡ answer.Delivered note.Queued)

-- a step that is answered so has brought a value, and after it the cell knows that value
abbrev pub KnowsQueued : World → Step → Type 0
KnowsQueued w s = IsQueued (step_plan w s).answer → (v : Value) × (brought w s ≡ Some v) × (knows_value v ((step_world w s).at (step_node s)) ≡ true)

-- a line that asks a node about a circuit
abbrev pub asking_line : NodeId → CircuitId → Event → Ran
asking_line n c e = plainly (line.Step (step.At n c e))

-- in these lines of a run that begins there, a node that is bound to the definition is asked about the circuit, and this is the answer
pub record IsTold (o : Origin) (rs : List Ran) (c : CircuitId) (d : Definition) (e : Event) (told : Answer) : Type 0 where
  pub node : NodeId
  pub before : List Ran
  pub after : List Ran
  pub lines : before ++ asking_line node c e ∷ after ≡ rs
  pub bound : is_bound_to d ((circuit_world o c before).at node) ≡ true
  pub said : answer_to o before (asking_line node c e) ≡ told

-- two answers about a circuit, of nodes that are bound to one definition: roots of as many batches are one root, and of two
-- histories one begins the other
pub record TellOneList (ns : List NodeId) (rs : List Ran) : Type 0 where
  pub roots :
      (c : CircuitId) (d : Definition) (count : ℕ) (x y : List ℕ) →
      IsTold (blank ns) rs c d event.Root (answer.Root count x) → IsTold (blank ns) rs c d event.Root (answer.Root count y) →
      x ≡ y
  pub histories :
      (c : CircuitId) (d : Definition) (xs ys : List ℕ) →
      IsTold (blank ns) rs c d event.History (answer.History xs) → IsTold (blank ns) rs c d event.History (answer.History ys) →
      IsPrefixOf xs ys ⊎ IsPrefixOf ys xs

-- the answer to an event at a site, in this world
abbrev pub answered : World → Site → Event → Answer
answered w site e = (step_plan w (step.At site.here site.circuit e)).answer

-- the members that have accepted what is reported by these acts, in member order
abbrev pub members_accepting : Definition → List Act → List NodeId
members_accepting d acts = filter (λ m. has_node (current (life d acts)).accepted m) d.members

-- by these acts the circuit runs
abbrev pub AreRunning : Definition → List Act → Type 0
AreRunning d acts = is_running (life d acts).state ≡ true

-- what is answered where these acts and these batches are committed: of the lifecycle always, of the batches where the
-- circuit runs by those acts
pub record TellsLists (asks : Event → Answer) (h : Bound) (acts : List Act) (batches : List Batch) : Type 0 where
  pub show :
      asks event.Show
      ≡ answer.Show h.definition.generation (life h.definition acts).state h.mark (members_accepting h.definition acts)
      (length acts) (length h.acts.pending) (length batches) (length h.batches.pending)
  pub detail :
      asks event.Detail
      ≡ answer.Detail h.definition (sha256 (definition.spell h.definition)) (life h.definition acts).state h.mark
      (members_accepting h.definition acts) (life h.definition acts).circuit.requester
  pub root : AreRunning h.definition acts → asks event.Root ≡ answer.Root (length batches) (node_at 70 [] (state_of batches))
  pub prove :
      (address : Address) →
      AreRunning h.definition acts →
      asks (event.Prove address) ≡ answer.Proof (node_at 70 [] (state_of batches)) (proof_form.spell (proof (state_of batches) address))
  pub history : AreRunning h.definition acts → asks event.History ≡ answer.History (ids_of batches)
  pub get :
      (address : Address) →
      AreRunning h.definition acts →
      asks (event.Get address) ≡ answer.Value (lookup (is_at (address_cmp address)) (state_of batches))
  pub list :
      (prefix : List ℕ) →
      AreRunning h.definition acts →
      asks (event.List prefix) ≡ answer.Listed (map entry_told (filter (has_prefix prefix) (state_of batches)))
  -- a batch by its id: its place among those, and the receipts of that place
  pub committed :
      (i place : ℕ) →
      AreRunning h.definition acts → place_of batches i ≡ Some place →
      asks (event.Status i) ≡ answer.Status (status.Committed place)
  pub receipt :
      (i place : ℕ) (receipts : List Receipt) →
      AreRunning h.definition acts → place_of batches i ≡ Some place → receipts_at batches place ≡ Some receipts →
      asks (event.Receipt i) ≡ answer.Receipt i place receipts
  pub unknown : (i : ℕ) → AreRunning h.definition acts → place_of batches i ≡ None → asks (event.Receipt i) ≡ answer.Refused refusal.UnknownId

-- so a node answers while it is up, by the prefixes of the circuit's lists that are committed at its cell
abbrev pub TellsPrefixes : World → Site → Bound → List Act → List Batch → Type 0
TellsPrefixes w site h acts batches =
    w.up site.here ≡ true → TellsLists (answered w site) h (take (length h.acts.history) acts) (take (length h.batches.history) batches)

-- something holds of each cell that is bound to a definition
abbrev pub AtEach : World → Definition → (NodeId → Bound → Type 0) → Type 0
AtEach w d P = (n : NodeId) (h : Bound) → w.at n ≡ Held h → h.definition ≡ d → P n h

-- the ids of batches differ
abbrev pub AllDiffer : List Batch → Type 0
AllDiffer [] = Unit {0}
AllDiffer (b ∷ bs) = (is_taken bs b.id ≡ false) × AllDiffer bs

-- two definitions of one generation that share a member don't both have acts
abbrev pub ShareNothing : List NodeId → List Occurrence → Definition → Definition → Type 0
ShareNothing ns es d e =
    (n : NodeId) → has_node d.members n ≡ true → has_node e.members n ≡ true → d.generation ≡ e.generation →
    act_list ns d es ≢ [] → act_list ns e es ≢ [] → d ≡ e

-- from one moment to a later one, where a cell is bound to a definition at both: its histories have grown, and what it
-- knew it knows
pub record Keeps (h later : Bound) : Type 0 where
  pub acts : IsPrefixOf h.acts.history later.acts.history
  pub batches : IsPrefixOf h.batches.history later.batches.history
  pub known_acts : (v : Act) → is_some (known (act_rules h.definition) h.acts v) ≡ true → is_some (known (act_rules h.definition) later.acts v) ≡ true
  pub known_batches : (v : Batch) → is_some (known batch_rules h.batches v) ≡ true → is_some (known batch_rules later.batches v) ≡ true

-- what a cell was bound to is after it: it is bound to it still, or was purged, or is bound to a later generation
abbrev pub IsPast : Definition → Cell → Type 0
IsPast d Empty = ⊥
IsPast d (Purged old) = d.generation ≤ old
IsPast d (Held h) = (h.definition ≡ d) ⊎ (d.generation < h.definition.generation)

-- the circuit has ended: it was rejected, removed or disbanded
abbrev pub circuit_has_ended : Lifecycle → Bool
circuit_has_ended lifecycle.Rejected = true
circuit_has_ended lifecycle.Removed = true
circuit_has_ended lifecycle.Disbanded = true
circuit_has_ended _ = false

-- what has ended at a cell stands so for good: at a later cell of the same node and generation it does
abbrev pub EndsForGood : Bound → Cell → Type 0
EndsForGood h k =
    circuit_has_ended (own_life h).state ≡ true → (later : Bound) → k ≡ Held later → later.definition.generation ≡ h.definition.generation →
    (own_life later).state ≡ (own_life h).state

-- the first act of a history, if there is one, is the proposal of the definition
abbrev pub FirstIsProposal : Definition → Member Act → Type 0
FirstIsProposal d a = (e : ℕ × Act) (rest : List (ℕ × Act)) → a.history ≡ e ∷ rest → e.1.kind ≡ kind.Propose d

abbrev pub is_proposal : ActKind → Bool
is_proposal (kind.Propose d) = true
is_proposal _ = false

abbrev pub is_proposal_of : NodeId → Act → Bool
is_proposal_of n v = bytes_eq v.node n && is_proposal v.kind

abbrev pub is_other_act_of : NodeId → Act → Bool
is_other_act_of n v = bytes_eq v.node n && not (is_proposal v.kind)

-- at most one proposal and at most one other act of each node
pub record AreFew (pending : List Act) : Type 0 where
  pub proposals : (n : NodeId) → length (filter (is_proposal_of n) pending) ≤ 1
  pub others : (n : NodeId) → length (filter (is_other_act_of n) pending) ≤ 1

-- ---- the agreement

-- what holds of the circuit of a definition after what happened in the world of its id
pub record IsAgreed (ns : List NodeId) (es : List Occurrence) (d : Definition) : Type 0 where
  -- the acts and the batches that are committed at a member begin the circuit's lists
  pub acts : AtEach (world_after ns es) d (λ n h. IsPrefixOf (values h.acts.history) (act_list ns d es))
  pub batches : AtEach (world_after ns es) d (λ n h. IsPrefixOf (values h.batches.history) (batch_list ns d es))
  pub differ : AllDiffer (batch_list ns d es)
  -- what a member reports, it reports of the prefixes of those lists that are committed at it
  pub told : (c : CircuitId) → AtEach (world_after ns es) d (λ n h. TellsPrefixes (world_after ns es) (site_at n c) h (act_list ns d es) (batch_list ns d es))
  -- what the last step is answered to have queued is known there
  pub queued : (before : List Occurrence) (s : Step) → es ≡ before ++ Steps s ∷ [] → KnowsQueued (world_after ns before) s
  pub apart : (e : Definition) → ShareNothing ns es d e
  -- whatever happens later
  pub keeps :
      (fs : List Occurrence) → AllPlain fs →
      AtEach (world_after ns es) d (λ n h. (later : Bound) → (occur (world_after ns es) fs).at n ≡ Held later → later.definition ≡ d → Keeps h later)
  pub past : (fs : List Occurrence) → AllPlain fs → AtEach (world_after ns es) d (λ n h. IsPast d ((occur (world_after ns es) fs).at n))
  pub few : AtEach (world_after ns es) d (λ n h. n ≡ admin d → AreFew h.acts.pending)

-- the agreement of all circuits in a run of lines: at each moment of the world of each id, of each definition
pub record Agree (ns : List NodeId) (rs : List Ran) : Type 0 where
  pub happened : (c : CircuitId) → circuit_world (blank ns) c rs ≡ world_after ns (occurrences (blank ns) c rs)
  pub agreed : (c : CircuitId) (d : Definition) (es fs : List Occurrence) → es ++ fs ≡ occurrences (blank ns) c rs → IsAgreed ns es d

-- the answer is what these acts and these batches make it. Of a refusal, and of a batch that isn't committed, it says nothing
abbrev pub IsShownBy : Definition → List Act → List Batch → Event → Answer → Type 0
IsShownBy d acts batches event.Show (answer.Show generation state mark accepted count pending places waiting) =
    (generation ≡ d.generation) × (state ≡ (life d acts).state) × (accepted ≡ members_accepting d acts) × (count ≡ length acts) × (places ≡ length batches)
IsShownBy d acts batches event.Detail (answer.Detail definition hash state mark accepted requester) =
    (definition ≡ d) × (state ≡ (life d acts).state) × (accepted ≡ members_accepting d acts) × (requester ≡ (life d acts).circuit.requester)
IsShownBy d acts batches event.Root (answer.Root count root) = (count ≡ length batches) × (root ≡ node_at 70 [] (state_of batches))
IsShownBy d acts batches (event.Prove address) (answer.Proof root bytes) =
    (root ≡ node_at 70 [] (state_of batches)) × (bytes ≡ proof_form.spell (proof (state_of batches) address))
IsShownBy d acts batches event.History (answer.History ids) = ids ≡ ids_of batches
IsShownBy d acts batches (event.Get address) (answer.Value value) = value ≡ lookup (is_at (address_cmp address)) (state_of batches)
IsShownBy d acts batches (event.List prefix) (answer.Listed entries) = entries ≡ map entry_told (filter (has_prefix prefix) (state_of batches))
IsShownBy d acts batches (event.Status i) (answer.Status (status.Committed place)) = place_of batches i ≡ Some place
IsShownBy d acts batches (event.Receipt i) (answer.Receipt j place receipts) =
    (j ≡ i) × (place_of batches i ≡ Some place) × (receipts_at batches place ≡ Some receipts)
IsShownBy d acts batches e told = Unit {0}

-- the answer is of a prefix of these acts and a prefix of these batches
pub record IsOfPrefixes (d : Definition) (acts : List Act) (batches : List Batch) (e : Event) (told : Answer) : Type 0 where
  pub acts_before : ℕ
  pub batches_before : ℕ
  pub shown : IsShownBy d (take acts_before acts) (take batches_before batches) e told

-- whatever node that is bound to a definition is asked about its circuit, on whatever line: the answer is of prefixes of the two
-- lists that the circuit has after all lines
abbrev pub ShowsPrefixes : List NodeId → List Ran → Type 0
ShowsPrefixes ns rs =
    (c : CircuitId) (d : Definition) (e : Event) (told : Answer) → IsTold (blank ns) rs c d e told →
    IsOfPrefixes d (act_list ns d (occurrences (blank ns) c rs)) (batch_list ns d (occurrences (blank ns) c rs)) e told

-- ---- what was sent before

-- a world in which these messages were sent before all others
abbrev pub sent_before : List SentMessage → World → World
sent_before old w = record { nodes = w.nodes; up = w.up; at = w.at; sent = old ++ w.sent }

-- the same step there: the messages of a pair are numbered on
abbrev pub step_on : List SentMessage → Step → Step
step_on old (step.At n c e) = step.At n c e
step_on old (step.Deliver from to c k) = step.Deliver from to c (suc (length (on_pair from to old) + (k - 1)))

abbrev pub occurrence_on : List SentMessage → Occurrence → Occurrence
occurrence_on old (Steps s) = Steps (step_on old s)
occurrence_on old (Stops n) = Stops n
occurrence_on old (Starts n) = Starts n
occurrence_on old (Halts kept s) = Halts kept (step_on old s)

-- ---- a run that goes on

-- the cells with which a run begins are those that have been left: no more is left than these and the messages
abbrev pub HasLeft : List Occurrence → Origin → CircuitId → Type 0
HasLeft es o c = world_after o.nodes es ≡ sent_before (world_after o.nodes es).sent (first_world o c)

-- what happened before and what happens in the run, as one
abbrev pub gone_on : List NodeId → List Occurrence → List Occurrence → List Occurrence
gone_on ns es fs = es ++ map (occurrence_on (world_after ns es).sent) fs

-- all nodes stop and start again
abbrev pub restarts : List NodeId → List Occurrence
restarts [] = []
restarts (n ∷ ns) = Stops n ∷ Starts n ∷ restarts ns

-- what happened took place at these nodes
abbrev pub AllHappenedAt : List NodeId → List Occurrence → Type 0
AllHappenedAt ns [] = Unit {0}
AllHappenedAt ns (e ∷ es) = (has_node ns (node_of e) ≡ true) × AllHappenedAt ns es

-- at each moment of the world of each id, the run is the former one gone on, except the messages that were sent before; and
-- in that one its circuits agree
pub record AgreeOn (o : Origin) (left : CircuitId → List Occurrence) (rs : List Ran) : Type 0 where
  pub happened : (c : CircuitId) → circuit_world o c rs ≡ occur (first_world o c) (occurrences o c rs)
  pub goes_on :
      (c : CircuitId) (es fs : List Occurrence) →
      es ++ fs ≡ occurrences o c rs →
      world_after o.nodes (gone_on o.nodes (left c) es) ≡ sent_before (world_after o.nodes (left c)).sent (occur (first_world o c) es)
  pub agreed : (c : CircuitId) (d : Definition) (es fs : List Occurrence) → es ++ fs ≡ occurrences o c rs → IsAgreed o.nodes (gone_on o.nodes (left c) es) d

-- ---- what is shown in it

-- what happened in a circuit before and in all lines of the run, as one
abbrev pub gone_on_in : Origin → (CircuitId → List Occurrence) → CircuitId → List Ran → List Occurrence
gone_on_in o left c rs = gone_on o.nodes (left c) (whole_happened o c rs)

-- whatever node that is bound to a definition is asked about its circuit, on whatever line of the run: the answer is of prefixes of
-- the two lists that the circuit has after all lines, in both runs as one
abbrev pub ShowsOn : Origin → (CircuitId → List Occurrence) → List Ran → Type 0
ShowsOn o left rs =
    (c : CircuitId) (d : Definition) (e : Event) (told : Answer) → IsTold o rs c d e told →
    IsOfPrefixes d (act_list o.nodes d (gone_on_in o left c rs)) (batch_list o.nodes d (gone_on_in o left c rs)) e told

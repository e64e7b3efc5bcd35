-- The lines of a schedule (docs/RULES.md, Schedules).
use Rattle.std.specs.Prelude.{ℕ, ◌^◌, Bool, true, false, not, ◌&&◌, nat_le, nat_lt, List, [], ◌∷◌, ◌++◌, length, map, Option, Some, None, if◌then◌else◌}
use Rattle.std.specs.{Prelude.{codes, decimal}, List.{list_all, join_with_byte}, Option.option_map, Str.bytes_eq}
use Rattle.spl_base.specs.Ids.{is_node_id, is_circuit_id, is_service_id}
use Rattle.spl_circuit.specs.{Rules.nodes_of as service_nodes, declared.definition.{Definition.Definition, Service.Service}}
use Rattle.spl_command.specs.declared.batch.{Batch.Batch, Transaction.Transaction}
use Rattle.spl_state.specs.declared.address.Address.{Address}
use Rattle.spl_edge.specs.declared.fill.Fill.{Fill, TheVariants.{Old, New, Byte}}
use Rattle.spl_wire.specs.declared.event.Event.{Event}
use Rattle.spl_wire.specs.declared.event.Event.TheVariants as event
use Rattle.spl_sched.specs.{Checks.{is_check, words_of_check, check, check_of}, Transactions.{is_address, is_prefix, is_transaction, address_word, dashed}}
use Rattle.spl_sched.specs.{Transactions.{words_of_transactions, transactions_words}, declared.line.{Line.Line, Step.{Step, TheVariants.{At, Deliver}}}}
use Rattle.spl_sched.specs.declared.line.TheConstants.{MOST_PASSES}
use Rattle.spl_sched.specs.declared.line.Line.TheVariants as line
use Rattle.spl_words.specs.Words.{Word, Words, Kind, is_name, text, number, flag, hex, hex_byte, joined, end, ◌&◌, ◌>>=◌, read_first, up_to, meaning, that}
use Rattle.spl_words.specs.Words.{kind, read_kind}

-- 1 to 32 bytes of a to z, 0 to 9 and -
abbrev pub is_type : List ℕ → Bool
is_type xs = is_node_id xs

-- ---- how a line is spelled

-- SERVICE:TYPE:NODE
abbrev pub service_text : Service → List ℕ
service_text s = join_with_byte 58 (s.id ∷ s.kind ∷ s.node ∷ [])

-- GEN VERSION MANAGEMENT NAME MEMBERS SERVICES
abbrev pub words_of_terms : Definition → List (List ℕ)
words_of_terms d =
    decimal d.generation ∷ decimal d.version ∷ d.management ∷ d.name ∷ join_with_byte 44 d.members ∷ join_with_byte 44 (map service_text d.services) ∷ []

abbrev pub event_name : Event → List ℕ
event_name (event.Propose d) = codes "propose"
event_name (event.Vote accept) = codes "vote"
event_name event.Remove = codes "remove"
event_name event.Disband = codes "disband"
event_name event.Abandon = codes "abandon"
event_name event.Purge = codes "purge"
event_name (event.Submit batch_words) = codes "submit"
event_name event.Show = codes "show"
event_name event.Detail = codes "detail"
event_name event.Root = codes "root"
event_name event.History = codes "history"
event_name (event.Get a) = codes "get"
event_name (event.Prove a) = codes "prove"
event_name (event.List prefix) = codes "list"
event_name (event.Status batch_words) = codes "status"
event_name (event.Receipt batch_words) = codes "receipt"
event_name (event.Route from sender recipient) = codes "route"
event_name event.Tick = codes "tick"
event_name event.Expire = codes "expire"
event_name (event.Deliver from message) = codes "deliver"

abbrev pub accept_text : Bool → List ℕ
accept_text accept = if accept then codes "accept" else codes "reject"

-- the words after name, node and circuit
abbrev pub event_words : Event → List (List ℕ)
event_words (event.Propose d) = words_of_terms d
event_words (event.Vote accept) = accept_text accept ∷ []
event_words (event.Submit batch_words) = decimal batch_words.id ∷ words_of_transactions batch_words.transactions
event_words (event.Get a) = address_word.spell a ∷ []
event_words (event.Prove a) = address_word.spell a ∷ []
event_words (event.List prefix) = dashed.spell prefix ∷ []
event_words (event.Status batch_words) = decimal batch_words ∷ []
event_words (event.Receipt batch_words) = decimal batch_words ∷ []
event_words (event.Route from sender recipient) = from ∷ sender ∷ recipient ∷ []
event_words _ = []

abbrev pub step_words : Step → List (List ℕ)
step_words (At node id e) = event_name e ∷ node ∷ id ∷ event_words e
step_words (Deliver from to id number) = codes "deliver" ∷ from ∷ to ∷ id ∷ decimal number ∷ []

abbrev pub fill_words : Fill → List (List ℕ)
fill_words Old = codes "old" ∷ []
fill_words New = codes "new" ∷ []
fill_words (Byte b) = codes "byte" ∷ hex_byte b ∷ []

-- old, new or byte:HH
abbrev pub fill_text : Fill → List ℕ
fill_text f = join_with_byte 58 (fill_words f)

abbrev pub words_of : Line → List (List ℕ)
words_of (line.Step s) = step_words s
words_of (line.Calm id passes) = codes "calm" ∷ id ∷ decimal passes ∷ []
words_of (line.Stop node) = codes "stop" ∷ node ∷ []
words_of (line.Start node) = codes "start" ∷ node ∷ []
words_of (line.Roll node) = codes "roll" ∷ node ∷ []
words_of (line.Check c) = words_of_check c
words_of (line.Cut calls fill s) = codes "cut" ∷ decimal calls ∷ fill_text fill ∷ step_words s
words_of (line.Fail call s) = codes "fail" ∷ decimal call ∷ step_words s

-- words with one space between each two
abbrev pub spelling : Line → List ℕ
spelling l = join_with_byte 32 (words_of l)

-- ---- which lines are within their bounds

abbrev pub is_service : Service → Bool
is_service s = is_service_id s.id && is_type s.kind && is_node_id s.node

abbrev pub is_definition : Definition → Bool
is_definition d =
    nat_lt d.generation (2 ^ 32) && nat_lt d.version (2 ^ 8) && is_name d.management && is_name d.name
    && (nat_le 1 (length d.members) && nat_le (length d.members) 16 && list_all is_node_id d.members)
    && (nat_le 1 (length d.services) && nat_le (length d.services) 16 && list_all is_service d.services)

abbrev pub is_batch : Batch → Bool
is_batch b = nat_lt b.id (2 ^ 64) && list_all is_transaction b.transactions

-- the definition that is proposed has the line's id, and the event is no delivery
abbrev pub is_event : List ℕ → Event → Bool
is_event id (event.Propose d) = bytes_eq d.id id && is_definition d
is_event id (event.Submit batch_words) = is_batch batch_words
is_event id (event.Get a) = is_address a
is_event id (event.Prove a) = is_address a
is_event id (event.List prefix) = is_prefix prefix
is_event id (event.Status batch_words) = nat_lt batch_words (2 ^ 64)
is_event id (event.Receipt batch_words) = nat_lt batch_words (2 ^ 64)
is_event id (event.Route from sender recipient) = is_node_id from && is_service_id sender && is_service_id recipient
is_event id (event.Deliver from message) = false
is_event id _ = true

-- a message comes from another node
abbrev pub is_step : Step → Bool
is_step (At node id e) = is_node_id node && is_circuit_id id && is_event id e
is_step (Deliver from to id number) =
    is_node_id from && is_node_id to && is_circuit_id id && (nat_le 1 number && nat_lt number (2 ^ 32)) && not (bytes_eq from to)

-- it may stand in a cut or a fail: any step but prove
abbrev pub is_inner_step : Step → Bool
is_inner_step (At node id (event.Prove a)) = false
is_inner_step _ = true

abbrev pub is_fill : Fill → Bool
is_fill (Byte b) = nat_lt b (2 ^ 8)
is_fill _ = true

abbrev pub is_passes : ℕ → Bool
is_passes n = nat_le 1 n && nat_le n MOST_PASSES

abbrev pub is_line : Line → Bool
is_line (line.Step s) = is_step s
is_line (line.Calm id passes) = is_circuit_id id && is_passes passes
is_line (line.Stop node) = is_node_id node
is_line (line.Start node) = is_node_id node
is_line (line.Roll node) = is_node_id node
is_line (line.Check c) = is_check c
is_line (line.Cut calls fill s) = nat_lt calls (2 ^ 8) && is_fill fill && is_inner_step s && is_step s
is_line (line.Fail call s) = (nat_le 1 call && nat_lt call (2 ^ 8)) && is_inner_step s && is_step s

-- ---- what a line says

abbrev pub event_nodes : Event → List (List ℕ)
event_nodes (event.Propose d) = d.members ++ service_nodes d.services
event_nodes (event.Route from sender recipient) = from ∷ []
event_nodes (event.Deliver from message) = from ∷ []
event_nodes _ = []

abbrev pub step_nodes : Step → List (List ℕ)
step_nodes (At node id e) = node ∷ event_nodes e
step_nodes (Deliver from to id number) = from ∷ to ∷ []

-- each node that the line names
abbrev pub line_nodes : Line → List (List ℕ)
line_nodes (line.Step s) = step_nodes s
line_nodes (line.Calm id passes) = []
line_nodes (line.Stop node) = node ∷ []
line_nodes (line.Start node) = node ∷ []
line_nodes (line.Roll node) = node ∷ []
line_nodes (line.Check c) = []
line_nodes (line.Cut calls fill s) = step_nodes s
line_nodes (line.Fail call s) = step_nodes s

-- the circuit that the step names
abbrev pub step_circuit : Step → List ℕ
step_circuit (At node id e) = id
step_circuit (Deliver from to id number) = id

-- the circuit that the line names
abbrev pub line_circuit : Line → Option (List ℕ)
line_circuit (line.Step s) = Some (step_circuit s)
line_circuit (line.Calm id passes) = Some id
line_circuit (line.Stop node) = None
line_circuit (line.Start node) = None
line_circuit (line.Roll node) = None
line_circuit (line.Check c) = None
line_circuit (line.Cut calls fill s) = Some (step_circuit s)
line_circuit (line.Fail call s) = Some (step_circuit s)

-- the node that the step takes place at
abbrev pub step_node : Step → List ℕ
step_node (At node id e) = node
step_node (Deliver from to id number) = to

-- ---- reading

-- SERVICE:TYPE:NODE
abbrev pub service_parts : Words (List ℕ × (List ℕ × (List ℕ × Unit {0})))
service_parts = text is_service_id & text is_type & text is_node_id & end

abbrev pub service_of : List ℕ × (List ℕ × (List ℕ × Unit {0})) → Service
service_of x = record { id = x.0; kind = x.1.0; node = x.1.1.0 }

abbrev pub parts_of_service : Service → List ℕ × (List ℕ × (List ℕ × Unit {0}))
parts_of_service s = (s.id, (s.kind, (s.node, tt)))

abbrev pub any : {A : Type 0} → A → Bool
any x = true

abbrev pub service_word : Word Service
service_word = meaning any service_of parts_of_service (joined 58 service_parts)

-- GEN VERSION MANAGEMENT NAME MEMBERS SERVICES
abbrev pub Terms : Type 0
Terms = ℕ × (ℕ × (List ℕ × (List ℕ × (List (List ℕ) × (List Service × Unit {0})))))

abbrev pub terms : Words Terms
terms = number (2 ^ 32) & number (2 ^ 8) & text is_name & text is_name & joined 44 (up_to 16 (text is_node_id)) & joined 44 (up_to 16 service_word) & end

abbrev pub definition_of : List ℕ → Terms → Definition
definition_of id x =
    record { id = id; generation = x.0; version = x.1.0; management = x.1.1.0; name = x.1.1.1.0; members = x.1.1.1.1.0; services = x.1.1.1.1.1.0 }

abbrev pub terms_of : Definition → Terms
terms_of d = (d.generation, (d.version, (d.management, (d.name, (d.members, (d.services, tt))))))

abbrev pub proposed : List ℕ → Terms → Event
proposed id x = event.Propose (definition_of id x)

abbrev pub accept_or_reject : Word Bool
accept_or_reject = flag (codes "accept") (codes "reject")

abbrev pub answer : Words (Bool × Unit {0})
answer = accept_or_reject & end

-- BATCH and transactions
abbrev pub work : Words (ℕ × List Transaction)
work = number (2 ^ 64) & transactions_words

abbrev pub submitted : ℕ × List Transaction → Event
submitted x = event.Submit (record { id = x.0; transactions = x.1 })

-- ADDRESS
abbrev pub place : Words (Address × Unit {0})
place = address_word & end

-- PREFIX
abbrev pub places : Words (List ℕ × Unit {0})
places = dashed & end

-- BATCH
abbrev pub batch_words : Words (ℕ × Unit {0})
batch_words = number (2 ^ 64) & end

-- FROM FROMSERVICE TOSERVICE
abbrev pub way_words : Words (List ℕ × (List ℕ × (List ℕ × Unit {0})))
way_words = text is_node_id & text is_service_id & text is_service_id & end

-- FROM TO ID K
abbrev pub Delivery : Type 0
Delivery = List ℕ × (List ℕ × (List ℕ × (ℕ × Unit {0})))

abbrev pub is_between_two : Delivery → Bool
is_between_two x = not (bytes_eq x.0 x.1.0)

abbrev pub delivery : Words Delivery
delivery = that is_between_two (text is_node_id & text is_node_id & text is_circuit_id & that (nat_le 1) (number (2 ^ 32)) & end)

abbrev pub delivered : Delivery → Step
delivered x = Deliver x.0 x.1.0 x.1.1.0 x.1.1.1.0

-- the questions without words after node and id
abbrev pub asking_kinds : List (Kind Event)
asking_kinds =
    kind (codes "show") end (λ x. event.Show)
    ∷ kind (codes "root") end (λ x. event.Root)
    ∷ kind (codes "history") end (λ x. event.History)
    ∷ kind (codes "detail") end (λ x. event.Detail)
    ∷ []

-- the other events without words there
abbrev pub acting_kinds : List (Kind Event)
acting_kinds =
    kind (codes "tick") end (λ x. event.Tick)
    ∷ kind (codes "expire") end (λ x. event.Expire)
    ∷ kind (codes "remove") end (λ x. event.Remove)
    ∷ kind (codes "disband") end (λ x. event.Disband)
    ∷ kind (codes "abandon") end (λ x. event.Abandon)
    ∷ kind (codes "purge") end (λ x. event.Purge)
    ∷ []

-- those with words, at this circuit
abbrev pub worded_kinds : List ℕ → List (Kind Event)
worded_kinds id =
    kind (codes "propose") terms (proposed id)
    ∷ kind (codes "vote") answer (λ x. event.Vote x.0)
    ∷ kind (codes "submit") work submitted
    ∷ kind (codes "get") place (λ x. event.Get x.0)
    ∷ kind (codes "prove") place (λ x. event.Prove x.0)
    ∷ kind (codes "list") places (λ x. event.List x.0)
    ∷ kind (codes "status") batch_words (λ x. event.Status x.0)
    ∷ kind (codes "receipt") batch_words (λ x. event.Receipt x.0)
    ∷ kind (codes "route") way_words (λ x. event.Route x.0 x.1.0 x.1.1.0)
    ∷ []

abbrev pub read_acting : List ℕ → List ℕ → List (List ℕ) → Option Event
read_acting id name xs = read_kind acting_kinds (read_kind (worded_kinds id) None name xs) name xs

abbrev pub read_event : List ℕ → List ℕ → List (List ℕ) → Option Event
read_event id name xs = read_kind asking_kinds (read_acting id name xs) name xs

-- NODE ID, and the words of the event of this name
abbrev pub read_at : List ℕ → List (List ℕ) → Option Step
read_at name xs =
    read_first (text is_node_id) xs >>= λ node. read_first (text is_circuit_id) node.1 >>= λ id. option_map (At node.0 id.0) (read_event id.0 name id.1)

-- any other name than deliver is an event's
abbrev pub read_step : List (List ℕ) → Option Step
read_step [] = None
read_step (name ∷ xs) = read_kind (kind (codes "deliver") delivery delivered ∷ []) (read_at name xs) name xs

-- a step, spelled as it stands alone
abbrev pub step : Words Step
step = record { spell = step_words; read = read_step; fits = is_step }

-- one that may stand in a cut or a fail
abbrev pub inner : Words Step
inner = that is_inner_step step

abbrev pub fill_kinds : List (Kind Fill)
fill_kinds = kind (codes "old") end (λ x. Old) ∷ kind (codes "new") end (λ x. New) ∷ kind (codes "byte") (hex & end) (λ x. Byte x.0) ∷ []

abbrev pub read_fill : List (List ℕ) → Option Fill
read_fill [] = None
read_fill (name ∷ xs) = read_kind fill_kinds None name xs

abbrev pub fill_parts : Words Fill
fill_parts = record { spell = fill_words; read = read_fill; fits = is_fill }

abbrev pub fill : Word Fill
fill = joined 58 fill_parts

-- ID PASSES
abbrev pub calm_words : Words (List ℕ × (ℕ × Unit {0}))
calm_words = text is_circuit_id & that is_passes (number (2 ^ 8)) & end

-- NODE
abbrev pub node : Words (List ℕ × Unit {0})
node = text is_node_id & end

-- CALLS FILL and a step
abbrev pub cut : Words (ℕ × (Fill × Step))
cut = number (2 ^ 8) & fill & inner

-- CALL and a step
abbrev pub failing : Words (ℕ × Step)
failing = that (nat_le 1) (number (2 ^ 8)) & inner

abbrev pub line_kinds : List (Kind Line)
line_kinds =
    kind (codes "calm") calm_words (λ x. line.Calm x.0 x.1.0)
    ∷ kind (codes "stop") node (λ x. line.Stop x.0)
    ∷ kind (codes "start") node (λ x. line.Start x.0)
    ∷ kind (codes "roll") node (λ x. line.Roll x.0)
    ∷ kind (codes "check") check (λ x. line.Check (check_of x))
    ∷ kind (codes "cut") cut (λ x. line.Cut x.0 x.1.0 x.1.1)
    ∷ kind (codes "fail") failing (λ x. line.Fail x.0 x.1)
    ∷ []

-- any other name begins a step
abbrev pub read_words : List (List ℕ) → Option Line
read_words [] = None
read_words (name ∷ xs) = read_kind line_kinds (option_map line.Step (read_step (name ∷ xs))) name xs

abbrev pub line_words : Words Line
line_words = record { spell = words_of; read = read_words; fits = is_line }

-- the line that the bytes spell
abbrev pub line_of : List ℕ → Option Line
line_of bytes = (joined 32 line_words).read bytes

-- a calm
abbrev pub is_calm : Line → Bool
is_calm (line.Calm c k) = true
is_calm _ = false

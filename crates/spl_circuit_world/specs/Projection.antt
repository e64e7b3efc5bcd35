-- What concerns a circuit: own lines, and the outcomes of stops (docs/RULES.md, Own lines, Stops in an event).
use Rattle.std.specs.{Prelude.{ℕ, Bool, false, List, [], ◌∷◌, ◌++◌, if◌then◌else◌, Option, Some, None, true, ◌&&◌, ◌||◌, ◌==◌, nat_le, map}, List.list_all}
use Rattle.std.specs.Str.{bytes_eq}
use Rattle.spl_agree.specs.{Member.{Member, values}, declared.reason.Reason.Reason}
use Rattle.spl_circuit.specs.{Nodes.{NodeId, CircuitId, has_node}, declared.act.{Act.Act, ActKind.ActKind}}
use Rattle.spl_circuit.specs.declared.act.ActKind.TheVariants as kind
use Rattle.spl_wire.specs.declared.event.Event.{Event}
use Rattle.spl_wire.specs.declared.event.Event.TheVariants as event
use Rattle.spl_sched.specs.{Grammar.{line_circuit, step_node, is_line}, declared.line.{Line.Line, Step.Step}}
use Rattle.spl_sched.specs.declared.line.Step.TheVariants as step
use Rattle.spl_sched.specs.declared.line.Line.TheVariants as line
use Rattle.spl_cell_rules.specs.Cells.{Cell, Empty, Held, Purged}
use Rattle.spl_circuit_world.specs.Worlds.{Origin, Occurrence, Steps, Halts}
use Rattle.spl_edge.specs.declared.fill.Fill.{Fill}
use Rattle.spl_edge.specs.declared.fill.Fill.TheVariants as fill

-- a line that ran. A cut or a fail stops its node in an event: `kept` says whether the disks have the record of that
-- event. Of any other line it says nothing
pub record Ran : Type 0 where
  pub line : Line
  pub kept : Bool

-- a line with no record to keep
abbrev pub plainly : Line → Ran
plainly l = record { line = l; kept = false }

-- the line is within its bounds
abbrev pub line_fits : Ran → Bool
line_fits r = is_line r.line

abbrev pub lines_fit : List Ran → Bool
lines_fit rs = list_all line_fits rs

-- the line names this circuit
abbrev pub names_circuit : CircuitId → Option CircuitId → Bool
names_circuit c None = false
names_circuit c (Some i) = bytes_eq i c

abbrev pub names : CircuitId → Line → Bool
names c l = names_circuit c (line_circuit l)

-- ---- the nodes concerned

-- the members that an event proposes
abbrev pub proposed_members : Event → List NodeId
proposed_members (event.Propose d) = d.members
proposed_members _ = []

-- where a step takes place, and the members that it proposes
abbrev pub step_concerns : Step → List NodeId
step_concerns (step.At n c e) = n ∷ proposed_members e
step_concerns (step.Deliver from to c k) = to ∷ []

abbrev pub line_concerns : Line → List NodeId
line_concerns (line.Step s) = step_concerns s
line_concerns (line.Cut calls fill s) = step_concerns s
line_concerns (line.Fail call s) = step_concerns s
line_concerns _ = []

-- those at which a line that names the circuit takes place, and those that such a line proposes as members
abbrev pub lines_concern : CircuitId → List Ran → List NodeId
lines_concern c [] = []
lines_concern c (r ∷ rs) = (if names c r.line then line_concerns r.line else []) ++ lines_concern c rs

-- the members that acts propose
abbrev pub kind_members : ActKind → List NodeId
kind_members (kind.Propose d) = d.members
kind_members _ = []

abbrev pub members_of_acts : List Act → List NodeId
members_of_acts [] = []
members_of_acts (v ∷ vs) = kind_members v.kind ++ members_of_acts vs

-- the acts that are refused, and the one that is promised
abbrev pub refused_values : {V : Type 0} → List (V × Reason) → List V
refused_values [] = []
refused_values (u ∷ us) = u.0 ∷ refused_values us

abbrev pub promised_values : {V : Type 0} → Option (ℕ × V) → List V
promised_values None = []
promised_values (Some p) = p.1 ∷ []

-- all acts that a member keeps
abbrev pub kept_values : {V : Type 0} → Member V → List V
kept_values m = m.pending ++ (values m.history ++ (promised_values m.promise ++ refused_values m.refused))

-- a node that keeps something, and the members of the definitions that it keeps, in its acts too
abbrev pub cell_concerns : NodeId → Cell → List NodeId
cell_concerns n Empty = []
cell_concerns n (Held h) = n ∷ (h.definition.members ++ members_of_acts (kept_values h.acts))
cell_concerns n (Purged g) = n ∷ []

abbrev pub cells_concern : (NodeId → Cell) → List NodeId → List NodeId
cells_concern at [] = []
cells_concern at (n ∷ ns) = cell_concerns n (at n) ++ cells_concern at ns

-- the nodes concerned with a circuit: those that the cells concern with which the run begins, and those that its lines do
abbrev pub concerned : Origin → CircuitId → List Ran → List NodeId
concerned o c rs = cells_concern (o.kept c) o.nodes ++ lines_concern c rs

-- ---- its own lines

-- a stop or a start of a node, where it is one of these
abbrev pub at_one_of : List NodeId → NodeId → Line → List Ran
at_one_of ns n l = if has_node ns n then plainly l ∷ [] else []

-- what is left of a line that doesn't name the circuit, where these nodes are concerned: their stops and starts. Where one
-- stops in an event of another circuit, that is a stop
abbrev pub beside : List NodeId → Line → List Ran
beside ns (line.Stop n) = at_one_of ns n (line.Stop n)
beside ns (line.Start n) = at_one_of ns n (line.Start n)
beside ns (line.Cut calls fill s) = at_one_of ns (step_node s) (line.Stop (step_node s))
beside ns (line.Fail call s) = at_one_of ns (step_node s) (line.Stop (step_node s))
beside ns _ = []

-- what is a circuit's own of a line, where these nodes are concerned with it: the line where it names it, or what is left
abbrev pub own_line : CircuitId → List NodeId → Ran → List Ran
own_line c ns r = if names c r.line then r ∷ [] else beside ns r.line

abbrev pub own_among : CircuitId → List NodeId → List Ran → List Ran
own_among c ns [] = []
own_among c ns (r ∷ rs) = own_line c ns r ++ own_among c ns rs

-- a circuit's own lines
abbrev pub own : Origin → CircuitId → List Ran → List Ran
own o c rs = own_among c (concerned o c rs) rs

-- the event of a line is no delivery
abbrev pub IsPlainEvent : Event → Type 0
IsPlainEvent (event.Deliver from m) = ⊥
IsPlainEvent _ = Unit {0}

-- a delivery names a message that was sent
abbrev pub IsPlainStep : Step → Type 0
IsPlainStep (step.At n c e) = IsPlainEvent e
IsPlainStep _ = Unit {0}

abbrev pub IsPlain : Occurrence → Type 0
IsPlain (Steps s) = IsPlainStep s
IsPlain (Halts kept s) = IsPlainStep s
IsPlain _ = Unit {0}

abbrev pub AllPlain : List Occurrence → Type 0
AllPlain [] = Unit {0}
AllPlain (e ∷ es) = IsPlain e × AllPlain es

-- the byte of a gate that was written and not synced opens it
abbrev pub opens : Fill → Bool
opens fill.Old = false
opens fill.New = true
opens (fill.Byte b) = b == 1

-- a record is written by four calls: the record and the next gate, a sync, its gate, and a sync. It is kept where all four
-- passed, or where three did and the gate is open in what the disk keeps of the last write. A call that fails passes not
abbrev pub keeps_record : Line → Bool
keeps_record (line.Cut calls f s) = nat_le 4 calls || (calls == 3 && opens f)
keeps_record (line.Fail call s) = nat_le 5 call
keeps_record _ = false

-- a line that ran with the outcome of this rule
abbrev pub by_rule : Line → Ran
by_rule l = record { line = l; kept = keeps_record l }

abbrev pub all_by_rule : List Line → List Ran
all_by_rule ls = map by_rule ls

-- Which lines ask a node and change nothing (docs/RULES.md, Questions to a folder).
use Rattle.std.specs.Prelude.{◌≡◌, ℕ, Bool, true, false, nat_le, length, List, Option, Some, None, if◌then◌else◌}
use Rattle.spl_base.specs.declared.limit.TheConstants.{LONGEST_LINE}
use Rattle.spl_circuit.specs.Nodes.{NodeId}
use Rattle.spl_wire.specs.declared.event.Event.{Event}
use Rattle.spl_wire.specs.declared.event.Event.TheVariants as event
use Rattle.spl_sched.specs.{Grammar.line_of, declared.line.{Line.Line, Step.Step}}
use Rattle.spl_sched.specs.declared.line.Line.TheVariants as line
use Rattle.spl_sched.specs.declared.line.Step.TheVariants as step
use Rattle.spl_lines.specs.Lines.{is_silent}
use Rattle.spl_look.specs.declared.question.Question.{Question}
use Rattle.spl_look.specs.declared.question.Question.TheVariants as question

-- the event only asks
abbrev pub only_asks : Event → Bool
only_asks event.Show = true
only_asks event.Detail = true
only_asks event.Root = true
only_asks event.History = true
only_asks (event.Get a) = true
only_asks (event.Prove a) = true
only_asks (event.List prefix) = true
only_asks (event.Status batch) = true
only_asks (event.Receipt batch) = true
only_asks _ = false

-- what a step asks
abbrev pub question_at : Step → Option Question
question_at (step.At n c e) = if only_asks e then Some (question.At n c e) else None
question_at (step.Deliver from to c k) = None

-- what a line of a schedule asks
abbrev pub question_in : Line → Option Question
question_in (line.Step s) = question_at s
question_in (line.Roll n) = Some (question.Roll n)
question_in _ = None

abbrev pub question_by : Option Line → Option Question
question_by None = None
question_by (Some l) = question_in l

-- what a line asks: an empty one, a comment, and one that is too long ask nothing
abbrev pub question_of : List ℕ → Option Question
question_of bytes =
    if is_silent bytes then None
    else if nat_le (length bytes) LONGEST_LINE then question_by (line_of bytes)
    else None

-- the node that is asked
abbrev pub asked_node : Question → NodeId
asked_node (question.At n c e) = n
asked_node (question.Roll n) = n

-- an event in it only asks
abbrev pub IsAsked : Question → Type 0
IsAsked (question.At n c e) = only_asks e ≡ true
IsAsked (question.Roll n) = Unit {0}

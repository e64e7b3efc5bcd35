-- Schedules whose answers are computed by the definitions.
use Rattle.std.{specs.Prelude.{ℕ, true, false, List, [], ◌∷◌, codes}, proofs.Common.{◌≡◌, refl}}
use Rattle.spl_agree.specs.declared.event.Note.TheVariants as note
use Rattle.spl_edge.specs.declared.fill.Fill.{Fill}
use Rattle.spl_edge.specs.declared.fill.Fill.TheVariants as fill
use Rattle.spl_circuit.specs.{Nodes.NodeId, declared.definition.Definition.Definition}
use Rattle.spl_circuit.specs.declared.lifecycle.Lifecycle.TheVariants as lifecycle
use Rattle.spl_circuit.specs.declared.lifecycle.Mark.TheVariants as mark
use Rattle.spl_wire.specs.declared.{answer.{Answer.Answer, Bit.Bit}, event.Event.Event}
use Rattle.spl_wire.specs.declared.event.Event.TheVariants as event
use Rattle.spl_wire.specs.declared.answer.Answer.TheVariants as answer
use Rattle.spl_wire.specs.declared.answer.Refusal.TheVariants as refusal
use Rattle.spl_wire.specs.declared.answer.Bit.TheVariants as bit
use Rattle.spl_sched.specs.declared.line.Line.{Line}
use Rattle.spl_sched.specs.declared.line.Step.TheVariants as step
use Rattle.spl_sched.specs.declared.line.Line.TheVariants as line
use Rattle.spl_circuit_world.specs.{Worlds.{put_at, blank}, Projection.{own, all_by_rule}, Answers.{answer_to, answers}}

abbrev alpha : NodeId
alpha = codes "alpha"

abbrev beta : NodeId
beta = codes "beta"

abbrev gamma : NodeId
gamma = codes "gamma"

abbrev registered : List NodeId
registered = alpha ∷ beta ∷ gamma ∷ []

-- two circuits of two members
abbrev first : NodeId
first = codes "Ab3dE-00001"

abbrev second : NodeId
second = codes "Ab3dE-00002"

abbrev trade : NodeId → Definition
trade c = record {
  id = c;
  generation = 1;
  version = 1;
  management = codes "grid";
  name = codes "trade";
  members = alpha ∷ beta ∷ [];
  services = record { id = codes "aaaa"; kind = codes "scabbard"; node = alpha } ∷ record { id = codes "bbbb"; kind = codes "scabbard"; node = beta } ∷ [];
}

abbrev at : NodeId → NodeId → Event → Line
at n c e = line.Step (step.At n c e)

abbrev hands : NodeId → NodeId → ℕ → Line
hands from to k = line.Step (step.Deliver from to first k)

abbrev run : List Line → List Answer
run ls = answers (blank registered) [] (all_by_rule ls)

-- a stop forgets an open round, and its number isn't used again
stop_and_start : run (at alpha first (event.Propose (trade first)) ∷ at alpha first event.Tick ∷ line.Stop alpha ∷ line.Start alpha ∷ hands alpha beta 1
    ∷ hands beta alpha 1 ∷ at beta first event.Tick ∷ hands beta alpha 2 ∷ hands alpha beta 2 ∷ at alpha first event.Tick ∷ [])
    ≡ answer.Submitted false ∷ answer.Notes (note.Begun 1) note.Off ∷ answer.Power false ∷ answer.Power true ∷ answer.Delivered (note.Promised 1)
    ∷ answer.Delivered note.Ignored ∷ answer.Notes (note.Asked 1) note.Off ∷ answer.Delivered (note.Told 1 false) ∷ answer.Delivered (note.Aborted 1)
    ∷ answer.Notes (note.Begun 2) note.Off ∷ []
unfolding put_at answer_to
stop_and_start = refl

-- a promise whose record is kept, or lost
abbrev cut_promise : ℕ → Fill → List Line
cut_promise calls f =
    at alpha first (event.Propose (trade first)) ∷ at alpha first event.Tick ∷ line.Cut calls f (step.Deliver alpha beta first 1)
    ∷ at beta first event.Show ∷ line.Start beta ∷ hands alpha beta 1 ∷ hands beta alpha 1 ∷ []

abbrev promised_or_again : Bit → Answer → List Answer
promised_or_again b a =
    answer.Submitted false ∷ answer.Notes (note.Begun 1) note.Off ∷ answer.Cut b ∷ answer.Refused refusal.Down ∷ answer.Power true ∷ a
    ∷ answer.Delivered (note.Committed 1) ∷ []

kept_by_a_gate : run (cut_promise 3 fill.New) ≡ promised_or_again bit.Kept (answer.Delivered (note.Again 1))
unfolding put_at answer_to
kept_by_a_gate = refl

kept_by_a_byte : run (cut_promise 3 (fill.Byte 1)) ≡ promised_or_again bit.Kept (answer.Delivered (note.Again 1))
unfolding put_at answer_to
kept_by_a_byte = refl

lost_with_its_gate : run (cut_promise 3 fill.Old) ≡ promised_or_again bit.Lost (answer.Delivered (note.Promised 1))
unfolding put_at answer_to
lost_with_its_gate = refl

lost_before_its_gate : run (cut_promise 2 fill.New) ≡ promised_or_again bit.Lost (answer.Delivered (note.Promised 1))
unfolding put_at answer_to
lost_before_its_gate = refl

-- a cut in another circuit's event
abbrev two_circuits : ℕ → List Line
two_circuits calls =
    at alpha first (event.Propose (trade first)) ∷ at alpha second (event.Propose (trade second)) ∷ at alpha first event.Tick
    ∷ line.Cut calls fill.New (step.At alpha second event.Tick) ∷ line.Roll alpha ∷ line.Start alpha ∷ at alpha first event.Tick
    ∷ at alpha second event.Show ∷ line.Roll alpha ∷ []

abbrev in_two_circuits : Bit → List Answer
in_two_circuits b =
    answer.Submitted false ∷ answer.Submitted false ∷ answer.Notes (note.Begun 1) note.Off ∷ answer.Cut b ∷ answer.Refused refusal.Down ∷ answer.Power true
    ∷ answer.Notes (note.Begun 2) note.Off ∷ answer.Show 1 lifecycle.None mark.Open [] 0 1 0 0 ∷ answer.Roll (first ∷ second ∷ []) ∷ []

lost_in_another : run (two_circuits 1) ≡ in_two_circuits bit.Lost
unfolding put_at answer_to
lost_in_another = refl

kept_in_another : run (two_circuits 4) ≡ in_two_circuits bit.Kept
unfolding put_at answer_to
kept_in_another = refl

-- for the other circuit it is a stop
abbrev one_circuit : List Line
one_circuit = at alpha first (event.Propose (trade first)) ∷ at alpha first event.Tick ∷ line.Stop alpha ∷ line.Start alpha ∷ at alpha first event.Tick ∷ []

own_lines : own (blank registered) first (all_by_rule (two_circuits 1)) ≡ own (blank registered) first (all_by_rule one_circuit)
own_lines = refl

-- a node that a later line asks about: its earlier stop counts, and so does its start
asked_later : run (line.Stop gamma ∷ at alpha first (event.Propose (trade first)) ∷ at gamma first event.Show ∷ line.Start gamma
    ∷ at gamma first event.Show ∷ line.Cut 4 fill.Old (step.At gamma first event.Show) ∷ at gamma first event.Show
    ∷ line.Fail 5 (step.At gamma second event.Tick) ∷ line.Roll gamma ∷ line.Roll beta ∷ [])
    ≡ answer.Power false ∷ answer.Submitted false ∷ answer.Refused refusal.Down ∷ answer.Power true ∷ answer.Refused refusal.NoCircuit
    ∷ answer.Cut bit.Nothing ∷ answer.Refused refusal.Down ∷ answer.Refused refusal.Down ∷ answer.Refused refusal.Down ∷ answer.Roll [] ∷ []
unfolding put_at answer_to
asked_later = refl

-- a calm passes a node over that is down
calm_at_a_stop : run (at alpha first (event.Propose (trade first)) ∷ line.Stop beta ∷ line.Calm first 2 ∷ at alpha first event.Show ∷ line.Start beta
    ∷ line.Calm first 8 ∷ at beta first event.Show ∷ [])
    ≡ answer.Submitted false ∷ answer.Power false ∷ answer.Calm 2 ∷ answer.Show 1 lifecycle.None mark.Open [] 0 1 0 0 ∷ answer.Power true ∷ answer.Calm 8
    ∷ answer.Show 1 lifecycle.Proposed mark.Open (alpha ∷ []) 1 0 0 0 ∷ []
unfolding put_at answer_to
calm_at_a_stop = refl

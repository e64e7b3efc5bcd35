use Rattle.spl_circuit_world.specs.Answers.{bound_at}
use Rattle.spl_node.specs.Benches.{images_at}
use Rattle.spl_world.{specs.Views.{nodes_over, view_in}, proofs.Common.{◌≡◌, ◌∙◌, ◌++◌, ◌∷◌, [], ap, sym, Bool, true, false, List, if◌then◌else◌, CircuitId}}
use Rattle.spl_world.proofs.{Common.{is_up, by_rule, whole_world}, Reading.is_there_up, Slots.same_at, Steps.{rolled, roll_up}}
use Rattle.spl_world.proofs.world.World.roll_at.Goals as goal
use Rattle.spl_sched.specs.declared.line.Line.TheVariants as line
use Rattle.spl_wire.specs.declared.answer.Answer.TheVariants as answer
use Rattle.spl_wire.specs.declared.answer.Refusal.TheVariants as refusal

pub returns-then-not-is_up : goal.returns-then-not-is_up
returns-then-not-is_up c = λ is o before n begins own fit each at.
    let up : is_up n (before ++ by_rule (line.Roll n) ∷ []) ≡ false =
    sym (roll_up o before n) ∙ sym (c.is_up.ensures.world is [] (whole_world o [] before) n (each []) at) ∙ c.if-not-is_up.true in
    sym (ap (λ (b : Bool). if b then answer.Roll (bound_at o (before ++ by_rule (line.Roll n) ∷ []) n) else answer.Refused refusal.Down) up)

pub returns : goal.returns
returns c = λ is o before n begins own fit each at.
    let s = c.slot_at.result.now in
    let up : is_up n (before ++ by_rule (line.Roll n) ∷ []) ≡ true =
    sym (roll_up o before n) ∙ sym (c.is_up.ensures.world is [] (whole_world o [] before) n (each []) at) ∙ c.if-not-is_up.false in
    ap (λ (ids : List CircuitId). answer.Roll ids) (rolled o begins before n c.in_ok-roll.field-0 (view_in (nodes_over c.args.self.now is) s).cells own fit c.in_ok-roll.ensures.sorted (c.in_ok-roll.ensures.bound (images_at is s.position))
    (λ k. ((each k).each c.args.slot s c.slot_at.ensures).state ∙ ap (whole_world o k before).at (same_at c.args.self.now.slots.items c.args.slot s n c.slot_at.ensures at)))
    ∙ sym (ap (λ (b : Bool). if b then answer.Roll (bound_at o (before ++ by_rule (line.Roll n) ∷ []) n) else answer.Refused refusal.Down) up)

pub roll-requires : goal.roll-requires
roll-requires c = is_there_up c.args.self.now.slots.items c.args.slot c.slot_at.result.now c.slot_at.ensures (c.is_up.ensures.up c.if-not-is_up.false)

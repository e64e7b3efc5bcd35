use Rattle.std.proofs.Common.{Some, ◌∙◌, ap}
use Rattle.spl_serve.{specs.declared.line.Asked.Asked, proofs.{Taking.{asks_roll, asks_waits}, Turning.{roll_past, waits_past}}}
use Rattle.spl_serve.proofs.turn.ServerTurn.answer.Goals as goal

pub returns-in_ok-tell-in-Roll-clause-takes : goal.returns-in_ok-tell-in-Roll-clause-takes
returns-in_ok-tell-in-Roll-clause-takes c =
    λ here before ds ns line is was. asks_roll here ns before ds _ c.args.caller line c.in_ok-roll-in-Roll.field-0 c.in_ok-text_of-in-Roll.field-0
    (is ∙ ap (λ (a : Asked). Some a) c.in-Roll.is)
    (roll_past here before ds c.args.self.now c.in_ok-roll-in-Roll.field-0 was
    (record { sorted = c.in_ok-roll-in-Roll.ensures.sorted; bound = c.in_ok-roll-in-Roll.ensures.bound }))
    c.in_ok-text_of-in-Roll.ensures (c.in_ok-tell-in-Roll.ensures.told here before ds was)

pub returns-in_ok-tell-in-Waits-clause-takes : goal.returns-in_ok-tell-in-Waits-clause-takes
returns-in_ok-tell-in-Waits-clause-takes c =
    λ here before ds ns line is was. asks_waits here ns before ds _ c.args.caller line c.in-Waits.circuit c.in_ok-text-in-Waits.text
    (is ∙ ap (λ (a : Asked). Some a) c.in-Waits.is)
    (c.in_ok-text-in-Waits.ensures ∙ waits_past here before ds c.args.self.now c.in-Waits.circuit was)
    (c.in_ok-tell-in-Waits.ensures.told here before ds was)

use Rattle.std.proofs.Common.{List, [], ◌∷◌, ◌++◌, ◌∙◌, ap}
use Rattle.spl_serve.{specs.{Turns.events_in, declared.turn.Slot.Slot}, proofs.Turning.serves_event}
use Rattle.spl_serve.proofs.turn.ServerTurn.handle.Goals as goal
use Rattle.spl_serve.specs.declared.turn.Slot.TheVariants as slot

pub returns-clause-handled : goal.returns-clause-handled
returns-clause-handled c =
    λ here before ds was. serves_event here before ds c.args.caller (c.args.circuit.now, c.args.event.now) c.args.self.now _ c.prepare.new.self.turn was
    c.prepare.ensures.turn (c.in_ok-handle.ensures.handled here before.cells (events_in ds))
    (c.in_ok-push.ensures.items ∙ ap (λ (xs : List Slot). xs ++ slot.Event c.args.caller ∷ []) c.prepare.ensures.slots) c.prepare.ensures.watchers

use Rattle.spl_node.proofs.Turns.{handled_more}
use Rattle.spl_node.proofs.turn.Turn.handle.Goals as goal

pub returns-clause-handled : goal.returns-clause-handled
returns-clause-handled c = λ here before es old. handled_more here before es (c.args.circuit.now, c.args.event.now) c.args.self.now c.in_ok-outcome.outcome
    (record { node = c.step_ahead.new.self; records = c.step_ahead.new.turn; given = c.push.new.self }) old
    c.in_ok-outcome.ensures.here c.in_ok-outcome.ensures.running c.in_ok-outcome.ensures.cells c.in_ok-outcome.ensures.leads c.in_ok-outcome.ensures.good
    c.in_ok-outcome.ensures.gives.answer c.in_ok-outcome.ensures.gives.sends c.in_ok-outcome.ensures.gives.sendable c.in_ok-push.ensures.items

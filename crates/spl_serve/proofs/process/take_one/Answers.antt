use Rattle.std.proofs.Common.{◌∙◌}
use Rattle.spl_serve.proofs.{Coming.grown_arrival, Turning.{all_one, all_twice}}
use Rattle.spl_serve.proofs.process.take_one.Goals as goal

pub returns-in_ok-go_on : goal.returns-in_ok-go_on
returns-in_ok-go_on c = λ v w is. all_twice c.args.nodes.now v w w c.args.turn.now c.take.new.self c.go_on.new.turn
    (all_one c.args.nodes.now c.asks_to_stop-stops.result v w c.args.arrival c.in_ok-circuit.field-0 c.args.turn.now c.take.new.self
    c.asks_to_stop-stops.ensures (is ∙ grown_arrival c.args.arrival v c.requires.readable) c.in_ok-circuit.ensures.goes c.in_ok-circuit.ensures.takes)
    (c.in_ok-go_on.ensures w)

pub returns-in_default : goal.returns-in_default
returns-in_default c =
    λ v w is. all_one c.args.nodes.now c.asks_to_stop-stops.result v w c.args.arrival c.in_ok-circuit.field-0 c.args.turn.now c.take.new.self
    c.asks_to_stop-stops.ensures
    (is ∙ grown_arrival c.args.arrival v c.requires.readable) c.in_ok-circuit.ensures.goes c.in_ok-circuit.ensures.takes

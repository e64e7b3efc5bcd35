use Rattle.std.proofs.Common.{Bool, Option, ◌∙◌, ◌++◌, ◌∷◌, [], ap, subst, sym}
use Rattle.spl_serve.{specs.{Outside.after_arrival, Processes.TakesAll, declared.outside.Arrival.Arrival}, proofs.Coming.{came_more, on_err}}
use Rattle.spl_serve.proofs.Turning.{all_twice}
use Rattle.spl_serve.proofs.process.take_all.Goals as goal

pub returns-in_err-asks-clause-comes : goal.returns-in_err-asks-clause-comes
returns-in_err-asks-clause-comes g c = on_err c.from_residual-in_err-asks.result (record {
  came = c.loop.invariant.came ++ c.in-Some.arrival ∷ [];
  ports = came_more c.loop.invariant.came c.in-Some.arrival c.in_ok-arrival.field-0 (g.P.Ports.view c.args.ports.now) (g.P.Ports.view c.loop.ports)
      (g.P.Ports.view c.next.new.self)
      c.in-Some.is c.in_ok-arrival.ensures.readable c.loop.invariant.ports c.in_ok-arrival.ensures.came;
})

pub loop-preserved : goal.loop-preserved
loop-preserved g c =
    subst (λ (b : Bool). TakesAll c.args.nodes.now b (g.P.Ports.view c.args.ports.now)
    (g.P.Ports.view c.next.new.self) c.args.turn.now c.take_one.new.turn) (sym c.either-stops.ensures)
    (all_twice c.args.nodes.now (g.P.Ports.view c.args.ports.now) (g.P.Ports.view c.loop.ports)
    (g.P.Ports.view c.next.new.self) c.args.turn.now c.loop.turn c.take_one.new.turn
    c.loop.invariant (c.in_ok-asks.ensures (g.P.Ports.view c.loop.ports) (g.P.Ports.view c.next.new.self)
    (c.in_ok-arrival.ensures.came ∙ ap (λ (o : Option Arrival). after_arrival o (g.P.Ports.view c.loop.ports)) c.in-Some.is)))

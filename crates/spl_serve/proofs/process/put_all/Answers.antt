use Rattle.std.proofs.Common.{suc, ◌∙◌, ◌++◌, ◌∷◌, [], ap, take, drop, arith}
use Rattle.spl_serve.{specs.Outside.after_departure, proofs.Coming.{grown_departure, on_err, parts_at}}
use Rattle.spl_serve.proofs.process.put_all.Goals as goal

pub returns-in_err-put-clause-part : goal.returns-in_err-put-clause-part
returns-in_err-put-clause-part g c = on_err c.from_residual.result (record {
  left = take c.loop-departure.departure-index c.args.departures.now ++ c.departure-item.result ∷ [];
  unsaid = drop (suc c.loop-departure.departure-index) c.args.departures.now;
  parts = parts_at c.args.departures.now c.loop-departure.departure-index c.departure-item.result (omega arith) c.departure-item.is;
  ports = c.put.ensures ∙ ap (after_departure c.departure-item.result) c.loop-departure.invariant
      ∙ grown_departure (take c.loop-departure.departure-index c.args.departures.now) c.departure-item.result (g.P.Ports.view c.args.ports.now);
})

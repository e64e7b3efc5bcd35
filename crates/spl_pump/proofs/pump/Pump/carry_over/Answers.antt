use Rattle.std.proofs.Common.{◌≡◌, inl, inr, [], min, max, rules}
use Rattle.spl_pump.specs.Wires.{IsMessageDue, IsGreeting, IsOn, LiesOf, TakesPart, hand, hands_if, have_met, bytes_on_pair, only, sent_as, wire_from}
use Rattle.spl_pump.{specs.declared.fault.PumpFault.PumpFault, proofs.Carrying.{carried_puts, carried_met, carried_part, carried_on, met_taken, part_taken}}
use Rattle.spl_pump.proofs.{Lies.{err_on, greeting_between, lies_due}, Taking.takes_due}
use Rattle.spl_pump.proofs.pump.Pump.carry_over.Goals as goal
use Rattle.spl_edge.proofs.Results.{err_from}

pub returns-in_err-meet-clause-part : goal.returns-in_err-meet-clause-part
returns-in_err-meet-clause-part g c =
    let low : c.min.result ≡ min c.args.from c.args.to = search rules in
    let high : c.max.result ≡ max c.args.from c.args.to = search rules in
    carried_met c.args.self.now.entries c.args.self.now.met
    (record { from = c.args.from; to = c.args.to; message = c.args.message.now }) c.min.result c.max.result (g.F.Fabric.view c.args.fabric.now).put
    (g.F.Fabric.view c.meet.new.fabric).put (g.F.Fabric.view c.meet.new.fabric).put c.requires.apart low high c.meet.ensures.part

pub returns-in_err-got-clause-part : goal.returns-in_err-got-clause-part
returns-in_err-got-clause-part g c =
    let low : c.min.result ≡ min c.args.from c.args.to = search rules in
    let high : c.max.result ≡ max c.args.from c.args.to = search rules in
    carried_part c.args.self.now.entries c.args.self.now.met
    (record { from = c.args.from; to = c.args.to; message = c.args.message.now }) c.min.result c.max.result (g.F.Fabric.view c.args.fabric.now).put
    (g.F.Fabric.view c.meet.new.fabric).put (g.F.Fabric.view c.send.new.fabric).put c.requires.apart low high c.in_ok-meet.ensures.put c.send.ensures.part

pub returns-clause-part : goal.returns-clause-part
returns-clause-part g c =
    let low : c.min.result ≡ min c.args.from c.args.to = search rules in
    let high : c.max.result ≡ max c.args.from c.args.to = search rules in
    carried_part c.args.self.now.entries c.args.self.now.met
    (record { from = c.args.from; to = c.args.to; message = c.args.message.now }) c.min.result c.max.result (g.F.Fabric.view c.args.fabric.now).put
    (g.F.Fabric.view c.meet.new.fabric).put (g.F.Fabric.view c.send.new.fabric).put c.requires.apart low high c.in_ok-meet.ensures.put c.send.ensures.part

pub returns-clause-put : goal.returns-clause-put
returns-clause-put g c =
    let low : c.min.result ≡ min c.args.from c.args.to = search rules in
    let high : c.max.result ≡ max c.args.from c.args.to = search rules in
    carried_puts c.args.self.now.entries c.args.self.now.met
    (record { from = c.args.from; to = c.args.to; message = c.args.message.now }) c.min.result c.max.result (g.F.Fabric.view c.args.fabric.now).put
    (g.F.Fabric.view c.meet.new.fabric).put
    (g.F.Fabric.view c.send.new.fabric).put c.requires.apart low high c.in_ok-meet.ensures.put c.in_ok-got.ensures.put

pub returns-clause-heard : goal.returns-clause-heard
returns-clause-heard g c =
    let low : c.min.result ≡ min c.args.from c.args.to = search rules in
    let high : c.max.result ≡ max c.args.from c.args.to = search rules in
    carried_puts c.args.self.now.entries c.args.self.now.met
    (record { from = c.args.from; to = c.args.to; message = c.args.message.now }) c.min.result c.max.result (g.F.Fabric.view c.args.fabric.now).taken
    (g.F.Fabric.view c.meet.new.fabric).taken
    (g.F.Fabric.view c.send.new.fabric).taken c.requires.apart low high c.in_ok-meet.ensures.heard c.in_ok-got.ensures.heard

pub returns-clause-onward : goal.returns-clause-onward
returns-clause-onward g c =
    let low : c.min.result ≡ min c.args.from c.args.to = search rules in
    let high : c.max.result ≡ max c.args.from c.args.to = search rules in
    carried_on c.args.self.now.entries c.args.self.now.met
    (record { from = c.args.from; to = c.args.to; message = c.args.message.now }) c.min.result c.max.result (g.F.Fabric.view c.args.fabric.now).put
    (g.F.Fabric.view c.meet.new.fabric).put
    (g.F.Fabric.view c.send.new.fabric).put c.requires.apart low high _ _ c.meet.ensures.entries c.in_ok-meet.ensures.met

-- ---- what was taken, and lies

pub returns-in_err-meet-clause-came : goal.returns-in_err-meet-clause-came
returns-in_err-meet-clause-came g c =
    let low : c.min.result ≡ min c.args.from c.args.to = search rules in
    let high : c.max.result ≡ max c.args.from c.args.to = search rules in
    let hello = hand c.args.self.now.entries in
    let old = (g.F.Fabric.view c.args.fabric.now).taken in
    let new = (g.F.Fabric.view c.meet.new.fabric).taken in
    let Due = IsMessageDue hello c.args.from c.args.to c.args.message.now in
    let met = have_met c.args.self.now.met c.min.result c.max.result in
    err_on c.from_residual.result
    (TakesPart Due (wire_from c.args.self.now.entries c.args.self.now.met (only c.args.from c.args.to c.args.message.now)) old new)
    (met_taken c.args.self.now.entries c.args.self.now.met
    (record { from = c.args.from; to = c.args.to; message = c.args.message.now }) c.min.result c.max.result old new new c.requires.apart low high Due
    (takes_due (IsGreeting hello c.min.result c.max.result) Due (λ a b. []) (hands_if c.args.self.now.entries met c.min.result c.max.result) old new
    (λ a b bytes h. inr (greeting_between hello c.args.from c.args.to c.min.result c.max.result low high a b bytes h)) c.in_err-meet.ensures.came))

pub returns-in_err-got-clause-came : goal.returns-in_err-got-clause-came
returns-in_err-got-clause-came g c =
    let low : c.min.result ≡ min c.args.from c.args.to = search rules in
    let high : c.max.result ≡ max c.args.from c.args.to = search rules in
    let hello = hand c.args.self.now.entries in
    let old = (g.F.Fabric.view c.args.fabric.now).taken in
    let mid = (g.F.Fabric.view c.meet.new.fabric).taken in
    let new = (g.F.Fabric.view c.send.new.fabric).taken in
    let Due = IsMessageDue hello c.args.from c.args.to c.args.message.now in
    let own = sent_as c.args.message.now in
    err_on c.from_residual-in_err-got.result
    (TakesPart Due (wire_from c.args.self.now.entries c.args.self.now.met (only c.args.from c.args.to c.args.message.now)) old new)
    (part_taken c.args.self.now.entries c.args.self.now.met
    (record {
      from = c.args.from;
      to = c.args.to;
      message = c.args.message.now;
    }) c.min.result c.max.result old mid new c.requires.apart low high Due c.in_ok-meet.ensures.heard
    (takes_due (IsOn c.args.from c.args.to own) Due (λ a b. []) (bytes_on_pair c.args.from c.args.to own) mid new
    (λ a b bytes h. inl h) c.in_err-got.ensures.came))

pub returns-in_err-meet-clause-lied : goal.returns-in_err-meet-clause-lied
returns-in_err-meet-clause-lied g c =
    let low : c.min.result ≡ min c.args.from c.args.to = search rules in
    let high : c.max.result ≡ max c.args.from c.args.to = search rules in
    let hello = hand c.args.self.now.entries in
    let put = (g.F.Fabric.view c.meet.new.fabric).put in
    let taken = (g.F.Fabric.view c.meet.new.fabric).taken in
    let Due = IsMessageDue hello c.args.from c.args.to c.args.message.now in
    let e = c.in_err-meet.field-0.0 in
    err_from c.from_residual.result e (λ (f : PumpFault). LiesOf Due f put taken) c.from_residual.ensures
    (lies_due (IsGreeting hello c.min.result c.max.result) Due put taken e
    (λ a b bytes h. inr (greeting_between hello c.args.from c.args.to c.min.result c.max.result low high a b bytes h)) c.in_err-meet.ensures.lied)

pub returns-in_err-got-clause-lied : goal.returns-in_err-got-clause-lied
returns-in_err-got-clause-lied g c =
    let put = (g.F.Fabric.view c.send.new.fabric).put in
    let taken = (g.F.Fabric.view c.send.new.fabric).taken in
    let Due = IsMessageDue (hand c.args.self.now.entries) c.args.from c.args.to c.args.message.now in
    let e = c.in_err-got.field-0.0 in
    err_from c.from_residual-in_err-got.result e (λ (f : PumpFault). LiesOf Due f put taken) c.from_residual-in_err-got.ensures
    (lies_due (IsOn c.args.from c.args.to (sent_as c.args.message.now)) Due put taken e (λ a b bytes h. inl h) c.in_err-got.ensures.lied)

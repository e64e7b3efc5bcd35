use Rattle.std.proofs.Common.{[], inl, inr}
use Rattle.spl_pump.specs.{Wires.{IsGreeting, IsOn, LiesOf, TakesPart, hand, hands, bytes_on_pair}, declared.fault.PumpFault.PumpFault}
use Rattle.spl_pump.proofs.{Lies.{err_on, lies_due}, Taking.{takes_due, takes_no_more, takes_then}, Wires.{part_no_more, puts_then_part}}
use Rattle.spl_pump.proofs.pump.introduce.Goals as goal
use Rattle.spl_edge.proofs.Results.{err_from}

pub returns-in_err-present-clause-part : goal.returns-in_err-present-clause-part
returns-in_err-present-clause-part g c =
    part_no_more (bytes_on_pair c.args.low c.args.high (hand c.args.registry.now c.args.low c.args.high))
    (bytes_on_pair c.args.high c.args.low (hand c.args.registry.now c.args.high c.args.low)) (g.F.Fabric.view c.args.fabric.now).put
    (g.F.Fabric.view c.present.new.fabric).put c.present.ensures.part

pub returns-in_err-present-2-clause-part : goal.returns-in_err-present-2-clause-part
returns-in_err-present-2-clause-part g c =
    puts_then_part (bytes_on_pair c.args.low c.args.high (hand c.args.registry.now c.args.low c.args.high))
    (bytes_on_pair c.args.high c.args.low (hand c.args.registry.now c.args.high c.args.low)) (g.F.Fabric.view c.args.fabric.now).put
    (g.F.Fabric.view c.present.new.fabric).put (g.F.Fabric.view c.present-2.new.fabric).put c.in_ok-present.ensures.put c.present-2.ensures.part

pub returns-clause-part : goal.returns-clause-part
returns-clause-part g c =
    puts_then_part (bytes_on_pair c.args.low c.args.high (hand c.args.registry.now c.args.low c.args.high))
    (bytes_on_pair c.args.high c.args.low (hand c.args.registry.now c.args.high c.args.low)) (g.F.Fabric.view c.args.fabric.now).put
    (g.F.Fabric.view c.present.new.fabric).put (g.F.Fabric.view c.present-2.new.fabric).put c.in_ok-present.ensures.put c.present-2.ensures.part

-- ---- what was taken, and lies

pub returns-in_err-present-clause-came : goal.returns-in_err-present-clause-came
returns-in_err-present-clause-came g c =
    let hello = hand c.args.registry.now in
    let first = bytes_on_pair c.args.low c.args.high (hello c.args.low c.args.high) in
    let old = (g.F.Fabric.view c.args.fabric.now).taken in
    let new = (g.F.Fabric.view c.present.new.fabric).taken in
    err_on c.from_residual.result (TakesPart (IsGreeting hello c.args.low c.args.high) (hands c.args.registry.now c.args.low c.args.high) old new)
    (takes_no_more first (bytes_on_pair c.args.high c.args.low (hello c.args.high c.args.low)) old new
    (takes_due (IsOn c.args.low c.args.high (hello c.args.low c.args.high)) (IsGreeting hello c.args.low c.args.high) (λ a b. []) first old new
    (λ a b bytes h. inl h) c.in_err-present.ensures.came))

pub returns-in_err-present-2-clause-came : goal.returns-in_err-present-2-clause-came
returns-in_err-present-2-clause-came g c =
    let hello = hand c.args.registry.now in
    let second = bytes_on_pair c.args.high c.args.low (hello c.args.high c.args.low) in
    let old = (g.F.Fabric.view c.args.fabric.now).taken in
    let mid = (g.F.Fabric.view c.present.new.fabric).taken in
    let new = (g.F.Fabric.view c.present-2.new.fabric).taken in
    err_on c.from_residual-in_err-present-2.result
    (TakesPart (IsGreeting hello c.args.low c.args.high) (hands c.args.registry.now c.args.low c.args.high) old new)
    (takes_then (bytes_on_pair c.args.low c.args.high (hello c.args.low c.args.high)) second old mid new c.in_ok-present.ensures.heard
    (takes_due (IsOn c.args.high c.args.low (hello c.args.high c.args.low)) (IsGreeting hello c.args.low c.args.high) (λ a b. []) second mid new
    (λ a b bytes h. inr h) c.in_err-present-2.ensures.came))

pub returns-in_err-present-clause-lied : goal.returns-in_err-present-clause-lied
returns-in_err-present-clause-lied g c =
    let hello = hand c.args.registry.now in
    let put = (g.F.Fabric.view c.present.new.fabric).put in
    let taken = (g.F.Fabric.view c.present.new.fabric).taken in
    let e = c.in_err-present.field-0.0 in
    err_from c.from_residual.result e (λ (f : PumpFault). LiesOf (IsGreeting hello c.args.low c.args.high) f put taken) c.from_residual.ensures
    (lies_due (IsOn c.args.low c.args.high (hello c.args.low c.args.high)) (IsGreeting hello c.args.low c.args.high) put taken e
    (λ a b bytes h. inl h) c.in_err-present.ensures.lied)

pub returns-in_err-present-2-clause-lied : goal.returns-in_err-present-2-clause-lied
returns-in_err-present-2-clause-lied g c =
    let hello = hand c.args.registry.now in
    let put = (g.F.Fabric.view c.present-2.new.fabric).put in
    let taken = (g.F.Fabric.view c.present-2.new.fabric).taken in
    let e = c.in_err-present-2.field-0.0 in
    err_from c.from_residual-in_err-present-2.result e
    (λ (f : PumpFault). LiesOf (IsGreeting hello c.args.low c.args.high) f put taken) c.from_residual-in_err-present-2.ensures
    (lies_due (IsOn c.args.high c.args.low (hello c.args.high c.args.low)) (IsGreeting hello c.args.low c.args.high) put taken e
    (λ a b bytes h. inr h) c.in_err-present-2.ensures.lied)

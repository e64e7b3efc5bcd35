use Rattle.std.proofs.Common.{◌≡◌, List, false, subst, rules}
use Rattle.spl_registry.specs.Nodes.{Entry}
use Rattle.spl_pump.specs.{Wires.{IsGreeting, LiesOf, Puts, PutsPart, TakesPart, hand, hands, hands_if, have_met}, declared.fault.PumpFault.PumpFault}
use Rattle.spl_pump.proofs.{Lies.err_on, Taking.takes_all, Wires.{hands_as_met, hands_part_when}}
use Rattle.spl_pump.proofs.pump.Pump.meet.Goals as goal
use Rattle.spl_edge.proofs.Results.{err_from}

pub returns-in_err-introduce-clause-part : goal.returns-in_err-introduce-clause-part
returns-in_err-introduce-clause-part g c =
    let apart : have_met c.args.self.now.met c.args.low c.args.high ≡ false = search rules in
    let same : c.self.inside.registry ≡ c.args.self.now.entries = search rules in
    let part =
    subst (λ (es : List Entry). PutsPart (hands es c.args.low c.args.high) (g.F.Fabric.view c.args.fabric.now).put
    (g.F.Fabric.view c.introduce.new.fabric).put) same c.introduce.ensures.part in
    hands_part_when c.args.self.now.entries c.args.low c.args.high (g.F.Fabric.view c.args.fabric.now).put (g.F.Fabric.view c.introduce.new.fabric).put
    (have_met c.args.self.now.met c.args.low c.args.high) apart part

pub returns-in_err-push-clause-part : goal.returns-in_err-push-clause-part
returns-in_err-push-clause-part g c =
    let apart : have_met c.args.self.now.met c.args.low c.args.high ≡ false = search rules in
    let same : c.self.inside.registry ≡ c.args.self.now.entries = search rules in
    let part =
    subst (λ (es : List Entry). PutsPart (hands es c.args.low c.args.high) (g.F.Fabric.view c.args.fabric.now).put
    (g.F.Fabric.view c.introduce.new.fabric).put) same c.introduce.ensures.part in
    hands_part_when c.args.self.now.entries c.args.low c.args.high (g.F.Fabric.view c.args.fabric.now).put (g.F.Fabric.view c.introduce.new.fabric).put
    (have_met c.args.self.now.met c.args.low c.args.high) apart part

pub returns-clause-part : goal.returns-clause-part
returns-clause-part g c =
    let apart : have_met c.args.self.now.met c.args.low c.args.high ≡ false = search rules in
    let same : c.self.inside.registry ≡ c.args.self.now.entries = search rules in
    let part =
    subst (λ (es : List Entry). PutsPart (hands es c.args.low c.args.high) (g.F.Fabric.view c.args.fabric.now).put
    (g.F.Fabric.view c.introduce.new.fabric).put) same c.introduce.ensures.part in
    hands_part_when c.args.self.now.entries c.args.low c.args.high (g.F.Fabric.view c.args.fabric.now).put (g.F.Fabric.view c.introduce.new.fabric).put
    (have_met c.args.self.now.met c.args.low c.args.high) apart part

-- ---- what was taken, and lies

pub returns-in_err-introduce-clause-came : goal.returns-in_err-introduce-clause-came
returns-in_err-introduce-clause-came g c =
    let apart : have_met c.args.self.now.met c.args.low c.args.high ≡ false = search rules in
    let same : c.self.inside.registry ≡ c.args.self.now.entries = search rules in
    let old = (g.F.Fabric.view c.args.fabric.now).taken in
    let new = (g.F.Fabric.view c.introduce.new.fabric).taken in
    let Due = IsGreeting (hand c.args.self.now.entries) c.args.low c.args.high in
    err_on c.from_residual.result
    (TakesPart Due (hands_if c.args.self.now.entries (have_met c.args.self.now.met c.args.low c.args.high) c.args.low c.args.high) old new)
    (hands_as_met (λ f. TakesPart Due f old new) c.args.self.now.entries c.args.low c.args.high (have_met c.args.self.now.met c.args.low c.args.high) apart
    (subst (λ (es : List Entry). TakesPart (IsGreeting (hand es) c.args.low c.args.high)
    (hands es c.args.low c.args.high) old new) same c.in_err-introduce.ensures.came))

pub returns-in_err-push-clause-came : goal.returns-in_err-push-clause-came
returns-in_err-push-clause-came g c =
    let apart : have_met c.args.self.now.met c.args.low c.args.high ≡ false = search rules in
    let same : c.self.inside.registry ≡ c.args.self.now.entries = search rules in
    let old = (g.F.Fabric.view c.args.fabric.now).taken in
    let new = (g.F.Fabric.view c.introduce.new.fabric).taken in
    let Due = IsGreeting (hand c.args.self.now.entries) c.args.low c.args.high in
    err_on c.from_residual-in_err-push.result
    (TakesPart Due (hands_if c.args.self.now.entries (have_met c.args.self.now.met c.args.low c.args.high) c.args.low c.args.high) old new)
    (hands_as_met (λ f. TakesPart Due f old new) c.args.self.now.entries c.args.low c.args.high (have_met c.args.self.now.met c.args.low c.args.high) apart
    (takes_all (hands c.args.self.now.entries c.args.low c.args.high) old new
    (subst (λ (es : List Entry). Puts (hands es c.args.low c.args.high) old new) same c.in_ok-introduce.ensures.heard)))

pub returns-in_err-introduce-clause-lied : goal.returns-in_err-introduce-clause-lied
returns-in_err-introduce-clause-lied g c =
    let same : c.self.inside.registry ≡ c.args.self.now.entries = search rules in
    let put = (g.F.Fabric.view c.introduce.new.fabric).put in
    let taken = (g.F.Fabric.view c.introduce.new.fabric).taken in
    let e = c.in_err-introduce.field-0.0 in
    err_from c.from_residual.result e
    (λ (f : PumpFault). LiesOf (IsGreeting (hand c.args.self.now.entries) c.args.low c.args.high) f put taken) c.from_residual.ensures
    (subst (λ (es : List Entry). LiesOf (IsGreeting (hand es) c.args.low c.args.high) e put taken) same c.in_err-introduce.ensures.lied)

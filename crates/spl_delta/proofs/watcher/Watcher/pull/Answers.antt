use Rattle.std.proofs.Common.{rules, ◌≡◌, ◌∙◌, ap}
use Rattle.spl_delta.{specs.{Watches.deltas, declared.answer.WatchAnswer.TheVariants.Taken}, proofs.Groups.{pulled_other, pulled_own}}
use Rattle.spl_delta.proofs.watcher.Watcher.pull.Goals as goal

pub returns-then-not-fits-clause-answer : goal.returns-then-not-fits-clause-answer
returns-then-not-fits-clause-answer c = λ h here.
    let off : c.args.definition.now ≡ c.args.self.now.definition → ⊥ = search rules in
    pulled_other h c.args.definition.now c.args.service.now here c.args.count c.args.self.now off

pub returns-clause-answer : goal.returns-clause-answer
returns-clause-answer c = λ h here.
    let same : c.args.definition.now ≡ c.args.self.now.definition = search rules in
    let taken : c.in_ok-deltas.deltas ≡ deltas c.args.service.now c.args.self.now.next c.args.count = search rules in
    ap Taken taken ∙ pulled_own h c.args.definition.now c.args.service.now here c.args.count c.args.self.now same

use Rattle.std.{specs.{List.position_from, Prelude.is_some}, proofs.{Common.{rules, ◌≡◌, ◌∙◌, true, false, length, arith, ap, sym}, lemmas.List.length-map}}
use Rattle.spl_command.specs.declared.batch.Batch.{Batch}
use Rattle.spl_delta.{specs.{Watches.is_named, declared.answer.WatchAnswer.TheVariants.BadPlace}, proofs.Groups.{told_bad, told_many, told_taken}}
use Rattle.spl_delta.proofs.Groups.{told_watching}
use Rattle.spl_delta.proofs.group.Group.watch.Goals as goal

pub returns-then-is_some-clause-answer : goal.returns-then-is_some-clause-answer
returns-then-is_some-clause-answer c = λ h here.
    let some : is_some (position_from (is_named c.args.name) 0 c.args.self.now) ≡ true = search rules in
    told_taken h c.args.definition.now c.args.service.now here c.args.self.now c.args.name c.args.place some

pub returns-then-committed-place-clause-answer : goal.returns-then-committed-place-clause-answer
returns-then-committed-place-clause-answer c = λ h here.
    let bs = c.args.service.now in
    let free : is_some (position_from (is_named c.args.name) 0 c.args.self.now) ≡ false = search rules in
    let count : length bs ≡ c.len-committed.result =
    sym (length-map bs (λ (b : Batch). b.id)) ∙ ap length (sym c.history.ensures) ∙ sym c.len-committed.ensures in
    ap BadPlace (sym count) ∙ told_bad h c.args.definition.now bs here c.args.self.now c.args.name c.args.place free
    (omega (arith, count, c.if-committed-place.true, c.place.view_is))

pub returns-then-len-from-clause-answer : goal.returns-then-len-from-clause-answer
returns-then-len-from-clause-answer c = λ h here.
    let bs = c.args.service.now in
    let free : is_some (position_from (is_named c.args.name) 0 c.args.self.now) ≡ false = search rules in
    let count : length bs ≡ c.len-committed.result =
    sym (length-map bs (λ (b : Batch). b.id)) ∙ ap length (sym c.history.ensures) ∙ sym c.len-committed.ensures in
    told_many h c.args.definition.now bs here c.args.self.now c.args.name c.args.place free (omega (arith, count, c.if-committed-place.false, c.place.view_is))
    (omega (arith, c.if-len-from.true, c.from.ensures, c.len.ensures, ap length c.self.view_is))

pub returns-clause-answer : goal.returns-clause-answer
returns-clause-answer c = λ h here.
    let bs = c.args.service.now in
    let free : is_some (position_from (is_named c.args.name) 0 c.args.self.now) ≡ false = search rules in
    let count : length bs ≡ c.len-committed.result =
    sym (length-map bs (λ (b : Batch). b.id)) ∙ ap length (sym c.history.ensures) ∙ sym c.len-committed.ensures in
    told_watching h c.args.definition.now bs here c.args.self.now c.args.name c.args.place free
    (omega (arith, count, c.if-committed-place.false, c.place.view_is))
    (omega (arith, c.if-len-from.false, c.from.ensures, c.len.ensures, ap length c.self.view_is))

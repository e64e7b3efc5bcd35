use Rattle.std.proofs.Common.{arith}
use Rattle.spl_talk.proofs.Joined.{taken_bytes, taken_fits}
use Rattle.spl_talk.proofs.talk.join.Goals as goal

pub returns-clause-held : goal.returns-clause-held
returns-clause-held c =
    taken_bytes c.args.joiner.now c.take.new.self c.args.body.now c.take.result c.requires.bytes
    (λ i. omega (arith, c.type_inv.body i)) c.take.ensures.next c.take.ensures.memory

pub returns-clause-form : goal.returns-clause-form
returns-clause-form c =
    taken_fits c.args.joiner.now c.args.body.now c.take.result c.requires.bytes (λ i. omega (arith, c.type_inv.body i)) c.take.ensures.answer

use Rattle.std.proofs.Common.{true, false}
use Rattle.spl_talk.{specs.Talks.{listening, opening}, proofs.Hearing.{expected_greeted, hears_all, opener_greeted}}
use Rattle.spl_talk.proofs.laws.all_that_was_put_is_heard.Goals as goal

pub returns-clause-opened : goal.returns-clause-opened
returns-clause-opened c = λ es low high ms may all.
    hears_all c.a_message_is_joined.ensures c.bodies_are_sized.ensures es (listening high) true low ms may.low_id all (opener_greeted es low high may)

pub returns-clause-opens : goal.returns-clause-opens
returns-clause-opens c = λ es low high ms may all.
    hears_all c.a_message_is_joined.ensures c.bodies_are_sized.ensures es (opening low high) false high ms may.high_id all (expected_greeted es low high may)

use Rattle.std.proofs.Common.{true, false}
use Rattle.spl_talk.{specs.Talks.{listening, opening}, proofs.Hearing.{expected_greeted, hears_prefix, opener_greeted}}
use Rattle.spl_talk.proofs.laws.a_prefix_is_heard_as_a_prefix.Goals as goal

pub returns-clause-opened : goal.returns-clause-opened
returns-clause-opened c = λ es low high ms came left may all is.
    hears_prefix c.a_message_is_joined.ensures c.bodies_are_sized.ensures es (listening high) true low ms came left may.low_id all
    (opener_greeted es low high may) is

pub returns-clause-opens : goal.returns-clause-opens
returns-clause-opens c = λ es low high ms came left may all is.
    hears_prefix c.a_message_is_joined.ensures c.bodies_are_sized.ensures es (opening low high) false high ms came left may.high_id all
    (expected_greeted es low high may) is

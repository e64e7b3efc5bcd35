use Rattle.spl_serve.proofs.Taking.{stops}
use Rattle.spl_serve.proofs.turn.ServerTurn.say_stopping.Goals as goal

pub returns-clause-takes : goal.returns-clause-takes
returns-clause-takes c =
    λ here before ds ns was. stops here ns before ds c.tell.new.self c.args.caller c.in_ok-from.field-0 c.in_ok-from.ensures
    (c.in_ok-tell.ensures.told here before ds was)

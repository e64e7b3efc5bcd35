use Rattle.std.proofs.Common.{Some, ap, ◌∙◌}
use Rattle.spl_wire.specs.declared.message.Message.{Message}
use Rattle.spl_pump.proofs.Messages.{not_spelled, read_message}
use Rattle.spl_pump.proofs.message.message_of.Goals as goal

pub returns-in_ok-new-in-Ok : goal.returns-in_ok-new-in-Ok
returns-in_ok-new-in-Ok c =
    λ m s. ap (λ (x : Message). Some x) (c.in_ok-new-in-Ok.ensures ∙ read_message c.args.body.now c.in-Ok.message c.in-Ok.field-0-1 c.in-Ok.ensures.only m s)

pub returns-in-Err : goal.returns-in-Err
returns-in-Err c = not_spelled c.not_read.result c.in-Err.fault c.args.body.now c.not_read.ensures.known c.in-Err.ensures.only

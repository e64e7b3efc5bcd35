-- Each message can be sent.
use Rattle.std.proofs.Common.{IsTrue, subst, sym, arith}
use Rattle.spl_wire.specs.{Forms.message_form, declared.message.Message.Message}
use Rattle.spl_serve.proofs.Sending.{sendable_at}
use Rattle.spl_serve.proofs.turn.leave_sends.Goals as goal

pub write_frames-requires : goal.write_frames-requires
write_frames-requires c = record {
  few = subst (λ (m : Message). IsTrue (message_form.bounded m)) (sym c.get.ensures)
      (sendable_at c.args.sends.now c.loop-send.send-index c.send-item.result (omega arith) c.send-item.is c.requires).bounded;
}

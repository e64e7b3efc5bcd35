use Rattle.std.proofs.Common.{◌≤◌, ◌+◌, None, length, arith}
use Rattle.spl_frame.specs.declared.header.TheConstants.{LONGEST_BODY}
use Rattle.spl_pump.proofs.Messages.{no_frame, spelled_found}
use Rattle.spl_pump.proofs.message.message_in.Goals as goal

pub returns-in-Some : goal.returns-in-Some
returns-in-Some c =
    let short : length c.args.frames.now ≤ LONGEST_BODY + 6 = omega (arith, c.if-frames.false) in
    spelled_found c.message_of.result c.args.frames.now c.in-Some.body.now short c.in-Some.ensures.some c.message_of.ensures

pub returns-in-None : goal.returns-in-None
returns-in-None c = λ m s.
    let short : length c.args.frames.now ≤ LONGEST_BODY + 6 = omega (arith, c.if-frames.false) in
    no_frame None m c.args.frames.now short c.in-None.ensures.none s

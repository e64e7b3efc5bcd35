use Rattle.spl_frame.proofs.Hearing.{heard_fault}
use Rattle.spl_frame.proofs.stream.hear.Goals as goal

pub returns-in_default-fault : goal.returns-in_default-fault
returns-in_default-fault c = λ heard frames h.
    let e = c.in-Err.ensures in
    let real = c.in_default-fault.not-NoMemory in
    heard_fault c.args.framer.now c.args.piece.now c.feed.new.self heard frames c.in-Err.fault (e.fault real) (e.frames real) (e.again real) h

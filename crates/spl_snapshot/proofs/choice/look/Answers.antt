use Rattle.std.proofs.Common.{◌≡◌, length, Option, Err, IfSome, ap, subst, arith}
use Rattle.spl_edge.specs.Devices.{Image, image_now}
use Rattle.spl_snapshot.proofs.Findings.{closed_found}
use Rattle.spl_snapshot.proofs.choice.look.Goals as goal

pub returns-in-Ok-len-clause-found : goal.returns-in-Ok-len-clause-found
returns-in-Ok-len-clause-found g c =
    let still = c.walk.ensures.stays.still (g.D.Disk.view c.walk.new.disk).moment c.walk.ensures.stays.later (omega arith) in
    closed_found (image_now (g.D.Disk.view c.args.disk.now)) c.in-Err-NotAJournal.at c.in-Ok-len.len
    (c.in-Err-NotAJournal.ensures.not c.in-Err-NotAJournal.at (ap (λ f. Err f) c.in-Err-NotAJournal.field-0-is))
    (subst (λ (o : Option Image). IfSome o (λ i. c.in-Ok-len.len ≡ length i.bytes)) still c.in-Ok-len.ensures.length) c.requires.settled

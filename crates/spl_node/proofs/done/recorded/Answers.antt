use Rattle.std.proofs.Common.{arith}
use Rattle.spl_wire.specs.Grouping.{record_of}
use Rattle.spl_node.proofs.Recorded.{record_some, recorded_good, recorded_read}
use Rattle.spl_node.proofs.done.recorded.Goals as goal

pub returns-clause-bytes : goal.returns-clause-bytes
returns-clause-bytes c = record_some c.args.circuit c.args.changes c.in_ok-write.field-0 (λ none. absurd (omega arith)) c.in_ok-write.ensures.spelled

pub returns-clause-good : goal.returns-clause-good
returns-clause-good c =
    recorded_good c.args.circuit c.args.changes c.in_ok-write.field-0 c.in_ok-write.ensures.spelled c.in_ok-write.ensures.fits c.requires.short

pub returns-clause-read : goal.returns-clause-read
returns-clause-read c = recorded_read (record_of c.args.circuit c.args.changes) c.in_ok-write.field-0 c.in_ok-write.ensures.spelled c.in_ok-write.ensures.fits

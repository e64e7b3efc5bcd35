use Rattle.std.proofs.{Common.rules, lemmas.List.drop-take}
use Rattle.spl_memory.proofs.Streams.{taken_more}
use Rattle.spl_memory.proofs.lane.Lane.take.Goals as goal

pub returns-clause-taken : goal.returns-clause-taken
returns-clause-taken c =
    taken_more c.args.self.now.put.items c.args.buf.now c.copy_from_slice.new.self c.args.self.now.taken c.min-count.result (search rules)
    (search (rules, drop-take))

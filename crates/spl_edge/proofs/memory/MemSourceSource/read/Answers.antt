use Rattle.std.proofs.{Common.rules, lemmas.List.drop-take}
use Rattle.spl_edge.proofs.Pieces.{taken_further, left_further}
use Rattle.spl_edge.proofs.memory.MemSourceSource.read.Goals as goal

pub returns-clause-taken : goal.returns-clause-taken
returns-clause-taken c =
    taken_further c.args.self.now.bytes.items c.args.buf.now c.copy_from_slice.new.self c.args.self.now.at c.min-count.result (search rules)
    (search (rules, drop-take))

pub returns-clause-left : goal.returns-clause-left
returns-clause-left c =
    left_further c.args.self.now.bytes.items c.args.buf.now c.copy_from_slice.new.self c.args.self.now.at c.min-count.result (search rules)
    (search (rules, drop-take))

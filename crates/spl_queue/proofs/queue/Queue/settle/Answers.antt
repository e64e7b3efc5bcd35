-- The settled key is in no refused entry, so its entry goes last there.
use Rattle.std.proofs.{Common.{arith, sym}, lemmas.Grind.common_steps}
use Rattle.indexmap.proofs.CallerLemmas.{insert_entry-new}
use Rattle.spl_queue.proofs.queue.Queue.settle.Goals as goal

pub returns-clause-refused : goal.returns-clause-refused
returns-clause-refused g c =
    let absent = c.self.invariant.apart c.args.key.now c.in-Some-shift_remove.value (sym c.in-Some-shift_remove.ensures.value) in
    grind (arith, common_steps, insert_entry-new, absent)

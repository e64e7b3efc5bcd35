-- A key that is not pending goes last.
use Rattle.std.proofs.{Common.arith, lemmas.Grind.common_steps}
use Rattle.indexmap.proofs.CallerLemmas.{insert_entry-new}
use Rattle.spl_queue.proofs.queue.Queue.offer.Goals as goal

pub returns-in-Ok-clause-queued : goal.returns-in-Ok-clause-queued
returns-in-Ok-clause-queued g c = grind (arith, common_steps, insert_entry-new)

-- A key that is not refused goes last.
use Rattle.std.proofs.Common.{[], ◌∷◌, ◌++◌, ap, ◌∙◌}
use Rattle.indexmap.proofs.CallerLemmas.{insert_entry-new}
use Rattle.spl_queue.specs.Lists.{at}
use Rattle.spl_queue.proofs.queue.Queue.keep.Goals as goal

pub returns-in-Ok-clause-kept : goal.returns-in-Ok-clause-kept
returns-in-Ok-clause-kept g c =
    c.in-Ok.ensures.entries
    ∙ (insert_entry-new g.K.PartialEq.eq c.self.inside.refused c.args.key (c.args.value, c.args.reason)
    (ap (λ q. at g.K.PartialEq.eq q.refused c.args.key) c.self.view_is ∙ c.requires.not_refused)
    ∙ ap (λ q. q.refused ++ (c.args.key, (c.args.value, c.args.reason)) ∷ []) c.self.view_is)

use Rattle.std.proofs.Common.{◌∙◌, ap}
use Rattle.spl_delta.{specs.Kept.{group_or_none, watchers_of}, proofs.Entries.others_stay}
use Rattle.spl_delta.proofs.watchers.Watchers.keep.Goals as goal

pub returns-in-Ok-clause-own : goal.returns-in-Ok-clause-own
returns-in-Ok-clause-own c = ap group_or_none c.in-Ok.ensures.updates.1

pub returns-in-Ok-clause-others : goal.returns-in-Ok-clause-others
returns-in-Ok-clause-others c = λ d off.
    ap group_or_none (others_stay c.self.inside.groups c.insert.new.self c.args.circuit _ c.in-Ok.ensures.updates d off)
    ∙ ap (λ gs. watchers_of gs d) c.self.view_is

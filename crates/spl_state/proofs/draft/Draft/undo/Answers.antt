-- The last write is put back first.
use Rattle.std.proofs.Common.{sym, ap, ◌∙◌}
use Rattle.spl_state.{specs.Drafts.undone, proofs.Drafts.undone_more}
use Rattle.spl_state.proofs.draft.Draft.undo.Goals as goal

pub loop-last-preserved : goal.loop-last-preserved
loop-last-preserved c =
    ap (λ s. undone s c.pop.new.self.items) c.put_back.ensures ∙ sym (undone_more c.loop-last.state c.pop.new.self.items c.in-Some.last)
    ∙ ap (undone c.loop-last.state) (sym c.in-Some.ensures.items) ∙ c.loop-last.invariant

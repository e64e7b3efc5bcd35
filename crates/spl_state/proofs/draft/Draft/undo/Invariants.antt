use Rattle.std.proofs.Common.{◌≡◌, length}
use Rattle.spl_state.specs.Drafts.{undone}
use Rattle.spl_state.proofs.draft.Draft.undo.Given as goal

abbrev pub invariant-loop-last : goal.invariant-loop-last
invariant-loop-last l = undone l.state l.replaced.items ≡ undone l.initial.state l.initial.replaced.items

abbrev pub decreases-loop-last : goal.decreases-loop-last
decreases-loop-last l = length l.replaced.items

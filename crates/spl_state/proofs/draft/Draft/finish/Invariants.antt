use Rattle.std.proofs.Common.{◌≡◌, fold, take}
use Rattle.spl_state.specs.Drafts.{without_one}
use Rattle.spl_state.proofs.draft.Draft.finish.Given as goal

abbrev pub invariant-loop-address : goal.invariant-loop-address
invariant-loop-address l = l.state ≡ fold without_one l.initial.state (take l.address-index l.address-items)

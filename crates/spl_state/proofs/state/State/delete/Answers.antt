use Rattle.std.proofs.Common.{◌≡◌, ◌∙◌, arith, length}
use Rattle.spl_state.proofs.Bytes.{state_removed}
use Rattle.spl_state.proofs.state.State.delete.Goals as goal

pub invariant_of-self : goal.invariant_of-self
invariant_of-self c =
    let whole : length c.args.address.now.0 ≡ 35 = omega arith in
    state_removed c.self.inside.tree.depth c.shrink.new.self.depth c.args.address.now c.self.inside.tree.entries c.shrink.new.self.entries c.self.invariant
    whole
    (c.shrink.ensures.depth ∙ c.delete-found.ensures.depth) (c.shrink.ensures.entries ∙ c.delete-found.ensures.entries)

use Rattle.std.proofs.Common.{◌≡◌, arith, length}
use Rattle.spl_state.proofs.Bytes.{state_swapped}
use Rattle.spl_state.proofs.state.State.write_over.Goals as goal

pub invariant_of-self : goal.invariant_of-self
invariant_of-self c =
    let whole : length c.args.address.0 ≡ 35 = omega arith in
    state_swapped c.swap.result c.self.inside.tree.depth c.swap.new.self.depth c.args.address c.args.value c.self.inside.tree.entries
    c.swap.new.self.entries c.self.invariant whole
    c.swap.ensures.depth c.swap.ensures.ok c.swap.ensures.err

pub invariant_of-self-then-is_some-2 : goal.invariant_of-self-then-is_some-2
invariant_of-self-then-is_some-2 c =
    let whole : length c.args.address.0 ≡ 35 = omega arith in
    state_swapped c.swap.result c.self.inside.tree.depth c.swap.new.self.depth c.args.address c.args.value c.self.inside.tree.entries
    c.swap.new.self.entries c.self.invariant whole
    c.swap.ensures.depth c.swap.ensures.ok c.swap.ensures.err

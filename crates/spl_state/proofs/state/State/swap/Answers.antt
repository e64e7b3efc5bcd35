-- The order of all digits is that of the bytes, and what was replaced makes the state of before.
use Rattle.std.proofs.Common.{◌≡◌, ap, ◌∙◌, arith, length}
use Rattle.spl_state.{specs.{Drafts.with_former, Order.write_undone}, proofs.Bytes.{insert_by_bytes, lookup_by_bytes, state_written}}
use Rattle.spl_state.proofs.state.State.swap.Goals as goal

pub invariant_of-self-2 : goal.invariant_of-self-2
invariant_of-self-2 c =
    let whole : length c.args.address.0 ≡ 35 = omega arith in
    state_written c.self.inside.tree.depth c.swap.new.self.depth c.args.address c.in_ok-piece.piece c.self.inside.tree.entries c.swap.new.self.entries
    c.self.invariant whole c.swap.ensures.depth c.in_ok-value.ensures.ok

pub returns-clause-undone : goal.returns-clause-undone
returns-clause-undone c =
    let es = c.self.inside.tree.entries in
    let d = c.self.inside.tree.depth in
    let a = c.args.address in
    let v = c.in_ok-piece.piece in
    let o = c.in_ok-value.value in
    let whole : length c.args.address.0 ≡ 35 = omega arith in
    ap (λ fs. with_former fs a o) (c.in_ok-value.ensures.ok ∙ insert_by_bytes d a v es c.self.invariant.top whole c.self.invariant.whole)
    ∙ write_undone o a v es c.self.invariant.rising (c.in_ok-value.ensures.replaced ∙ lookup_by_bytes d a es c.self.invariant.top whole c.self.invariant.whole)
    ∙ c.self.view_is

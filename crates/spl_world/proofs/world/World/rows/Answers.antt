use Rattle.spl_world.{specs.{Calms.sent_count, Views.world_node_ids}, proofs.{Common.{◌≡◌, ℕ, ◌∙◌, subst, length, slice_get, Some, arith}, Turns.length_more}}
use Rattle.spl_world.proofs.Turns.{wide_more, rows_more}
use Rattle.spl_world.proofs.world.World.rows.Goals as goal

pub loop-from-preserved : goal.loop-from-preserved
loop-from-preserved c = (
  rw (c.in_ok-push.ensures.items) (length_more c.loop-from.rows.items _ c.loop-from.from c.loop-from.invariant.0),
  rw (c.in_ok-push.ensures.items) (wide_more (length c.args.self.now.slots.items) c.loop-from.rows.items _ c.loop-from.invariant.1 c.in_ok-row.ensures.wide),
  λ is m h. rw (c.in_ok-push.ensures.items) (rows_more (sent_count m) (world_node_ids c.args.self.now) c.loop-from.rows.items _ (c.loop-from.invariant.2 is m h) (λ a at. c.in_ok-row.ensures.counts is m a h (subst (λ (k : ℕ). slice_get (world_node_ids c.args.self.now) k ≡ Some a) c.loop-from.invariant.0 at))),
)

pub returns-clause-square : goal.returns-clause-square
returns-clause-square c =
    let all : c.loop-from.from ≡ c.len-from-end.result = omega (arith, c.loop-from.auto.from-end, c.loop-from-test.false) in
    record { tall = c.loop-from.invariant.0 ∙ all ∙ c.len-from-end.ensures; wide = c.loop-from.invariant.1 }

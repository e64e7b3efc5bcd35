use Rattle.std.proofs.{Common.replicate, Math.Seq.take-nil, lemmas.List.take_all}
use Rattle.spl_world.specs.{Calms.{sender_counts, sent_count}, Kept.lists_about, Views.{IsOutbox, world_node_ids, nodes_over}, declared.slot.Slot.Slot}
use Rattle.spl_world.proofs.Common.{◌≡◌, ◌++◌, ◌∷◌, [], ◌≤◌, ℕ, zero, ◌-◌, ◌∙◌, ap, sym, subst, take, List, length, slice_get, Some, arith, NodeId}
use Rattle.spl_world.proofs.{Reading.{has_at, silent_as, zeros_of}, Slots.{some_at, take_one, length_ids}, Turns.{length_more, row_more}}
use Rattle.spl_world.proofs.world.World.row.Goals as goal
use Rattle.spl_node.proofs.Positions.{same_there}

pub loop-to-preserved : goal.loop-to-preserved
loop-to-preserved c = (
  rw (c.in_ok-push.ensures.items) (length_more c.loop-to.row.items _ c.loop-to.to c.loop-to.invariant.0),
  λ is m a h at.
      let xs = c.args.self.now.slots.items in
      let n = some_at xs c.loop-to.to (rw (c.len-to-end.ensures) at c.loop-to-test.true) in
      let own : IsOutbox c.args.self.now c.args.from c.args.circuit.now c.in-Some.outbox.now = λ x e.
      ap (λ (s : Slot). lists_about s.posts c.args.circuit.now) (same_there xs c.args.from x c.slot_at.result.now e c.slot_at.ensures) ∙ sym c.in-Some.ensures in
      c.in_ok-push.ensures.items ∙ ap (λ (ks : List ℕ). ks ++ c.count_in.result ∷ []) (c.loop-to.invariant.1 is m a h at)
      ∙ ap (λ (k : ℕ). sender_counts (sent_count m) a (take c.loop-to.to (world_node_ids c.args.self.now)) ++ k ∷ []) (c.count_in.ensures is c.args.circuit.now m a n.0 h at n.1 own)
      ∙ sym (row_more (sent_count m) a (take c.loop-to.to (world_node_ids c.args.self.now)) n.0)
      ∙ ap (sender_counts (sent_count m) a) (sym (take_one (world_node_ids c.args.self.now) c.loop-to.to n.0 n.1)),
)

pub returns-clause-wide : goal.returns-clause-wide
returns-clause-wide c =
    let all : c.loop-to.to ≡ c.len-to-end.result = omega (arith, c.loop-to.auto.to-end, c.loop-to-test.false) in
    c.loop-to.invariant.0 ∙ all ∙ c.len-to-end.ensures

pub returns-clause-counts : goal.returns-clause-counts
returns-clause-counts c = λ is m a h at.
    c.loop-to.invariant.1 is m a h at ∙ ap (sender_counts (sent_count m) a) (take_all c.loop-to.to (world_node_ids c.args.self.now) (subst (λ (k : ℕ). k ≤ c.loop-to.to) (c.len-to-end.ensures ∙ sym (length_ids c.args.self.now.slots.items)) c.loop-to-test.false))

pub returns-in_default-clause-counts : goal.returns-in_default-clause-counts
returns-in_default-clause-counts c = λ is m a h at.
    let ids = world_node_ids c.args.self.now in
    let silent = sym c.in_default.ensures in
    let none = λ (j : ℕ) (b : NodeId) (e : slice_get ids j ≡ Some b). ap length (silent_as (nodes_over c.args.self.now is) c.args.from c.slot_at.result.now c.args.circuit.now a b m c.slot_at.ensures at (has_at ids j b e) h silent) in
    let n = c.len-in_default.result in
    let left : n - zero ≡ n = omega arith in
    let zeros : c.resize.new.self.items ≡ replicate n zero =
    c.in_ok-resize.ensures.items ∙ (ap (λ (k : ℕ). take n c.in_ok-row.row.items ++ replicate (n - k) zero) c.in_ok-row.ensures.len
    ∙ (ap (λ (k : ℕ). take n c.in_ok-row.row.items ++ replicate k zero) left
    ∙ (ap (λ (old : List ℕ). take n old ++ replicate n zero) c.in_ok-row.ensures.items ∙ ap (λ (ks : List ℕ). ks ++ replicate n zero) (take-nil n)))) in
    let all : n ≡ length ids = c.len-in_default.ensures ∙ sym (length_ids c.args.self.now.slots.items) in
    zeros ∙ (ap (λ (k : ℕ). replicate k zero) all ∙ zeros_of (sent_count m) a ids none)

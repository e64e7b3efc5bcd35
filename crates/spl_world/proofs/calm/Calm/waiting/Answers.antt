use Rattle.spl_world.{specs.{Calms.sent_count, Views.world_node_ids}, proofs.Common.{◌≡◌, ◌<◌, ◌≤◌, ◌∙◌, ℕ, true, true≢false, sym, subst, arith, bytes_eq}}
use Rattle.spl_world.proofs.{Common.NodeId, Cursor.{equal_taken, row_reads, skip_all, skip_first, skip_none, skip_one, waiting_apart, wide_row, row_there}}
use Rattle.spl_world.proofs.{Slots.{length_ids, some_at}, calm.Calm.waiting.Goals.else-index-count-via-then-index-count+else-is_up}
use Rattle.spl_world.proofs.calm.Calm.waiting.Goals.{else-index-count-via-then-index-count+then-is_up+else-not-is_same, else-index-count-via-else-index-count}
use Rattle.spl_world.proofs.calm.Calm.waiting.Goals as goal

pub returns-then-left-eq0-clause-skips : goal.returns-then-left-eq0-clause-skips
returns-then-left-eq0-clause-skips c = λ is z a h tracks at has.
    skip_all c.args.self.now.circuit z a (world_node_ids c.args.world.now) c.args.first c.args.left tracks.within has c.if-left-eq0.true

pub loop-to-init : goal.loop-to-init
loop-to-init c = λ is z a h tracks at has. skip_first c.args.self.now.circuit z a (world_node_ids c.args.world.now) c.args.first

pub index-requires : goal.index-requires
index-requires c =
    wide_row _ c.args.self.now.rows.items c.args.from c.loop-to.to c.index-row.result.now c.requires.square c.requires.below c.index-row.ensures
    (rw (c.len-to-end.ensures) at c.loop-to-test.true)

pub returns-then-not-is_same-clause-skips : goal.returns-then-not-is_same-clause-skips
returns-then-not-is_same-clause-skips c = c.loop-to.invariant

pub returns-then-not-is_same-clause-waits : goal.returns-then-not-is_same-clause-waits
returns-then-not-is_same-clause-waits c = λ is z a h tracks at b to.
    let rows = c.args.self.now.rows.items in
    let there = row_there _ rows c.args.from c.index-row.result.now c.requires.square c.requires.below c.index-row.ensures in
    let taken = row_reads z (world_node_ids c.args.world.now) rows c.args.from c.loop-to.to a b c.index-row.result.now c.index.result.now tracks at to there c.index.ensures in
    let sent : c.count.result ≡ sent_count z.world a b = c.count.ensures is z.world a b h at to in
    let up : z.world.up b ≡ true = sym (c.is_up.ensures.world is c.args.self.now.circuit z.world b h to) ∙ c.if-is_up.true in
    let less = subst (λ (n : ℕ). n < sent_count z.world a b) taken (subst (λ (n : ℕ). c.index.result.now < n) sent c.if-index-count.true) in
    record { up = up; less = less; room = omega (arith, sent, less, c.count.type_inv) }

pub loop-to-preserved : goal.loop-to-preserved
loop-to-preserved c = λ is z a h tracks at has.
    let rows = c.args.self.now.rows.items in
    let there = row_there _ rows c.args.from c.index-row.result.now c.requires.square c.requires.below c.index-row.ensures in
    let recipient = some_at c.args.world.now.slots.items c.loop-to.to (rw (c.len-to-end.ensures) at c.loop-to-test.true) in
    let b : NodeId = recipient.0 in
    let to = recipient.1 in
    let taken = row_reads z (world_node_ids c.args.world.now) rows c.args.from c.loop-to.to a b c.index-row.result.now c.index.result.now tracks at to there c.index.ensures in
    let sent : c.count.result ≡ sent_count z.world a b = c.count.ensures is z.world a b h at to in
    let none : z.world.up b ≡ true → sent_count z.world a b ≡ z.taken a b = λ up.
    elim c.else-index-count.branch [
      | else-index-count-via-then-index-count+else-is_up w ↦ absurd (true≢false (sym up ∙ sym (w.is_up.ensures.world is c.args.self.now.circuit z.world b h to) ∙ w.if-is_up.false))
      | else-index-count-via-then-index-count+then-is_up+else-not-is_same w ↦ (
          let one : bytes_eq a b ≡ true = sym (w.is_same.ensures a b at to) ∙ w.if-not-is_same.false in
          let less : z.taken a b < sent_count z.world a b = subst (λ (n : ℕ). n < sent_count z.world a b) taken (subst (λ (n : ℕ). c.index.result.now < n) sent w.if-index-count.true) in
          absurd (true≢false (sym one ∙ waiting_apart z a b less)))
      | else-index-count-via-else-index-count w ↦ equal_taken (z.taken a b) (sent_count z.world a b) (tracks.within a b)
          (subst (λ (n : ℕ). n ≤ z.taken a b) sent (subst (λ (n : ℕ). c.count.result ≤ n) taken w.if-index-count.false))
    ] in
    skip_one c.args.self.now.circuit z a b (world_node_ids c.args.world.now) c.loop-to.to c.args.first to none (c.loop-to.invariant is z a h tracks at has)

pub returns-clause-skips : goal.returns-clause-skips
returns-clause-skips c = λ is z a h tracks at has.
    skip_none c.args.self.now.circuit z a (world_node_ids c.args.world.now) c.loop-to.to c.args.first
    (let same = length_ids c.args.world.now.slots.items in omega (arith, same, c.len-to-end.ensures, c.loop-to-test.false)) (c.loop-to.invariant is z a h tracks at has)

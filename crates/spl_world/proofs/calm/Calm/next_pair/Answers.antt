use Rattle.spl_world.{specs.{Cursor.{SkipsTo, Waits}, Views.{HoldsWorld, world_node_ids, nodes_over}}, proofs.Common.{sym, subst, arith, CircuitWorld}}
use Rattle.spl_world.proofs.{Cursor.{pairs_first, pairs_none, pairs_over, pairs_some, still_left, still_tracks, still_waits}, Slots.{length_ids, some_at}}
use Rattle.spl_world.proofs.calm.Calm.next_pair.Goals as goal

pub loop-from-init : goal.loop-from-init
loop-from-init c = λ is z h f. pairs_first c.args.self.now.circuit (world_node_ids c.args.world.now) z c.args.self.now.from c.args.self.now.to

pub returns-in-Some-clause-skips : goal.returns-in-Some-clause-skips
returns-in-Some-clause-skips c = λ is z h f.
    let k = c.args.self.now in
    let ids = world_node_ids c.args.world.now in
    let sender = some_at c.args.world.now.slots.items c.loop-from.from (rw (c.len-from-end.ensures) at c.loop-from-test.true) in
    let s = c.loop-from.invariant is z h f in
    let there = subst (λ (w : CircuitWorld). HoldsWorld k.circuit w (nodes_over c.args.world.now is)) (sym s.still.world) h in
    let has = still_left z s.there ids sender.0 c.left_of-left.result s.still (c.left_of-left.ensures is z sender.0 h f sender.1) in
    pairs_some k.circuit ids z k.from k.to c.loop-from.from c.loop-from.first c.in-Some.to c.left_of-left.result sender.0 sender.1 s
    (subst (λ r. SkipsTo r k.circuit ids s.there sender.0 c.loop-from.first) c.in-Some.is
    (c.waiting.ensures.skips is s.there sender.0 there (still_tracks z s.there ids k.rows.items s.still f.tracks) sender.1 has))

pub returns-in-Some-clause-waits : goal.returns-in-Some-clause-waits
returns-in-Some-clause-waits c = λ is z h f a b at to.
    let k = c.args.self.now in
    let ids = world_node_ids c.args.world.now in
    let s = c.loop-from.invariant is z h f in
    let there = subst (λ (w : CircuitWorld). HoldsWorld k.circuit w (nodes_over c.args.world.now is)) (sym s.still.world) h in
    still_waits z s.there a b s.still
    (subst (λ r. Waits r ids s.there a) c.in-Some.is (c.waiting.ensures.waits is s.there a there (still_tracks z s.there ids k.rows.items s.still f.tracks) at) b to)

pub returns-in-Some-clause-leaves : goal.returns-in-Some-clause-leaves
returns-in-Some-clause-leaves c = λ is z h f a at. c.left_of-left.ensures is z a h f at

pub loop-from-preserved : goal.loop-from-preserved
loop-from-preserved c = λ is z h f.
    let k = c.args.self.now in
    let ids = world_node_ids c.args.world.now in
    let sender = some_at c.args.world.now.slots.items c.loop-from.from (rw (c.len-from-end.ensures) at c.loop-from-test.true) in
    let s = c.loop-from.invariant is z h f in
    let there = subst (λ (w : CircuitWorld). HoldsWorld k.circuit w (nodes_over c.args.world.now is)) (sym s.still.world) h in
    let has = still_left z s.there ids sender.0 c.left_of-left.result s.still (c.left_of-left.ensures is z sender.0 h f sender.1) in
    pairs_none k.circuit ids z k.from k.to c.loop-from.from c.loop-from.first sender.0 sender.1 s
    (subst (λ r. SkipsTo r k.circuit ids s.there sender.0 c.loop-from.first) c.in_default.is
    (c.waiting.ensures.skips is s.there sender.0 there (still_tracks z s.there ids k.rows.items s.still f.tracks) sender.1 has))

pub returns-clause-skips : goal.returns-clause-skips
returns-clause-skips c = λ is z h f.
    let k = c.args.self.now in
    let same = length_ids c.args.world.now.slots.items in
    pairs_over k.circuit (world_node_ids c.args.world.now) z k.from k.to c.loop-from.from c.loop-from.first (omega (arith, same, c.len-from-end.ensures, c.loop-from-test.false)) (c.loop-from.invariant is z h f)

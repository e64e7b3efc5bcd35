use Rattle.spl_node.specs.Benches.{images, images_of}
use Rattle.spl_world.{specs.{Kept.NodeView, Views.{HoldsWorld, Nodes, seen, slot_id, NodeSeat}}, proofs.Common.{◌∙◌, ap, refl, sym, subst, None, slice_set}}
use Rattle.spl_world.proofs.{Common.{NodeId, Stops, circuit_happens, stopped_cell}, Ending.own_stopped, Handling.{own_alone, own_by, own_stands, own_view}}
use Rattle.spl_world.proofs.{Moving.stops, Slots.same_at, world.World.stop_at.Given.Over}
use Rattle.spl_world.proofs.world.World.stop_at.Goals as goal
use Rattle.spl_edge.proofs.Results.{ok_both, on_err}

pub stop-requires : goal.stop-requires
stop-requires g c = record { stands = own_stands (c.place_of-place.ensures.seat c.index_mut-here.result.now c.index_mut-disks.result.now c.index_mut-here.ensures.value c.index_mut-disks.ensures.value) }

-- the node and its pair
abbrev seat : (g : Over) (c : goal.After-pairs-1 g)
    → NodeSeat g.D.Disk.view c.args.self.now.slots.items c.args.pairs.now.items c.args.slot c.place_of-place.result c.index_mut-here.result.now c.index_mut-disks.result.now
seat g c = c.place_of-place.ensures.seat c.index_mut-here.result.now c.index_mut-disks.result.now c.index_mut-here.ensures.value c.index_mut-disks.ensures.value

pub returns-clause-holds : goal.returns-clause-holds
returns-clause-holds g c = λ k n m at h.
    let ss = c.args.self.now.slots.items in
    let ps = c.args.pairs.now.items in
    let s = c.index_mut-here.result.now in
    let view = own_view (seat g c) in
    let nodes = seen g.D.Disk.view c.args.self.now ps in
    let r = images_of g.D.Disk.view c.stop.new.disks in
    let same = same_at ss c.args.slot s n (seat g c).there at in
    ok_both c.stop.result (λ down stopped. subst (λ (i : NodeId). HoldsWorld k (circuit_happens m (Stops i)) (record { slots = slice_set ss c.args.slot c.stop.new.self; disks = images g.D.Disk.view (slice_set ps c.place_of-place.result c.stop.new.disks) })) same
    (own_by (seat g c) c.stop.new.self c.stop.new.disks (λ (xs : Nodes). HoldsWorld k (circuit_happens m (Stops (slot_id s))) xs)
    (stops nodes c.args.slot s c.stop.new.self r c.requires.sits (seat g c).there c.stop.ensures.keeps.position c.stop.ensures.keeps.id (g.met.D.StopDisk.tells c.stop.new.disks.first, g.met.D.StopDisk.tells c.stop.new.disks.second) k m h down (λ u. stopped u k ∙ ap (λ (v : NodeView). stopped_cell (v.cells k)) (sym view)) (λ d. c.stop.ensures.goes.same d k ∙ ap (λ (v : NodeView). v.cells k) (sym view)) c.stop.ensures.keeps.posts)))
    c.stop.ensures.goes.down c.stop.ensures.goes.stopped

pub returns-clause-ended : goal.returns-clause-ended
returns-clause-ended g c = λ k m h.
    on_err c.stop.result (own_stopped (seat g c) c.stop.new.self c.stop.new.disks k m h c.stop.ensures.goes.leaves)

pub returns-clause-alone : goal.returns-clause-alone
returns-clause-alone g c =
    let stop = c.stop.ensures in
    own_alone c.args.self.now _ (seat g c) c.stop.new.self c.stop.new.disks refl stop.keeps.id stop.keeps.position None c.stop.result stop.goes.stands stop.picks.forgets
    stop.picks.picks stop.none

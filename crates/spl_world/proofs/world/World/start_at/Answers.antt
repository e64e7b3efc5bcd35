use Rattle.spl_node.specs.Benches.{images, images_of}
use Rattle.spl_world.{specs.{Kept.NodeView, Views.{HoldsWorld, Nodes, seen, slot_id, NodeSeat}}, proofs.Common.{◌∙◌, ap, refl, sym, subst, Some, slice_set}}
use Rattle.spl_world.proofs.{Common.{NodeId, Starts, circuit_happens}, Ending.own_started, Handling.{own_by, own_leaves, own_stands, own_told, own_view}}
use Rattle.spl_world.proofs.{Moving.starts, Slots.{place_at, same_at}, Telling.told_as, world.World.start_at.Given.Over}
use Rattle.spl_world.proofs.world.World.start_at.Goals as goal
use Rattle.spl_edge.proofs.Results.{ok_three}

pub start-requires : goal.start-requires
start-requires g c = record { stands = own_stands (c.place_of-place.ensures.seat c.index_mut-here.result.now c.index_mut-disks.result.now c.index_mut-here.ensures.value c.index_mut-disks.ensures.value) }

-- the node and its pair
abbrev seat : (g : Over) (c : goal.After-pairs-1 g)
    → NodeSeat g.D.Disk.view c.args.self.now.slots.items c.args.pairs.now.items c.args.slot c.place_of-place.result c.index_mut-here.result.now c.index_mut-disks.result.now
seat g c = c.place_of-place.ensures.seat c.index_mut-here.result.now c.index_mut-disks.result.now c.index_mut-here.ensures.value c.index_mut-disks.ensures.value

pub returns-clause-starts : goal.returns-clause-starts
returns-clause-starts g c =
    let ss = c.args.self.now.slots.items in
    let ps = c.args.pairs.now.items in
    let s = c.index_mut-here.result.now in
    let t = c.start.new.self in
    let q = images_of g.D.Disk.view c.index_mut-disks.result.now in
    let r = images_of g.D.Disk.view c.start.new.disks in
    let x = c.start.result in
    let nodes = seen g.D.Disk.view c.args.self.now ps in
    let here = seat g c in
    let keeps = c.start.ensures.keeps in
    let comes = c.start.ensures.comes in
    let ends = c.start.ensures.ends in
    record {
      leaves = own_leaves c.args.self.now _ here t c.start.new.disks refl keeps.id keeps.position x comes.stands ends;
      holds = λ k n m at h.
          let tell = own_told here k m h in
          ok_three x (λ up cells tells. subst (λ (i : NodeId). HoldsWorld k (circuit_happens m (Starts i)) (record { slots = slice_set ss c.args.slot t; disks = images g.D.Disk.view (slice_set ps c.place_of-place.result c.start.new.disks) })) (same_at ss c.args.slot s n here.there at)
          (own_by here t c.start.new.disks (λ (xs : Nodes). HoldsWorld k (circuit_happens m (Starts (slot_id s))) xs)
          (starts nodes c.args.slot s t r c.requires.sits here.there keeps.position keeps.id (told_as q r tells tell) k m h up
          (cells tell k ∙ ap (λ (v : NodeView). v.cells k) (sym (own_view here))) keeps.posts)))
          comes.up comes.cells comes.tells;
      sound = λ k m position at h e. c.start.ensures.journal.sound (own_told here k m h) position at e;
      journal = λ position at e. place_at ss c.args.slot s here.there ∙ ap Some (sym (c.start.ensures.journal.place position at e));
      ended = λ k m h. own_started here t c.start.new.disks k m h x ends.few (λ slot e. (ends.failed slot e).0) (comes.leaves (own_told here k m h));
      few = ends.few;
      unlinked = ends.unlinked;
    }

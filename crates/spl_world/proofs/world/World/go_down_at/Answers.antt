use Rattle.spl_node.{specs.Benches.images_at, proofs.Positions.mapped_same}
use Rattle.spl_world.{specs.{Views.{HoldsWorld, Nodes, Sits, nodes_over, slot_id}, declared.slot.Slot.Slot}, proofs.Common.{refl, length, subst}}
use Rattle.spl_world.proofs.{Common.{slice_get_read, NodeId, Stops, circuit_happens}, Moving.stops, Pairing.{changed, changed_alone, sits_changed}}
use Rattle.spl_world.proofs.Slots.{same_at}
use Rattle.spl_world.proofs.world.World.go_down_at.Goals as goal

pub returns : goal.returns
returns c =
    let ss = c.args.self.now.slots.items in
    let i = c.args.slot in
    let s = c.index_mut-here.result.now in
    let t = c.go_down.new.self in
    let keeps = c.go_down.ensures.keeps in
    let there = slice_get_read ss (length ss) i s refl c.requires.below c.index_mut-here.ensures.value in
    record {
      ids = mapped_same slot_id ss i s t there keeps.id;
      places = mapped_same (λ (u : Slot). u.position) ss i s t there keeps.position;
      counts = record { events = refl; stops = refl };
      holds = λ is k n m at sits h.
          let xs = nodes_over c.args.self.now is in
          let q = images_at is s.position in
          let tell = h.told i s there in
          subst (λ (ys : Nodes). HoldsWorld k (circuit_happens m (Stops n)) ys) (changed_alone xs i s t sits there)
          (subst (λ (a : NodeId). HoldsWorld k (circuit_happens m (Stops a)) (changed xs i s t q)) (same_at ss i s n there at)
          (stops xs i s t q sits there keeps.position keeps.id tell k m h c.go_down.ensures.down
          (λ up. c.go_down.ensures.stopped up q (sits.each i s there) tell k) (λ off. c.go_down.ensures.same off q k) keeps.posts));
      sits = λ is sits.
          let xs = nodes_over c.args.self.now is in
          let q = images_at is s.position in
          subst Sits (changed_alone xs i s t sits there) (sits_changed xs i s t q sits there keeps.position (c.go_down.ensures.stands q (sits.each i s there)));
    }

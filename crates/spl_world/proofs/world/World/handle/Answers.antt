use Rattle.spl_cell_rules.specs.Cells.{site_at}
use Rattle.spl_world.{specs.{Kept.NodeView, Views.{seen, slot_id, NodeSeat, slot_up}, declared.slot.Slot.Slot}, proofs.Common.{◌≡◌, ◌∙◌, ap, refl, sym}}
use Rattle.spl_world.proofs.{Common.{subst, get_or, plan_of, Plan}, Ending.own_ended, Handling.{own_leaves, own_moves, own_stands, own_told, own_view}}
use Rattle.spl_world.proofs.{Moving.same_plan, Reading.is_there_up, Slots.id_at, world.World.handle.Given.Over}
use Rattle.spl_world.proofs.world.World.handle.Goals as goal
use Rattle.spl_node.proofs.Positions.{mapped_same}
use Rattle.spl_edge.proofs.Results.{when_ok, ok_three}

pub handle-requires : goal.handle-requires
handle-requires g c =
    let seat = c.place_of-place.ensures.seat c.prepare.new.self c.index_mut-disks.result.now (subst (λ (s : Slot). s ≡ get_or c.args.self.now.slots.items c.args.slot s) (sym c.prepare.ensures) c.index_mut-here.ensures.value) c.index_mut-disks.ensures.value in
    let s = c.prepare.new.self in
    record { up = is_there_up c.args.self.now.slots.items c.args.slot s seat.there c.requires.up; own = c.requires.own (slot_id s) (id_at c.args.self.now.slots.items c.args.slot s seat.there); stands = own_stands seat }

-- the node and its pair
abbrev seat : (g : Over) (c : goal.After-pairs-1 g)
    → NodeSeat g.D.Disk.view c.args.self.now.slots.items c.args.pairs.now.items c.args.slot c.place_of-place.result c.prepare.new.self c.index_mut-disks.result.now
seat g c = c.place_of-place.ensures.seat c.prepare.new.self c.index_mut-disks.result.now (subst (λ (s : Slot). s ≡ get_or c.args.self.now.slots.items c.args.slot s) (sym c.prepare.ensures) c.index_mut-here.ensures.value) c.index_mut-disks.ensures.value

pub returns : goal.returns
returns g c =
    let circuit = c.args.circuit in
    let event = c.args.event.now in
    let s = c.prepare.new.self in
    let r = c.handle.result in
    let here = seat g c in
    let does = c.handle.ensures.does in
    let leaves = c.handle.ensures.leaves in
    let ends = c.handle.ensures.ends in
    record {
      leaves = own_leaves c.args.self.now _ here c.handle.new.self c.handle.new.disks refl does.id does.position r leaves.stands ends.at;
      stays = record { counts = record { events = refl; stops = refl }; ups = mapped_same slot_up c.args.self.now.slots.items c.args.slot s c.handle.new.self here.there does.up };
      event = λ n at. record {
        answer = λ m h. when_ok r (λ a e. e ∙ (ap (λ (v : NodeView). (plan_of (site_at (slot_id s) circuit) (v.cells circuit) event).answer) (sym (own_view here))
            ∙ ap (λ (p : Plan). p.answer) (same_plan (seen g.D.Disk.view c.args.self.now c.args.pairs.now.items) c.args.slot s circuit n event m here.there at h))) does.answer;
        moves = ok_three r (λ tells done others. own_moves here c.handle.new.self c.handle.new.disks circuit n event does.position does.id does.up at tells done others)
            leaves.tells does.done does.others;
        ended = λ m h. own_ended here c.handle.new.self c.handle.new.disks circuit n event m at h r ends.at.few (λ slot q. (ends.at.failed slot q).0)
            (leaves.leaves (own_told here circuit m h));
      };
      faults = record { event = record { sound = ends.sound; few = ends.at.few }; unlinked = ends.at.unlinked };
    }
